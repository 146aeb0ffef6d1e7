-- Proves the contract of `nobody_forges_a_letter` (`src/laws.rt`) by a lemma of `Letters`.
use Rattle.ill_seal.proofs.Letters.{forged_by_nobody}
use Rattle.ill_seal.proofs.laws.nobody_forges_a_letter.Goals as goal

-- The lemma `forged_by_nobody` states the law.
pub returns : goal.returns
returns c key bytes text texts came sender nobody has e =
    forged_by_nobody key texts came sender bytes text nobody has e
