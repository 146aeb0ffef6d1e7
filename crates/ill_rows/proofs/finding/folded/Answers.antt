-- Answers the contract of `folded` (`src/finding.rt`).
use Rattle.std.proofs.Common.{ap, ◌∙◌}
use Rattle.std.specs.Prelude.{chars, encode_utf8_all}
use Rattle.caseless.specs.Caseless.{default_case_fold}
use Rattle.ill_rows.proofs.FindingLemmas.{folded_text, unfolded_text}
use Rattle.ill_rows.proofs.finding.folded.Goals as goal

-- Proves the contract of `folded` if the text is UTF-8. By `folded_text` its case is folded.
pub returns-in_ok-from_slice-in-Ok : goal.returns-in_ok-from_slice-in-Ok
returns-in_ok-from_slice-in-Ok c =
    c.in_ok-from_slice-in-Ok.ensures.items ∙ c.as_bytes.ensures.value ∙ c.in_ok-folded-in-Ok.ensures
    ∙ ap (λ text. encode_utf8_all (default_case_fold (chars text))) c.in-Ok.ensures.cases.0
    ∙ folded_text c.args.text.now c.in-Ok.ensures.cases.1

-- Proves the contract of `folded` if the text is not UTF-8. By `unfolded_text` it stays.
pub returns-in_ok-from_slice-in-Err : goal.returns-in_ok-from_slice-in-Err
returns-in_ok-from_slice-in-Err c =
    c.in_ok-from_slice-in-Err.ensures.items ∙ unfolded_text c.args.text.now c.in-Err.ensures.cases.0
