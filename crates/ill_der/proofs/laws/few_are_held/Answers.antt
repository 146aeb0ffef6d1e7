-- Proves the law `laws::few_are_held`: a feed holds at most 358 bytes.
use Rattle.ill_der.proofs.CutLemmas.{few_are_held}
use Rattle.ill_der.proofs.laws.few_are_held.Goals as goal

pub returns : goal.returns
returns c = few_are_held c.short_has_the_size.ensures
