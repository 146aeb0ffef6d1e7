-- Proves the law `laws::two_pushes`: two pushes give the APDUs and the feed that one push of both pieces gives.
use Rattle.ill_der.proofs.CutLemmas.{two_pushes}
use Rattle.ill_der.proofs.laws.two_pushes.Goals as goal

pub returns : goal.returns
returns c = two_pushes
