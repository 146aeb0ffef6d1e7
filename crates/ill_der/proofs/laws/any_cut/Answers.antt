-- Proves the law `laws::any_cut`: all cuts of bytes into pieces give equal APDUs and equal feeds.
use Rattle.ill_der.proofs.CutLemmas.{any_cut}
use Rattle.ill_der.proofs.laws.any_cut.Goals as goal

pub returns : goal.returns
returns c = any_cut c.read_again.ensures
