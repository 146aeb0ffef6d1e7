-- Proves the law `laws::no_prefix`: no encoding is a proper prefix of another.
use Rattle.ill_der.proofs.EncodingLaws.{no_prefix}
use Rattle.ill_der.proofs.laws.no_prefix.Goals as goal

pub returns : goal.returns
returns c = no_prefix c.read_again.ensures
