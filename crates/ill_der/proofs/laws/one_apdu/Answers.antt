-- Proves the law `laws::one_apdu`: APDUs with equal encodings are equal.
use Rattle.ill_der.proofs.EncodingLaws.{one_apdu}
use Rattle.ill_der.proofs.laws.one_apdu.Goals as goal

pub returns : goal.returns
returns c = one_apdu c.read_again.ensures
