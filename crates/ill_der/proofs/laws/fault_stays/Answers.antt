-- Proves the law `laws::fault_stays`: if bytes have a fault other than Short, they have it whatever bytes follow.
use Rattle.ill_der.proofs.ShortFormLaws.{fault_stays}
use Rattle.ill_der.proofs.laws.fault_stays.Goals as goal

pub returns : goal.returns
returns c = fault_stays
