-- Proves the law `laws::names_are_read`: if each name is read as its value, no other text is.
use Rattle.ill_values.proofs.Names.{named_exactly}
use Rattle.ill_values.proofs.laws.names_are_read.Goals as goal

pub returns : goal.returns
returns g c = named_exactly
