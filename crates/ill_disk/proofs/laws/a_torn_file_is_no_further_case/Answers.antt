-- Proves the law `laws::a_torn_file_is_no_further_case`: a crash while a file is written leaves what a crash after it
-- may leave.
use Rattle.ill_disk.proofs.Moments.{torn_is_made}
use Rattle.ill_disk.proofs.laws.a_torn_file_is_no_further_case.Goals as goal

pub returns : goal.returns
returns c path some bytes d after crash = torn_is_made path some bytes d after crash
