-- Proves the clause `bytes` of the law `laws::what_is_not_flushed_may_be_lost`: a crash may leave any bytes in a file
-- that is not flushed.
use Rattle.ill_disk.proofs.Crashes.{any_bytes_left}
use Rattle.ill_disk.proofs.laws.what_is_not_flushed_may_be_lost.Goals as goal

pub returns-clause-bytes : goal.returns-clause-bytes
returns-clause-bytes c path d file f bytes stands found is unflushed =
    any_bytes_left path d file f bytes stands found is unflushed
