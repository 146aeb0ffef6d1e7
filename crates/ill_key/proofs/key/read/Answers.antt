-- Answers the contract of `read` (`src/key.rt`).
use Rattle.std.proofs.Common.{inr}
use Rattle.ill_key.proofs.key.read.Goals as goal

-- Proves the contract of `read` if a key was read. The input is its text, and `keep` made its file or failed.
pub returns : goal.returns
returns g c = inr (c.in_ok-key.key, c.in_ok-key.ensures.key, c.keep.ensures)
