-- Answers the contract of `clear` (`src/moves.rt`).
use Rattle.ill_message_disk.proofs.Calling.{clears_done, clears_none}
use Rattle.ill_message_disk.proofs.moves.clear.Goals as goal

-- The removal is done.
pub returns-in-Ok : goal.returns-in-Ok
returns-in-Ok g c = clears_done c.in-Ok.ensures.changes

-- No file stood at `path`.
pub returns-in-Err-NotFound : goal.returns-in-Err-NotFound
returns-in-Err-NotFound g c = clears_none c.in-Err-NotFound.field-0-is c.in-Err-NotFound.ensures.changes
    c.in-Err-NotFound.ensures.found
