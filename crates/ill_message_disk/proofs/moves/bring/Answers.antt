-- Answers the contract of `bring` (`src/moves.rt`).
use Rattle.ill_message_disk.proofs.Calling.{brings_done, brings_none}
use Rattle.ill_message_disk.proofs.moves.bring.Goals as goal

-- The rename is done.
pub returns-in-Ok : goal.returns-in-Ok
returns-in-Ok g c = brings_done c.in-Ok.ensures.changes

-- No file stood at `from`.
pub returns-in-Err-NotFound : goal.returns-in-Err-NotFound
returns-in-Err-NotFound g c =
    brings_none c.in-Err-NotFound.field-0-is c.in-Err-NotFound.ensures.changes c.in-Err-NotFound.ensures.found
