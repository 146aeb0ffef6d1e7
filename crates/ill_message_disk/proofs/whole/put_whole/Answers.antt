-- Answers the contract of `put_whole` (`src/whole.rt`).
use Rattle.ill_message_disk.proofs.Wholly.{placed_whole, unplaced_whole}
use Rattle.ill_message_disk.proofs.whole.put_whole.Goals as goal

-- The new file was made, flushed and renamed to the path.
pub returns-in-Ok : goal.returns-in-Ok
returns-in-Ok g c differ = placed_whole differ c.remove.ensures.changes (c.in-Ok.ensures.places differ)
    (c.in-Ok.ensures.puts differ)

-- The file could not be placed, and what stands at `temporary` was removed again, or was not.
pub returns-in-Err : goal.returns-in-Err
returns-in-Err g c differ = unplaced_whole differ c.remove.ensures.changes (c.in-Err.ensures.places differ)
    (c.in-Err.ensures.puts differ) c.remove-in-Err.ensures.changes
