-- A new file that is put at a path, whole or not at all.
use Rattle.std.specs.Prelude.{◌≡◌, ℕ, true, List, [], ◌∷◌, Some, Result, OnOk}
use Rattle.ill_disk.specs.Disk.{content}
use Rattle.ill_disk.specs.Calls.{DiskState, Throughout}
use Rattle.ill_store.specs.DiskStore.{IsOldOrNew}
use Rattle.ill_message_disk.specs.Touches.{Touches}

-- A new file of these bytes is put at a path of the disk `old`. It is made at the path `temporary` first. If the disk
-- is correct, a call that is done lets a read of the path give the bytes. At each moment of a call, done or failed, a
-- read and each crash give what they gave, or might have given, or all of these bytes.
pub record PutsWhole {A E : Type 0} (temporary path bytes : List ℕ) (old : DiskState) (answer : Result A E) (new : DiskState)
    : Type 0 where
  pub touches : Touches (temporary ∷ path ∷ []) old new
  pub put : old.is_correct ≡ true → OnOk answer (content path new.now ≡ Some bytes)
  pub moments : old.is_correct ≡ true → Throughout (IsOldOrNew path bytes old.now) old new
