-- Proves which group a shelf marks as retired, and which faults that has.
use Rattle.std.proofs.Common.{◌≡◌, ℕ, Bool, true, false, List, Option, Result, Ok, Err, IfErr, IfOk, inl, inr, refl, sym}
use Rattle.std.specs.Prelude.{IsErrAnd, is_some}
use Rattle.ill_record.specs.declared.side.Side.{Side}
use Rattle.ill_record.specs.declared.role.Role.TheVariants.{Requester}
use Rattle.ill_saved.specs.Desk.{DeskOf}
use Rattle.ill_saved.specs.ManySides.{DeskContents, sides_held}
use Rattle.ill_text.specs.declared.fault.ToolFault.{ToolFault}
use Rattle.ill_text.specs.declared.fault.ToolFault.TheVariants as faults
use Rattle.ill_text.specs.Fault.{IsOpenFault}
use Rattle.ill_text.specs.Known.{known}
use Rattle.ill_night.specs.Retire.{Retires}
use Rattle.ill_files.specs.ShelfNames.{desk_path}
use Rattle.ill_place.specs.Place.{IsAt, PlaceOf, ShelfOf, StartsAt}
use Rattle.ill_shelf.specs.Retiring.{MarksDesk, MarksGroup, RetiresAtHome, mark_place}

-- If `Retires` allows a fault, it is one of the store or `OutOfMemory`, and so one of opening.
pub retire_faults : (sides : List Side) (old new : Option (Option (List ℕ))) (answer : Result Bool ToolFault) →
    Retires sides old answer new → IfErr answer IsOpenFault
retire_faults sides old new (Ok is_marked) retires = tt
retire_faults sides old new (Err (faults.Desk fault)) retires = tt
retire_faults sides old new (Err faults.OutOfMemory) retires = tt
retire_faults sides old new (Err faults.Arguments) retires = absurd retires.1
retire_faults sides old new (Err (faults.Der fault)) retires = absurd retires.1
retire_faults sides old new (Err faults.TooMany) retires = absurd retires.1
retire_faults sides old new (Err (faults.Script line)) retires = absurd retires.1
retire_faults sides old new (Err (faults.Key fault)) retires = absurd retires.1
retire_faults sides old new (Err faults.NotSealed) retires = absurd retires.1
retire_faults sides old new (Err faults.Deferred) retires = absurd retires.1
retire_faults sides old new (Err faults.Read) retires = absurd retires.1
retire_faults sides old new (Err faults.Write) retires = absurd retires.1

-- If `desk` was loaded from `place`, and `store` at the place of its mark answers as `Retires` says, an Ok answer marks
-- the desk of the place (`MarksDesk`).
pub marks_desk : {S : Type 0} (place : PlaceOf S) (desk : DeskOf DeskContents S) (store after : S)
    (answer : Result Bool ToolFault) → StartsAt place desk → IsAt (mark_place place) store
    → Retires (sides_held desk.live).sides (known (place.state store)) answer (known (place.state after))
    → IfOk answer (MarksDesk place)
marks_desk place desk store after (Ok is_marked) starts at retires =
    (desk, starts, (store, known (place.state after), at, retires))
marks_desk place desk store after (Err fault) starts at retires = tt

-- If an answer marks the desk of `place`, it marks the group of this desk.
pub marks_now : {S : Type 0} (place : PlaceOf S) (answer : Result Bool ToolFault) → IfOk answer (MarksDesk place)
    → IfOk answer (MarksGroup place)
marks_now place (Ok true) marks = inr marks
marks_now place (Ok false) marks = marks
marks_now place (Err fault) marks = tt

-- If `store`, at the place of the mark, has a record, the group of `place` was marked before.
pub marked_before : {S : Type 0} (place : PlaceOf S) (store : S) → IsAt (mark_place place) store
    → ((place.state store).is_correct ≡ true → true ≡ is_some (place.state store).committed) → MarksGroup place true
marked_before place store at has = inl (store, at, λ correct. sym (has correct))

-- If `result` is a fault of opening, and nothing was written, `RetiresAtHome` allows it.
pub not_retired : {S : Type 0} (shelf : ShelfOf S) (group : List ℕ) (written : Option (List ℕ))
    (result : Result Bool ToolFault) → IsErrAnd result IsOpenFault → RetiresAtHome shelf group written written result
not_retired shelf group written result opens =
    (desk_path shelf.folder Requester group, (Requester, refl), inl (opens, refl))
