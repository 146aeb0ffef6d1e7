-- Proves how the messages of a sealed letter are taken.
use Rattle.std.proofs.Common.{◌≡◌, ℕ, Bool, List, Option, Some, Result, Ok, Err, inr, refl, subst}
use Rattle.ill_saved.specs.Desk.{DeskOf}
use Rattle.ill_saved.specs.ManySides.{DeskContents}
use Rattle.ill_seal.specs.declared.sender.Sender.{Sender}
use Rattle.ill_text.specs.declared.fault.ToolFault.{ToolFault}
use Rattle.ill_place.specs.Place.{PlaceOf, StartsAt}
use Rattle.ill_key.specs.Letter.{LeavesSealed, OpensLetter}
use Rattle.ill_desk.specs.Performing.{view_of}
use Rattle.ill_desk.specs.declared.take.TakeForm.{TakeForm}
use Rattle.ill_commands.specs.AtFile.{TakesAtFile, TakesHere}
use Rattle.ill_commands.specs.Letters.{OpensOrStays, TakesLetter, TakesOpened}
use Rattle.ill_commands.specs.Streams.{Streams}

-- A command: the streams before it, its result, and the streams after it.
abbrev Taking : Type 1
Taking = Streams → Result Bool ToolFault → Streams → Type 0

-- If the input opens as a letter of `named` with the messages `text`, and `Takes` takes `bytes`, then `TakesLetter`
-- holds. `named` is `sender`, and `bytes` are `text`.
pub took : (key : List ℕ) (sender named : Sender) (Takes : Taking) (old new : Streams) (text bytes : List ℕ)
    (unread : Option (List ℕ)) (result : Result Bool ToolFault)
    → named ≡ sender → OpensLetter key named old.unread new.unread text → bytes ≡ text
    → Takes (record old { unread = Some bytes }) result (record new { unread = unread })
    → TakesLetter key sender Takes old result new
took key sender named Takes old new text bytes unread result is opens same takes = (
  Ok text,
  subst (λ (sender : Sender). OpensLetter key sender old.unread new.unread text) is opens,
  (
    unread,
    subst (λ (list : List ℕ). Takes (record old { unread = Some list }) result (record new { unread = unread })) same takes,
  ),
)

-- If the input is left sealed with `fault`, and nothing is written, `TakesLetter` allows that fault.
pub left_sealed : (key : List ℕ) (sender named : Sender) (Takes : Taking) (old new : Streams) (fault : ToolFault)
    → named ≡ sender → LeavesSealed key named old.unread new.unread fault → new.written ≡ old.written
    → TakesLetter key sender Takes old (Err fault) new
left_sealed key sender named Takes old new fault is leaves quiet = (
  Err fault,
  subst (λ (sender : Sender). LeavesSealed key sender old.unread new.unread fault) is leaves,
  (refl, quiet),
)

-- If the input opens as a letter of `named`, which is `sender`, `OpensOrStays` holds, whatever `IsUnchanged` says.
pub opened : (key : List ℕ) (sender named : Sender) (IsUnchanged : Type 0) (left rest : Option (List ℕ)) (text : List ℕ)
    → named ≡ sender → OpensLetter key named left rest text → OpensOrStays key sender IsUnchanged left rest
opened key sender named IsUnchanged left rest text is opens =
    (Ok text, subst (λ (sender : Sender). OpensLetter key sender left rest text) is opens, tt)

-- If the input is left sealed, and `IsUnchanged` holds, `OpensOrStays` holds.
pub stays : (key : List ℕ) (sender named : Sender) (IsUnchanged : Type 0) (left rest : Option (List ℕ)) (fault : ToolFault)
    → named ≡ sender → LeavesSealed key named left rest fault → IsUnchanged
    → OpensOrStays key sender IsUnchanged left rest
stays key sender named IsUnchanged left rest fault is leaves unchanged =
    (Err fault, subst (λ (sender : Sender). LeavesSealed key sender left rest fault) is leaves, unchanged)

-- If `before` starts at `place`, and a letter is taken at this desk, it is taken at `place` (`TakesAtFile`).
pub taken_at : {S : Type 0} (place : PlaceOf S) (form : TakeForm) (before after : DeskOf DeskContents S) (key : List ℕ)
    (sender : Sender) (old : Streams) (result : Result Bool ToolFault) (new : Streams)
    → StartsAt place before
    → TakesLetter key sender (TakesHere form (view_of place.state before) (view_of place.state after)) old result new
    → TakesLetter key sender (TakesAtFile place form) old result new
taken_at place form before after key sender old result new starts taken = (taken.0, taken.1, go taken.0 taken.2) where
  -- The messages that were opened are taken at the place too. A fault of the opening stays.
  go : (opened : Result (List ℕ) ToolFault)
      → TakesOpened (TakesHere form (view_of place.state before) (view_of place.state after)) opened old result new
      → TakesOpened (TakesAtFile place form) opened old result new
  go (Ok text) took = (took.0, inr (before, after, starts, took.1))
  go (Err fault) is = is
