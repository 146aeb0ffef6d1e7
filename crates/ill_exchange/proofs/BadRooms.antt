-- The definitions of `Rooms` exclude each case of `BadRooms`. What is gone is committed.
use Rattle.std.proofs.Common.{◌≡◌, ◌⊎◌, inl, inr, ⊎_elim, refl, sym, ap, subst, ◌∙◌, ℕ, zero, suc, Bool, true, false, List, []}
use Rattle.std.proofs.Common.{◌∷◌, map, slice_get}
use Rattle.std.proofs.Common.{Option, None, Some}
use Rattle.std.specs.Prelude.{if◌then◌else◌, is_some}
use Rattle.std.specs.List.{fold, zip}
use Rattle.std.proofs.Common.{Result, Ok, Err}
use Rattle.std.proofs.lemmas.Bool.{true≢false}
use Rattle.ill_saved.specs.ManySides.{DeskContents}
use Rattle.ill_text.specs.declared.fault.ToolFault.{ToolFault}
use Rattle.ill_desk.specs.Performing.{HeldAndCommitted}
use Rattle.ill_night.specs.declared.verdict.MessageFile.{MessageFile}
use Rattle.ill_night.specs.declared.verdict.InLetter.{InLetter}
use Rattle.ill_night.specs.declared.verdict.Delay.{Delay}
use Rattle.ill_night.specs.declared.verdict.Verdict.{Verdict}
use Rattle.ill_night.specs.declared.verdict.Verdict.TheVariants.{Done, Quarantined, Deferred}
use Rattle.ill_night.specs.Outbox.{Putting}
use Rattle.ill_room.specs.declared.room.Place.{Place}
use Rattle.ill_room.specs.declared.room.Place.TheVariants as places
use Rattle.ill_room.specs.Room.{RoomState, MaySettle, place_of}
use Rattle.ill_room.specs.Letters.{file_verdict, file_verdicts, is_in, worse, worse_if_in}
use Rattle.ill_exchange.specs.Rooms.{IsDone, IsDoneInSaved, OutState, SendsInRooms, SettlesSaved, TakesInRoom}
use Rattle.ill_exchange.specs.BadRooms.{IsBadTaking, unsaved, IsBadSending, uncopied, signed_early, no_outbox}

-- If `TakesInRoom` allows a taking, `IsBadTaking` does not hold of it.
pub none_takes : (message_files : List MessageFile) (desk : HeldAndCommitted DeskContents) (old new : RoomState)
    (taken : Result (List Verdict) ToolFault) → IsBadTaking message_files desk old new
    → TakesInRoom message_files desk old taken new → ⊥
none_takes message_files desk old new (Ok verdicts) (unsaved none moved) takes = none verdicts takes.saved
none_takes message_files desk old new (Err fault) (unsaved none moved) (inl same) = moved same
none_takes message_files desk old new (Err fault) (unsaved none moved) (inr (verdicts, takes)) = none verdicts takes.saved

-- If `SendsInRooms` allows a sending, `IsBadSending` does not hold of it. Each case contradicts one field of
-- `SendsInRooms`.
pub none_sends : {M : Type 0} (Puts : Putting M) (asked : List ℕ) (desk : DeskContents) (old new : OutState M) →
    IsBadSending Puts asked desk old new → SendsInRooms Puts asked desk old new → ⊥
none_sends Puts asked desk old new (uncopied correct wants other sent) sends =
    ⊎_elim (λ same. sent same)
    (λ has. ⊎_elim (λ none. true≢false (sym wants ∙ none)) (λ there. other there) has)
    (sends.copy_first correct)
none_sends Puts asked desk old new (signed_early correct signed none) sends =
    ⊎_elim (λ same. signed same) (λ all. none all.0 all.1) (sends.sign_last correct)
none_sends Puts asked desk old new (no_outbox sent none) sends =
    ⊎_elim (λ same. sent same) (λ some. none some.0 some.1) sends.sends

-- Returns true for the place of a removed message file.
abbrev is_gone : Option Place → Bool
is_gone (Some places.Gone) = true
is_gone place = false

-- If a claimed message file with the verdict `v` may be gone once it is settled, `v` is `Done`.
gone_is_done : (v : Option Verdict) → MaySettle v (Some places.Claimed) (Some places.Gone) → IsDone v
gone_is_done None same = absurd (true≢false (ap is_gone same))
gone_is_done (Some (Done outcome)) moved = (outcome, refl)
gone_is_done (Some (Quarantined unfit)) (inl same) = absurd (true≢false (ap is_gone same))
gone_is_done (Some (Quarantined unfit)) (inr quarantined) = absurd (true≢false (ap is_gone quarantined))
gone_is_done (Some (Deferred delay)) (inl same) = absurd (true≢false (ap is_gone same))
gone_is_done (Some (Deferred delay)) (inr waits) = absurd (true≢false (ap is_gone waits))

-- ---- if the verdict for a file is `Done`, so is that of each message file in it; and what is gone is committed

-- A message file without a verdict is not done.
none_is_not_done : IsDone None → ⊥
none_is_not_done done = true≢false (sym (ap is_some done.1))

-- Returns true if there is a verdict, and it is `Done`.
abbrev has_done : Option Verdict → Bool
has_done (Some (Done outcome)) = true
has_done verdict = false

-- A message file that waits is not done.
left_is_not_done : (delay : Delay) → IsDone (Some (Deferred delay)) → ⊥
left_is_not_done delay done = true≢false (sym (ap has_done done.1))

-- If the worse of the verdicts `first` and `other` is `Done`, so is `first`.
worse_is_done : (first other : Verdict) → IsDone (Some (worse first other)) → IsDone (Some first)
worse_is_done (Done outcome) other done = (outcome, refl)
worse_is_done (Deferred delay) other done = done
worse_is_done (Quarantined unfit) (Deferred delay) done = absurd (left_is_not_done delay done)
worse_is_done (Quarantined unfit) (Quarantined other) done = done
worse_is_done (Quarantined unfit) (Done outcome) done = done

-- If `counts` is true, let the verdict be the worse of `first` and `other`, else `first`. If that is `Done`, so is
-- `first`.
worse_if_is_done : (counts : Bool) (first other : Verdict) → IsDone (Some (if counts then worse first other else first)) →
    IsDone (Some first)
worse_if_is_done true first other done = worse_is_done first other done
worse_if_is_done false first other done = done

-- If the worst of `first` and of the verdicts in the letter `number` is `Done`, so is `first`.
worst_is_done : (number : ℕ) (message_files : List (MessageFile × Verdict)) (first : Verdict) →
    IsDone (Some (fold (worse_if_in number) first message_files)) → IsDone (Some first)
worst_is_done number [] first done = done
worst_is_done number (message_file ∷ message_files) first done =
    worse_if_is_done (is_in number message_file.0.letter) first message_file.1
    (worst_is_done number message_files (worse_if_in number first message_file) done)

-- If the verdict for the file of a message file is `Done`, so is `verdict`, its own.
file_is_done : (all : List (MessageFile × Verdict)) (letter : Option InLetter) (verdict : Verdict) →
    IsDone (Some (file_verdict all letter verdict)) → IsDone (Some verdict)
file_is_done all None verdict done = done
file_is_done all (Some letter) verdict done = worst_is_done letter.number all verdict done

-- If the verdict for the file of the message file `number` in a run is `Done`, so is its own verdict.
own_is_done : (all : List (MessageFile × Verdict)) (message_files : List MessageFile) (verdicts : List Verdict) (number : ℕ) →
    IsDone (slice_get (map (λ message_file. file_verdict all message_file.0.letter message_file.1) (zip message_files verdicts))
    number) →
    IsDone (slice_get verdicts number)
own_is_done all [] verdicts zero done = absurd (none_is_not_done done)
own_is_done all [] verdicts (suc number) done = absurd (none_is_not_done done)
own_is_done all (message_file ∷ message_files) [] zero done = absurd (none_is_not_done done)
own_is_done all (message_file ∷ message_files) [] (suc number) done = absurd (none_is_not_done done)
own_is_done all (message_file ∷ message_files) (verdict ∷ verdicts) zero done = file_is_done all message_file.letter verdict done
own_is_done all (message_file ∷ message_files) (verdict ∷ verdicts) (suc number) done =
    own_is_done all message_files verdicts number done

-- A message file that was settled from among the claimed ones, and is gone, was done in a run that is saved.
settled_gone : {A : Type 0} (message_files : List MessageFile) (verdicts : List Verdict) (desk : HeldAndCommitted DeskContents)
    (old new : RoomState) (answer : Result A ToolFault) (number : ℕ)
    → SettlesSaved message_files verdicts desk old answer new →
    old.is_correct ≡ true → place_of old number ≡ Some places.Claimed → place_of new number ≡ Some places.Gone →
    IsDoneInSaved message_files desk number
settled_gone message_files verdicts desk old new answer number settles correct was is = (
  verdicts,
  settles.saved,
  own_is_done (zip message_files verdicts) message_files verdicts number
      (gone_is_done (slice_get (file_verdicts (zip message_files verdicts)) number)
      (subst (λ place. MaySettle (slice_get (file_verdicts (zip message_files verdicts)) number) (Some places.Claimed)
      place) is
      (subst (λ place. MaySettle (slice_get (file_verdicts (zip message_files verdicts)) number) place
      (place_of new number)) was
      ((settles.ends.done correct).each number)))),
)

-- If a claimed message file is gone after a taking, it was done in a run that is saved. If nothing was done in the
-- room, no message file is gone.
pub gone_is_committed : (message_files : List MessageFile) (desk : HeldAndCommitted DeskContents) (old new : RoomState)
    (taken : Result (List Verdict) ToolFault) (number : ℕ) → TakesInRoom message_files desk old taken new →
    old.is_correct ≡ true → place_of old number ≡ Some places.Claimed → place_of new number ≡ Some places.Gone →
    IsDoneInSaved message_files desk number
gone_is_committed message_files desk old new (Ok verdicts) number takes correct was is =
    settled_gone message_files verdicts desk old new (Ok tt) number takes correct was is
gone_is_committed message_files desk old new (Err fault) number (inl same) correct was is =
    absurd (true≢false (ap is_gone (sym is ∙ ap (λ (state : RoomState). place_of state number) same ∙ was)))
gone_is_committed message_files desk old new (Err fault) number (inr (verdicts, takes)) correct was is =
    settled_gone message_files verdicts desk old new (Err fault) number takes correct was is
