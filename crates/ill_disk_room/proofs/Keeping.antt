-- Lemmas on the calls of a room: if each crash leaves the message files before a call, it leaves them after it
-- (`AreKept`).
use Rattle.std.proofs.Common.{◌≡◌, inl, inr, ⊎_elim, sym, ◌∙◌, ap, subst, ℕ, true, slice_get, List, Option, Some, option_map}
use Rattle.std.proofs.Common.{Result, Ok, Err}
use Rattle.std.proofs.lemmas.Bool.{cases_eq}
use Rattle.std.proofs.lemmas.Option.{slice_get-map}
use Rattle.ill_disk.specs.Calls.{DiskState}
use Rattle.ill_disk.proofs.Memory.{value_or}
use Rattle.ill_message_disk.specs.Spots.{SpotOf, Place, Waiting, Gone, IsKept, moved, place_in}
use Rattle.ill_message_disk.specs.Runs.{AllStayKept, AnyMessageFile, AreKept, ComesAt, GivesBackInRun, KeepsInRun, MessageRunOf}
use Rattle.ill_message_disk.specs.Runs.{MessageFilesSurvive, MayComeAt, MovesInRun, place_of, run_state}

-- If a message file was gone, and stays or is to move to `to`, it is gone.
gone_stays : (to : Place) (before after : Option Place) → MayComeAt to before after → before ≡ Some Gone →
    after ≡ Some Gone
gone_stays to before after may gone =
    ⊎_elim (λ same. same ∙ gone) (λ moves. moves ∙ ap (option_map (moved to)) gone) may

-- If a call was to move a message file to `to`, done or not, the message file stays or has moved there.
may_come : {A E : Type 0} (to : Place) (before after : Option Place) (answer : Result A E) →
    ComesAt to before answer after → MayComeAt to before after
may_come to before after (Ok done) comes = inr comes
may_come to before after (Err fault) may = may

module _ {D : Type 0} (state : D → DiskState) where
  -- If `spot` is message file `number` of the run, the list of places has its place at `number`.
  place_found : (run : MessageRunOf D) (number : ℕ) (spot : SpotOf) → slice_get run.spots number ≡ Some (Some spot) →
      slice_get (run_state state run).places number ≡ Some (place_in (state run.disk).now.names spot)
  place_found run number spot found = slice_get-map (place_of (state run.disk).now.names) run.spots number
      ∙ ap (option_map (place_of (state run.disk).now.names)) found

  -- If `new` has the disk and the message files of `old`, and the message files of `old` were kept (`AreKept`), those
  -- of `new` are kept.
  pub same_kept : (old new : MessageRunOf D) → new.spots ≡ old.spots → state new.disk ≡ state old.disk →
      AreKept state old → AreKept state new
  same_kept old new spots disk kept h number spot found =
      subst (λ (s : DiskState). IsKept spot s.now) (sym disk)
      (kept (ap (λ (s : DiskState). s.is_correct) (sym disk) ∙ h) number spot
      (ap (λ l. slice_get l number) (sym spots) ∙ found))

  -- A call leads from the run `old` to `new`, which has the same message files.
  module _ (old new : MessageRunOf D) (same : new.spots ≡ old.spots) where
    -- Each message file stays at its place, or moves to some place.
    abbrev AreMoved : Type 0
    AreMoved = (number : ℕ) → (to : Place)
        × MayComeAt to (slice_get (run_state state old).places number) (slice_get (run_state state new).places number)

    -- If each message file stays or moves to some place, and each survives, the message files that were kept are kept.
    all_kept : (state new.disk).is_correct ≡ (state old.disk).is_correct → ((state old.disk).is_correct ≡ true → AreMoved) →
        MessageFilesSurvive state AnyMessageFile old new → AreKept state old → AreKept state new
    all_kept correct moves survive kept h number spot found =
        let was : (state old.disk).is_correct ≡ true = sym correct ∙ h in
        let before : slice_get old.spots number ≡ Some (Some spot) =
        ap (λ l. slice_get l number) (sym same) ∙ found in ⊎_elim
        (λ gone. inl (ap (value_or Gone) (sym (place_found new number spot found)
        ∙ gone_stays (moves was number).0 (slice_get (run_state state old).places number)
        (slice_get (run_state state new).places number) (moves was number).1
        (place_found old number spot before ∙ ap Some gone))))
        (λ outlasts. inr (survive number spot tt before was outlasts).last)
        (kept was number spot before)

    -- If a call moves `number`, and each message file survives it, the message files that were kept are kept.
    pub moves_keep : {A E : Type 0} (to : Place) (number : ℕ) (answer : Result A E) →
        MovesInRun to number (run_state state old) answer (run_state state new)
        → MessageFilesSurvive state AnyMessageFile old new →
        AreKept state old → AreKept state new
    moves_keep to number answer moves = all_kept moves.correct (λ h other. (
      to,
      ⊎_elim
          (λ is. subst (λ (o : ℕ). MayComeAt to (slice_get (run_state state old).places o)
          (slice_get (run_state state new).places o)) (sym is)
          (may_come to (slice_get (run_state state old).places number) (slice_get (run_state state new).places number)
          answer
          (moves.here h)))
          (λ differ. inl ((moves.else_same h).others other differ)) (cases_eq other number),
    ))

    -- If a call gives `number` back, or leaves it, and each message file survives, the message files that were
    -- kept are kept.
    pub gives_keep : (number : ℕ) → GivesBackInRun number (run_state state old) (run_state state new) →
        MessageFilesSurvive state AnyMessageFile old new → AreKept state old → AreKept state new
    gives_keep number gives = all_kept gives.correct (λ h other. (
      Waiting,
      ⊎_elim
          (λ is. subst (λ (o : ℕ). MayComeAt Waiting (slice_get (run_state state old).places o)
          (slice_get (run_state state new).places o)) (sym is) (gives.here h))
          (λ differ. inl ((gives.else_same h).others other differ)) (cases_eq other number),
    ))

    -- If a call keeps messages that ask, and each message file survives it, the message files that were kept are kept.
    pub asks_keep : {A E : Type 0} (asked : List ℕ) (answer : Result A E) →
        KeepsInRun asked (run_state state old) answer (run_state state new) → MessageFilesSurvive state AnyMessageFile old new →
        AreKept state old → AreKept state new
    asks_keep asked answer keeps = all_kept keeps.correct
        (λ h other. (Waiting, inl (ap (λ l. slice_get l other) (keeps.places h))))

    -- If each message file that was kept stays kept in a removal (`AllStayKept`), the message files of the run are
    -- kept.
    pub removal_keeps : (state new.disk).is_correct ≡ (state old.disk).is_correct →
        AllStayKept old.spots (state old.disk) (state new.disk) → AreKept state old → AreKept state new
    removal_keeps correct stay kept h number spot found =
        let was : (state old.disk).is_correct ≡ true = sym correct ∙ h in
        let before : slice_get old.spots number ≡ Some (Some spot) =
        ap (λ l. slice_get l number) (sym same) ∙ found in
        stay number spot before was (kept was number spot before)
