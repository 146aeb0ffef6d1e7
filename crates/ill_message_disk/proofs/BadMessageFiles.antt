-- The definitions of `Spots`, `Runs` and `Whole` exclude each case of `BadMessageFiles`.
use Rattle.std.proofs.Common.{◌≡◌, ◌⊎◌, inl, inr, ⊎_elim, refl, sym, ◌∙◌, ap, subst, ℕ, zero, suc, Bool, true, false, List, []}
use Rattle.std.proofs.Common.{◌∷◌, slice_get, Option, Some, option_map, Result, Ok, Err, OnOk}
use Rattle.std.proofs.lemmas.Bool.{true≢false}
use Rattle.std.proofs.lemmas.Option.{none-some}
use Rattle.ill_disk.specs.Disk.{File, Disk, AreLeft, Crash, bytes_of, content, found_at}
use Rattle.ill_disk.specs.Calls.{DiskState}
use Rattle.ill_disk.proofs.Memory.{value_or}
use Rattle.ill_disk.proofs.Moments.{each_moment}
use Rattle.ill_store.specs.DiskStore.{IsOldOrNew}
use Rattle.ill_message_disk.specs.MessageFileCalls.{is_file}
use Rattle.ill_message_disk.specs.Touches.{TouchesOnly}
use Rattle.ill_message_disk.specs.Spots.{SpotOf, Place, Waiting, Claimed, Quarantined, Gone, GivesMessageFileBack, Outlasts}
use Rattle.ill_message_disk.specs.Spots.{Survives, moved}
use Rattle.ill_message_disk.specs.Spots.{place_by}
use Rattle.ill_message_disk.specs.Runs.{RunState, ComesAt, MovesInRun}
use Rattle.ill_message_disk.specs.BadMessageFiles.{LosesMessageFile, at_no_path, IsBadMove, other_moves, third_place}
use Rattle.ill_message_disk.specs.BadMessageFiles.{unclaimed_moves, not_moved}
use Rattle.ill_message_disk.specs.BadMessageFiles.{other_asks, IsBadGivingBack, over_another, IsBadPut, torn, other_bytes}
use Rattle.ill_message_disk.specs.BadMessageFiles.{other_name}
use Rattle.ill_message_disk.specs.Whole.{PutsWhole}
use Rattle.ill_message_disk.proofs.Staying.{is_this}

-- ---- losses of power: none loses a message file that survives a call, and each leaves the bytes of a flushed file

-- A test that is not true is false.
not_so : (b : Bool) → (b ≡ true → ⊥) → b ≡ false
not_so true not_true = absurd (not_true refl)
not_so false not_true = refl

-- If the file of a message file is at none of its three paths, the place is `Gone`.
gone_by : (quarantined waiting claimed : Bool) → quarantined ≡ false → waiting ≡ false → claimed ≡ false →
    place_by quarantined waiting claimed ≡ Gone
gone_by true waiting claimed a w c = absurd (true≢false a)
gone_by false true claimed a w c = absurd (true≢false w)
gone_by false false true a w c = absurd (true≢false c)
gone_by false false false a w c = refl

-- If a message file survives a call, no loss of power at a moment of the call loses it.
pub none_lost : (spot : SpotOf) (old new : DiskState) → Survives spot old new → LosesMessageFile spot old new → ⊥
none_lost spot old new survives (at_no_path moment after h outlasts at crash none) =
    let missing : (path : List ℕ) → ((found_at path after.names ≡ Some spot.file) → ⊥) →
    is_file spot.file (found_at path after.names) ≡ false =
    λ path not_there. not_so (is_file spot.file (found_at path after.names))
    (λ is. not_there (is_this spot.file (found_at path after.names) is)) in
    each_moment (Outlasts spot) old new moment (survives h outlasts) at after.names crash.names
    (gone_by (is_file spot.file (found_at spot.quarantined after.names)) (is_file spot.file (found_at spot.waiting after.names))
    (is_file spot.file (found_at spot.claimed after.names))
    (missing spot.quarantined (none spot.quarantined (inr (inr (inl refl)))))
    (missing spot.waiting (none spot.waiting (inr (inl refl))))
    (missing spot.claimed (none spot.claimed (inl refl))))

-- A crash leaves the bytes of a flushed file.
left_at : (before after : List File) (file : ℕ) (f : File) → AreLeft before after → slice_get before file ≡ Some f →
    f.is_flushed ≡ true → bytes_of after (Some file) ≡ Some f.bytes
left_at [] after file f left is flushed = absurd (none-some f is)
left_at (e ∷ before) [] file f left is flushed = absurd left
left_at (e ∷ before) (g ∷ after) zero f left is flushed =
    let same : e ≡ f = ap (value_or e) is in
    ap Some (left.0.bytes (ap (λ (x : File). x.is_flushed) same ∙ flushed) ∙ ap (λ (x : File). x.bytes) same)
left_at (e ∷ before) (g ∷ after) (suc file) f left is flushed = left_at before after file f left.1 is flushed

-- A loss of power leaves the bytes of a file that was flushed before.
pub flushed_lasts : (paths : List (List ℕ)) (old moment after : Disk) (file : ℕ) (f : File) → TouchesOnly paths old moment →
    slice_get old.files file ≡ Some f → f.is_flushed ≡ true → Crash moment after →
    bytes_of after.files (Some file) ≡ Some f.bytes
flushed_lasts paths old moment after file f touches is flushed crash =
    let now = touches.files file f is in
    left_at moment.files after.files file now.0 crash.files now.1 (now.2.flushed flushed) ∙ ap Some now.2.bytes

-- ---- moves: where a message file is after a call that was to move it, and that no move is bad

-- If a call was to move a claimed message file to `to`, its place is then `Claimed` or `to`.
claimed_comes : {A E : Type 0} (to place : Place) (x y : Option Place) (answer : Result A E) → x ≡ Some Claimed →
    y ≡ Some place → ComesAt to x answer y → (place ≡ Claimed) ⊎ (place ≡ to)
claimed_comes to place x y (Ok done) is_x is_y comes =
    inr (ap (value_or to) (sym is_y ∙ comes ∙ ap (option_map (moved to)) is_x))
claimed_comes to place x y (Err fault) is_x is_y comes = ⊎_elim
    (λ stays. inl (ap (value_or Claimed) (sym is_y ∙ stays ∙ is_x)))
    (λ moves. inr (ap (value_or to) (sym is_y ∙ moves ∙ ap (option_map (moved to)) is_x))) comes

-- A message file that is not claimed does not move.
unmoved : (to place : Place) → (place ≡ Claimed → ⊥) → moved to place ≡ place
unmoved to Waiting differ = refl
unmoved to Claimed differ = absurd (differ refl)
unmoved to Quarantined differ = refl
unmoved to Gone differ = refl

-- If a call was to move a message file that is not claimed, it stays at its place `place`.
unclaimed_comes : {A E : Type 0} (to place : Place) (x y : Option Place) (answer : Result A E) → x ≡ Some place →
    (place ≡ Claimed → ⊥) → ComesAt to x answer y → y ≡ Some place
unclaimed_comes to place x y (Ok done) is differ comes =
    comes ∙ ap (option_map (moved to)) is ∙ ap Some (unmoved to place differ)
unclaimed_comes to place x y (Err fault) is differ comes = ⊎_elim (λ stays. stays ∙ is)
    (λ moves. moves ∙ ap (option_map (moved to)) is ∙ ap Some (unmoved to place differ)) comes

-- If a call to move a claimed message file to `to` is done, its place is `to`.
done_comes : {A E : Type 0} (to : Place) (x y : Option Place) (answer : Result A E) (done : A) → answer ≡ Ok done →
    x ≡ Some Claimed → ComesAt to x answer y → y ≡ Some to
done_comes {A = A} {E = E} to x y answer done is is_x comes =
    subst (λ (r : Result A E). ComesAt to x r y) is comes ∙ ap (option_map (moved to)) is_x

-- If a call moves as `MovesInRun` says, no case of `IsBadMove` holds of it.
pub no_bad_move : {A E : Type 0} (to : Place) (number : ℕ) (old new : RunState) (answer : Result A E) →
    MovesInRun to number old answer new → IsBadMove to number old answer new → ⊥
no_bad_move to number old new answer moves (other_moves other place h differ was lost) =
    lost ((moves.else_same h).others other differ ∙ was)
no_bad_move to number old new answer moves (third_place place h was is not_claimed not_to) = ⊎_elim not_claimed not_to
    (claimed_comes to place (slice_get old.places number) (slice_get new.places number) answer was is (moves.here h))
no_bad_move to number old new answer moves (unclaimed_moves place h was differ lost) =
    lost (unclaimed_comes to place (slice_get old.places number) (slice_get new.places number) answer was differ
    (moves.here h))
no_bad_move to number old new answer moves (not_moved done h is not_claimed was still) =
    not_claimed (ap (value_or to) (sym
    (done_comes to (slice_get old.places number) (slice_get new.places number) answer done is
    was (moves.here h)) ∙ still))
no_bad_move to number old new answer moves (other_asks h differ) = differ (moves.else_same h).asked

-- No message file is given back over another file.
pub none_over_another : (spot : SpotOf) (old new : DiskState) → GivesMessageFileBack spot old new → IsBadGivingBack spot old new
    → ⊥
none_over_another spot old new gives (over_another file h stands lost) = lost (gives.stays h file stands)

-- ---- a put

-- If `P` holds when `answer` is Ok, and `answer` is Ok, `P` holds.
done_put : {A E : Type 0} {P : Type 0} (answer : Result A E) (done : A) → answer ≡ Ok done → OnOk answer P → P
done_put {A = A} {E = E} {P = P} answer done is put = subst (λ (r : Result A E). OnOk r P) is put

-- If a call puts bytes as `PutsWhole` says, no case of `IsBadPut` holds of it.
pub no_bad_put : {A E : Type 0} (temporary path bytes : List ℕ) (old new : DiskState) (answer : Result A E) →
    PutsWhole temporary path bytes old answer new → IsBadPut temporary path bytes old answer new → ⊥
no_bad_put temporary path bytes old new answer puts (torn moment found h at left not_old not_new) = ⊎_elim not_old not_new
    ((each_moment (IsOldOrNew path bytes old.now) old new moment (puts.moments h) at).1 found left)
no_bad_put temporary path bytes old new answer puts (other_bytes done h is differ) =
    differ (done_put {P = content path new.now ≡ Some bytes} answer done is (puts.put h))
no_bad_put temporary path bytes old new answer puts (other_name other h none differ) =
    differ ((puts.touches.moments h).last.now other none)
