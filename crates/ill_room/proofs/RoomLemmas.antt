-- Lemmas on the loop that settles message files one after another, and on the end of a run (`src/settle.rt`).
use Rattle.std.proofs.Common.{◌≡◌, ◌⊎◌, inl, inr, ⊎_elim, refl, sym, subst, ap, ◌∙◌, ℕ, zero, suc, ◌+◌, ◌<◌, ◌≤◌, Bool, true}
use Rattle.std.proofs.Common.{false}
use Rattle.std.proofs.Common.{List, [], ◌∷◌, length, slice_get, Option, None, Some, Result, Ok, Err}
use Rattle.std.proofs.Common.{not-suc-le-zero, le_of_suc-le-suc, eq-or-lt_of_le, le_of_lt, le_refl, le_trans, lt_irrefl, add-one}
use Rattle.std.proofs.lemmas.Bool.{cases_eq, cases_lt, true≢false}
use Rattle.ill_text.specs.declared.fault.ToolFault.{ToolFault}
use Rattle.ill_night.specs.declared.verdict.Verdict.{Verdict}
use Rattle.ill_night.specs.declared.verdict.Verdict.TheVariants as verdicts
use Rattle.ill_room.specs.declared.room.Place.{Place}
use Rattle.ill_room.specs.declared.room.Place.TheVariants.{Waiting, Claimed, Quarantined, Gone}
use Rattle.ill_room.specs.Room.{RoomState, Answers, AreSettled, EndsRun, EndsRunIf, IsElseSame, IsSettled, Keeps, KeepsBytes}
use Rattle.ill_room.specs.Room.{MayMove, MaySettle, MovesPlace, Settles, SettlesAs, SettlesAt, SettlesEach, SettlesOne}
use Rattle.ill_room.specs.Room.{is_correct_room}
use Rattle.ill_room.specs.Room.{moved_at, place_for, place_of}

-- If `n` is not below the length of `xs`, there is no element at `n`.
pub slice_beyond : {X : Type 0} (xs : List X) (n : ℕ) → length xs ≤ n → slice_get xs n ≡ None
slice_beyond [] n end = refl
slice_beyond (x ∷ xs) zero end = absurd (not-suc-le-zero end)
slice_beyond (x ∷ xs) (suc n) end = slice_beyond xs n (le_of_suc-le-suc end)

-- ---- one message file: its moves to a place, and the call that settles its file

-- A second move to the same place `to` changes nothing.
moved_twice : (to : Place) (place : Option Place) → moved_at to (moved_at to place) ≡ moved_at to place
moved_twice to None = refl
moved_twice Waiting (Some Claimed) = refl
moved_twice Claimed (Some Claimed) = refl
moved_twice Quarantined (Some Claimed) = refl
moved_twice Gone (Some Claimed) = refl
moved_twice to (Some Waiting) = refl
moved_twice to (Some Quarantined) = refl
moved_twice to (Some Gone) = refl

-- If a message file stays or moves to `to`, and then does so again, it has stayed or moved to `to`.
may_then : (to : Place) (a b c : Option Place) → MayMove to a b → MayMove to b c → MayMove to a c
may_then to a b c first (inl stays) = subst (λ place. MayMove to a place) (sym stays) first
may_then to a b c (inl stays) (inr moves) = inr (moves ∙ ap (moved_at to) stays)
may_then to a b c (inr before) (inr moves) = inr (moves ∙ ap (moved_at to) before ∙ moved_twice to a)

-- If a call was to move a message file from the place `a` to `to`, done or failed, the message file stays or has moved
-- to `to`.
pub may_move : {A : Type 0} (to : Place) (a b : Option Place) (answer : Result A ToolFault) → MovesPlace to a answer b →
    MayMove to a b
may_move to a b (Ok done) moves = inr moves
may_move to a b (Err fault) moves = moves

-- If a call settles `number` by `verdict`, done or not, its file was settled, or stays (`MaySettle`).
file_may_settle : {A : Type 0} (number : ℕ) (verdict : Verdict) (x y : RoomState) (answer : Result A ToolFault) →
    SettlesOne number verdict x answer y → MaySettle (Some verdict) (place_of x number) (place_of y number)
file_may_settle number (verdicts.Done outcome) x y answer one =
    may_move Gone (place_of x number) (place_of y number) answer one.here
file_may_settle number (verdicts.Quarantined unfit) x y answer one =
    may_move Quarantined (place_of x number) (place_of y number) answer one.here
file_may_settle number (verdicts.Deferred delay) x y answer one = one.here

-- If a call settles `number` by `verdict` and is done, its file is settled (`IsSettled`).
here_settled : {A : Type 0} (number : ℕ) (verdict : Verdict) (x y : RoomState) (done : A) →
    SettlesOne number verdict x (Ok done) y → IsSettled (Some verdict) (place_of x number) (place_of y number)
here_settled number (verdicts.Done outcome) x y done one = one.here
here_settled number (verdicts.Quarantined unfit) x y done one = one.here
here_settled number (verdicts.Deferred delay) x y done one = one.here

-- A call that settles `number` leaves the place of each other message file, and the messages that ask.
else_same : {A : Type 0} (number : ℕ) (verdict : Verdict) (x y : RoomState) (answer : Result A ToolFault) →
    SettlesOne number verdict x answer y → IsElseSame number x y
else_same number (verdicts.Done outcome) x y answer one = one.else_same
else_same number (verdicts.Quarantined unfit) x y answer one = one.else_same
else_same number (verdicts.Deferred delay) x y answer one = one.else_same

-- ---- the message files below a number: how `SettlesTo` begins, and how it holds after one more message file that has
-- a verdict

-- The files of the message files below the number `count` were settled, or stay. If `all_done`, each was settled. The
-- further message files stay.
pub record SettlesTo (count : ℕ) (all : List Verdict) (old : RoomState) (all_done : Bool) (new : RoomState) : Type 0 where
  pub so_far : Settles all old new
  pub success : all_done ≡ true → (number : ℕ) → number < count →
      IsSettled (slice_get all number) (place_of old number) (place_of new number)
  pub rest : (number : ℕ) → count ≤ number → place_of new number ≡ place_of old number

-- `MaySettle` allows that a message file stays at its place `a`.
may_stay : (verdict : Option Verdict) (a : Option Place) → MaySettle verdict a a
may_stay None a = refl
may_stay (Some verdict) a = inl refl

-- If no call was made, `SettlesTo` holds of the message files below zero.
pub settles_none : (all : List Verdict) (x : RoomState) → SettlesTo zero all x true x
settles_none all x = record {
  so_far = record { each = λ number. may_stay (slice_get all number) (place_of x number); asked = refl };
  success = λ done number below. absurd (not-suc-le-zero below);
  rest = λ number above. refl;
}

-- Let `MaySettle` lead from `a` to `b`, and again by the same verdict from `b` to `c`. Then it leads from `a` to `c`.
may_settle_then : (v : Option Verdict) (verdict : Verdict) (a b c : Option Place) → v ≡ Some verdict → MaySettle v a b →
    MaySettle (Some verdict) b c → MaySettle v a c
may_settle_then v verdict a b c is first then =
    subst (λ w. MaySettle w a c) (sym is)
    (may_then (place_for verdict) a b c (subst (λ w. MaySettle w a b) is first) then)

-- Let `Settles` lead from `x` to `y`, and let a call settle `number` by its verdict from `y` to `z`. Then
-- `Settles` leads from `x` to `z`.
settles_then : {A : Type 0} (all : List Verdict) (number : ℕ) (verdict : Verdict) (x y z : RoomState)
    (answer : Result A ToolFault) → Settles all x y → slice_get all number ≡ Some verdict →
    SettlesOne number verdict y answer z → Settles all x z
settles_then all number verdict x y z answer so_far is one =
    let same = else_same number verdict y z answer one in
    record {
      each = λ other. ⊎_elim
          (λ here. subst (λ m. MaySettle (slice_get all m) (place_of x m) (place_of z m)) (sym here)
          (may_settle_then (slice_get all number) verdict (place_of x number) (place_of y number)
          (place_of z number) is
          (so_far.each number) (file_may_settle number verdict y z answer one)))
          (λ differ. subst (λ place. MaySettle (slice_get all other) (place_of x other) place) (sym (same.others other differ))
          (so_far.each other))
          (cases_eq other number);
      asked = same.asked ∙ so_far.asked;
    }

-- If the message files below `count` are settled, and then `count`, the message files below `count + 1` are.
pub settles_next : {A : Type 0} (count : ℕ) (all : List Verdict) (verdict : Verdict) (x y z : RoomState) (all_done : Bool)
    (done : A) → SettlesTo count all x all_done y → slice_get all count ≡ Some verdict →
    SettlesOne count verdict y (Ok done) z → SettlesTo (suc count) all x all_done z
settles_next count all verdict x y z all_done done to is one =
    let same = else_same count verdict y z (Ok done) one in
    record {
      so_far = settles_then all count verdict x y z (Ok done) to.so_far is one;
      success = λ each number below. ⊎_elim
          (λ here. subst (λ m. IsSettled (slice_get all m) (place_of x m) (place_of z m)) (sym here)
          (subst (λ v. IsSettled v (place_of x count) (place_of z count)) (sym is)
          (subst (λ place. IsSettled (Some verdict) place (place_of z count)) (to.rest count (le_refl count))
          (here_settled count verdict y z done one))))
          (λ lower. subst (λ place. IsSettled (slice_get all number) (place_of x number) place)
          (sym (same.others number (λ is. lt_irrefl count (subst (λ m. m < count) is lower))))
          (to.success each number lower))
          (eq-or-lt_of_le (le_of_suc-le-suc below));
      rest = λ number above. same.others number (λ is. lt_irrefl count (subst (λ m. count < m) is above))
          ∙ to.rest number (le_of_lt above);
    }

-- Let the message files below `count` be settled or stay, and let a call for `count` be done or fail. Then `SettlesTo`
-- holds below `count + 1`. Its `all_done` is false, so it does not say that each was settled.
pub settles_some_next : {A : Type 0} (count : ℕ) (all : List Verdict) (verdict : Verdict) (x y z : RoomState) (all_done : Bool)
    (answer : Result A ToolFault) → SettlesTo count all x all_done y → slice_get all count ≡ Some verdict →
    SettlesOne count verdict y answer z → SettlesTo (suc count) all x false z
settles_some_next count all verdict x y z all_done answer to is one =
    let same = else_same count verdict y z answer one in
    record {
      so_far = settles_then all count verdict x y z answer to.so_far is one;
      success = λ each number below. absurd (true≢false (sym each));
      rest = λ number above. same.others number (λ is. lt_irrefl count (subst (λ m. count < m) is above))
          ∙ to.rest number (le_of_lt above);
    }

-- ---- the loop of `settle_each`, in a room that is correct or not: its start, a step with or without a verdict, its
-- end

-- In any room, correct or not, `SettlesTo` holds of the message files below zero if no call was made.
pub none_settled : (all : List Verdict) (x : RoomState) → Answers is_correct_room (SettlesTo zero all) x true x
none_settled all x = record { done = λ correct. settles_none all x; correct = refl }

-- A message file without a verdict is settled if it stays.
beyond : (v : Option Verdict) (a b : Option Place) → v ≡ None → b ≡ a → IsSettled v a b
beyond v a b none same = subst (λ w. IsSettled w a b) (sym none) same

-- If the message files below `count` are settled, and `count` has no verdict, the message files below `count + 1` are.
stays_next : (count : ℕ) (all : List Verdict) (x y : RoomState) (all_done : Bool) → SettlesTo count all x all_done y →
    slice_get all count ≡ None → SettlesTo (suc count) all x all_done y
stays_next count all x y all_done to is = record {
  so_far = to.so_far;
  success = λ each number below. ⊎_elim
      (λ here. subst (λ m. IsSettled (slice_get all m) (place_of x m) (place_of y m)) (sym here)
      (beyond (slice_get all count) (place_of x count) (place_of y count) is (to.rest count (le_refl count))))
      (λ lower. to.success each number lower)
      (eq-or-lt_of_le (le_of_suc-le-suc below));
  rest = λ number above. to.rest number (le_of_lt above);
}

-- If `SettlesTo` holds with some `all_done`, it holds with false, which says less.
without_all_done : (count : ℕ) (all : List Verdict) (x y : RoomState) (all_done : Bool) → SettlesTo count all x all_done y →
    SettlesTo count all x false y
without_all_done count all x y all_done to = record {
  so_far = to.so_far;
  success = λ each number below. absurd (true≢false (sym each));
  rest = to.rest;
}

-- If the message files below `count` are settled, and then `count` by `v`, the message files below `count + 1` are. `v`
-- is its verdict, or None.
at_settled : {A : Type 0} (count : ℕ) (all : List Verdict) (v : Option Verdict) (x y z : RoomState) (all_done : Bool)
    (done : A) → slice_get all count ≡ v → SettlesTo count all x all_done y → SettlesAt count v y (Ok done) z →
    SettlesTo (suc count) all x all_done z
at_settled count all None x y z all_done done is to same =
    subst (λ w. SettlesTo (suc count) all x all_done w) (sym same) (stays_next count all x y all_done to is)
at_settled count all (Some verdict) x y z all_done done is to one =
    settles_next count all verdict x y z all_done done to is one

-- `settles_some_next` holds also if `count` has no verdict: `v` is the verdict, or None.
at_not_settled : {A : Type 0} (count : ℕ) (all : List Verdict) (v : Option Verdict) (x y z : RoomState) (all_done : Bool)
    (answer : Result A ToolFault) → slice_get all count ≡ v → SettlesTo count all x all_done y →
    SettlesAt count v y answer z → SettlesTo (suc count) all x false z
at_not_settled count all None x y z all_done answer is to same =
    subst (λ w. SettlesTo (suc count) all x false w) (sym same)
    (without_all_done (suc count) all x y all_done (stays_next count all x y all_done to is))
at_not_settled count all (Some verdict) x y z all_done answer is to one =
    settles_some_next count all verdict x y z all_done answer to is one

-- `SettlesTo` up to `suc count` is `SettlesTo` up to `count + 1`, as the loop counts.
suc_is_plus_one : (count : ℕ) (all : List Verdict) (x y : RoomState) (all_done : Bool) → SettlesTo (suc count) all x all_done y →
    SettlesTo (count + 1) all x all_done y
suc_is_plus_one count all x y all_done to = subst (λ n. SettlesTo n all x all_done y) (sym (add-one count)) to

-- In any room: if the message files below `count` are settled, and then `count`, the message files below `count + 1`
-- are.
pub one_settled : {A : Type 0} (count : ℕ) (all : List Verdict) (x y z : RoomState) (all_done : Bool) (done : A) →
    Answers is_correct_room (SettlesTo count all) x all_done y →
    Answers is_correct_room (SettlesAt count (slice_get all count)) y (Ok done) z →
    Answers is_correct_room (SettlesTo (count + 1) all) x all_done z
one_settled count all x y z all_done done to one = record {
  done = λ correct. suc_is_plus_one count all x z all_done
      (at_settled count all (slice_get all count) x y z all_done done refl (to.done correct)
      (one.done (to.correct ∙ correct)));
  correct = one.correct ∙ to.correct;
}

-- In any room: let a call for the message file `count` be done or fail. Then `SettlesTo` holds of the message files
-- below `count + 1`, with `all_done` false.
pub one_not_settled : {A : Type 0} (count : ℕ) (all : List Verdict) (x y z : RoomState) (all_done : Bool)
    (answer : Result A ToolFault) → Answers is_correct_room (SettlesTo count all) x all_done y →
    Answers is_correct_room (SettlesAt count (slice_get all count)) y answer z →
    Answers is_correct_room (SettlesTo (count + 1) all) x false z
one_not_settled count all x y z all_done answer to one = record {
  done = λ correct. suc_is_plus_one count all x z false (at_not_settled count all (slice_get all count) x y z all_done answer refl
      (to.done correct) (one.done (to.correct ∙ correct)));
  correct = one.correct ∙ to.correct;
}

-- In any room: let `SettlesTo` hold below `count`, and let a call for the message file `count` be done or fail. Then
-- the loop may end with `fault`: the files up to `count` were settled, or stay, as `SettlesEach` asks.
pub stops_there : {A : Type 0} (count : ℕ) (all : List Verdict) (x y z : RoomState) (all_done : Bool)
    (answer : Result A ToolFault) (fault : ToolFault) → Answers is_correct_room (SettlesTo count all) x all_done y →
    Answers is_correct_room (SettlesAt count (slice_get all count)) y answer z →
    Answers is_correct_room (SettlesEach all) x (Err fault) z
stops_there count all x y z all_done answer fault to one = record {
  done = λ correct. (at_not_settled count all (slice_get all count) x y z all_done answer refl (to.done correct)
      (one.done (to.correct ∙ correct))).so_far;
  correct = one.correct ∙ to.correct;
}

-- If no verdict is left at `count`, and each message file below `count` was settled, all message files are.
all_settled : (count : ℕ) (all : List Verdict) (x y : RoomState) → length all ≤ count → SettlesTo count all x true y →
    AreSettled all x y
all_settled count all x y end to number = ⊎_elim
    (λ below. to.success refl number below)
    (λ above. beyond (slice_get all number) (place_of x number) (place_of y number)
    (slice_beyond all number (le_trans end above))
    (to.rest number above))
    (cases_lt number count)

-- If no verdict is left at `count`, `SettlesEach` holds of a loop that ends there and answers `all_done`.
ends_each : (count : ℕ) (all : List Verdict) (x y : RoomState) (all_done : Bool) → length all ≤ count →
    SettlesTo count all x all_done y → SettlesEach all x (Ok all_done) y
ends_each count all x y true end to = (to.so_far, all_settled count all x y end to)
ends_each count all x y false end to = to.so_far

-- In any room: if no verdict is left at `count`, `SettlesEach` holds of a loop that ends there and answers `all_done`.
pub each_settled : (count : ℕ) (all : List Verdict) (x y : RoomState) (all_done : Bool) → length all ≤ count →
    Answers is_correct_room (SettlesTo count all) x all_done y → Answers is_correct_room (SettlesEach all) x (Ok all_done) y
each_settled count all x y all_done end to = record {
  done = λ correct. ends_each count all x y all_done end (to.done correct);
  correct = to.correct;
}

-- ---- the end of a run: the messages that ask are kept or not, and then the files of message files are settled

-- If `x` and `y` have equal lists of places, each message file has the same place in both.
same_places : (x y : RoomState) → y.places ≡ x.places → (number : ℕ) → place_of y number ≡ place_of x number
same_places x y same number = ap (λ places. slice_get places number) same

-- After a call to keep `asked`, done or not, the messages that ask are `before` or `asked`.
kept_or_not : {A : Type 0} (asked before after : List ℕ) (answer : Result A ToolFault) → KeepsBytes asked before answer after →
    (after ≡ before) ⊎ (after ≡ asked)
kept_or_not asked before after (Ok done) keeps = inr keeps
kept_or_not asked before after (Err fault) keeps = keeps

-- If a call to keep `asked` failed, and the run ends with a fault, it ends as `EndsRun` says: no message file has
-- moved.
ends_unkept : {A B : Type 0} (asked : List ℕ) (all : List Verdict) (x y : RoomState) (fault other : ToolFault) →
    Keeps {A = A} asked x (Err fault) y → EndsRun {A = B} asked all x (Err other) y
ends_unkept {A = A} asked all x y fault other keeps = record {
  each = λ number. subst (λ place. MaySettle (slice_get all number) (place_of x number) place)
      (sym (same_places x y keeps.places number)) (may_stay (slice_get all number) (place_of x number));
  asked_stay = kept_or_not {A = A} asked x.asked y.asked (Err fault) keeps.here;
  asked_first = inl (same_places x y keeps.places);
  done = tt;
}

-- If a call settles the files of message files, done or not, each was settled or stays (`Settles`).
settles_of : {A : Type 0} (all : List Verdict) (x y : RoomState) (answer : Result A ToolFault) → SettlesAs all x answer y →
    Settles all x y
settles_of all x y (Ok done) settles = settles.0
settles_of all x y (Err fault) settles = settles

-- Let `asked` be kept in `y`, and let no message file have moved. If the settling from `y` to `z` is done, `EndsRunIf`
-- holds from `x`.
ends_if : {A : Type 0} (asked : List ℕ) (all : List Verdict) (x y z : RoomState) (answer : Result A ToolFault) →
    y.asked ≡ asked → y.places ≡ x.places → SettlesAs all y answer z → EndsRunIf asked all x answer z
ends_if asked all x y z (Ok done) kept same settles = (
  settles.0.asked ∙ kept,
  λ number.
      subst (λ place. IsSettled (slice_get all number) place (place_of z number)) (same_places x y same number)
      (settles.1 number),
)
ends_if asked all x y z (Err fault) kept same settles = tt

-- If `asked` was kept, and then the files of message files were settled, the run ends as `EndsRun` says.
ends_kept : {A B : Type 0} (asked : List ℕ) (all : List Verdict) (x y z : RoomState) (done : A) (answer : Result B ToolFault) →
    Keeps asked x (Ok done) y → SettlesAs all y answer z → EndsRun asked all x answer z
ends_kept asked all x y z done answer keeps settles =
    let so_far = settles_of all y z answer settles in
    record {
      each = λ number. subst (λ place. MaySettle (slice_get all number) place (place_of z number))
          (same_places x y keeps.places number) (so_far.each number);
      asked_stay = inr (so_far.asked ∙ keeps.here);
      asked_first = inr (so_far.asked ∙ keeps.here);
      done = ends_if asked all x y z answer keeps.here keeps.places settles;
    }

-- In any room: if a call to keep `asked` failed, and the run ends with a fault, `EndsRun` holds.
pub run_unkept : {A B : Type 0} (asked : List ℕ) (all : List Verdict) (x y : RoomState) (fault other : ToolFault) →
    Answers is_correct_room (Keeps {A = A} asked) x (Err fault) y
    → Answers is_correct_room (EndsRun {A = B} asked all) x (Err other) y
run_unkept asked all x y fault other keeps = record {
  done = λ correct. ends_unkept asked all x y fault other (keeps.done correct);
  correct = keeps.correct;
}

-- In any room: if `asked` was kept, and then the files of message files were settled, `EndsRun` holds.
pub run_kept : {A B : Type 0} (asked : List ℕ) (all : List Verdict) (x y z : RoomState) (done : A)
    (answer : Result B ToolFault) → Answers is_correct_room (Keeps asked) x (Ok done) y →
    Answers is_correct_room (SettlesAs all) y answer z → Answers is_correct_room (EndsRun asked all) x answer z
run_kept asked all x y z done answer keeps settles = record {
  done = λ correct. ends_kept asked all x y z done answer (keeps.done correct) (settles.done (keeps.correct ∙ correct));
  correct = settles.correct ∙ keeps.correct;
}
