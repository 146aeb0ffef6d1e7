-- Lemmas on the disks between two calls, and on the answers of calls.
use Rattle.std.proofs.Common.{◌≡◌, inl, inr, ⊎_elim, refl, sym, ◌∙◌, ap, subst, ℕ, false, List, [], ◌∷◌, ◌++◌, Option}
use Rattle.std.proofs.Common.{Some, None, option_map, is_some, true, arith, Result, Ok, Err, IfOk, OnOk, IsErr}
use Rattle.std.proofs.lemmas.Bool.{true≢false}
use Rattle.std.proofs.lemmas.Option.{none-some}
use Rattle.ill_disk.specs.Disk.{In, File, Disk, AreLeft, Crash, IsWhole, after_create, content, found_at}
use Rattle.ill_disk.specs.Calls.{DiskState, Reads, Changes, Creates, Answers, Passes, Throughout}
use Rattle.ill_disk.specs.Calls.{followed_by, IsMoment, at_the_end, meanwhile, IsLonger, IsLargeOnlyIf, WantsFile}
use Rattle.ill_disk.specs.MemoryDisk.{DiskOverTime, past_state}
use Rattle.ill_disk.specs.BadCalls.{IsBadAnswer, IsBadRead, not_changed, other_change, broken, past_lost, turned}
use Rattle.ill_disk.specs.BadCalls.{other_bytes, changed, IsBadFinding, IsBadSize, done_on_none, none_at_a_file}
use Rattle.ill_disk.specs.BadCalls.{large_without_file, large_within}
use Rattle.ill_disk.specs.declared.disk.DiskFault.{DiskFault}
use Rattle.ill_disk.proofs.Crashes.{in_append}
use Rattle.ill_disk.proofs.Memory.{value_or}

-- ---- lists

-- `xs` is `xs` followed by the empty list.
followed_by_none : {X : Type 0} (xs : List X) → xs ≡ xs ++ []
followed_by_none [] = refl
followed_by_none {X = X} (x ∷ xs) = ap (λ (l : List X). x ∷ l) (followed_by_none xs)

-- Appending of lists is associative.
append_associative : {X : Type 0} (xs ys zs : List X) → (xs ++ ys) ++ zs ≡ xs ++ (ys ++ zs)
append_associative [] ys zs = refl
append_associative {X = X} (x ∷ xs) ys zs = ap (λ (l : List X). x ∷ l) (append_associative xs ys zs)

-- ---- moments

-- If the disk of the state `old` has P, each disk from `old` to `old` has P, since no other has passed.
pub throughout_nothing : {P : Disk → Type 0} {old : DiskState} → P old.now → Throughout P old old
throughout_nothing {old = old} has = record {
  during = [];
  past = no_more old.past;
  each = λ d none. absurd none;
  last = has;
} where
  -- The past is itself followed by no disks.
  no_more : (past : Option (List Disk)) → past ≡ followed_by past []
  no_more None = refl
  no_more (Some disks) = ap (λ (l : List Disk). Some l) (followed_by_none disks)

-- The past followed by `first` and then by `second` is the past followed by `first ++ second`.
followed_twice : (past : Option (List Disk)) (first second : List Disk) →
    followed_by (followed_by past first) second ≡ followed_by past (first ++ second)
followed_twice None first second = refl
followed_twice (Some disks) first second = ap (λ (l : List Disk). Some l) (append_associative disks first second)

-- If each disk from `old` to `now` has P, and each from `now` to `new`, each disk from `old` to `new` has P.
pub joins : {P : Disk → Type 0} {old now new : DiskState} → Throughout P old now → Throughout P now new → Throughout P old new
joins {P = P} {old = old} {now = now} {new = new} first second = record {
  during = first.during ++ second.during;
  past = second.past ∙ ap (λ (p : Option (List Disk)). followed_by p second.during) first.past
      ∙ followed_twice old.past first.during second.during;
  each = λ d passed. ⊎_elim (first.each d) (second.each d) (in_append first.during second.during d passed);
  last = second.last;
}

-- If each disk with P has Q, and each disk from `old` to `new` has P, each of these has Q.
pub holds_too : {P Q : Disk → Type 0} {old new : DiskState} → ((d : Disk) → P d → Q d) → Throughout P old new →
    Throughout Q old new
holds_too {P = P} {Q = Q} {old = old} {new = new} gives held = record {
  during = held.during;
  past = held.past;
  each = λ d passed. gives d (held.each d passed);
  last = gives new.now held.last;
}

-- Let each disk from `old` to `now` have P, and let a call lead from `now` to `new` (`Passes`).
-- If the disk of `new` has P, each disk from `old` to `new` has P.
-- The cases are: the call adds the disk of `now` to the past, and it changes nothing.
pub one_more_call : {P : Disk → Type 0} {old now new : DiskState} → Throughout P old now → Passes now new → P new.now →
    Throughout P old new
one_more_call {P = P} {old = old} {now = now} {new = new} so_far (inl grown) has = record {
  during = so_far.during ++ now.now ∷ [];
  past = grown ∙ ap (λ (p : Option (List Disk)). followed_by p (now.now ∷ [])) so_far.past
      ∙ followed_twice old.past so_far.during (now.now ∷ []);
  each = λ d passed. ⊎_elim (so_far.each d) (λ is. ⊎_elim (λ same. subst P (sym same) so_far.last) (λ none. absurd none) is)
      (in_append so_far.during (now.now ∷ []) d passed);
  last = has;
}
one_more_call so_far (inr same) has = record {
  during = so_far.during;
  past = same.0 ∙ so_far.past;
  each = so_far.each;
  last = has;
}

-- Returns a list without its first element.
abbrev without_first : {X : Type 0} → List X → List X
without_first [] = []
without_first (x ∷ xs) = xs

-- If `xs ++ ys` is `xs ++ zs`, `ys` is `zs`.
rest_is : {X : Type 0} (xs ys zs : List X) → xs ++ ys ≡ xs ++ zs → ys ≡ zs
rest_is [] ys zs is = is
rest_is (x ∷ xs) ys zs is = rest_is xs ys zs (ap without_first is)

-- If each disk from `old` to `new` has P, and `d` is a disk of a moment between them, `d` has P.
pub each_moment : (P : Disk → Type 0) (old new : DiskState) (d : Disk) → Throughout P old new → IsMoment old new d → P d
each_moment P old new d held (at_the_end is) = subst P (sym is) held.last
each_moment P old new d held (meanwhile before during was is passed) =
    held.each d (subst (λ (l : List Disk). In l d) (rest_is before during held.during
    (ap (value_or []) (sym is ∙ held.past ∙ ap (λ (p : Option (List Disk)). followed_by p held.during) was))) passed)

-- ---- answers

-- If `new` is neither `old` nor `change old`, no answer of a call that makes `change` leads to it (`Changes`).
no_other_change : {E : Type 0} (change : Disk → Disk) (old new : Disk) (answer : Result (Unit {0}) E)
    → Changes change old answer new →
    (new ≡ old → ⊥) → (new ≡ change old → ⊥) → ⊥
no_other_change change old new (Ok done) is not_old not_new = not_new is
no_other_change change old new (Err fault) is not_old not_new = ⊎_elim not_old not_new is

-- If the answer of a call that makes `change` is a success, `new` is `change old`.
done_is : {E : Type 0} (change : Disk → Disk) (old new : Disk) (done : Unit {0}) (answer : Result (Unit {0}) E) →
    answer ≡ Ok done → Changes change old answer new → new ≡ change old
done_is {E = E} change old new done answer is changes =
    subst (λ (r : Result (Unit {0}) E). Changes change old r new) is changes

-- If `Answers` holds for a call that makes `change`, no case of `IsBadAnswer` holds for it.
pub no_bad_answer : {E : Type 0} (change : Disk → Disk) (old : DiskState) (answer : Result (Unit {0}) E) (new : DiskState) →
    Answers (Changes change) old answer new → IsBadAnswer change old answer new → ⊥
no_bad_answer change old answer new given (not_changed done h is differ) =
    differ (done_is change old.now new.now done answer is (given.done h))
no_bad_answer change old answer new given (other_change h not_old not_new) =
    no_other_change change old.now new.now answer (given.done h) not_old not_new
no_bad_answer change old answer new given (broken h differ) = differ (given.whole h)
no_bad_answer change old answer new given (past_lost before h was differ lost) = ⊎_elim
    (λ grown. lost (grown ∙ ap (λ (p : Option (List Disk)). followed_by p (old.now ∷ [])) was))
    (λ same. differ same.1) (given.past h)
no_bad_answer change old answer new given (turned differ) = differ given.correct

-- If `Answers` holds for a read of `path`, no case of `IsBadRead` holds for it.
pub no_bad_read : {X E : Type 0} (bytes_of : X → List ℕ) (path : List ℕ) (old : DiskState) (answer : Result (Option X) E)
    (new : DiskState) → Answers (Reads bytes_of path) old answer new → IsBadRead bytes_of path old answer new → ⊥
no_bad_read {X = X} {E = E} bytes_of path old answer new given (other_bytes found h is differ) =
    differ (subst (λ (r : Result (Option X) E). IfOk r (λ f. option_map bytes_of f ≡ content path old.now)) is
    (given.done h).bytes)
no_bad_read bytes_of path old answer new given (changed h differ) = differ (given.done h).same

-- If `WantsFile` holds for the answer of a call on the file at `path`, no case of `IsBadFinding` holds for it.
pub no_bad_finding : {A : Type 0} (path : List ℕ) (old : DiskState) (answer : Result A DiskFault) →
    WantsFile path old answer → IsBadFinding path old answer → ⊥
no_bad_finding {A = A} path old answer wants (done_on_none done h is none) =
    true≢false (sym (subst (λ (r : Result A DiskFault). OnOk r (is_some (found_at path old.now.names) ≡ true)) is
    (wants.found h)) ∙ ap is_some none)
no_bad_finding path old answer wants (none_at_a_file file h is stands) =
    none-some file (sym (wants.none h is) ∙ stands)

-- If `IsLargeOnlyIf` holds for the answer of a read with `limit`, no case of `IsBadSize` holds for it.
pub no_bad_size : {A : Type 0} (limit : ℕ) (path : List ℕ) (old : DiskState) (answer : Result A DiskFault) →
    IsLargeOnlyIf limit path old answer → IsBadSize limit path old answer → ⊥
no_bad_size limit path old answer large (large_without_file h is none) =
    subst (λ (c : Option (List ℕ)). IsLonger limit c) none (large h is)
no_bad_size limit path old answer large (large_within bytes h is found within) =
    omega (arith, subst (λ (c : Option (List ℕ)). IsLonger limit c) found (large h is), within)

-- ---- a new file that is written in part

-- Let a new file be not flushed. If a crash may leave `after` when the file has the bytes `some`, it may leave `after`
-- when it has `bytes`.
torn_left : (files : List File) (some bytes : List ℕ) (after : List File) →
    AreLeft (files ++ record { bytes = some; is_flushed = false } ∷ []) after →
    AreLeft (files ++ record { bytes = bytes; is_flushed = false } ∷ []) after
torn_left [] some bytes [] left = absurd left
torn_left [] some bytes (g ∷ after) left =
    (record { bytes = λ was. absurd (true≢false (sym was)); flushed = left.0.flushed }, left.1)
torn_left (e ∷ files) some bytes [] left = absurd left
torn_left (e ∷ files) some bytes (g ∷ after) left = (left.0, torn_left files some bytes after left.1)

-- If a crash may leave `after` when the bytes `some` of a new file are written, it may leave `after` when all `bytes`
-- are.
pub torn_is_made : (path some bytes : List ℕ) (d after : Disk) → Crash (after_create path some d) after →
    Crash (after_create path bytes d) after
torn_is_made path some bytes d after crash = record {
  names = crash.names;
  only = crash.only;
  files = torn_left d.files some bytes after.files crash.files;
}

-- ---- a disk with its past, when memory runs out

-- If a call that makes `change` fails on a whole disk, and `new` is `old`, `Answers` holds for the call.
pub no_change : {E : Type 0} {change : Disk → Disk} {old new : DiskOverTime} {answer : Result (Unit {0}) E} → IsErr answer →
    IsWhole old.disk → new ≡ old → Answers (Changes change) (past_state old) answer (past_state new)
no_change {answer = Ok done} is whole same = absurd (true≢false (sym is))
no_change {answer = Err fault} is whole same = record {
  whole = λ h. whole;
  done = λ h. inl (ap (λ (d : DiskOverTime). d.disk) same);
  past = λ h. inr (ap (λ (d : DiskOverTime). Some d.past) same, ap (λ (d : DiskOverTime). d.disk) same);
  correct = refl;
}

-- If `create_new` fails on a whole disk, and `new` is `old`, `Answers` holds for the call: there is no new file.
pub no_file : {E : Type 0} {path bytes : List ℕ} {old new : DiskOverTime} {answer : Result (Unit {0}) E} → IsErr answer →
    IsWhole old.disk → new ≡ old → Answers (Creates path bytes) (past_state old) answer (past_state new)
no_file {answer = Ok done} is whole same = absurd (true≢false (sym is))
no_file {answer = Err fault} is whole same = record {
  whole = λ h. whole;
  done = λ h. inl (ap (λ (d : DiskOverTime). d.disk) same);
  past = λ h. inr (ap (λ (d : DiskOverTime). Some d.past) same, ap (λ (d : DiskOverTime). d.disk) same);
  correct = refl;
}

-- If a read of `path` fails on a whole disk, and `new` is `old`, `Answers` holds for the read.
pub no_read : {X E : Type 0} {bytes_of : X → List ℕ} {path : List ℕ} {old new : DiskOverTime}
    {answer : Result (Option X) E} → IsErr answer → IsWhole old.disk → new ≡ old →
    Answers (Reads bytes_of path) (past_state old) answer (past_state new)
no_read {answer = Ok found} is whole same = absurd (true≢false (sym is))
no_read {answer = Err fault} is whole same = record {
  whole = λ h. whole;
  done = λ h. record { bytes = tt; same = ap (λ (d : DiskOverTime). d.disk) same };
  past = λ h. inr (ap (λ (d : DiskOverTime). Some d.past) same, ap (λ (d : DiskOverTime). d.disk) same);
  correct = refl;
}
