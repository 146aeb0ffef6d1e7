-- Lemmas on `remove_message_file`, call by call: a claimed message file is removed, or stays.
use Rattle.std.proofs.Common.{◌≡◌, inl, inr, ⊎_elim, refl, sym, ◌∙◌, ap, subst, ℕ, Bool, true, false, List, [], ◌∷◌}
use Rattle.std.proofs.Common.{Result, Ok, Err, IsErr}
use Rattle.std.proofs.lemmas.Bool.{true≢false}
use Rattle.ill_disk.specs.Disk.{Disk, found_at}
use Rattle.ill_disk.specs.Calls.{DiskState, Answers}
use Rattle.ill_disk.proofs.Names.{found_without}
use Rattle.ill_message_disk.specs.MessageFileCalls.{Clears, Tells, is_file}
use Rattle.ill_message_disk.specs.Touches.{Touches}
use Rattle.ill_message_disk.specs.Spots.{SpotOf, Place, Gone, place_by, place_in, moved, Comes, IsKept, StaysKept, StaysThere}
use Rattle.ill_message_disk.specs.Spots.{RemovesMessageFile}
use Rattle.ill_message_disk.proofs.Apart.{AreApart}
use Rattle.ill_message_disk.proofs.Removing.{cleared_comes, gone_place, unclaimed_by}
use Rattle.ill_message_disk.proofs.Staying.{stays_tell, stays_then}
use Rattle.ill_message_disk.proofs.Steps.{touches_then}
use Rattle.ill_message_disk.proofs.Calling.{clears_touches}

-- If a message file stays from `a` to `b`, and was kept at `a`, it is kept at `b`.
pub stays_kept : {paths : List (List ℕ)} {spot : SpotOf} {a b : DiskState} → StaysThere paths spot a b → StaysKept spot a b
stays_kept stays h kept =
    ⊎_elim (λ gone. inl (stays.place h ∙ gone)) (λ outlasts. inr (stays.survives h outlasts).last) kept

-- If a file has its name in the folder, its message file is not claimed, and a removal leaves it.
waits_by : (quarantined waiting claimed : Bool) → waiting ≡ true →
    place_by quarantined waiting claimed ≡ moved Gone (place_by quarantined waiting claimed)
waits_by true waiting claimed is = refl
waits_by false true claimed is = refl
waits_by false false claimed is = absurd (true≢false (sym is))

-- If a file stands in quarantine, its message file is not claimed, and a removal leaves it.
quarantined_stays_by : (quarantined waiting claimed : Bool) → quarantined ≡ true →
    place_by quarantined waiting claimed ≡ moved Gone (place_by quarantined waiting claimed)
quarantined_stays_by true waiting claimed is = refl
quarantined_stays_by false waiting claimed is = absurd (true≢false (sym is))

-- If a file stands neither in quarantine nor in the folder, a move to `Gone` brings its message file to `Gone`,
-- wherever it was.
alone_by : (quarantined waiting claimed : Bool) → quarantined ≡ false → waiting ≡ false →
    moved Gone (place_by quarantined waiting claimed) ≡ Gone
alone_by true waiting claimed a w = absurd (true≢false a)
alone_by false true claimed a w = absurd (true≢false w)
alone_by false false true a w = refl
alone_by false false false a w = refl

module _ {A E : Type 0} {spot : SpotOf} where
  -- If a call fails and leaves the message file at its place, it answers as `RemovesMessageFile` says.
  pub unseen_stays : {old new : DiskState} {answer : Result A E} → IsErr answer →
      StaysThere (spot.claimed ∷ []) spot old new → RemovesMessageFile spot old answer new
  unseen_stays {answer = Ok done} is stays = absurd (true≢false (sym is))
  unseen_stays {answer = Err fault} is stays = record {
    touches = stays.touches;
    comes = λ h. inl (stays.place h);
    kept = stays_kept stays;
  }

  -- If a call is done and leaves a message file that no removal moves, it answers as `RemovesMessageFile` says.
  stays_done : {old new : DiskState} {value : A} → StaysThere (spot.claimed ∷ []) spot old new →
      (old.is_correct ≡ true → place_in old.now.names spot ≡ moved Gone (place_in old.now.names spot)) →
      RemovesMessageFile {E = E} spot old (Ok value) new
  stays_done stays unmoved = record {
    touches = stays.touches;
    comes = λ h. stays.place h ∙ unmoved h;
    kept = stays_kept stays;
  }

-- If the file is not found at its claimed path, a call that does no more answers as `RemovesMessageFile` says.
pub unclaimed_stays : {A E F : Type 0} {spot : SpotOf} {old new : DiskState} {stands : Bool} {value : A} →
    stands ≡ false → Answers {E = E} (Tells spot.claimed spot.file) old (Ok stands) new →
    RemovesMessageFile {E = F} spot old (Ok value) new
unclaimed_stays {spot = spot} {old = old} is tells = stays_done (stays_tell (spot.claimed ∷ []) spot tells)
    (λ h. unclaimed_by Gone (is_file spot.file (found_at spot.quarantined old.now.names))
    (is_file spot.file (found_at spot.waiting old.now.names)) (is_file spot.file (found_at spot.claimed old.now.names))
    (sym (tells.done h).stands ∙ is))

-- Let the message file stay, and its file be found in the folder. A call that does no more answers as
-- `RemovesMessageFile` says.
pub waiting_stays : {A E F : Type 0} {spot : SpotOf} {old looked new : DiskState} {stands : Bool} {value : A} →
    stands ≡ true → StaysThere (spot.claimed ∷ []) spot old looked →
    Answers {E = E} (Tells spot.waiting spot.file) looked (Ok stands) new → RemovesMessageFile {E = F} spot old (Ok value) new
waiting_stays {spot = spot} {old = old} {looked = looked} is stays tells =
    stays_done (stays_then stays (stays_tell (spot.claimed ∷ []) spot tells))
    (λ h. subst (λ (p : Place). p ≡ moved Gone p) (stays.place h)
    (waits_by (is_file spot.file (found_at spot.quarantined looked.now.names))
    (is_file spot.file (found_at spot.waiting looked.now.names)) (is_file spot.file (found_at spot.claimed looked.now.names))
    (sym (tells.done (stays.touches.correct ∙ h)).stands ∙ is)))

-- Let the message file stay, and its file be found in quarantine. A call that does no more answers as
-- `RemovesMessageFile` says.
pub quarantined_stays : {A E F : Type 0} {spot : SpotOf} {old looked new : DiskState} {stands : Bool} {value : A} →
    stands ≡ true → StaysThere (spot.claimed ∷ []) spot old looked →
    Answers {E = E} (Tells spot.quarantined spot.file) looked (Ok stands) new → RemovesMessageFile {E = F} spot old (Ok value) new
quarantined_stays {spot = spot} {old = old} {looked = looked} is stays tells =
    stays_done (stays_then stays (stays_tell (spot.claimed ∷ []) spot tells))
    (λ h. subst (λ (p : Place). p ≡ moved Gone p) (stays.place h)
    (quarantined_stays_by (is_file spot.file (found_at spot.quarantined looked.now.names))
    (is_file spot.file (found_at spot.waiting looked.now.names)) (is_file spot.file (found_at spot.claimed looked.now.names))
    (sym (tells.done (stays.touches.correct ∙ h)).stands ∙ is)))

-- Let the file be found neither in the folder nor in quarantine. A call that clears its claimed path then answers as
-- `RemovesMessageFile` says.
pub removes_claimed : {A E F G : Type 0} {spot : SpotOf} {old first second looked new : DiskState} {waits quarantined : Bool}
    {answer : Result A E} → AreApart spot → waits ≡ false → quarantined ≡ false →
    StaysThere (spot.claimed ∷ []) spot old first →
    Answers {E = F} (Tells spot.waiting spot.file) first (Ok waits) second →
    Answers {E = G} (Tells spot.quarantined spot.file) second (Ok quarantined) looked →
    Answers (Clears spot.claimed) looked answer new → RemovesMessageFile spot old answer new
removes_claimed {spot = spot} {old = old} {first = first} {second = second} {looked = looked} {new = new} {answer = answer}
    apart no_wait no_quarantined stays one two clears =
    let paths : List (List ℕ) = spot.claimed ∷ [] in
    let still : StaysThere paths spot old looked =
    stays_then stays (stays_then (stays_tell paths spot one) (stays_tell paths spot two)) in
    let touches : Touches paths looked new = clears_touches clears in record {
      touches = touches_then paths old looked new still.touches touches;
      comes = λ h.
          let there : looked.is_correct ≡ true = still.touches.correct ∙ h in
          let done : Clears spot.claimed looked.now answer new.now = clears.done there in
          subst (λ (p : Place). Comes Gone p answer (place_in new.now.names spot)) (still.place h)
          (cleared_comes spot looked.now new.now answer apart (touches.moments there).last.now done
          (⊎_elim (λ same. inl same)
          (λ removed. inr (ap (λ (d : Disk). found_at spot.claimed d.names) removed
          ∙ found_without spot.claimed looked.now.names)) done.either));
      kept = λ h kept.
          let there : looked.is_correct ≡ true = still.touches.correct ∙ h in
          let was : first.is_correct ≡ true = stays.touches.correct ∙ h in
          let done : Clears spot.claimed looked.now answer new.now = clears.done there in ⊎_elim
          (λ same. subst (IsKept spot) (sym same) (stays_kept still h kept))
          (λ removed. inl (gone_place spot looked.now.names new.now.names apart (touches.moments there).last.now
          (ap (λ (d : Disk). found_at spot.claimed d.names) removed ∙ found_without spot.claimed looked.now.names)
          ∙ alone_by (is_file spot.file (found_at spot.quarantined looked.now.names))
          (is_file spot.file (found_at spot.waiting looked.now.names))
          (is_file spot.file (found_at spot.claimed looked.now.names))
          (ap (λ (d : Disk). is_file spot.file (found_at spot.quarantined d.names)) (two.done (one.correct ∙ was)).same
          ∙ sym (two.done (one.correct ∙ was)).stands ∙ no_quarantined)
          (ap (λ (d : Disk). is_file spot.file (found_at spot.waiting d.names))
          ((two.done (one.correct ∙ was)).same ∙ (one.done was).same) ∙ sym (one.done was).stands ∙ no_wait)))
          done.either;
    }
