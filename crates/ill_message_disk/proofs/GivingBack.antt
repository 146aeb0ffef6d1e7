-- Lemmas on a claimed message file that is given back: it gets a second name, or is renamed. They follow
-- `give_message_file_back` call by call.
use Rattle.std.proofs.Common.{◌≡◌, ◌⊎◌, inl, inr, ⊎_elim, refl, sym, ◌∙◌, ap, subst, ℕ, Bool, true, false, List, [], ◌∷◌, map}
use Rattle.std.proofs.Common.{Option, Some, None, Result, Ok, Err, option_map}
use Rattle.std.proofs.lemmas.Bool.{true≢false}
use Rattle.std.proofs.lemmas.Option.{none-some}
use Rattle.ill_disk.specs.Disk.{In, Name, Disk, after_change, after_rename, found_at, with_name, with_rename}
use Rattle.ill_disk.specs.Calls.{DiskState, Answers, Changes}
use Rattle.ill_disk.proofs.Crashes.{in_append, in_map}
use Rattle.ill_disk.proofs.Memory.{value_or}
use Rattle.ill_disk.proofs.Names.{found_moved, found_with}
use Rattle.ill_message_disk.specs.declared.message_disk.Found.{Found}
use Rattle.ill_message_disk.specs.MessageFileCalls.{Brings, Clears, Finds, GivesName, Links, Tells, after_flush_name, is_file}
use Rattle.ill_message_disk.specs.MessageFileCalls.{with_found}
use Rattle.ill_message_disk.specs.Touches.{IsNoneOf, TouchesOnly, Touches}
use Rattle.ill_message_disk.specs.Spots.{SpotOf, Place, Waiting, Claimed, Quarantined, Gone, place_by, place_in, moved, MayCome}
use Rattle.ill_message_disk.specs.Spots.{Outlasts, HasFileAt, GivesMessageFileBack, StaysThere}
use Rattle.ill_message_disk.proofs.Apart.{AreApart}
use Rattle.ill_message_disk.proofs.Calling.{brings_touches, clears_touches}
use Rattle.ill_message_disk.proofs.Quarantining.{is_gone, this_file}
use Rattle.ill_message_disk.proofs.Removing.{same_place}
use Rattle.ill_message_disk.proofs.Steps.{either_way}
use Rattle.ill_message_disk.proofs.Staying.{is_this, stays_then}
use Rattle.ill_message_disk.proofs.Steps.{change_fits, one_touches, survives_one, survives_then, touches_more, touches_then}
use Rattle.ill_message_disk.proofs.Touching.{flush_name_touches, found_settled, name_touches, put_differs, touch_more, touch_self}

-- Returns the paths that are touched when a message file is given back.
abbrev pub back_paths : SpotOf → List (List ℕ)
back_paths spot = spot.claimed ∷ spot.waiting ∷ []

-- ---- the place of a message file whose file has its name in the folder: it moves to `Waiting` or stays, and is not
-- gone

-- Let a file have its claimed name but not the one in the folder. If it gets its name in the folder, its message file
-- moves to `Waiting`. A name with `'` tells if the file has it afterwards.
comes_to_wait_by : (quarantined waiting waiting' claimed claimed' : Bool) → waiting ≡ false → claimed ≡ true → waiting' ≡ true →
    place_by quarantined waiting' claimed' ≡ moved Waiting (place_by quarantined waiting claimed)
comes_to_wait_by quarantined waiting false claimed claimed' w c t = absurd (true≢false (sym t))
comes_to_wait_by quarantined true true claimed claimed' w c t = absurd (true≢false w)
comes_to_wait_by quarantined false true false claimed' w c t = absurd (true≢false (sym c))
comes_to_wait_by true false true true claimed' w c t = refl
comes_to_wait_by false false true true claimed' w c t = refl

-- If a file has its name in the folder before and after, its message file stays at its place.
still_by : (quarantined waiting waiting' claimed claimed' : Bool) → waiting ≡ true → waiting' ≡ true →
    place_by quarantined waiting' claimed' ≡ place_by quarantined waiting claimed
still_by quarantined waiting false claimed claimed' w t = absurd (true≢false (sym t))
still_by quarantined false true claimed claimed' w t = absurd (true≢false (sym w))
still_by true true true claimed claimed' w t = refl
still_by false true true claimed claimed' w t = refl

-- A message file whose file waits is not gone.
waiting_not_gone_by : (quarantined waiting claimed : Bool) → waiting ≡ true → place_by quarantined waiting claimed ≡ Gone → ⊥
waiting_not_gone_by quarantined false claimed is gone = true≢false (sym is)
waiting_not_gone_by true true claimed is gone = true≢false (sym (ap is_gone gone))
waiting_not_gone_by false true claimed is gone = true≢false (sym (ap is_gone gone))

-- In `names` the file of the message file has its name in the folder: it waits.
abbrev WaitsIn : SpotOf → List Name → Type 0
WaitsIn spot names = found_at spot.waiting names ≡ Some spot.file

-- If `found` is the file of the message file, `is_file` returns true for it.
is_it : (spot : SpotOf) (found : Option ℕ) → found ≡ Some spot.file → is_file spot.file found ≡ true
is_it spot found is = ap (is_file spot.file) is ∙ this_file spot.file

-- A message file whose file waits is not gone, in these names.
waits_not_gone : (spot : SpotOf) (names : List Name) → WaitsIn spot names → place_in names spot ≡ Gone → ⊥
waits_not_gone spot names waits gone =
    waiting_not_gone_by (is_file spot.file (found_at spot.quarantined names)) (is_file spot.file (found_at spot.waiting names))
    (is_file spot.file (found_at spot.claimed names)) (is_it spot (found_at spot.waiting names) waits) gone

-- A message file whose file waits before and after stays at its place, if what stands at its path in quarantine stays.
waits_still : (spot : SpotOf) (old new : List Name) → WaitsIn spot old → WaitsIn spot new →
    found_at spot.quarantined new ≡ found_at spot.quarantined old → place_in new spot ≡ place_in old spot
waits_still spot old new before after same =
    ap (λ (o : Option ℕ). place_by (is_file spot.file o) (is_file spot.file (found_at spot.waiting new))
    (is_file spot.file (found_at spot.claimed new))) same
    ∙ still_by (is_file spot.file (found_at spot.quarantined old)) (is_file spot.file (found_at spot.waiting old))
    (is_file spot.file (found_at spot.waiting new)) (is_file spot.file (found_at spot.claimed old))
    (is_file spot.file (found_at spot.claimed new)) (is_it spot (found_at spot.waiting old) before)
    (is_it spot (found_at spot.waiting new) after)

-- Let the file of a claimed message file get its name in the folder, and let its path in quarantine stay. Then the
-- message file moves to `Waiting`.
waits_then : (spot : SpotOf) (old new : List Name) → found_at spot.claimed old ≡ Some spot.file →
    found_at spot.waiting old ≡ None → WaitsIn spot new → found_at spot.quarantined new ≡ found_at spot.quarantined old →
    place_in new spot ≡ moved Waiting (place_in old spot)
waits_then spot old new claimed free after same =
    ap (λ (o : Option ℕ). place_by (is_file spot.file o) (is_file spot.file (found_at spot.waiting new))
    (is_file spot.file (found_at spot.claimed new))) same
    ∙ comes_to_wait_by (is_file spot.file (found_at spot.quarantined old)) (is_file spot.file (found_at spot.waiting old))
    (is_file spot.file (found_at spot.waiting new)) (is_file spot.file (found_at spot.claimed old))
    (is_file spot.file (found_at spot.claimed new)) (ap (is_file spot.file) free)
    (is_it spot (found_at spot.claimed old) claimed) (is_it spot (found_at spot.waiting new) after)

-- ---- what crashes leave

-- If a change leaves the file of the message file waiting in any names, no crash after it loses the message file.
outlasts_change : (spot : SpotOf) (change : List Name → List Name) (d : Disk) →
    ((names : List Name) → WaitsIn spot (change names)) → Outlasts spot d → Outlasts spot (after_change change d)
outlasts_change spot change d waits outlasts names stands gone = ⊎_elim
    (λ before. outlasts names before gone)
    (λ changed. let from = in_map change d.may_stand names changed in
    waits_not_gone spot (change from.0) (waits from.0) (sym (ap (λ (n : List Name). place_in n spot) from.2) ∙ gone))
    (in_append d.may_stand (map change d.may_stand) names stands)

-- ---- a second name: what the call for it touches, that it gives the message file back, and what stands at the paths
-- then

module _ (spot : SpotOf) (apart : AreApart spot) where
  -- The path in quarantine is not the one in the folder.
  quarantined_spared : IsNoneOf (spot.waiting ∷ []) spot.quarantined
  quarantined_spared = (λ same. apart.waiting.0 (sym same), tt)

  -- The claimed path is not the one in the folder.
  claimed_spared : IsNoneOf (spot.waiting ∷ []) spot.claimed
  claimed_spared = (apart.claimed.0, tt)

  -- A call that gives the file of the message file its second name touches no name but `back_paths`.
  gives_touches : (d e : Disk) → GivesName spot.claimed spot.waiting d e → TouchesOnly (back_paths spot) d e
  gives_touches d e gives = subst (TouchesOnly (back_paths spot) d) (sym gives.done)
      (touch_more (spot.waiting ∷ []) (back_paths spot) (λ p none. none.1) d
      (after_change (with_name spot.waiting gives.file) d) (name_touches spot.waiting gives.file d))

  -- A call that asks for the second name, done or not, touches no name but `back_paths`.
  links_fits : {A E : Type 0} (answer : Result A E) (d e : Disk) → Links spot.claimed spot.waiting d answer e →
      TouchesOnly (back_paths spot) d e
  links_fits (Ok done) d e gives = gives_touches d e gives
  links_fits (Err fault) d e may = ⊎_elim
      (λ same. subst (TouchesOnly (back_paths spot) d) (sym same) (touch_self (back_paths spot) d))
      (λ gives. gives_touches d e gives) may

  -- A call that may give a second name gives it, or changes nothing.
  links_may : {A E : Type 0} (answer : Result A E) (d e : Disk) → Links spot.claimed spot.waiting d answer e →
      (e ≡ d) ⊎ GivesName spot.claimed spot.waiting d e
  links_may (Ok done) d e gives = inr gives
  links_may (Err fault) d e may = may

  -- On the disk `d` the message file is claimed. On `e` its file has got its name in the folder too.
  module _ (d e : Disk) (claimed : found_at spot.claimed d.names ≡ Some spot.file)
      (gives : GivesName spot.claimed spot.waiting d e) where
    -- The file that gets the name in IN is the file of the message file.
    same_file : gives.file ≡ spot.file
    same_file = ap (value_or spot.file) (sym gives.found ∙ claimed)

    -- If that name is added to any names, the file of the message file waits in them.
    given_waits : (names : List Name) → WaitsIn spot (with_name spot.waiting gives.file names)
    given_waits names = found_with spot.waiting gives.file names ∙ ap Some same_file

    -- The file of the message file waits on `e`.
    pub waits_now : WaitsIn spot e.names
    waits_now = ap (λ (x : Disk). found_at spot.waiting x.names) gives.done ∙ given_waits d.names

    -- From `d` to `e` the message file moves to `Waiting`.
    given_place : place_in e.names spot ≡ moved Waiting (place_in d.names spot)
    given_place = waits_then spot d.names e.names claimed gives.free waits_now
        (ap (λ (x : Disk). found_at spot.quarantined x.names) gives.done
        ∙ put_differs spot.waiting gives.file d.names spot.quarantined quarantined_spared)

    -- If each crash of `d` leaves the message file, each crash of `e` does.
    given_outlasts : Outlasts spot d → Outlasts spot e
    given_outlasts outlasts = subst (Outlasts spot) (sym gives.done)
        (outlasts_change spot (with_name spot.waiting gives.file) d given_waits outlasts)

  -- A call that asks for the second name of a claimed message file, done or not, answers as `GivesMessageFileBack`
  -- says.
  pub links_give : {A E : Type 0} {old new : DiskState} {answer : Result A E} → HasFileAt spot.claimed spot old →
      Answers (Links spot.claimed spot.waiting) old answer new → GivesMessageFileBack spot old new
  links_give {old = old} {new = new} {answer = answer} claimed links = record {
    touches = one_touches (Links spot.claimed spot.waiting) (back_paths spot) old answer new links (links_fits answer);
    stays = λ h file stands. ⊎_elim
        (λ same. ap (λ (x : Disk). found_at spot.waiting x.names) same ∙ stands)
        (λ gives. absurd (none-some file (sym gives.free ∙ stands)))
        (links_may answer old.now new.now (links.done h));
    comes = λ h. ⊎_elim (λ same. inl (same_place spot same))
        (λ gives. inr (given_place old.now new.now (claimed h) gives))
        (links_may answer old.now new.now (links.done h));
    survives = survives_one (Links spot.claimed spot.waiting) spot old answer new links (λ h does before. ⊎_elim
        (λ same. subst (Outlasts spot) (sym same) before)
        (λ gives. given_outlasts old.now new.now (claimed h) gives before) (links_may answer old.now new.now does));
  }

  -- If the second name was given, the file of the message file waits.
  pub linked_waits : {A E : Type 0} {old new : DiskState} {done : A} → HasFileAt spot.claimed spot old →
      Answers {E = E} (Links spot.claimed spot.waiting) old (Ok done) new → HasFileAt spot.waiting spot new
  linked_waits {old = old} {new = new} claimed links h =
      let was : old.is_correct ≡ true = sym links.correct ∙ h in
      waits_now old.now new.now (claimed was) (links.done was)

  -- The file of the message file still stands at its claimed path after a second name was asked for.
  pub linked_claimed : {A E : Type 0} {old new : DiskState} {answer : Result A E} → HasFileAt spot.claimed spot old →
      Answers (Links spot.claimed spot.waiting) old answer new → HasFileAt spot.claimed spot new
  linked_claimed {old = old} {new = new} {answer = answer} claimed links h =
      let was : old.is_correct ≡ true = sym links.correct ∙ h in ⊎_elim
      (λ same. ap (λ (x : Disk). found_at spot.claimed x.names) same ∙ claimed was)
      (λ gives. ap (λ (x : Disk). found_at spot.claimed x.names) gives.done
      ∙ put_differs spot.waiting gives.file old.now.names spot.claimed claimed_spared ∙ claimed was)
      (links_may answer old.now new.now (links.done was))

  -- ---- the flush of the name in the folder, and the removal of the claimed one

  -- A flush of the name in the folder touches no name but `back_paths`.
  flush_touches : (d : Disk) → TouchesOnly (back_paths spot) d (after_flush_name spot.waiting d)
  flush_touches d = touch_more (spot.waiting ∷ []) (back_paths spot) (λ p none. none.1) d (after_flush_name spot.waiting d)
      (flush_name_touches spot.waiting d)

  -- On the disk `d` the file of the message file waits.
  module _ (d : Disk) (waits : WaitsIn spot d.names) where
    -- After the flush the file of the message file waits in any names.
    flushed_waits : (names : List Name) → WaitsIn spot (with_found spot.waiting (found_at spot.waiting d.names) names)
    flushed_waits names = found_settled spot.waiting (found_at spot.waiting d.names) names ∙ waits

    -- The flush leaves the message file at its place.
    flushed_place : place_in (after_flush_name spot.waiting d).names spot ≡ place_in d.names spot
    flushed_place = waits_still spot d.names (after_flush_name spot.waiting d).names waits (flushed_waits d.names)
        ((flush_name_touches spot.waiting d).now spot.quarantined quarantined_spared)

    -- After the flush the file of the message file waits in each crash.
    flushed_lasts : (names : List Name) → In (after_flush_name spot.waiting d).may_stand names → WaitsIn spot names
    flushed_lasts names stands =
        let from = in_map (with_found spot.waiting (found_at spot.waiting d.names)) d.may_stand names stands in
        ap (found_at spot.waiting) from.2 ∙ flushed_waits from.0

    -- No crash after the flush loses the message file.
    flushed_outlasts : Outlasts spot (after_flush_name spot.waiting d)
    flushed_outlasts names stands = waits_not_gone spot names (flushed_lasts names stands)

  -- If the file of the message file waits, a flush of that name, done or not, leaves the message file.
  pub flush_stays : {E : Type 0} {old new : DiskState} {answer : Result (Unit {0}) E} → HasFileAt spot.waiting spot old →
      Answers (Changes (after_flush_name spot.waiting)) old answer new → StaysThere (back_paths spot) spot old new
  flush_stays {old = old} {new = new} {answer = answer} waits flushes = record {
    touches = one_touches (Changes (after_flush_name spot.waiting)) (back_paths spot) old answer new flushes
        (change_fits (back_paths spot) (after_flush_name spot.waiting) flush_touches answer);
    waiting = λ h. either_way (λ (x : Disk). found_at spot.waiting x.names ≡ found_at spot.waiting old.now.names)
        (after_flush_name spot.waiting) old.now new.now answer (flushes.done h) refl
        (found_settled spot.waiting (found_at spot.waiting old.now.names) old.now.names);
    place = λ h. either_way (λ (x : Disk). place_in x.names spot ≡ place_in old.now.names spot)
        (after_flush_name spot.waiting) old.now new.now answer (flushes.done h) refl (flushed_place old.now (waits h));
    survives = survives_one (Changes (after_flush_name spot.waiting)) spot old answer new flushes (λ h does before.
        either_way (Outlasts spot) (after_flush_name spot.waiting) old.now new.now answer does before
        (flushed_outlasts old.now (waits h)));
  }

  -- On a correct disk the file of the message file waits, now and after each crash.
  abbrev pub WaitsAlways : DiskState → Type 0
  WaitsAlways state = state.is_correct ≡ true →
      WaitsIn spot state.now.names × ((names : List Name) → In state.now.may_stand names → WaitsIn spot names)

  -- If the file of the message file waits, and that name is flushed, the file waits after each crash.
  pub flush_lasts : {E : Type 0} {old new : DiskState} {done : Unit {0}} → HasFileAt spot.waiting spot old →
      Answers {E = E} (Changes (after_flush_name spot.waiting)) old (Ok done) new → WaitsAlways new
  flush_lasts {old = old} {new = new} waits flushes h =
      let was : old.is_correct ≡ true = sym flushes.correct ∙ h in (
        ap (λ (x : Disk). found_at spot.waiting x.names) (flushes.done was) ∙ flushed_waits old.now (waits was) old.now.names,
        subst (λ (x : Disk). (names : List Name) → In x.may_stand names → WaitsIn spot names) (sym (flushes.done was))
            (flushed_lasts old.now (waits was)),
      )

  -- A message file that waits in each crash stays when its claimed name is removed.
  pub clear_stays : {A E : Type 0} {old new : DiskState} {answer : Result A E} → WaitsAlways old →
      Answers (Clears spot.claimed) old answer new → StaysThere (back_paths spot) spot old new
  clear_stays {old = old} {new = new} {answer = answer} waits clears =
      let fits : (p : List ℕ) → IsNoneOf (back_paths spot) p → IsNoneOf (spot.claimed ∷ []) p = λ p none. (none.0, tt) in
      let touched : Touches (spot.claimed ∷ []) old new = clears_touches clears in
      let quarantined_out : IsNoneOf (spot.claimed ∷ []) spot.quarantined = (λ same. apart.claimed.1.0 (sym same), tt) in
      let waiting_out : IsNoneOf (spot.claimed ∷ []) spot.waiting = (λ same. apart.claimed.0 (sym same), tt) in record {
        touches = touches_more (spot.claimed ∷ []) (back_paths spot) fits old new touched;
        waiting = λ h. (touched.moments h).last.now spot.waiting waiting_out;
        place = λ h. waits_still spot old.now.names new.now.names (waits h).0
            ((touched.moments h).last.now spot.waiting waiting_out ∙ (waits h).0)
            ((touched.moments h).last.now spot.quarantined quarantined_out);
        survives = survives_one (Clears spot.claimed) spot old answer new clears (λ h does before names stands.
            let from = (touched.moments h).last.left names stands in
            waits_not_gone spot names (from.2 spot.waiting waiting_out ∙ (waits h).1 from.0 from.1));
      }

  -- ---- a message file that gets no second name

  -- On the disk `d` the file of the message file has its claimed name.
  module _ (d : Disk) (claimed : found_at spot.claimed d.names ≡ Some spot.file) where
    -- After the rename the file of the message file waits in any names.
    renamed_waits : (names : List Name) →
        WaitsIn spot (with_rename spot.claimed spot.waiting (found_at spot.claimed d.names) names)
    renamed_waits names = found_moved spot.claimed spot.waiting spot.file names (found_at spot.claimed d.names) claimed

    -- No crash after the rename loses the message file.
    renamed_outlasts : Outlasts spot d → Outlasts spot (after_rename spot.claimed spot.waiting d)
    renamed_outlasts outlasts = outlasts_change spot
        (with_rename spot.claimed spot.waiting (found_at spot.claimed d.names)) d renamed_waits outlasts

  -- Let the name of a claimed message file be free in the folder. Then a rename to it, done or not, answers as
  -- `GivesMessageFileBack` says.
  pub rename_gives : {A E : Type 0} {old new : DiskState} {answer : Result A E} → HasFileAt spot.claimed spot old →
      (old.is_correct ≡ true → found_at spot.waiting old.now.names ≡ None) →
      Answers (Brings spot.claimed spot.waiting) old answer new → GivesMessageFileBack spot old new
  rename_gives {old = old} {new = new} {answer = answer} claimed free brings =
      let touched : Touches (back_paths spot) old new = brings_touches brings in
      let quarantined_out : IsNoneOf (back_paths spot) spot.quarantined =
      (λ same. apart.claimed.1.0 (sym same), (λ same. apart.waiting.0 (sym same), tt)) in record {
        touches = touched;
        stays = λ h file stands. absurd (none-some file (sym (free h) ∙ stands));
        comes = λ h. ⊎_elim (λ same. inl (same_place spot same))
            (λ moved_it. inr (waits_then spot old.now.names new.now.names (claimed h) (free h)
            (ap (λ (x : Disk). found_at spot.waiting x.names) moved_it
            ∙ renamed_waits old.now (claimed h) old.now.names)
            ((touched.moments h).last.now spot.quarantined quarantined_out))) (brings.done h).either;
        survives = survives_one (Brings spot.claimed spot.waiting) spot old answer new brings (λ h does before. ⊎_elim
            (λ same. subst (Outlasts spot) (sym same) before)
            (λ moved_it. subst (Outlasts spot) (sym moved_it) (renamed_outlasts old.now (claimed h) before)) does.either);
      }

-- ---- joining calls: answers as `GivesMessageFileBack` says one after another, and what a look leaves

-- A second move to the folder changes nothing.
moved_twice : (place : Place) → moved Waiting (moved Waiting place) ≡ moved Waiting place
moved_twice Waiting = refl
moved_twice Claimed = refl
moved_twice Quarantined = refl
moved_twice Gone = refl

-- If a message file stays or moves to the folder, and then does so again, it has stayed or moved there.
may_then : (a b c : Place) → MayCome Waiting a b → MayCome Waiting b c → MayCome Waiting a c
may_then a b c first (inl stays) = subst (λ (p : Place). MayCome Waiting a p) (sym stays) first
may_then a b c (inl stays) (inr moves) = inr (moves ∙ ap (moved Waiting) stays)
may_then a b c (inr before) (inr moves) = inr (moves ∙ ap (moved Waiting) before ∙ moved_twice a)

-- A call that leaves the message file at its place answers as `GivesMessageFileBack` says.
pub stays_gives : {spot : SpotOf} {old new : DiskState} → StaysThere (back_paths spot) spot old new →
    GivesMessageFileBack spot old new
stays_gives stays = record {
  touches = stays.touches;
  stays = λ h file stands. stays.waiting h ∙ stands;
  comes = λ h. inl (stays.place h);
  survives = stays.survives;
}

-- If two calls, one after the other, answer as `GivesMessageFileBack` says, both together do.
pub gives_then : {spot : SpotOf} {a b c : DiskState} → GivesMessageFileBack spot a b → GivesMessageFileBack spot b c →
    GivesMessageFileBack spot a c
gives_then {spot = spot} {a = a} {b = b} {c = c} first second = record {
  touches = touches_then (back_paths spot) a b c first.touches second.touches;
  stays = λ h file stands. second.stays (first.touches.correct ∙ h) file (first.stays h file stands);
  comes = λ h. may_then (place_in a.now.names spot) (place_in b.now.names spot) (place_in c.now.names spot)
      (first.comes h) (second.comes (first.touches.correct ∙ h));
  survives = survives_then spot a b c first.touches.correct first.survives second.survives;
}

-- If a look tells that the file stands at its claimed path, it stands there after the look.
pub told_claimed : {E : Type 0} (spot : SpotOf) {old new : DiskState} {stands : Bool} → stands ≡ true →
    Answers {E = E} (Tells spot.claimed spot.file) old (Ok stands) new → HasFileAt spot.claimed spot new
told_claimed spot {old = old} is tells h =
    let was : old.is_correct ≡ true = sym tells.correct ∙ h in
    ap (λ (d : Disk). found_at spot.claimed d.names) (tells.done was).same
    ∙ is_this spot.file (found_at spot.claimed old.now.names) (sym (tells.done was).stands ∙ is)

-- If a look finds `found` at `path`, that file stands there after the look.
pub found_stands : {E : Type 0} {path : List ℕ} {old new : DiskState} {found : Option Found} →
    Answers {E = E} (Finds path) old (Ok found) new → new.is_correct ≡ true →
    found_at path new.now.names ≡ option_map (λ f. f.file) found
found_stands {path = path} {old = old} finds h =
    let was : old.is_correct ≡ true = sym finds.correct ∙ h in
    ap (λ (d : Disk). found_at path d.names) (finds.done was).same ∙ sym (finds.done was).file

-- If the file of the message file stands at the path `other`, it stands there after a look.
pub found_still : {E : Type 0} {path : List ℕ} (other : List ℕ) (spot : SpotOf) {old new : DiskState}
    {answer : Result (Option Found) E} → HasFileAt other spot old → Answers (Finds path) old answer new →
    HasFileAt other spot new
found_still other spot {old = old} has finds h =
    let was : old.is_correct ≡ true = sym finds.correct ∙ h in
    ap (λ (d : Disk). found_at other d.names) (finds.done was).same ∙ has was

-- Let the message file stay from `a` to `b`, and let `c` be `b`, or the message file stay again. Then
-- `GivesMessageFileBack` holds from `a` to `c`.
pub stays_or_same : {spot : SpotOf} {a b c : DiskState} → StaysThere (back_paths spot) spot a b →
    (c ≡ b) ⊎ StaysThere (back_paths spot) spot b c → GivesMessageFileBack spot a c
stays_or_same {spot = spot} {a = a} first (inl same) =
    subst (λ (s : DiskState). GivesMessageFileBack spot a s) (sym same) (stays_gives first)
stays_or_same first (inr second) = stays_gives (stays_then first second)
