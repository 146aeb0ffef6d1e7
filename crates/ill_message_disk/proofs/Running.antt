-- Lemmas on the calls of a run: each moves its own message file alone, and each other message file survives it.
use Rattle.std.proofs.Common.{◌≡◌, ◌⊎◌, inl, inr, ⊎_elim, refl, sym, ◌∙◌, ap, subst, ℕ, zero, suc, ◌==◌, ◌<◌, true, false, not}
use Rattle.std.proofs.Common.{◌&&◌}
use Rattle.std.proofs.Common.{List, [], ◌∷◌, length, map, slice_get, Option, Some, None, option_map, Result, Ok, Err, OnOk, IsErr}
use Rattle.std.proofs.Common.{arith}
use Rattle.std.specs.Str.{bytes_eq}
use Rattle.std.proofs.lemmas.Bool.{true≢false, and_parts, cases_eq, eqb-true, not-true}
use Rattle.std.proofs.lemmas.Option.{none-some, slice_get-map, slice_get-get_or}
use Rattle.std.proofs.lemmas.Slice.Eq.{bytes_eq-Decides}
use Rattle.ill_disk.specs.Disk.{File, Name, Disk, bytes_of, content, found_at}
use Rattle.ill_disk.specs.Calls.{DiskState}
use Rattle.ill_disk.proofs.Memory.{value_or}
use Rattle.ill_disk.proofs.Wholes.{found_made}
use Rattle.ill_message_disk.specs.Touches.{IsNoneOf, KeepsFiles, Touches}
use Rattle.ill_message_disk.specs.Keeping.{KeeperOf, PutsFile, kept_paths}
use Rattle.ill_message_disk.specs.Spots.{SpotOf, Place, Waiting, Gone, Quarantined, MayCome, Comes, RemovesMessageFile}
use Rattle.ill_message_disk.specs.Spots.{QuarantinesMessageFile}
use Rattle.ill_message_disk.specs.Spots.{GivesMessageFileBack, StaysKept, Survives, quarantined_paths, moved, paths_of, place_in}
use Rattle.ill_message_disk.specs.Runs.{RunState, IsSpread, DoesAt, DoesNothing, MayComeAt, ComesAt, IsElseSame, MovesInRun}
use Rattle.ill_message_disk.specs.Runs.{AllStayKept, GivesBackInRun, KeepsAsked, KeepsInRun, HasComeAlone, are_spread, bytes_in}
use Rattle.ill_message_disk.specs.Runs.{keeps_off, misses, place_of, spares}
use Rattle.ill_message_disk.proofs.Apart.{none_of}
use Rattle.ill_message_disk.proofs.GivingBack.{back_paths}
use Rattle.ill_message_disk.proofs.Placing.{IsSpared, place_stays, survives_touch}
use Rattle.ill_message_disk.proofs.Steps.{survives_none}

-- ---- paths that differ

-- Each message file is spared if no path is touched.
spared_by_none : (spot : SpotOf) → IsSpared [] spot
spared_by_none spot = record { claimed = tt; waiting = tt; quarantined = tt }

-- If `path` is none of the paths of a message file, and `paths` spare the message file, `path` and `paths` together
-- spare it.
spared_by : (path : List ℕ) (paths : List (List ℕ)) (spot : SpotOf) → misses path spot ≡ true → IsSpared paths spot →
    IsSpared (path ∷ paths) spot
spared_by path paths spot is rest =
    let none = none_of (paths_of spot) path is in record {
      claimed = (λ same. none.0 (sym same), rest.claimed);
      waiting = (λ same. none.1.0 (sym same), rest.waiting);
      quarantined = (λ same. none.1.1.0 (sym same), rest.quarantined);
    }

-- If `spot` spares `other`, each path that `spot` leaves or takes misses `other`.
spares_parts : (spot other : SpotOf) → spares spot other ≡ true →
    (misses spot.reason other ≡ true) × (misses spot.claimed other ≡ true) × (misses spot.quarantined other ≡ true)
spares_parts spot other is =
    let first = and_parts (misses spot.reason other && misses spot.claimed other) (misses spot.quarantined other) is in
    let second = and_parts (misses spot.reason other) (misses spot.claimed other) first.0 in (second.0, second.1, first.1)

-- If the message file stays off the messages that ask, both paths of the keeper miss it. Its reason is elsewhere too.
off_parts : (keeper : KeeperOf) (spot : SpotOf) → keeps_off keeper spot ≡ true →
    (misses keeper.path spot ≡ true) × (misses keeper.temporary spot ≡ true) × (bytes_eq spot.reason keeper.path ≡ false)
off_parts keeper spot is =
    let first = and_parts (misses keeper.path spot && misses keeper.temporary spot) (not (bytes_eq spot.reason keeper.path))
    is in
    let second = and_parts (misses keeper.path spot) (misses keeper.temporary spot) first.0 in
    (second.0, second.1, not-true (bytes_eq spot.reason keeper.path) first.1)

-- If `bytes_eq` says that two paths differ, they differ.
differ_by : (p q : List ℕ) → bytes_eq p q ≡ false → p ≡ q → ⊥
differ_by p q is same = true≢false (sym ((bytes_eq-Decides p q).1 same) ∙ is)

-- If two message files are spread, the path that a removal of `spot` touches spares `other`.
pub removed_spares : (spot other : SpotOf) → are_spread spot other ≡ true → IsSpared (spot.claimed ∷ []) other
removed_spares spot other is =
    let parts = spares_parts spot other (and_parts (spares spot other) (spares other spot) is).0 in
    spared_by spot.claimed [] other parts.1 (spared_by_none other)

-- If two message files are spread, the paths that are touched when `spot` is quarantined spare `other`.
quarantined_spares : (spot other : SpotOf) → are_spread spot other ≡ true → IsSpared (quarantined_paths spot) other
quarantined_spares spot other is =
    let parts = spares_parts spot other (and_parts (spares spot other) (spares other spot) is).0 in
    spared_by spot.reason (spot.claimed ∷ spot.quarantined ∷ []) other parts.0
    (spared_by spot.claimed (spot.quarantined ∷ []) other parts.1
    (spared_by spot.quarantined [] other parts.2 (spared_by_none other)))

-- Let two message files be spread, and have come under different names. Then the paths touched when `spot` is given
-- back spare `other`. `here` has the tests of the paths of `spot`, and `there` those of `other`.
back_spares : (spot other : SpotOf) → are_spread spot other ≡ true → bytes_eq spot.waiting other.waiting ≡ false →
    IsSpared (back_paths spot) other
back_spares spot other is name =
    let both = and_parts (spares spot other) (spares other spot) is in
    let here = spares_parts spot other both.0 in
    let there = spares_parts other spot both.1 in
    let claimed = none_of (paths_of spot) other.claimed there.1 in
    let quarantined = none_of (paths_of spot) other.quarantined there.2 in
    spared_by spot.claimed (spot.waiting ∷ []) other here.1 (record {
      claimed = (claimed.1.0, tt);
      waiting = (differ_by spot.waiting other.waiting name, tt);
      quarantined = (quarantined.1.0, tt);
    })

-- If a message file stays off the messages that ask, the paths of their keeper spare it.
kept_spares : (keeper : KeeperOf) (spot : SpotOf) → keeps_off keeper spot ≡ true → IsSpared (kept_paths keeper) spot
kept_spares keeper spot is =
    let parts = off_parts keeper spot is in
    spared_by keeper.temporary (keeper.path ∷ []) spot parts.1
    (spared_by keeper.path [] spot parts.0 (spared_by_none spot))

-- ---- the content of a file: it stays if no call touches its path

-- If all files are kept, the file `file`, which was made, has the bytes that it had.
kept_bytes : (old new : List File) (file : ℕ) → KeepsFiles old new → file < length old →
    bytes_of new (Some file) ≡ bytes_of old (Some file)
kept_bytes old new file kept made =
    let is = slice_get-get_or old file (record { bytes = []; is_flushed = false }) made in
    let now = kept file _ is in
    ap (option_map (λ (f : File). f.bytes)) now.1 ∙ ap Some now.2.bytes ∙ sym (ap (option_map (λ (f : File). f.bytes)) is)

-- If all files are kept, the file `found`, if there is one, has the bytes that it had.
found_bytes : (path : List ℕ) (d : Disk) (files : List File) (found : Option ℕ) →
    ((file : ℕ) → found ≡ Some file → file < length d.files) → KeepsFiles d.files files →
    bytes_of files found ≡ bytes_of d.files found
found_bytes path d files None made kept = refl
found_bytes path d files (Some file) made kept = kept_bytes d.files files file kept (made file refl)

-- If a call does not touch `path`, a read of it gives on a correct disk what it gave.
pub content_stays : (paths : List (List ℕ)) (path : List ℕ) (old new : DiskState) → IsNoneOf paths path →
    Touches paths old new → old.is_correct ≡ true → content path new.now ≡ content path old.now
content_stays paths path old new none touches h =
    let last = (touches.moments h).last in
    ap (bytes_of new.now.files) (last.now path none)
    ∙ found_bytes path old.now new.now.files (found_at path old.now.names)
    (λ file is. found_made old.now path file (touches.whole h) is) last.files

-- ---- the state of a run: lemmas on lists of places, and on calls that move one message file or none

-- Returns the state of a run with these message files, whose messages that ask are in the file of `asked`, by its
-- disk's state.
abbrev pub state_at : KeeperOf → List (Option SpotOf) → DiskState → RunState
state_at asked spots state = record {
  places = map (place_of state.now.names) spots;
  asked = bytes_in (content asked.path state.now);
  is_correct = state.is_correct;
}

-- If `found`, if it is a message file, has the same place in the names `old` and `new`, the places of `found` in both
-- are equal.
same_at : (old new : List Name) (found : Option (Option SpotOf)) →
    ((spot : SpotOf) → found ≡ Some (Some spot) → place_in new spot ≡ place_in old spot) →
    option_map (place_of new) found ≡ option_map (place_of old) found
same_at old new None stays = refl
same_at old new (Some None) stays = refl
same_at old new (Some (Some spot)) stays = ap Some (stays spot refl)

-- If `spot` is at `number` in the list of message files, its place is at `number` in the list of places.
place_there : (names : List Name) (spots : List (Option SpotOf)) (number : ℕ) (spot : SpotOf) →
    slice_get spots number ≡ Some (Some spot)
    → slice_get (map (place_of names) spots) number ≡ Some (place_in names spot)
place_there names spots number spot is =
    slice_get-map (place_of names) spots number ∙ ap (option_map (place_of names)) is

-- Let the message file come from `before` to `after`, and let these be the places `x` and `y` in the lists. Then
-- `ComesAt` holds of them.
comes_there : {A E : Type 0} (to : Place) (before after : Place) (x y : Option Place) (answer : Result A E) →
    x ≡ Some before → y ≡ Some after → Comes to before answer after → ComesAt to x answer y
comes_there to before after x y (Ok done) is_x is_y comes =
    is_y ∙ ap Some comes ∙ sym (ap (option_map (moved to)) is_x)
comes_there to before after x y (Err fault) is_x is_y comes = ⊎_elim
    (λ stays. inl (is_y ∙ ap Some stays ∙ sym is_x))
    (λ moves. inr (is_y ∙ ap Some moves ∙ sym (ap (option_map (moved to)) is_x))) comes

-- Let the message file come from `before` to `after`, or stay. If these are the places `x` and `y` in the lists,
-- `MayComeAt` holds of them.
may_come_there : (to : Place) (before after : Place) (x y : Option Place) → x ≡ Some before → y ≡ Some after →
    MayCome to before after → MayComeAt to x y
may_come_there to before after x y is_x is_y may = ⊎_elim
    (λ stays. inl (is_y ∙ ap Some stays ∙ sym is_x))
    (λ moves. inr (is_y ∙ ap Some moves ∙ sym (ap (option_map (moved to)) is_x))) may

-- Returns `found`, if it is a message file, and `other` if not.
abbrev pub found_spot : Option (Option SpotOf) → SpotOf → SpotOf
found_spot None other = other
found_spot (Some None) other = other
found_spot (Some (Some spot)) other = spot

-- A message file of which the run takes no care does not move.
unmoved : (to : Place) (names : List Name) (found : Option (Option SpotOf)) → ((spot : SpotOf) → found ≡ Some (Some spot) → ⊥) →
    option_map (place_of names) found ≡ option_map (moved to) (option_map (place_of names) found)
unmoved to names None none = refl
unmoved to names (Some None) none = refl
unmoved to names (Some (Some spot)) none = absurd (none spot refl)

-- If each message file has one place in `old` and `new`, the lists of places are equal.
same_map : (old new : List Name) (spots : List (Option SpotOf)) →
    ((number : ℕ) (spot : SpotOf) → slice_get spots number ≡ Some (Some spot) → place_in new spot ≡ place_in old spot)
    →
    map (place_of new) spots ≡ map (place_of old) spots
same_map old new [] stays = refl
same_map old new (None ∷ spots) stays =
    ap (λ (l : List Place). Waiting ∷ l) (same_map old new spots (λ number. stays (suc number)))
same_map old new (Some spot ∷ spots) stays =
    ap (λ (p : Place). p ∷ map (place_of new) spots) (stays zero spot refl)
    ∙ ap (λ (l : List Place). place_in old spot ∷ l) (same_map old new spots (λ number. stays (suc number)))

-- Let a file have `put`, or what it had, and let `put` have the messages `bytes`. Then `KeepsAsked` holds of a read.
kept_as : {A E : Type 0} (bytes : List ℕ) (put : Option (List ℕ)) (answer : Result A E) → bytes_in put ≡ bytes →
    (before after : Option (List ℕ)) → OnOk answer (after ≡ put) → (after ≡ before) ⊎ (after ≡ put) →
    KeepsAsked bytes (bytes_in before) answer (bytes_in after)
kept_as bytes put (Ok done) is before after on either = ap bytes_in on ∙ is
kept_as bytes put (Err fault) is before after on either = ⊎_elim
    (λ same. inl (ap bytes_in same)) (λ new. inr (ap bytes_in new ∙ is)) either

-- If a call fails and the message file is at the same place, `ComesAt` holds.
fails_at : {A E : Type 0} (to : Place) (before after : Option Place) (answer : Result A E) → IsErr answer → after ≡ before →
    ComesAt to before answer after
fails_at to before after (Ok done) is same = absurd (true≢false (sym is))
fails_at to before after (Err fault) is same = inl same

-- If nothing is done, a message file that was kept is kept.
same_kept : (spot : SpotOf) {a b : DiskState} → b ≡ a → StaysKept spot a b
same_kept spot {a = a} same = subst (λ (s : DiskState). StaysKept spot a s) (sym same) (λ h kept. kept)

-- If nothing is done, each message file survives.
pub same_survives : (spot : SpotOf) {a b : DiskState} → b ≡ a → Survives spot a b
same_survives spot {a = a} same = subst (λ (s : DiskState). Survives spot a s) (sym same) (survives_none spot a)

-- A call of a run leads its disk from `a` to `b`. The message files of the run are spread.
module _ (asked : KeeperOf) (spots : List (Option SpotOf)) (spread : IsSpread asked spots) (a b : DiskState) where
  -- Each message file of the numbers `which` has no path among `paths`.
  abbrev SparesOthers : (ℕ → Type 0) → List (List ℕ) → Type 0
  SparesOthers which paths =
      (other : ℕ) (spot : SpotOf) → which other → slice_get spots other ≡ Some (Some spot) → IsSpared paths spot

  -- Let a call touch only `paths`, which spare the message files of the numbers `which`. Then these message files have
  -- the same places in the lists before and after.
  spared_stay : (which : ℕ → Type 0) (paths : List (List ℕ)) → SparesOthers which paths → Touches paths a b →
      a.is_correct ≡ true → (other : ℕ) → which other →
      slice_get (state_at asked spots b).places other ≡ slice_get (state_at asked spots a).places other
  spared_stay which paths spared touches h other ok =
      slice_get-map (place_of b.now.names) spots other
      ∙ same_at a.now.names b.now.names (slice_get spots other)
      (λ spot is. place_stays paths spot a.now.names b.now.names (spared other spot ok is) (touches.moments h).last.now)
      ∙ sym (slice_get-map (place_of a.now.names) spots other)

  -- Let a call touch only paths that spare each message file but `number`, and the messages that ask. Then all
  -- but `number` stays.
  else_stays : (number : ℕ) (paths : List (List ℕ)) → SparesOthers (λ other. other ≡ number → ⊥) paths →
      IsNoneOf paths asked.path → Touches paths a b → a.is_correct ≡ true →
      IsElseSame number (state_at asked spots a) (state_at asked spots b)
  else_stays number paths spared off touches h = record {
    others = λ other differ. spared_stay (λ o. o ≡ number → ⊥) paths spared touches h other differ;
    asked = ap bytes_in (content_stays paths asked.path a b off touches h);
  }

  -- If the run takes no care of `number`, a call that is done and does nothing answers as `MovesInRun` says.
  pub nothing_moves : {A E : Type 0} (to : Place) (number : ℕ) (answer : Result A E) (value : A) → answer ≡ Ok value →
      ((spot : SpotOf) → slice_get spots number ≡ Some (Some spot) → ⊥) → b ≡ a →
      MovesInRun to number (state_at asked spots a) answer (state_at asked spots b)
  nothing_moves {A = A} {E = E} to number answer value is none same = record {
    here = λ h. subst (λ (r : Result A E). ComesAt to (slice_get (state_at asked spots a).places number) r
        (slice_get (state_at asked spots b).places number)) (sym is)
        (subst (λ (s : DiskState). slice_get (state_at asked spots s).places number
        ≡ option_map (moved to) (slice_get (state_at asked spots a).places number)) (sym same)
        (slice_get-map (place_of a.now.names) spots number ∙ unmoved to a.now.names (slice_get spots number) none
        ∙ sym (ap (option_map (moved to)) (slice_get-map (place_of a.now.names) spots number))));
    else_same = λ h. subst (λ (s : DiskState). IsElseSame number (state_at asked spots a) (state_at asked spots s))
        (sym same)
        (record { others = λ other differ. refl; asked = refl });
    correct = ap (λ (s : DiskState). s.is_correct) same;
  }

  -- If a call fails before it does anything, it answers as `MovesInRun` says.
  pub fails_to_move : {A E : Type 0} (to : Place) (number : ℕ) (answer : Result A E) → IsErr answer → b ≡ a →
      MovesInRun to number (state_at asked spots a) answer (state_at asked spots b)
  fails_to_move to number answer is same = record {
    here = λ h. fails_at to (slice_get (state_at asked spots a).places number)
        (slice_get (state_at asked spots b).places number) answer is
        (ap (λ (s : DiskState). slice_get (state_at asked spots s).places number) same);
    else_same = λ h. subst (λ (s : DiskState). IsElseSame number (state_at asked spots a) (state_at asked spots s))
        (sym same)
        (record { others = λ other differ. refl; asked = refl });
    correct = ap (λ (s : DiskState). s.is_correct) same;
  }

  -- If a call moves `number` to `to`, and touches only paths that spare all else, it answers as `MovesInRun`
  -- says.
  message_file_moves : {A E : Type 0} (to : Place) (number : ℕ) (spot : SpotOf) (paths : List (List ℕ))
      (answer : Result A E) →
      slice_get spots number ≡ Some (Some spot) → SparesOthers (λ other. other ≡ number → ⊥) paths →
      IsNoneOf paths asked.path → Touches paths a b →
      (a.is_correct ≡ true → Comes to (place_in a.now.names spot) answer (place_in b.now.names spot)) →
      MovesInRun to number (state_at asked spots a) answer (state_at asked spots b)
  message_file_moves to number spot paths answer is spared off touches comes = record {
    here = λ h. comes_there to (place_in a.now.names spot) (place_in b.now.names spot)
        (slice_get (state_at asked spots a).places number) (slice_get (state_at asked spots b).places number) answer
        (place_there a.now.names spots number spot is) (place_there b.now.names spots number spot is) (comes h);
    else_same = λ h. else_stays number paths spared off touches h;
    correct = touches.correct;
  }

  -- Let a call touch only `paths`, which spare the message files of the numbers `which`. Then these message files
  -- survive the call.
  spared_survive : (which : ℕ → Type 0) (paths : List (List ℕ)) → SparesOthers which paths → Touches paths a b →
      (other : ℕ) (spot : SpotOf) → which other → slice_get spots other ≡ Some (Some spot) → Survives spot a b
  spared_survive which paths spared touches other spot ok is =
      survives_touch paths spot a b (spared other spot ok is) touches

  -- If message file `number` survives a call, and the touched paths spare the others, each message file
  -- survives.
  all_survive : (number : ℕ) (own : SpotOf) (paths : List (List ℕ)) → slice_get spots number ≡ Some (Some own) →
      SparesOthers (λ other. other ≡ number → ⊥) paths → Touches paths a b → Survives own a b →
      (other : ℕ) (spot : SpotOf) → slice_get spots other ≡ Some (Some spot) → Survives spot a b
  all_survive number own paths is spared touches survives other spot at = ⊎_elim
      (λ same. subst (λ (s : SpotOf). Survives s a b)
      (ap (λ (o : Option (Option SpotOf)). found_spot o own)
      (sym is ∙ ap (slice_get spots) (sym same) ∙ at)) survives)
      (λ differ. spared_survive (λ o. o ≡ number → ⊥) paths spared touches other spot differ at)
      (cases_eq other number)

  -- Let the paths that `paths` gives of a message file spare each message file from which it is spread. Then the paths
  -- of message file `number` spare all other message files of the run.
  spread_spares : (paths : SpotOf → List (List ℕ)) →
      ((spot other : SpotOf) → are_spread spot other ≡ true → IsSpared (paths spot) other) → (number : ℕ) (spot : SpotOf) →
      slice_get spots number ≡ Some (Some spot) → SparesOthers (λ other. other ≡ number → ⊥) (paths spot)
  spread_spares paths spares number spot is other second differ at =
      spares spot second (spread.message_files number other spot second is at (λ same. differ (sym same)))

  -- Message file `number` of the run stays off the messages that ask (`off_parts`).
  off : (number : ℕ) (spot : SpotOf) → slice_get spots number ≡ Some (Some spot) →
      (misses asked.path spot ≡ true) × (misses asked.temporary spot ≡ true) × (bytes_eq spot.reason asked.path ≡ false)
  off number spot is = off_parts asked spot (spread.asked number spot is)

  -- No path at which the file of message file `number` may stand is the path of the messages that ask.
  off_three : (number : ℕ) (spot : SpotOf) → slice_get spots number ≡ Some (Some spot)
      → IsNoneOf (paths_of spot) asked.path
  off_three number spot is = none_of (paths_of spot) asked.path (off number spot is).0

  -- ---- the calls that remove a message file, quarantine it or give it back: what they answer, and that the message
  -- files survive

  -- Let a call remove message file `number`, if the run takes care of it. `found` is the message file, if
  -- there is one. Then the call answers as `MovesInRun` says.
  pub removes_in_run : {E : Type 0} (number : ℕ) (answer : Result (Unit {0}) E) (found : Option (Option SpotOf)) →
      slice_get spots number ≡ found → DoesAt (λ spot. RemovesMessageFile spot a answer b) (DoesNothing a answer b) found →
      MovesInRun Gone number (state_at asked spots a) answer (state_at asked spots b)
  removes_in_run number answer None is does = nothing_moves Gone number answer does.done.0 does.done.1
      (λ spot at. none-some (Some spot) (sym is ∙ at)) does.same
  removes_in_run number answer (Some None) is does = nothing_moves Gone number answer does.done.0 does.done.1
      (λ spot at. none-some spot (ap (value_or None) (sym is ∙ at))) does.same
  removes_in_run number answer (Some (Some spot)) is does =
      message_file_moves Gone number spot (spot.claimed ∷ []) answer is
      (spread_spares (λ s. s.claimed ∷ []) removed_spares number spot is)
      ((off_three number spot is).0, tt) does.touches does.comes

  -- Each message file of the run but `number` survives a call that removes message file `number`, if
  -- the run takes care of it.
  pub others_survive : {E : Type 0} (number : ℕ) (answer : Result (Unit {0}) E) (found : Option (Option SpotOf)) →
      slice_get spots number ≡ found → DoesAt (λ spot. RemovesMessageFile spot a answer b) (DoesNothing a answer b) found →
      (other : ℕ) (spot : SpotOf) → (other ≡ number → ⊥) → slice_get spots other ≡ Some (Some spot) → Survives spot a b
  others_survive number answer None is does other spot differ at = same_survives spot does.same
  others_survive number answer (Some None) is does other spot differ at = same_survives spot does.same
  others_survive number answer (Some (Some own)) is does other spot differ at =
      spared_survive (λ o. o ≡ number → ⊥) (own.claimed ∷ [])
      (spread_spares (λ s. s.claimed ∷ []) removed_spares number own is) does.touches other spot differ at

  -- If a message file is spared by the paths that a call touches, and was kept before, it is kept.
  spared_kept : (paths : List (List ℕ)) (spot : SpotOf) → IsSpared paths spot → Touches paths a b → StaysKept spot a b
  spared_kept paths spot spared touches h kept = ⊎_elim
      (λ gone. inl (place_stays paths spot a.now.names b.now.names spared (touches.moments h).last.now ∙ gone))
      (λ outlasts. inr (survives_touch paths spot a b spared touches h outlasts).last) kept

  -- Each message file that is kept before a call that removes message file `number` is kept after it.
  pub removal_keeps : {E : Type 0} (number : ℕ) (answer : Result (Unit {0}) E) (found : Option (Option SpotOf)) →
      slice_get spots number ≡ found → DoesAt (λ spot. RemovesMessageFile spot a answer b) (DoesNothing a answer b) found →
      AllStayKept spots a b
  removal_keeps number answer None is does other spot at = same_kept spot does.same
  removal_keeps number answer (Some None) is does other spot at = same_kept spot does.same
  removal_keeps number answer (Some (Some own)) is does other spot at = ⊎_elim
      (λ same. subst (λ (s : SpotOf). StaysKept s a b)
      (ap (λ (o : Option (Option SpotOf)). found_spot o own)
      (sym is ∙ ap (slice_get spots) (sym same) ∙ at)) does.kept)
      (λ differ. spared_kept (own.claimed ∷ []) spot
      (spread_spares (λ s. s.claimed ∷ []) removed_spares number own is other spot differ at) does.touches)
      (cases_eq other number)

  -- Let a call quarantine message file `number`, if the run takes care of it. `found` is the message file, if
  -- there is one. Then the call answers as `MovesInRun` says.
  pub quarantined_in_run : {E : Type 0} (number : ℕ) (answer : Result (Unit {0}) E) (found : Option (Option SpotOf)) →
      slice_get spots number ≡ found
      → DoesAt (λ spot. QuarantinesMessageFile spot a answer b) (DoesNothing a answer b) found →
      MovesInRun Quarantined number (state_at asked spots a) answer (state_at asked spots b)
  quarantined_in_run number answer None is does = nothing_moves Quarantined number answer does.done.0 does.done.1
      (λ spot at. none-some (Some spot) (sym is ∙ at)) does.same
  quarantined_in_run number answer (Some None) is does =
      nothing_moves Quarantined number answer does.done.0 does.done.1
      (λ spot at. none-some spot (ap (value_or None) (sym is ∙ at))) does.same
  quarantined_in_run number answer (Some (Some spot)) is does =
      message_file_moves Quarantined number spot (quarantined_paths spot) answer is
      (spread_spares quarantined_paths quarantined_spares number spot is) (
        differ_by spot.reason asked.path (off number spot is).2,
        ((off_three number spot is).0, ((off_three number spot is).1.1.0, tt)),
      ) does.touches does.comes

  -- Each message file of the run survives a call that quarantines message file `number`, if the run takes
  -- care of it.
  pub quarantined_survive : {E : Type 0} (number : ℕ) (answer : Result (Unit {0}) E) (found : Option (Option SpotOf)) →
      slice_get spots number ≡ found
      → DoesAt (λ spot. QuarantinesMessageFile spot a answer b) (DoesNothing a answer b) found →
      (other : ℕ) (spot : SpotOf) → slice_get spots other ≡ Some (Some spot) → Survives spot a b
  quarantined_survive number answer None is does other spot at = same_survives spot does.same
  quarantined_survive number answer (Some None) is does other spot at = same_survives spot does.same
  quarantined_survive number answer (Some (Some own)) is does other spot at =
      all_survive number own (quarantined_paths own) is
      (spread_spares quarantined_paths quarantined_spares number own is) does.touches
      does.survives other spot at

  -- If each other message file has come under another name, the paths touched when `own` is given back spare the
  -- others.
  alone_spares : (number : ℕ) (own : SpotOf) → slice_get spots number ≡ Some (Some own)
      → HasComeAlone spots number own.waiting →
      SparesOthers (λ other. other ≡ number → ⊥) (back_paths own)
  alone_spares number own is alone other second differ at =
      back_spares own second (spread.message_files number other own second is at (λ same. differ (sym same)))
      (alone other (Some second) differ at)

  -- A call does nothing, or gives `spot`, message file `number`, back. In the second case each other message
  -- file has come under another name.
  abbrev pub GivesOrLeaves : ℕ → SpotOf → Type 0
  GivesOrLeaves number spot = (b ≡ a) ⊎ (HasComeAlone spots number spot.waiting × GivesMessageFileBack spot a b)

  -- If nothing is done, the call answers as `GivesBackInRun` says.
  nothing_given : (number : ℕ) → b ≡ a → GivesBackInRun number (state_at asked spots a) (state_at asked spots b)
  nothing_given number same = record {
    here = λ h. inl (ap (λ (s : DiskState). slice_get (state_at asked spots s).places number) same);
    else_same = λ h. subst (λ (s : DiskState). IsElseSame number (state_at asked spots a) (state_at asked spots s))
        (sym same)
        (record { others = λ other differ. refl; asked = refl });
    correct = ap (λ (s : DiskState). s.is_correct) same;
  }

  -- If a call gives message file `number` back, or leaves it, it answers as `GivesBackInRun` says.
  message_file_given : (number : ℕ) (spot : SpotOf) → slice_get spots number ≡ Some (Some spot)
      → GivesOrLeaves number spot →
      GivesBackInRun number (state_at asked spots a) (state_at asked spots b)
  message_file_given number spot is (inl same) = nothing_given number same
  message_file_given number spot is (inr given) = record {
    here = λ h. may_come_there Waiting (place_in a.now.names spot) (place_in b.now.names spot)
        (slice_get (state_at asked spots a).places number) (slice_get (state_at asked spots b).places number)
        (place_there a.now.names spots number spot is) (place_there b.now.names spots number spot is)
        (given.1.comes h);
    else_same = λ h. else_stays number (back_paths spot) (alone_spares number spot is given.0)
        ((off_three number spot is).0, ((off_three number spot is).1.0, tt)) given.1.touches h;
    correct = given.1.touches.correct;
  }

  -- Let a call give message file `number` back or leave it, if the run takes care of it. `found` is the
  -- message file, if there is one. Then the call answers as `GivesBackInRun` says.
  pub given_in_run : {E : Type 0} (number : ℕ) (answer : Result (Unit {0}) E) (found : Option (Option SpotOf)) →
      slice_get spots number ≡ found → DoesAt (GivesOrLeaves number) (DoesNothing a answer b) found →
      GivesBackInRun number (state_at asked spots a) (state_at asked spots b)
  given_in_run number answer None is does = nothing_given number does.same
  given_in_run number answer (Some None) is does = nothing_given number does.same
  given_in_run number answer (Some (Some spot)) is does = message_file_given number spot is does

  -- Each message file of the run survives a call that gives `own`, message file `number`, back or leaves it.
  given_survive_one : (number : ℕ) (own : SpotOf) → slice_get spots number ≡ Some (Some own)
      → GivesOrLeaves number own →
      (other : ℕ) (spot : SpotOf) → slice_get spots other ≡ Some (Some spot) → Survives spot a b
  given_survive_one number own is (inl same) other spot at = same_survives spot same
  given_survive_one number own is (inr given) other spot at =
      all_survive number own (back_paths own) is (alone_spares number own is given.0) given.1.touches given.1.survives
      other
      spot at

  -- Each message file of the run survives a call that gives message file `number` back or leaves it, if the
  -- run takes care of it.
  pub given_survive : {E : Type 0} (number : ℕ) (answer : Result (Unit {0}) E) (found : Option (Option SpotOf)) →
      slice_get spots number ≡ found → DoesAt (GivesOrLeaves number) (DoesNothing a answer b) found →
      (other : ℕ) (spot : SpotOf) → slice_get spots other ≡ Some (Some spot) → Survives spot a b
  given_survive number answer None is does other spot at = same_survives spot does.same
  given_survive number answer (Some None) is does other spot at = same_survives spot does.same
  given_survive number answer (Some (Some own)) is does other spot at =
      given_survive_one number own is does other spot at

  -- ---- the call that keeps messages that ask: what it answers, and that the message files stay and survive

  -- The paths of the messages that ask spare each message file.
  asked_spares : SparesOthers (λ other. Unit {0}) (kept_paths asked)
  asked_spares other spot ok at = kept_spares asked spot (spread.asked other spot at)

  -- Each message file stays at its place while messages that ask are kept.
  asked_places : Touches (kept_paths asked) a b → a.is_correct ≡ true →
      (state_at asked spots b).places ≡ (state_at asked spots a).places
  asked_places touches h = same_map a.now.names b.now.names spots
      (λ number spot at. place_stays (kept_paths asked) spot a.now.names b.now.names
      (asked_spares number spot tt at) (touches.moments h).last.now)

  -- If a call puts the messages `bytes` into their file, it answers as `KeepsInRun` says.
  pub keeps_in_run : {E : Type 0} (bytes : List ℕ) (put : Option (List ℕ)) (answer : Result (Unit {0}) E) →
      bytes_in put ≡ bytes → PutsFile asked put a answer b →
      KeepsInRun bytes (state_at asked spots a) answer (state_at asked spots b)
  keeps_in_run bytes put answer is puts = record {
    here = λ h. kept_as bytes put answer is (content asked.path a.now) (content asked.path b.now) (puts.done h)
        (puts.either h);
    places = λ h. asked_places puts.touches h;
    correct = puts.touches.correct;
  }

  -- Each message file survives while messages that ask are kept.
  pub keeps_survive : Touches (kept_paths asked) a b → (other : ℕ) (spot : SpotOf) →
      slice_get spots other ≡ Some (Some spot) → Survives spot a b
  keeps_survive touches other spot at =
      spared_survive (λ o. Unit {0}) (kept_paths asked) asked_spares touches other spot tt at

-- ---- lemmas on lists: an empty one, and equal lists of message files

-- A list of length 0 is empty.
pub empty_is : (bytes : List ℕ) → (length bytes == 0) ≡ true → [] ≡ bytes
empty_is [] is = refl
empty_is (byte ∷ bytes) is = absurd (omega (arith, eqb-true (length (byte ∷ bytes)) 0 is))

-- Let the lists of message files `l` and `m` be equal. If a call does as `GivesOrLeaves` says in a run with the message
-- files `l`, it does so with `m`.
pub given_at : {E : Type 0} (l m : List (Option SpotOf)) (a b : DiskState) (number : ℕ) (found : Option (Option SpotOf))
    (answer : Result (Unit {0}) E) → l ≡ m →
    DoesAt (λ spot. (b ≡ a) ⊎ (HasComeAlone l number spot.waiting × GivesMessageFileBack spot a b)) (DoesNothing a answer b)
    found →
    DoesAt (λ spot. (b ≡ a) ⊎ (HasComeAlone m number spot.waiting × GivesMessageFileBack spot a b)) (DoesNothing a answer b)
    found
given_at l m a b number found answer same does =
    subst (λ (k : List (Option SpotOf)).
    DoesAt (λ spot. (b ≡ a) ⊎ (HasComeAlone k number spot.waiting × GivesMessageFileBack spot a b))
    (DoesNothing a answer b) found) same does
