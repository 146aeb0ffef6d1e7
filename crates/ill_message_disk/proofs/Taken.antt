-- The sets of the paths of a run tell if a message file is spread from all message files of it.
use Rattle.std.proofs.Common.{◌≡◌, refl, sym, ◌∙◌, ap, subst, ℕ, Bool, true, false, not, ◌&&◌, ◌||◌, if◌then◌else◌, List, []}
use Rattle.std.proofs.Common.{⊎_elim, zero, suc, slice_get}
use Rattle.std.proofs.Common.{◌∷◌, ◌++◌, map, Option, Some, None, IfSome, Result, Ok, Err, OnOk, bytes_eq, Vec, Global}
use Rattle.std.proofs.lemmas.Option.{none-some}
use Rattle.std.specs.List.{list_any}
use Rattle.ill_disk.proofs.Memory.{value_or}
use Rattle.ill_message_disk.proofs.Adding.{last_or}
use Rattle.indexmap.specs.IndexSet.{insert_key}
use Rattle.std.proofs.lemmas.Bool.{and_parts, and_from, true≢false, not-true}
use Rattle.std.proofs.lemmas.Slice.Eq.{bytes_eq-Decides}
use Rattle.ill_message_disk.specs.Touches.{IsNoneOf}
use Rattle.ill_message_disk.specs.Spots.{SpotOf, quarantined_paths, is_none_of, paths_of}
use Rattle.ill_message_disk.specs.Runs.{HasComeAlone, has_come_as, is_spread_from, is_spread_from_all, misses}
use Rattle.ill_message_disk.specs.TakenPaths.{TakenOf, AreKnown, AreTaken, GetsPath, GetsPaths, IsOnce, is_free}
use Rattle.ill_message_disk.specs.TakenPaths.{is_same_path}
use Rattle.ill_message_disk.specs.TakenPaths.{misses_message_file, misses_message_files}
use Rattle.ill_message_disk.proofs.Apart.{none_of}

-- If each of two tests passes when the other does, they are equal.
same_test : (one other : Bool) → (one ≡ true → other ≡ true) → (other ≡ true → one ≡ true) → one ≡ other
same_test true other there back = sym (there refl)
same_test false true there back = back refl
same_test false false there back = refl

-- If a test cannot pass, it fails.
fails : (test : Bool) → (test ≡ true → ⊥) → not test ≡ true
fails true never = absurd (never refl)
fails false never = refl

-- If `path` is none of `paths`, `is_none_of` returns true.
tested : (paths : List (List ℕ)) (path : List ℕ) → IsNoneOf paths path → is_none_of paths path ≡ true
tested [] path none = refl
tested (other ∷ paths) path none =
    and_from (not (bytes_eq other path)) (is_none_of paths path)
    (fails (bytes_eq other path) (λ is. none.0 ((bytes_eq-Decides other path).0 is))) (tested paths path none.1)

-- ---- a set of paths: a search in it, and a key that is put into it

-- `bytes_eq` gives the same in either order of two paths.
same_bytes : (one other : List ℕ) → bytes_eq one other ≡ bytes_eq other one
same_bytes one other =
    same_test (bytes_eq one other) (bytes_eq other one)
    (λ is. (bytes_eq-Decides other one).1 (sym ((bytes_eq-Decides one other).0 is)))
    (λ is. (bytes_eq-Decides one other).1 (sym ((bytes_eq-Decides other one).0 is)))

-- Returns the bytes of paths.
abbrev bytes_all : List (Vec ℕ Global) → List (List ℕ)
bytes_all keys = map (λ key. key.items) keys

-- A search of a set finds no key equal to `path` if, and only if, `is_none_of` says so.
pub lacks_all : (path : List ℕ) (keys : List (Vec ℕ Global)) →
    not (list_any (λ key. bytes_eq path key.items) keys) ≡ is_none_of (bytes_all keys) path
lacks_all path [] = refl
lacks_all path (key ∷ keys) =
    nor (bytes_eq path key.items) (list_any (λ key. bytes_eq path key.items) keys)
    ∙ ap (λ test. not test && not (list_any (λ key. bytes_eq path key.items) keys)) (same_bytes path key.items)
    ∙ ap (λ rest. not (bytes_eq key.items path) && rest) (lacks_all path keys)
  where
    -- Not one of two tests passes if both fail.
    nor : (a b : Bool) → not (a || b) ≡ (not a && not b)
    nor true b = refl
    nor false b = refl

-- `is_none_of` gives the same with a key at the end of the keys or at their beginning.
last_key : (keys : List (Vec ℕ Global)) (key : Vec ℕ Global) (path : List ℕ) →
    is_none_of (bytes_all (keys ++ key ∷ [])) path ≡ is_none_of (key.items ∷ bytes_all keys) path
last_key [] key path = refl
last_key (first ∷ keys) key path =
    ap (λ rest. not (bytes_eq first.items path) && rest) (last_key keys key path)
    ∙ turn (not (bytes_eq first.items path)) (not (bytes_eq key.items path)) (is_none_of (bytes_all keys) path)
  where
    -- Two tests may change places.
    turn : (a b c : Bool) → (a && (b && c)) ≡ (b && (a && c))
    turn true true c = refl
    turn true false c = refl
    turn false true c = refl
    turn false false c = refl

-- A set into which a key is inserted has got its path.
module _ (keys : List (Vec ℕ Global)) (key : Vec ℕ Global) where
  -- If `keys` have the key before it is inserted, they have its path as they are.
  there : list_any (is_same_path key) keys ≡ true → GetsPath key.items (bytes_all keys) (bytes_all keys)
  there is other = by (bytes_eq key.items other) refl
    where
      -- By cases of `test`, which says if `other` is the path of the key.
      by : (test : Bool) → bytes_eq key.items other ≡ test →
          is_none_of (bytes_all keys) other ≡ (not (bytes_eq key.items other) && is_none_of (bytes_all keys) other)
      by true equal =
          ap (is_none_of (bytes_all keys)) (sym ((bytes_eq-Decides key.items other).0 equal))
          ∙ sym (lacks_all key.items keys) ∙ ap not is
          ∙ sym (ap (λ test. not test && is_none_of (bytes_all keys) other) equal)
      by false equal = sym (ap (λ test. not test && is_none_of (bytes_all keys) other) equal)

  -- After `insert_key` the set has got the path of the key, whether `keys` had it before or not.
  gets : (new : List (Vec ℕ Global)) → new ≡ insert_key is_same_path keys key →
      GetsPath key.items (bytes_all keys) (bytes_all new)
  gets new is = by (list_any (is_same_path key) keys) refl
    where
      -- By cases of `test`, which is true if `keys` had the key before.
      by : (test : Bool) → list_any (is_same_path key) keys ≡ test → GetsPath key.items (bytes_all keys) (bytes_all new)
      by true found = subst (λ (l : List (Vec ℕ Global)). GetsPath key.items (bytes_all keys) (bytes_all l))
          (sym (is ∙ ap (λ (test : Bool). if test then keys else keys ++ key ∷ []) found)) (there found)
      by false found = subst (λ (l : List (Vec ℕ Global)). GetsPath key.items (bytes_all keys) (bytes_all l))
          (sym (is ∙ ap (λ (test : Bool). if test then keys else keys ++ key ∷ []) found)) (last_key keys key)

-- If a call has put a key into a set, the set has got its path.
pub key_put : {A E : Type 0} (answer : Result A E) (keys new : List (Vec ℕ Global)) (key : Vec ℕ Global) (path : List ℕ)
    (old : List (List ℕ)) → key.items ≡ path → bytes_all keys ≡ old →
    OnOk answer (new ≡ insert_key is_same_path keys key) → OnOk answer (GetsPath path old (bytes_all new))
key_put (Ok done) keys new key path old bytes same put =
    subst (λ (l : List (List ℕ)). GetsPath path l (bytes_all new)) same
    (subst (λ (p : List ℕ). GetsPath p (bytes_all keys) (bytes_all new)) bytes (gets keys key new put))
key_put (Err fault) keys new key path old bytes same put = tt

-- ---- one other message file: a message file is spread from it if, and only if, six tests pass

-- Six tests pass. Below, three are of the paths that a message file leaves or takes, and three of the paths at which
-- its file may stand.
record AllSix (a b c d e f : Bool) : Type 0 where
  first : a ≡ true
  second : b ≡ true
  third : c ≡ true
  fourth : d ≡ true
  fifth : e ≡ true
  sixth : f ≡ true

-- If the six tests together are true, each passes.
each_of_six : (a b c d e f : Bool) → ((a && b && c) && (d && e && f)) ≡ true → AllSix a b c d e f
each_of_six a b c d e f is =
    let halves = and_parts (a && b && c) (d && e && f) is in
    let one = and_parts (a && b) c halves.0 in
    let two = and_parts (d && e) f halves.1 in
    let three = and_parts a b one.0 in
    let four = and_parts d e two.0 in record {
      first = three.0;
      second = three.1;
      third = one.1;
      fourth = four.0;
      fifth = four.1;
      sixth = two.1;
    }

-- If each of six tests passes, they are true together.
all_six : (a b c d e f : Bool) → AllSix a b c d e f → ((a && b && c) && (d && e && f)) ≡ true
all_six a b c d e f are =
    and_from (a && b && c) (d && e && f)
    (and_from (a && b) c (and_from a b are.first are.second) are.third)
    (and_from (d && e) f (and_from d e are.fourth are.fifth) are.sixth)

-- If `a`, `b` and `c` are none of `d`, `e` and `f`, the latter three are none of the first.
module _ (a b c d e f : List ℕ) where
  turned : IsNoneOf (d ∷ e ∷ f ∷ []) a → IsNoneOf (d ∷ e ∷ f ∷ []) b → IsNoneOf (d ∷ e ∷ f ∷ []) c →
      IsNoneOf (a ∷ b ∷ c ∷ []) d × IsNoneOf (a ∷ b ∷ c ∷ []) e × IsNoneOf (a ∷ b ∷ c ∷ []) f
  turned one two three = (
    (λ is. one.0 (sym is), (λ is. two.0 (sym is), (λ is. three.0 (sym is), tt))),
    (λ is. one.1.0 (sym is), (λ is. two.1.0 (sym is), (λ is. three.1.0 (sym is), tt))),
    (λ is. one.1.1.0 (sym is), (λ is. two.1.1.0 (sym is), (λ is. three.1.1.0 (sym is), tt))),
  )

module _ (spot other : SpotOf) where
  -- The six tests of `spot` beside `other` pass. The file of `other` may stand at no path that `spot` leaves or takes.
  -- The file of `spot` may stand at no path that `other` leaves or takes.
  abbrev PassesBeside : Type 0
  PassesBeside = AllSix (misses spot.reason other) (misses spot.claimed other) (misses spot.quarantined other)
      (is_none_of (quarantined_paths other) spot.claimed) (is_none_of (quarantined_paths other) spot.waiting)
      (is_none_of (quarantined_paths other) spot.quarantined)

  -- A message file that is spread from another passes the six tests.
  spread_clears : is_spread_from spot (Some other) ≡ true → PassesBeside
  spread_clears is =
      let are = each_of_six (misses spot.reason other) (misses spot.claimed other) (misses spot.quarantined other)
      (misses other.reason spot) (misses other.claimed spot) (misses other.quarantined spot) is in
      let back = turned other.reason other.claimed other.quarantined spot.claimed spot.waiting spot.quarantined
      (none_of (paths_of spot) other.reason are.fourth) (none_of (paths_of spot) other.claimed are.fifth)
      (none_of (paths_of spot) other.quarantined are.sixth) in record {
        first = are.first;
        second = are.second;
        third = are.third;
        fourth = tested (quarantined_paths other) spot.claimed back.0;
        fifth = tested (quarantined_paths other) spot.waiting back.1;
        sixth = tested (quarantined_paths other) spot.quarantined back.2;
      }

  -- A message file that passes the six tests is spread from the other.
  clear_spreads : PassesBeside → is_spread_from spot (Some other) ≡ true
  clear_spreads are =
      let back = turned spot.claimed spot.waiting spot.quarantined other.reason other.claimed other.quarantined
      (none_of (quarantined_paths other) spot.claimed are.fourth) (none_of (quarantined_paths other) spot.waiting are.fifth)
      (none_of (quarantined_paths other) spot.quarantined are.sixth) in
      all_six (misses spot.reason other) (misses spot.claimed other) (misses spot.quarantined other)
      (misses other.reason spot) (misses other.claimed spot) (misses other.quarantined spot) record {
        first = are.first;
        second = are.second;
        third = are.third;
        fourth = tested (paths_of spot) other.reason back.0;
        fifth = tested (paths_of spot) other.claimed back.1;
        sixth = tested (paths_of spot) other.quarantined back.2;
      }

-- ---- all message files of a run: a message file is spread from them if, and only if, it is free by the sets

-- The six tests of `spot` beside each message file of `spots` pass (`PassesBeside`).
abbrev PassesBesideAll : SpotOf → List (Option SpotOf) → Type 0
PassesBesideAll spot spots = AllSix (misses_message_files paths_of spots spot.reason)
    (misses_message_files paths_of spots spot.claimed)
    (misses_message_files paths_of spots spot.quarantined) (misses_message_files quarantined_paths spots spot.claimed)
    (misses_message_files quarantined_paths spots spot.waiting) (misses_message_files quarantined_paths spots spot.quarantined)

-- The six tests of `spot` beside `x` pass, or `x` is None.
abbrev PassesBesideIfAny : SpotOf → Option SpotOf → Type 0
PassesBesideIfAny spot x = AllSix (misses_message_file paths_of spot.reason x) (misses_message_file paths_of spot.claimed x)
    (misses_message_file paths_of spot.quarantined x) (misses_message_file quarantined_paths spot.claimed x)
    (misses_message_file quarantined_paths spot.waiting x) (misses_message_file quarantined_paths spot.quarantined x)

-- A message file that is spread from `x`, or for which `x` is None, passes the six tests beside `x`.
one_clears : (spot : SpotOf) (x : Option SpotOf) → is_spread_from spot x ≡ true → PassesBesideIfAny spot x
one_clears spot None is = record { first = refl; second = refl; third = refl; fourth = refl; fifth = refl; sixth = refl }
one_clears spot (Some other) is = spread_clears spot other is

-- A message file that passes the six tests beside `x` is spread from `x`.
one_spreads : (spot : SpotOf) (x : Option SpotOf) → PassesBesideIfAny spot x → is_spread_from spot x ≡ true
one_spreads spot None are = refl
one_spreads spot (Some other) are = clear_spreads spot other are

-- A message file that is spread from all passes the six tests.
all_clear : (spot : SpotOf) (spots : List (Option SpotOf)) → is_spread_from_all spot spots ≡ true → PassesBesideAll spot spots
all_clear spot [] is = record { first = refl; second = refl; third = refl; fourth = refl; fifth = refl; sixth = refl }
all_clear spot (x ∷ spots) is =
    let parts = and_parts (is_spread_from spot x) (is_spread_from_all spot spots) is in
    let one = one_clears spot x parts.0 in
    let rest = all_clear spot spots parts.1 in record {
      first = and_from (misses_message_file paths_of spot.reason x) (misses_message_files paths_of spots spot.reason) one.first
          rest.first;
      second = and_from (misses_message_file paths_of spot.claimed x) (misses_message_files paths_of spots spot.claimed)
          one.second
          rest.second;
      third = and_from (misses_message_file paths_of spot.quarantined x) (misses_message_files paths_of spots spot.quarantined)
          one.third rest.third;
      fourth = and_from (misses_message_file quarantined_paths spot.claimed x)
          (misses_message_files quarantined_paths spots spot.claimed) one.fourth
          rest.fourth;
      fifth = and_from (misses_message_file quarantined_paths spot.waiting x)
          (misses_message_files quarantined_paths spots spot.waiting) one.fifth
          rest.fifth;
      sixth = and_from (misses_message_file quarantined_paths spot.quarantined x)
          (misses_message_files quarantined_paths spots spot.quarantined) one.sixth rest.sixth;
    }

-- A message file that passes the six tests is spread from all.
clear_of_all : (spot : SpotOf) (spots : List (Option SpotOf)) → PassesBesideAll spot spots → is_spread_from_all spot spots ≡ true
clear_of_all spot [] are = refl
clear_of_all spot (x ∷ spots) are =
    let a = and_parts (misses_message_file paths_of spot.reason x) (misses_message_files paths_of spots spot.reason) are.first in
    let b = and_parts (misses_message_file paths_of spot.claimed x) (misses_message_files paths_of spots spot.claimed)
    are.second in
    let c = and_parts (misses_message_file paths_of spot.quarantined x) (misses_message_files paths_of spots spot.quarantined)
    are.third in
    let d = and_parts (misses_message_file quarantined_paths spot.claimed x)
    (misses_message_files quarantined_paths spots spot.claimed) are.fourth in
    let e = and_parts (misses_message_file quarantined_paths spot.waiting x)
    (misses_message_files quarantined_paths spots spot.waiting) are.fifth in
    let f = and_parts (misses_message_file quarantined_paths spot.quarantined x)
    (misses_message_files quarantined_paths spots spot.quarantined) are.sixth in
    and_from (is_spread_from spot x) (is_spread_from_all spot spots)
    (one_spreads spot x record {
      first = a.0;
      second = b.0;
      third = c.0;
      fourth = d.0;
      fifth = e.0;
      sixth = f.0;
    })
    (clear_of_all spot spots record {
      first = a.1;
      second = b.1;
      third = c.1;
      fourth = d.1;
      fifth = e.1;
      sixth = f.1;
    })

-- Let the sets `taken` have the paths of the message files `spots`. A message file is tested by the sets as by all
-- these message files.
module _ (taken : TakenOf) (spots : List (Option SpotOf)) (are : AreTaken taken spots) (spot : SpotOf) where
  -- A message file that is free by the sets is spread from all.
  free_spreads : is_free taken spot ≡ true → is_spread_from_all spot spots ≡ true
  free_spreads is =
      let tests = each_of_six (is_none_of taken.places spot.reason) (is_none_of taken.places spot.claimed)
      (is_none_of taken.places spot.quarantined) (is_none_of taken.moves spot.claimed) (is_none_of taken.moves spot.waiting)
      (is_none_of taken.moves spot.quarantined) is in
      clear_of_all spot spots record {
        first = sym (are.places spot.reason) ∙ tests.first;
        second = sym (are.places spot.claimed) ∙ tests.second;
        third = sym (are.places spot.quarantined) ∙ tests.third;
        fourth = sym (are.moves spot.claimed) ∙ tests.fourth;
        fifth = sym (are.moves spot.waiting) ∙ tests.fifth;
        sixth = sym (are.moves spot.quarantined) ∙ tests.sixth;
      }

  -- A message file that is spread from all is free by the sets.
  spread_frees : is_spread_from_all spot spots ≡ true → is_free taken spot ≡ true
  spread_frees is =
      let rest = all_clear spot spots is in
      all_six (is_none_of taken.places spot.reason) (is_none_of taken.places spot.claimed)
      (is_none_of taken.places spot.quarantined) (is_none_of taken.moves spot.claimed) (is_none_of taken.moves spot.waiting)
      (is_none_of taken.moves spot.quarantined) record {
        first = are.places spot.reason ∙ rest.first;
        second = are.places spot.claimed ∙ rest.second;
        third = are.places spot.quarantined ∙ rest.third;
        fourth = are.moves spot.claimed ∙ rest.fourth;
        fifth = are.moves spot.waiting ∙ rest.fifth;
        sixth = are.moves spot.quarantined ∙ rest.sixth;
      }

  -- The sets tell if a message file is spread from all.
  pub free_is_spread : is_free taken spot ≡ is_spread_from_all spot spots
  free_is_spread = same_test (is_free taken spot) (is_spread_from_all spot spots) free_spreads spread_frees

-- ---- one more message file: the sets with its paths, and what the sets then tell of a message file and of its name

-- A path that is tested against `spots`, and then against `x`, may be tested against `x` first.
last_first : (of : SpotOf → List (List ℕ)) (path : List ℕ) (spots : List (Option SpotOf)) (x : Option SpotOf) →
    misses_message_files of (spots ++ x ∷ []) path ≡ (misses_message_file of path x && misses_message_files of spots path)
last_first of path [] x = refl
last_first of path (y ∷ spots) x =
    ap (λ rest. misses_message_file of path y && rest) (last_first of path spots x)
    ∙ swapped (misses_message_file of path y) (misses_message_file of path x) (misses_message_files of spots path)
  where
    -- Two tests may change places.
    swapped : (a b c : Bool) → (a && (b && c)) ≡ (b && (a && c))
    swapped true true c = refl
    swapped true false c = refl
    swapped false true c = refl
    swapped false false c = refl

-- A path is tested against three paths and `rest` as against the three, and then against `rest`.
split : (one two three path : List ℕ) (rest : List (List ℕ)) → is_none_of (one ∷ two ∷ three ∷ rest) path
    ≡ (is_none_of (one ∷ two ∷ three ∷ []) path && is_none_of rest path)
split one two three path rest =
    apart (not (bytes_eq one path)) (not (bytes_eq two path)) (not (bytes_eq three path)) (is_none_of rest path)
  where
    -- Four tests together are three of them, and then the fourth.
    apart : (a b c d : Bool) → (a && (b && (c && d))) ≡ ((a && (b && (c && true))) && d)
    apart true true true d = refl
    apart true true false d = refl
    apart true false c d = refl
    apart false b c d = refl

-- A path that misses all message files misses each.
misses_each : (of : SpotOf → List (List ℕ)) (path : List ℕ) (spots : List (Option SpotOf)) (i : ℕ) (spot : SpotOf) →
    misses_message_files of spots path ≡ true → slice_get spots i ≡ Some (Some spot) → is_none_of (of spot) path ≡ true
misses_each of path [] i spot misses is = absurd (none-some (Some spot) is)
misses_each of path (x ∷ spots) zero spot misses is =
    subst (λ (o : Option SpotOf). misses_message_file of path o ≡ true) (ap (value_or x) is)
    (and_parts (misses_message_file of path x) (misses_message_files of spots path) misses).0
misses_each of path (x ∷ spots) (suc i) spot misses is =
    misses_each of path spots i spot (and_parts (misses_message_file of path x) (misses_message_files of spots path) misses).1 is

-- If the path at which `mine` would wait is not among the places of the sets, no message file of the run waits at this
-- path.
none_waits : (taken : TakenOf) (spots : List (Option SpotOf)) → AreTaken taken spots → (mine spot : SpotOf) (i : ℕ) →
    is_none_of taken.places mine.waiting ≡ true → slice_get spots i ≡ Some (Some spot) → spot.waiting ≡ mine.waiting → ⊥
none_waits taken spots are mine spot i lacks is same =
    (none_of (paths_of spot) mine.waiting
    (misses_each paths_of mine.waiting spots i spot (sym (are.places mine.waiting) ∙ lacks) is)).1.0 same

-- If a path is not shared after one more message file, at most one message file of all waits at this path (`IsOnce`).
once_more : (mine : SpotOf) (old new : TakenOf) (spots : List (Option SpotOf)) → AreTaken old spots → GetsPaths mine old new
    → (path : List ℕ) → is_none_of new.shared path ≡ true → IsOnce path (spots ++ Some mine ∷ [])
once_more mine old new spots are gets path lacks number other spot second one two is_one is_two =
    let parts = gets.shared path lacks in
    ⊎_elim
    (λ first. ⊎_elim
    (λ also. are.shared path parts.0 number other spot second first also is_one is_two)
    (λ last. absurd (none_waits old spots are mine spot number (parts.1 (mine_is second last.1 is_two)) first
    (is_one ∙ sym (mine_is second last.1 is_two))))
    (last_or spots (Some mine) other (Some second) two))
    (λ last. ⊎_elim
    (λ also. absurd (none_waits old spots are mine second other (parts.1 (mine_is spot last.1 is_one)) also
    (is_two ∙ sym (mine_is spot last.1 is_one))))
    (λ both. last.0 ∙ sym both.0)
    (last_or spots (Some mine) other (Some second) two))
    (last_or spots (Some mine) number (Some spot) one)
  where
    -- If `z` is `mine`, it waits at the path at which `mine` waits.
    mine_is : (z : SpotOf) → Some mine ≡ Some z → z.waiting ≡ path → mine.waiting ≡ path
    mine_is z same is = ap (λ (s : SpotOf). s.waiting) (ap (value_or mine) same) ∙ is

-- If the sets `old` have the paths of `spots`, and `new` are `old` with the paths of `spot`, `new` have the paths of
-- all.
put_taken : (spot : SpotOf) (old new : TakenOf) (spots : List (Option SpotOf)) → AreTaken old spots → GetsPaths spot old new
    → AreTaken new (spots ++ Some spot ∷ [])
put_taken spot old new spots are gets = record {
  places = λ path. gets.places path ∙ split spot.claimed spot.waiting spot.quarantined path old.places
      ∙ ap (λ rest. is_none_of (paths_of spot) path && rest) (are.places path)
      ∙ sym (last_first paths_of path spots (Some spot));
  moves = λ path. gets.moves path ∙ split spot.reason spot.claimed spot.quarantined path old.moves
      ∙ ap (λ rest. is_none_of (quarantined_paths spot) path && rest) (are.moves path)
      ∙ sym (last_first quarantined_paths path spots (Some spot));
  shared = once_more spot old new spots are gets;
}

-- As `put_taken`, for sets that may be None since memory ran out.
pub known_with : (spot : SpotOf) (old : TakenOf) (sets : Option TakenOf) → IfSome sets (λ new. GetsPaths spot old new) →
    (spots : List (Option SpotOf)) → AreTaken old spots → AreKnown sets (spots ++ Some spot ∷ [])
known_with spot old None gets spots are = tt
known_with spot old (Some new) gets spots are = put_taken spot old new spots are gets

-- If the sets have the paths of `spots`, they have those of `spots` followed by None.
pub known_still : (sets : Option TakenOf) (spots : List (Option SpotOf)) → AreKnown sets spots →
    AreKnown sets (spots ++ None ∷ [])
known_still None spots are = tt
known_still (Some old) spots are = record {
  places = λ path. are.places path ∙ sym (last_first paths_of path spots None);
  moves = λ path. are.moves path ∙ sym (last_first quarantined_paths path spots None);
  shared = λ path lacks number other spot second one two.
      are.shared path lacks number other spot second (among number spot one) (among other second two);
}
  where
    -- A message file that is found in `spots` with None at the end is found in `spots`.
    among : (i : ℕ) (z : SpotOf) → slice_get (spots ++ None ∷ []) i ≡ Some (Some z) → slice_get spots i ≡ Some (Some z)
    among i z is = ⊎_elim (λ first. first) (λ last. absurd (none-some z last.1)) (last_or spots None i (Some z) is)

-- The sets tell if a message file is spread from all, if there are sets.
pub known_free : (sets : Option TakenOf) (taken : TakenOf) (spots : List (Option SpotOf)) → AreKnown sets spots →
    sets ≡ Some taken → (spot : SpotOf) → is_free taken spot ≡ is_spread_from_all spot spots
known_free sets taken spots known is spot =
    free_is_spread taken spots (subst (λ (s : Option TakenOf). AreKnown s spots) is known) spot

-- If a test cannot pass, it is false.
never_passes : (test : Bool) → (test ≡ true → ⊥) → test ≡ false
never_passes true never = absurd (never refl)
never_passes false never = refl

-- If the name of message file `number` is not shared, another message file of the run has come under another
-- name.
other_name : (taken : TakenOf) (spots : List (Option SpotOf)) → AreTaken taken spots → (number other : ℕ) (spot : SpotOf)
    (x : Option SpotOf) → slice_get spots number ≡ Some (Some spot) → is_none_of taken.shared spot.waiting ≡ true →
    (other ≡ number → ⊥) → slice_get spots other ≡ Some x → has_come_as spot.waiting x ≡ false
other_name taken spots are number other spot None here lacks differ at = refl
other_name taken spots are number other spot (Some second) here lacks differ at =
    never_passes (bytes_eq spot.waiting second.waiting)
    (λ equal. differ (sym (are.shared spot.waiting lacks number other spot second here at refl
    (sym ((bytes_eq-Decides spot.waiting second.waiting).0 equal)))))

-- If the name of a message file is not shared, each other message file has come under another one.
pub once_alone : (sets : Option TakenOf) (taken : TakenOf) (spots : List (Option SpotOf)) → AreKnown sets spots →
    sets ≡ Some taken → (number : ℕ) (spot : SpotOf) → slice_get spots number ≡ Some (Some spot) →
    is_none_of taken.shared spot.waiting ≡ true → HasComeAlone spots number spot.waiting
once_alone sets taken spots known is number spot here lacks = λ other x differ at.
    other_name taken spots (subst (λ (s : Option TakenOf). AreKnown s spots) is known) number other spot x here lacks differ
    at
