-- Entries of a map from transactions to sides. A list of entries is filed if it satisfies `AreFiled`.
use Rattle.std.proofs.Common.{◌≡◌, ℕ, ◌<◌, nat_lt, length, drop, map, Bool, true, false, cond, if◌then◌else◌, not, ◌&&◌, ◌⊎◌, inl}
use Rattle.std.proofs.Common.{inr, Ok, List, [], ◌∷◌, ◌++◌, Option, Some, None, Err, is_some, is_none, refl, ap, sym, subst, ◌∙◌}
use Rattle.std.proofs.Common.{true≢false, rules, arith, length-append}
use Rattle.std.specs.List.{list_all}
use Rattle.std.specs.Prelude.{option_map, ◌≤◌, Result}
use Rattle.std.proofs.lemmas.Map.{keys-set_value}
use Rattle.std.specs.Map.{keys_of, values_of, lookup, set_value}
use Rattle.std.proofs.Math.ListN.{get_or}
use Rattle.std.proofs.lemmas.Bool.{and_parts, and_from}
use Rattle.std.proofs.lemmas.List.{map-append, length-map}
use Rattle.std.proofs.lemmas.List.Folds.{list_all-append}
use Rattle.ill_values.specs.TxnId.{Qualifiers}
use Rattle.ill_core.specs.Issued.{is_same_txn}
use Rattle.ill_record.specs.declared.role.Role.{Role}
use Rattle.ill_record.specs.declared.side.Side.{Side}
use Rattle.ill_record.specs.declared.fault.SidesFault.{SidesFault}
use Rattle.ill_record.specs.declared.fault.SidesFault.TheVariants as faults
use Rattle.ill_record.specs.Side.{role_of, txn_of, is_idle}
use Rattle.ill_record.specs.declared.side.Side.TheVariants as sides
use Rattle.ill_record.specs.declared.side.Action.{Action}
use Rattle.ill_values.specs.declared.apdu.Apdu.{Apdu}
use Rattle.ill_core.specs.declared.refusal.Refusal.{Refusal}
use Rattle.ill_core.specs.declared.refusal.Refusal.TheVariants as refusals
use Rattle.ill_core.specs.declared.taking.Taking.{Taking}
use Rattle.ill_record.specs.Side.{idle_of, IsSideTransition, acted, took, Acts, Takes}
use Rattle.ill_record.specs.Sides.{found_by, put_by, ChangesOnlySideOf, ChangesOnlyEntryOf}
use Rattle.ill_record.proofs.Transitions.{RowsGrow}
use Rattle.ill_record.proofs.Finding.{apart_back, found_is, found_mapped, found_passes, keys_put, put_passes, not_true}
use Rattle.ill_record.specs.Sides.{SidesOf, AreFiled, side_with, is_same_role, is_begun, are_apart, most_sides, put_refusal, Puts}

-- If each side has its transaction as its key, a search of the entries finds the side of the transaction.
pub filed_with : (txn : Qualifiers) (entries : List (Qualifiers × Side)) → keys_of entries ≡ map txn_of (values_of entries)
    → lookup (is_same_txn txn) entries ≡ side_with txn (values_of entries)
unfolding side_with
filed_with txn [] keyed = refl
filed_with txn (e ∷ entries) keyed =
    let first : e.0 ≡ txn_of e.1 = ap (λ ids. get_or ids 0 e.0) keyed in
    let others : keys_of entries ≡ map txn_of (values_of entries) = ap (λ ids. drop 1 ids) keyed in
    ap (λ id. cond (is_same_txn txn id) (Some e.1) (lookup (is_same_txn txn) entries)) first
    ∙ ap (λ found. cond (is_same_txn txn (txn_of e.1)) (Some e.1) found) (filed_with txn entries others)

-- If a search finds nothing, the first side fails the test (`is`), and nothing is found among the others (`found`).
not_first : (is : Bool) (side : Side) (found : Option Side) → cond is (Some side) found ≡ None → (is ≡ false) × (found ≡ None)
not_first true side found none = absurd (true≢false (ap is_some none))
not_first false side found none = (refl, none)

-- If `new` is empty whenever `old` is empty, a search that finds nothing with `old` finds nothing with `new`. The
-- search tests `side` first (`is`), and goes on to `old` or `new`.
none_after : (is : Bool) (side : Side) (old new : Option Side) → is_none (cond is (Some side) old) ≡ true
    → (is_none old ≡ true → is_none new ≡ true)
    → is_none (cond is (Some side) new) ≡ true
none_after true side old new none further = none
none_after false side old new none further = further none

-- If none of `sides` is of `txn`, and `side` is not, no side of both together is.
none_more : (txn : Qualifiers) (side : Side) (sides : List Side) → is_none (side_with txn sides) ≡ true
    → is_same_txn txn (txn_of side) ≡ false
    → is_none (side_with txn (sides ++ side ∷ [])) ≡ true
unfolding side_with
none_more txn side [] none apart = ap (λ same. is_none (cond same (Some side) None)) apart
none_more txn side (x ∷ sides) none apart =
    none_after (is_same_txn txn (txn_of x)) x (side_with txn sides) _ none (λ there. none_more txn side sides there apart)

-- If the transactions of `sides` differ, and none is that of `side`, they differ with `side` after the others.
pub apart_more : (side : Side) (sides : List Side) → side_with (txn_of side) sides ≡ None → are_apart sides ≡ true
    → are_apart (sides ++ side ∷ []) ≡ true
unfolding side_with are_apart
apart_more side [] none apart = refl
apart_more side (x ∷ sides) none apart =
    let parts = and_parts _ _ apart in
    let new = not_first (is_same_txn (txn_of side) (txn_of x)) x (side_with (txn_of side) sides) none in
    and_from _ _ (none_more (txn_of x) side sides parts.0 (apart_back (txn_of side) (txn_of x) new.0))
    (apart_more side sides new.1 parts.1)

-- If a side is not refused, it is of the role and not idle, its transaction is not held, and there is room.
pub not_refused : (of_role idle twice room : Bool)
    → (if not of_role then Some faults.OtherRole else
    (if idle then Some faults.Idle else (if twice then Some faults.Twice else (if room then None else Some faults.Full))))
    ≡ None
    → (of_role ≡ true) × (idle ≡ false) × (twice ≡ false) × (room ≡ true)
not_refused true false false true none = (refl, refl, refl, refl)
not_refused of_role idle twice room none = search rules

-- If nothing is found, the search gives `None`.
pub not_some : (found : Option Side) → is_some found ≡ false → found ≡ None
not_some None none = refl
not_some (Some side) none = absurd (true≢false none)

-- If a side may be put, no side of its transaction is held.
pub new_to : (held : SidesOf) (side : Side) → put_refusal held side ≡ None → side_with (txn_of side) held.sides ≡ None
new_to held side none =
    not_some (side_with (txn_of side) held.sides)
    (not_refused (is_same_role held.role (role_of side)) (is_idle side) (is_some (side_with (txn_of side) held.sides))
    (nat_lt (length held.sides) most_sides) none).2

-- If the test of order is true, `a` is less than `b`.
below : (a b : ℕ) → nat_lt a b ≡ true → a < b
below a b less = search rules

-- No refusal of a side is a lack of memory.
not_out_of_memory : (of_role idle twice room : Bool)
    → (if not of_role then Some faults.OtherRole else
    (if idle then Some faults.Idle else (if twice then Some faults.Twice else (if room then None else Some faults.Full))))
    ≡ Some faults.OutOfMemory
    → ⊥
not_out_of_memory of_role idle twice room wanted = search rules

-- If a side is refused, returning it and changing nothing is as `Puts` says.
pub handed_back : (held : SidesOf) (side : Side) (fault : SidesFault) → put_refusal held side ≡ Some fault
    → Puts held side (Err (fault, side)) held
handed_back held side faults.OutOfMemory refused =
    absurd (not_out_of_memory (is_same_role held.role (role_of side)) (is_idle side)
    (is_some (side_with (txn_of side) held.sides))
    (nat_lt (length held.sides) most_sides) refused)
handed_back held side faults.OtherRole refused = (refused, refl, refl)
handed_back held side faults.Idle refused = (refused, refl, refl)
handed_back held side faults.Twice refused = (refused, refl, refl)
handed_back held side faults.Full refused = (refused, refl, refl)

-- If `answer` is no fault, it is `None`.
pub no_fault : (answer : Option SidesFault) → ((fault : SidesFault) → answer ≡ Some fault → ⊥) → answer ≡ None
no_fault None none = refl
no_fault (Some fault) none = absurd (none fault refl)

-- An empty list of entries is filed.
pub none_filed : (role : Role) (entries : List (Qualifiers × Side)) → entries ≡ []
    → AreFiled (keys_of entries) (record { role = role; sides = values_of entries })
unfolding are_apart
none_filed role entries empty =
    subst (λ es. AreFiled (keys_of es) (record { role = role; sides = values_of es })) (sym empty)
    (record { keys = refl; held = refl; few = omega arith })

-- Below, `entries` are filed, and `side` may be put among them (premise `none`).
module _ (role : Role) (entries : List (Qualifiers × Side)) (side : Side)
    (filed : AreFiled (keys_of entries) (record { role = role; sides = values_of entries }))
    (none : put_refusal (record { role = role; sides = values_of entries }) side ≡ None) where
  -- `side` is of the role and not idle, its transaction is not held, and there is room.
  may : (is_same_role role (role_of side) ≡ true) × (is_idle side ≡ false)
      × (is_some (side_with (txn_of side) (values_of entries)) ≡ false) × (nat_lt (length (values_of entries)) most_sides ≡ true)
  may = not_refused (is_same_role role (role_of side)) (is_idle side) (is_some (side_with (txn_of side) (values_of entries)))
      (nat_lt (length (values_of entries)) most_sides) none

  -- No side of the transaction of `side` is among the entries.
  new_there : side_with (txn_of side) (values_of entries) ≡ None
  new_there = not_some (side_with (txn_of side) (values_of entries)) may.2

  -- No entry has the transaction of `side` as its key.
  pub is_new : (key : Qualifiers) → key ≡ txn_of side → lookup (is_same_txn key) entries ≡ None
  is_new key same = ap (λ t. lookup (is_same_txn t) entries) same ∙ filed_with (txn_of side) entries filed.keys ∙ new_there

  -- If an entry of `side` with its transaction is appended, the entries are filed. `held` says that the old sides may
  -- be held together. `stands` says that `side` is of the role and not idle, and `all` that each side is.
  put_there : (new : List (Qualifiers × Side)) → new ≡ entries ++ (txn_of side, side) ∷ []
      → AreFiled (keys_of new) (record { role = role; sides = values_of new })
  put_there new put =
      let held = and_parts _ _ filed.held in
      let values : values_of new ≡ values_of entries ++ side ∷ [] =
      ap values_of put ∙ map-append (λ e. e.1) entries ((txn_of side, side) ∷ []) in
      let keys : keys_of new ≡ map txn_of (values_of entries ++ side ∷ []) =
      ap keys_of put ∙ map-append (λ e. e.0) entries ((txn_of side, side) ∷ []) ∙ ap (λ ids. ids ++ txn_of side ∷ []) filed.keys
      ∙ sym (map-append txn_of (values_of entries) (side ∷ [])) in
      let stands : is_begun role side ≡ true = and_from _ _ may.0 (ap not may.1) in
      let all : list_all (is_begun role) (values_of entries ++ side ∷ []) ≡ true =
      list_all-append (is_begun role) (values_of entries) (side ∷ []) ∙ and_from _ _ held.0 (and_from _ _ stands refl) in
      let small = below (length (values_of entries)) most_sides may.3 in
      subst (λ vs. AreFiled (keys_of new) (record { role = role; sides = vs })) (sym values) (record {
        keys = keys;
        held = and_from _ _ all (apart_more side (values_of entries) new_there held.1);
        few = omega (arith, small, length-append (values_of entries) (side ∷ []));
      })

  -- If an entry of `side` with a key that is its transaction is appended, the entries are filed.
  pub filed_more : (key : Qualifiers) → key ≡ txn_of side → (new : List (Qualifiers × Side)) → new ≡ entries ++ (key, side) ∷ []
      → AreFiled (keys_of new) (record { role = role; sides = values_of new })
  filed_more key same new put = put_there new (put ∙ ap (λ t. entries ++ (t, side) ∷ []) same)

  -- If the entries are unchanged, they are filed.
  pub filed_still : (new : List (Qualifiers × Side)) → new ≡ entries
      → AreFiled (keys_of new) (record { role = role; sides = values_of new })
  filed_still new same = subst (λ es. AreFiled (keys_of es) (record { role = role; sides = values_of es })) (sym same) filed

-- ---- the transactions of sides, and filed entries after one side changes

-- The idle side of a side has the transaction of the side.
pub idle_txn : (side : Side) → txn_of (idle_of side) ≡ txn_of side
idle_txn (sides.Requester x) = refl
idle_txn (sides.Responder y) = refl

-- The idle side of a side has the role of the side.
pub idle_role : (side : Side) → role_of (idle_of side) ≡ role_of side
idle_role (sides.Requester x) = refl
idle_role (sides.Responder y) = refl

-- Returns true if no two transactions in the list are equal.
unfoldable are_other : List Qualifiers → Bool
are_other [] = true
are_other (txn ∷ txns) = is_none (found_by (λ t. t) txn txns) && are_other txns

-- A search gives no transaction exactly if it gives no side.
mapped_none : (txn : Qualifiers) (found : Option Side) → is_none (option_map txn_of found) ≡ is_none found
mapped_none txn None = refl
mapped_none txn (Some side) = refl

-- `are_apart` of sides is `are_other` of their transactions.
apart_by_txns : (sides : List Side) → are_apart sides ≡ are_other (map txn_of sides)
unfolding side_with are_apart are_other
apart_by_txns [] = refl
apart_by_txns (side ∷ sides) =
    ap (λ b. b && are_apart sides) (sym
    (ap is_none (found_mapped txn_of (λ t. t) txn_of (λ s. refl) (txn_of side) sides)
    ∙ mapped_none (txn_of side) (found_by txn_of (txn_of side) sides)))
    ∙ ap (λ b. is_none (found_by (λ t. t) (txn_of side) (map txn_of sides)) && b) (apart_by_txns sides)

-- If `values_set` holds for the other entries, it holds with `e` before them.
set_first : (test : Bool) (e : Qualifiers × Side) (after side : Side) (found : Option Side) (set_on : List (Qualifiers × Side))
    (entries : List (Qualifiers × Side)) (put_on : List Side)
    → cond test (Some e.1) found ≡ Some side
    → (found ≡ Some side → values_of set_on ≡ put_on)
    → values_of (cond test ((e.0, after) ∷ entries) (e ∷ set_on)) ≡ cond test (after ∷ values_of entries) (e.1 ∷ put_on)
set_first true e after side found set_on entries put_on there further = refl
set_first false e after side found set_on entries put_on there further = ap (λ vs. e.1 ∷ vs) (further there)

-- If the entry of `txn` is set to `after`, `put_by` puts `after` among the sides of the entries.
values_set : (txn : Qualifiers) (after side : Side) (entries : List (Qualifiers × Side)) → txn ≡ txn_of after
    → keys_of entries ≡ map txn_of (values_of entries) → lookup (is_same_txn txn) entries ≡ Some side
    → values_of (set_value (is_same_txn txn) entries after) ≡ put_by txn_of after (values_of entries)
unfolding put_by
values_set txn after side [] of_txn keyed there = absurd (true≢false (sym (ap is_some there)))
values_set txn after side (e ∷ entries) of_txn keyed there =
    let first : e.0 ≡ txn_of e.1 = ap (λ ids. get_or ids 0 e.0) keyed in
    let others : keys_of entries ≡ map txn_of (values_of entries) = ap (λ ids. drop 1 ids) keyed in
    let put_on = put_by txn_of after (values_of entries) in
    set_first (is_same_txn txn e.0) e after side (lookup (is_same_txn txn) entries) (set_value (is_same_txn txn) entries after)
    entries put_on there (values_set txn after side entries of_txn others)
    ∙ ap (λ t. cond (is_same_txn t e.0) (after ∷ values_of entries) (e.1 ∷ put_on)) of_txn
    ∙ ap (λ t. cond (is_same_txn (txn_of after) t) (after ∷ values_of entries) (e.1 ∷ put_on)) first

-- A side that `side_with` finds is the side that `found_by` finds.
pub found_plainly : (txn : Qualifiers) (sides : List Side) (side : Side) → side_with txn sides ≡ Some side
    → found_by txn_of txn sides ≡ Some side
unfolding side_with
found_plainly txn sides side found = found

-- The new side has the role and the transaction of the old one. If the old one is not idle, the new one is not.
record Stays (old new : Side) : Type 0 where
  idle : idle_of new ≡ idle_of old
  begun : is_idle old ≡ false → is_idle new ≡ false

-- Below, `entries` are filed, and the key `txn` finds `side` in them. By `stays` the side `after` has the role and the
-- transaction of `side`.
module _ (role : Role) (entries : List (Qualifiers × Side))
    (filed : AreFiled (keys_of entries) (record { role = role; sides = values_of entries }))
    (txn : Qualifiers) (side after : Side) (there : lookup (is_same_txn txn) entries ≡ Some side) (stays : Stays side after) where
  -- `side` is found among the sides of the entries.
  found : found_by txn_of txn (values_of entries) ≡ Some side
  unfolding side_with
  found = sym (filed_with txn entries filed.keys) ∙ there

  -- `after` is of transaction `txn`.
  of_txn : txn ≡ txn_of after
  of_txn = found_is txn_of txn (values_of entries) side found ∙ sym (idle_txn side) ∙ ap txn_of (sym stays.idle) ∙ idle_txn after

  -- The sides of the changed entries are the sides with `after` put among them.
  values_put : values_of (set_value (is_same_txn txn) entries after) ≡ put_by txn_of after (values_of entries)
  values_put = values_set txn after side entries of_txn filed.keys there

  -- Putting `after` keeps the list of transactions.
  same_txns : map txn_of (put_by txn_of after (values_of entries)) ≡ map txn_of (values_of entries)
  same_txns = keys_put txn_of after side (values_of entries)
      (ap (λ t. found_by txn_of t (values_of entries)) (sym of_txn) ∙ found)

  -- `after` is of the role and not idle.
  stands : is_begun role after ≡ true
  stands =
      let held = and_parts _ _ filed.held in
      let stood = and_parts _ _ (found_passes txn_of (is_begun role) txn (values_of entries) side held.0 found) in
      let same : role_of after ≡ role_of side = sym (idle_role after) ∙ ap role_of stays.idle ∙ idle_role side in
      and_from _ _ (ap (is_same_role role) same ∙ stood.0) (ap not (stays.begun (not_true _ stood.1)))

  -- If the side of `txn` becomes `after`, the entries still satisfy `AreFiled`.
  filed_changed : (new : List (Qualifiers × Side)) → new ≡ set_value (is_same_txn txn) entries after
      → AreFiled (keys_of new) (record { role = role; sides = values_of new })
  filed_changed new changed =
      let held = and_parts _ _ filed.held in
      let values : values_of new ≡ put_by txn_of after (values_of entries) = ap values_of changed ∙ values_put in
      let keys : keys_of new ≡ map txn_of (put_by txn_of after (values_of entries)) =
      ap keys_of changed ∙ keys-set_value (is_same_txn txn) entries after ∙ filed.keys ∙ sym same_txns in
      let apart : are_apart (put_by txn_of after (values_of entries)) ≡ true =
      apart_by_txns (put_by txn_of after (values_of entries)) ∙ ap are_other same_txns ∙ sym (apart_by_txns (values_of entries))
      ∙ held.1 in
      subst (λ vs. AreFiled (keys_of new) (record { role = role; sides = vs })) (sym values) (record {
        keys = keys;
        held = and_from _ _ (put_passes txn_of (is_begun role) after (values_of entries) stands held.0) apart;
        few = subst (λ n. n ≤ most_sides)
            (sym (length-map (values_of entries) txn_of) ∙ ap length (sym same_txns)
            ∙ length-map (put_by txn_of after (values_of entries)) txn_of) filed.few;
      })

-- ---- a call that changes one side by a transition, or no side

-- An action leads to the new side by a transition, or the side is unchanged.
pub acts_row : (old new : Side) (action : Action) (answer : Result (Unit {0}) Refusal) → Acts old action answer new
    → IsSideTransition old new ⊎ (new ≡ old)
acts_row old new action (Ok done) acts = inl (acted action acts)
acts_row old new action (Err refusals.OutOfMemory) acts = inr acts.1
acts_row old new action (Err refusal) acts = inr acts.1

-- An APDU leads to the new side by a transition, or the side is unchanged.
pub takes_row : (old new : Side) (a : Apdu) (answer : Result Taking Refusal) → Takes old a answer new
    → IsSideTransition old new ⊎ (new ≡ old)
takes_row old new a (Err refusals.OutOfMemory) takes = inr takes.2
takes_row old new a answer takes = inl (took a (ap (λ (r : Result Taking Refusal × Side). r.1) takes))

-- The law of transitions: a side that is not idle is not idle after a transition.
abbrev pub RowsStay : Type 0
RowsStay = (old new : Side) → IsSideTransition old new → is_idle old ≡ false → is_idle new ≡ false

-- A side after a transition, or unchanged, keeps its role and transaction and does not become idle.
stays_by : RowsGrow → RowsStay → (old new : Side) → IsSideTransition old new ⊎ (new ≡ old) → Stays old new
stays_by grows begins old new (inl row) = record { idle = (grows old new row).0; begun = begins old new row }
stays_by grows begins old new (inr same) = record { idle = ap idle_of same; begun = λ begun. ap is_idle same ∙ begun }

-- Below, `Does` relates a side, its answer to a call, and the side after it. By `rows` a transition leads from one to
-- the other, or nothing changes.
module _ (grows : RowsGrow) (begins : RowsStay) {A : Type 0} (Does : Side → A → Side → Type 0)
    (rows : (old new : Side) (answer : A) → Does old answer new → IsSideTransition old new ⊎ (new ≡ old))
    (role : Role) (txn : Qualifiers) (entries : List (Qualifiers × Side))
    (filed : AreFiled (keys_of entries) (record { role = role; sides = values_of entries })) where
  -- If a call changes the entry of `txn` alone, as `Does` says, the entries are filed after it.
  pub filed_on : (answer : Option A) (new : List (Qualifiers × Side)) → ChangesOnlyEntryOf Does txn entries answer new
      → AreFiled (keys_of new) (record { role = role; sides = values_of new })
  filed_on None new only = subst (λ es. AreFiled (keys_of es) (record { role = role; sides = values_of es })) (sym only.1) filed
  filed_on (Some answer) new (side, after, there, does, changed) =
      filed_changed role entries filed txn side after there (stays_by grows begins side after (rows side after answer does)) new
      changed

  -- If one entry alone changes, the side of its transaction alone changes among the sides.
  pub only_that : (answer : Option A) (new : List (Qualifiers × Side)) → ChangesOnlyEntryOf Does txn entries answer new
      → ChangesOnlySideOf Does txn (record { role = role; sides = values_of entries }) answer
      (record { role = role; sides = values_of new })
  only_that None new only = (
    sym (filed_with txn entries filed.keys) ∙ only.0,
    ap (λ es. record { role = role; sides = values_of es }) only.1,
  )
  only_that (Some answer) new (side, after, there, does, changed) = (
    side,
    after,
    sym (filed_with txn entries filed.keys) ∙ there,
    does,
    ap (λ vs. record { role = role; sides = vs })
        (ap values_of changed ∙ values_put role entries filed txn side after there
        (stays_by grows begins side after (rows side after answer does))),
  )
