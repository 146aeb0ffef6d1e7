-- Proves how one more APDU changes the tests of a responder's list.
use Rattle.std.proofs.Common.{rules, arith, ◌≡◌, ◌⊎◌, inl, inr, ℕ, zero, suc, ◌+◌, ◌<◌, ◌≤◌, Bool, true, false, not, ◌&&◌, ◌||◌}
use Rattle.std.proofs.Common.{List, [], ◌∷◌, ◌++◌, length, Option, Some, None, is_some, if◌then◌else◌, cond, drop, refl, ap}
use Rattle.std.proofs.Common.{length-append, sym, subst, ◌∙◌}
use Rattle.std.specs.List.{filter_map, cons_option, last_or, count_by}
use Rattle.std.proofs.lemmas.Bool.{and_parts, and_from}
use Rattle.std.proofs.lemmas.List.Sums.{sum_by-append, sum_by-cons}
use Rattle.std.specs.Option.{option_or}
use Rattle.std.proofs.Math.ListN.{get_or}
use Rattle.std.proofs.lemmas.List.{at_drop_all, drop_more}
use Rattle.ill_values.specs.Day.{Date}
use Rattle.ill_values.specs.declared.apdu.Apdu.{Apdu}
use Rattle.ill_values.specs.Body.{Body}
use Rattle.ill_values.specs.declared.apdu.BodyWith.TheVariants as types
use Rattle.ill_values.specs.TxnId.{Qualifiers}
use Rattle.ill_core.specs.declared.state.State.{State}
use Rattle.ill_core.specs.declared.state.State.TheVariants.{Idle}
use Rattle.ill_core.specs.State.{is_among}
use Rattle.ill_core.specs.Dates.{is_after_due}
use Rattle.ill_values.specs.Bodies.{is_shipped, is_renewal, names_conditions, grant_in}
use Rattle.ill_core.specs.Issued.{is_message_with, granted_day, last_of}
use Rattle.ill_core.specs.Responder.{is_after_last, rise_from, ships_first, ends_with_conditions, is_named, is_request_of}
use Rattle.ill_core.specs.Responder.{request_in}
use Rattle.ill_core.proofs.IssuedLemmas.{not_true}

-- One more APDU adds 1 to the count if `says` holds of it, and else 0.
pub count_more : (says : Body → Bool) (apdus : List Apdu) (a : Apdu)
    → count_by (λ b. says b.body) (apdus ++ a ∷ []) ≡ count_by (λ b. says b.body) apdus + (if says a.body then 1 else 0)
count_more says apdus a = search (rules, sum_by-append (λ (b : Apdu). cond (says b.body) 1 0) apdus (a ∷ []))

-- With APDU `a` at the end, `says` holds of the last message if, and only if, it holds of `a`.
last_message : (says : Body → Bool) (apdus : List Apdu) (a : Apdu)
    → is_message_with says (apdus ++ a ∷ []) (suc (length apdus)) ≡ says a.body
last_message says [] a = refl
last_message says (b ∷ apdus) a = last_message says apdus a

-- A list with one more APDU ends with conditions if, and only if, this APDU names conditions.
pub ends_more : (apdus : List Apdu) (a : Apdu) → ends_with_conditions (apdus ++ a ∷ []) ≡ names_conditions a.body
ends_more apdus a =
    let size : length (apdus ++ a ∷ []) ≡ suc (length apdus) = omega (arith, length-append apdus (a ∷ [])) in
    ap (is_message_with names_conditions (apdus ++ a ∷ [])) size ∙ last_message names_conditions apdus a

-- If `says` holds of message `c` of a list, it holds of message `c` after one more APDU.
pub was_longer : (says : Body → Bool) (apdus : List Apdu) (a : Apdu) (c : ℕ) → is_message_with says apdus c ≡ true
    → is_message_with says (apdus ++ a ∷ []) c ≡ true
was_longer says apdus a zero h = search rules
was_longer says [] a (suc n) h = search rules
was_longer says (b ∷ apdus) a (suc zero) h = h
was_longer says (b ∷ apdus) a (suc (suc n)) h = was_longer says apdus a (suc n) h

-- If message `c` of a list names conditions, it does so in the list with one more APDU.
pub named_more : (c : Option ℕ) (apdus : List Apdu) (a : Apdu) → is_named c apdus ≡ true → is_named c (apdus ++ a ∷ []) ≡ true
named_more None apdus a h = refl
named_more (Some c) apdus a h = was_longer names_conditions apdus a c h

-- If dates rise, they rise with one more date that is after the last one.
pub rise_more : (o : Option Date) (dates : List Date) (d : Date) → rise_from o dates ≡ true
    → not (is_some (last_or o dates)) || is_after_due d (last_or o dates) ≡ true
    → rise_from o (dates ++ d ∷ []) ≡ true
unfolding rise_from
rise_more o [] d rising after = and_from _ _ after refl
rise_more o (e ∷ dates) d rising after =
    let parts = and_parts _ _ rising in
    and_from _ _ parts.0 (rise_more (Some e) dates d parts.1 after)

-- Dates rise after `o` if, and only if, the first is after `o`, and the others rise after the first.
rise_first : (o : Option Date) (d : Date) (dates : List Date)
    → rise_from o (d ∷ dates) ≡ ((not (is_some o) || is_after_due d o) && rise_from (Some d) dates)
unfolding rise_from
rise_first o d dates = refl

-- An empty list of dates rises.
pub rise_none : (o : Option Date) → rise_from o [] ≡ true
unfolding rise_from
rise_none o = refl

-- Dates with `found` put first rise if, and only if, `found` is after `last`, and the others rise after it.
grant_rises : (last found : Option Date) (dates : List Date)
    → rise_from last (cons_option found dates) ≡ (is_after_last last found && rise_from (option_or found last) dates)
grant_rises last None dates = refl
grant_rises last (Some d) dates = rise_first last d dates

-- The dates granted from index `i` on rise if, and only if, `follows` is true and the others rise after `next`.
-- `follows` is the test that `found`, the date of the APDU there, is after `last`. `next` is `found`, or else `last`.
pub rise_at : (last found next : Option Date) (follows : Bool) (apdus : List Apdu) (i : ℕ) (a : Apdu)
    → i < length apdus → a ≡ get_or apdus i a
    → found ≡ granted_day a → follows ≡ is_after_last last found → next ≡ option_or found last
    → rise_from last (filter_map granted_day (drop i apdus))
    ≡ (follows && rise_from next (filter_map granted_day (drop (i + 1) apdus)))
rise_at last found next follows apdus i a within there is may then_last =
    let others = filter_map granted_day (drop (i + 1) apdus) in
    let prefix : rise_from last (filter_map granted_day (drop i apdus))
    ≡ rise_from last (filter_map granted_day (get_or apdus i a ∷ drop (i + 1) apdus)) =
    ap (λ xs. rise_from last (filter_map granted_day xs)) (drop_more apdus i a within) in
    let same : rise_from last (filter_map granted_day (get_or apdus i a ∷ drop (i + 1) apdus))
    ≡ rise_from last (filter_map granted_day (a ∷ drop (i + 1) apdus)) =
    ap (λ b. rise_from last (filter_map granted_day (b ∷ drop (i + 1) apdus))) (sym there) in
    let known : rise_from last (filter_map granted_day (a ∷ drop (i + 1) apdus)) ≡ rise_from last (cons_option found others) =
    ap (λ o. rise_from last (cons_option o others)) (sym is) in
    prefix ∙ (same ∙ (known ∙ (grant_rises last found others
    ∙ (ap (λ b. b && rise_from (option_or found last) others) (sym may)
    ∙ ap (λ o. follows && rise_from o others) (sym then_last)))))

-- After the last APDU there is no date, so the dates rise.
pub rise_end : (last : Option Date) (apdus : List Apdu) (i : ℕ) → length apdus ≤ i
    → rise_from last (filter_map granted_day (drop i apdus)) ≡ true
rise_end last apdus i all = at_drop_all (λ xs. rise_from last (filter_map granted_day xs)) apdus i all ∙ rise_none last

-- `ships_first` of a list is its test of the first APDU and of the rest.
ships_cons : (a : Apdu) (apdus : List Apdu)
    → ships_first (a ∷ apdus) ≡ (is_shipped a.body || (not (is_renewal a.body) && ships_first apdus))
unfolding ships_first
ships_cons a apdus = refl

-- `ships_first` is true of an empty list.
ships_none : ships_first [] ≡ true
unfolding ships_first
ships_none = refl

-- `ships_first` of the list from index `i` on is its test of the APDU at `i` and of the rest. `shipped` says that this
-- APDU is a Shipped, and `renewal` that it is a Renew-Answer yes.
pub ships_at : (shipped renewal : Bool) (apdus : List Apdu) (i : ℕ) (a : Apdu) → i < length apdus → a ≡ get_or apdus i a
    → shipped ≡ is_shipped a.body → renewal ≡ is_renewal a.body
    → ships_first (drop i apdus) ≡ (shipped || (not renewal && ships_first (drop (i + 1) apdus)))
ships_at shipped renewal apdus i a within there is_s is_r =
    let others = ships_first (drop (i + 1) apdus) in
    let prefix : ships_first (drop i apdus) ≡ ships_first (get_or apdus i a ∷ drop (i + 1) apdus) =
    ap ships_first (drop_more apdus i a within) in
    let same : ships_first (get_or apdus i a ∷ drop (i + 1) apdus) ≡ ships_first (a ∷ drop (i + 1) apdus) =
    ap (λ b. ships_first (b ∷ drop (i + 1) apdus)) (sym there) in
    prefix ∙ (same ∙ (ships_cons a (drop (i + 1) apdus)
    ∙ (ap (λ b. b || (not (is_renewal a.body) && others)) (sym is_s) ∙ ap (λ b. shipped || (not b && others)) (sym is_r))))

-- `ships_first` is true of the empty list after the last APDU.
pub ships_end : (apdus : List Apdu) (i : ℕ) → length apdus ≤ i → ships_first (drop i apdus) ≡ true
ships_end apdus i all = at_drop_all ships_first apdus i all ∙ ships_none

-- If `ships_first` is true of a list, it is true with one more APDU that is not a renewal.
pub ships_more : (apdus : List Apdu) (a : Apdu) → ships_first apdus ≡ true → is_renewal a.body ≡ false
    → ships_first (apdus ++ a ∷ []) ≡ true
unfolding ships_first
ships_more [] a first none = search rules
ships_more (b ∷ apdus) a first none = search (rules, ships_more apdus a)

-- If `ships_first` is true of a list with a Shipped, it is true with any further APDU.
pub ships_renewed : (apdus : List Apdu) (a : Apdu) → ships_first apdus ≡ true
    → 1 ≤ count_by (λ b. is_shipped b.body) apdus → ships_first (apdus ++ a ∷ []) ≡ true
unfolding ships_first
ships_renewed [] a first there = search rules
ships_renewed (b ∷ apdus) a first there = search (rules, ships_renewed apdus a)

-- The number of Shipped in a list is 1 or 0 for the first APDU, plus the others' number.
count_first : (b : Apdu) (apdus : List Apdu)
    → count_by (λ c. is_shipped c.body) (b ∷ apdus) ≡ cond (is_shipped b.body) 1 0 + count_by (λ c. is_shipped c.body) apdus
count_first b apdus = sum_by-cons (λ (c : Apdu). cond (is_shipped c.body) 1 0) b apdus

-- If the number of Shipped is 0, the first APDU is not a Shipped, and the others have none.
none_counted : (shipped : Bool) (others : ℕ) → cond shipped 1 0 + others ≡ 0 → (shipped ≡ false) × (others ≡ 0)
none_counted true others none = search rules
none_counted false others none = (refl, omega (arith, none))

-- An APDU that is neither a Shipped nor a Renew-Answer yes grants no date.
grants_none : (body : Body) → is_shipped body ≡ false → is_renewal body ≡ false → grant_in body ≡ None
grants_none (types.Shipped due) shipped renewal = search rules
grants_none (types.RenewAnswer answers (Some due)) shipped renewal = search rules
grants_none (types.RenewAnswer answers None) shipped renewal = refl
grants_none other shipped renewal = refl

-- A Shipped grants a date.
grants_some : (body : Body) → is_shipped body ≡ true → is_some (grant_in body) ≡ true
grants_some (types.Shipped due) shipped = refl
grants_some other shipped = search rules

-- If a value was found before, there is a last value.
last_some : {X : Type 0} (o : Option X) (xs : List X) → is_some o ≡ true → is_some (last_or o xs) ≡ true
last_some o [] there = there
last_some o (x ∷ xs) there = last_some (Some x) xs refl

-- If a list has a last value, it has a last value also after a value `o` found before.
last_any : {X : Type 0} (o : Option X) (xs : List X) → is_some (last_or None xs) ≡ true → is_some (last_or o xs) ≡ true
last_any o [] there = search rules
last_any o (x ∷ xs) there = there

-- If a value is found in the first APDU or in the others, there is a last value.
last_first : {X : Type 0} (found : Option X) (xs : List X)
    → (is_some found ≡ true) ⊎ (is_some (last_or None xs) ≡ true)
    → is_some (last_or None (cons_option found xs)) ≡ true
last_first None xs (inl there) = search rules
last_first None xs (inr there) = there
last_first (Some x) xs either = last_some (Some x) xs refl

-- If `ships_first` is true of a list without a Shipped, the list grants no date.
pub no_grants : (apdus : List Apdu) → ships_first apdus ≡ true → count_by (λ b. is_shipped b.body) apdus ≡ 0
    → filter_map granted_day apdus ≡ []
unfolding ships_first
no_grants [] first none = refl
no_grants (b ∷ apdus) first none =
    let counted = none_counted (is_shipped b.body) (count_by (λ c. is_shipped c.body) apdus) (sym (count_first b apdus) ∙ none) in
    let others : not (is_renewal b.body) && ships_first apdus ≡ true =
    ap (λ c. c || (not (is_renewal b.body) && ships_first apdus)) (sym counted.0) ∙ first in
    let parts = and_parts _ _ others in
    ap (λ o. cons_option o (filter_map granted_day apdus)) (grants_none b.body counted.0 (not_true _ parts.0))
    ∙ no_grants apdus parts.1 counted.1

-- If the number of Shipped is at least 1, `A` or `B` holds. `A` follows if the first APDU is a Shipped, and `B` if the
-- others have one.
one_there : (shipped : Bool) (others : ℕ) {A B : Type 0} → 1 ≤ cond shipped 1 0 + others → (shipped ≡ true → A)
    → (1 ≤ others → B) → A ⊎ B
one_there true others there here rest = inl (here refl)
one_there false others there here rest = inr (rest (omega (arith, there)))

-- A list with a Shipped has a due date.
pub due_there : (apdus : List Apdu) → 1 ≤ count_by (λ b. is_shipped b.body) apdus → is_some (last_of granted_day apdus) ≡ true
due_there [] there = search rules
due_there (b ∷ apdus) there =
    last_first (granted_day b) (filter_map granted_day apdus)
    (one_there (is_shipped b.body) (count_by (λ c. is_shipped c.body) apdus) (subst (λ n. 1 ≤ n) (count_first b apdus) there)
    (grants_some b.body) (due_there apdus))

-- If `request` belongs to `txn` or is absent, the same holds after IDLE drops it.
unless_idle : (txn : Qualifiers) (is_idle : Bool) (request : Option Apdu) → is_request_of txn request ≡ true
    → is_request_of txn (if is_idle then None else request) ≡ true
unless_idle txn true request is = refl
unless_idle txn false request is = is

-- If the request belongs to `txn`, so does the request that `state` permits.
pub request_in_is : (txn : Qualifiers) (state : State) (request : Option Apdu) → is_request_of txn request ≡ true
    → is_request_of txn (request_in state request) ≡ true
request_in_is txn state request is = unless_idle txn (is_among (Idle ∷ []) state) request is
