-- Proves what follows if fields name a loan, a page or a change. Each name is known, and is on one field alone.
use Rattle.std.proofs.Common.{◌≡◌, ◌∙◌, ◌<◌, ◌⊎◌, inl, inr, ⊎_elim, ℕ, Bool, true, false, List, [], ◌∷◌, Option}
use Rattle.std.proofs.Common.{Some, None}
use Rattle.std.proofs.Common.{Result, Ok, refl, sym, subst, arith, rules}
use Rattle.std.specs.Prelude.{◌==◌, ◌&&◌, ◌||◌, if◌then◌else◌, bytes_eq, codes}
use Rattle.std.specs.List.{list_all, list_any}
use Rattle.std.proofs.lemmas.Bool.Decides.{nat_tests}
use Rattle.std.proofs.lemmas.Slice.Eq.{bytes_eq-Decides}
use Rattle.ill_browser.specs.declared.fault.VisitFault.{VisitFault}
use Rattle.ill_browser.specs.BadAsking.{is_among}
use Rattle.ill_browser.specs.Fields.{Pair, are_named, count_named, first_named, is_named, only_named}
use Rattle.ill_browser.specs.Wanted.{Asked, LoanAsked, ◌>>=◌, loan_named, or_fields}

-- If `first >>= next` is `Some b`, `first` has a value `a`, and `next a` is `Some b`.
pub bind_gave : {A B : Type 0} (first : Option A) (next : A → Option B) (b : B) → (first >>= next) ≡ Some b
    → (a : A) × ((first ≡ Some a) × (next a ≡ Some b))
bind_gave (Some a) next b e = (a, (refl, e))
bind_gave None next b e = search rules

-- If `or_fields named` is `Ok asked`, `named` is `Some asked`.
pub named_by : (named : Option Asked) (asked : Asked) → or_fields named ≡ Ok asked → named ≡ Some asked
named_by (Some named) asked e = search rules
named_by None asked e = search rules

-- If a choice gives `Ok x`, its test is true and `one` is `Ok x`, or `other` is `Ok x`.
pub choice_gave : {X : Type 0} (test : Bool) (one other : Result X VisitFault) (x : X) → (if test then one else other) ≡ Ok x
    → ((test ≡ true) × (one ≡ Ok x)) ⊎ (other ≡ Ok x)
choice_gave true one other x e = inl (refl, e)
choice_gave false one other x e = inr e

-- No option is both `Some x` and None.
pub some_is_none : {X : Type 0} (x : X) (o : Option X) → o ≡ Some x → o ≡ None → ⊥
some_is_none x (Some y) some none = search rules
some_is_none x None some none = search rules

-- If a choice between `o` and None gives `Some x`, its test is true and `o` is `Some x`.
pub if_some : {X : Type 0} (test : Bool) (o : Option X) (x : X) → (if test then o else None) ≡ Some x → (test ≡ true)
    × (o ≡ Some x)
if_some true o x e = (refl, e)
if_some false o x e = search rules

-- If `only_named` gives a value for `name`, one field alone has this name.
pub only_once : (name : List ℕ) (fields : List Pair) (text : List ℕ) → only_named name fields ≡ Some text
    → (count_named name fields == 1) ≡ true
only_once name fields text e = (if_some (count_named name fields == 1) (first_named name fields) text e).0

-- A count that equals 1 is above 0.
one_counts : (count : ℕ) → (count == 1) ≡ true → 0 < count
one_counts count one = grind (arith, nat_tests, one)

-- If `only_named` gives a value for `name`, some field has this name.
pub only_counts : (name : List ℕ) (fields : List Pair) (text : List ℕ) → only_named name fields ≡ Some text
    → 0 < count_named name fields
only_counts name fields text e = one_counts (count_named name fields) (only_once name fields text e)

-- If `on_field_is_among` holds for `fields`, it holds for `field ∷ fields`. `is` is true if `field` has the name.
one_of_more : (names : List (List ℕ)) (name : List ℕ) (field : Pair) (fields : List Pair) (is : Bool)
    → (0 < count_named name fields → is_among name names ≡ true) → is_named name field ≡ is
    → list_any (λ known. is_named known field) names ≡ true → 0 < count_named name (field ∷ fields) → is_among name names ≡ true
one_of_more names name field fields true rest same one some =
    subst (λ text. is_among text names ≡ true) ((bytes_eq-Decides field.0 name).0 same) one
one_of_more names name field fields false rest same one some = rest (subst (λ count. 0 < count) (simp (same) refl) some)

-- If a conjunction is true, both its sides are.
and_both : (a b : Bool) → (a && b) ≡ true → (a ≡ true) × (b ≡ true)
and_both true b e = (refl, e)
and_both false b e = search rules

-- If each field has one of `names`, a `name` that a field has is one of them.
pub on_field_is_among : (names : List (List ℕ)) (name : List ℕ) (fields : List Pair) → are_named names fields ≡ true
    → 0 < count_named name fields → is_among name names ≡ true
on_field_is_among names name [] named some = search (arith, rules)
on_field_is_among names name (field ∷ fields) named some =
    let both = and_both (list_any (λ known. is_named known field) names) (are_named names fields) named in
    one_of_more names name field fields (is_named name field) (on_field_is_among names name fields both.1) refl both.0 some

-- No Bool is both true and false.
pub not_both : (b : Bool) → b ≡ true → b ≡ false → ⊥
not_both true is is_not = search rules
not_both false is is_not = search rules

-- If each field has one of `names`, no field has a `name` that is none of them.
pub no_stranger : (names : List (List ℕ)) (name : List ℕ) (fields : List Pair) → are_named names fields ≡ true
    → 0 < count_named name fields → is_among name names ≡ false → ⊥
no_stranger names name fields named some stranger =
    not_both (is_among name names) (on_field_is_among names name fields named some) stranger

-- If `known` and the names after it are among `all`, `name` is too, if it is one of these.
among_first : (name known : List ℕ) (all : List (List ℕ)) (same other among : Bool) → bytes_eq name known ≡ same
    → (other ≡ true → is_among name all ≡ true) → among ≡ true → is_among known all ≡ among → (same || other) ≡ true
    → is_among name all ≡ true
among_first name known all true other among same rest is e one =
    subst (λ text. is_among text all ≡ true) (sym ((bytes_eq-Decides name known).0 same)) (e ∙ is)
among_first name known all false other among same rest is e one = rest one

-- If each of `names` is among `all`, a `name` that is among `names` is among `all`.
pub within : (names all : List (List ℕ)) (name : List ℕ) → list_all (λ known. is_among known all) names ≡ true
    → is_among name names ≡ true → is_among name all ≡ true
within [] all name known one = search rules
within (first ∷ names) all name known one =
    let both = and_both (is_among first all) (list_all (λ known. is_among known all) names) known in
    among_first name first all (bytes_eq name first) (is_among name names) (is_among first all) refl
    (within names all name both.1) both.0 refl one

-- Returns true if each of these names is on one field alone.
abbrev pub are_once : List (List ℕ) → List Pair → Bool
are_once names fields = list_all (λ name. count_named name fields == 1) names

-- A count that equals 1 is not above 1.
pub not_twice : (count : ℕ) → (count == 1) ≡ true → 1 < count → ⊥
not_twice count one more = grind (arith, nat_tests, one, more)

-- If `same || other` and `once && rest` are true, `same` and `once` are, or `other` and `rest` are.
among_more : (name known : List ℕ) (same other once rest : Bool) → (same || other) ≡ true → (once && rest) ≡ true
    → ((same ≡ true) × (once ≡ true)) ⊎ ((other ≡ true) × (rest ≡ true))
among_more name known true other once rest one all = inl (refl, (and_both once rest all).0)
among_more name known false other once rest one all = inr (one, (and_both once rest all).1)

-- If each of `names` is on one field alone, no `name` among them is on two.
once_not_twice : (names : List (List ℕ)) (name : List ℕ) (fields : List Pair) → are_once names fields ≡ true
    → is_among name names ≡ true → 1 < count_named name fields → ⊥
once_not_twice [] name fields once one more = search rules
once_not_twice (known ∷ names) name fields once one more =
    ⊎_elim
    (λ here. not_twice (count_named known fields) here.1
    (subst (λ text. 1 < count_named text fields) ((bytes_eq-Decides name known).0 here.0) more))
    (λ there. once_not_twice names name fields there.1 there.0 more)
    (among_more name known (bytes_eq name known) (is_among name names) (count_named known fields == 1) (are_once names fields)
    one once)

-- If each field has one of `names`, and each of these is on one field, no `name` is on two.
pub no_doubled : (names : List (List ℕ)) (name : List ℕ) (fields : List Pair) → are_named names fields ≡ true
    → are_once names fields ≡ true → 1 < count_named name fields → ⊥
no_doubled names name fields named once more =
    once_not_twice names name fields once (on_field_is_among names name fields named (omega (arith, more))) more

-- What fields that name a loan have: a desk, a group and a transaction, each once.
pub record HasLoan (fields : List Pair) : Type 0 where
  pub desk : (count_named (codes "desk") fields == 1) ≡ true
  pub group : (count_named (codes "group") fields == 1) ≡ true
  pub transaction : (count_named (codes "transaction") fields == 1) ≡ true

-- If the fields name a loan, its desk, group and transaction are each on one field alone.
pub has_loan : (fields : List Pair) (loan : LoanAsked) → loan_named fields ≡ Some loan → HasLoan fields
has_loan fields loan e =
    let desk = bind_gave (only_named (codes "desk") fields) _ loan e in
    let group = bind_gave (only_named (codes "group") fields) _ loan desk.1.1 in
    let transaction = bind_gave (only_named (codes "transaction") fields) _ loan group.1.1 in
    record {
      desk = only_once (codes "desk") fields desk.0 desk.1.0;
      group = only_once (codes "group") fields group.0 group.1.0;
      transaction = only_once (codes "transaction") fields transaction.0 transaction.1.0;
    }
