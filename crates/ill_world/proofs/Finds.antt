-- A value that is found in a list of APDUs is found in one of them.
use Rattle.std.proofs.Common.{rules, arith, ◌≡◌, ◌⊎◌, inl, inr, ℕ, zero, suc, ◌+◌, ◌≤◌, ◌<◌, Bool, true, false, ◌||◌, ◌==◌, List}
use Rattle.std.proofs.Common.{[], ◌∷◌, Option, Some, None, if◌then◌else◌, refl, sym, ap, ◌∙◌, subst}
use Rattle.std.specs.Prelude.{slice_get}
use Rattle.std.specs.List.{list_any, list_all, filter_map, cons_option, last_or}
use Rattle.std.proofs.lemmas.Bool.{and_parts, eqb-true}
use Rattle.ill_values.specs.TxnId.{Qualifiers}
use Rattle.ill_values.specs.declared.apdu.Apdu.{Apdu}
use Rattle.ill_values.specs.Body.{Body}
use Rattle.ill_core.specs.Issued.{message, last_of, are_numbered}
use Rattle.ill_world.proofs.Uniqueness.{at_number, message_number, same_apdu}

-- A message of `apdus` is an APDU in which `f` finds `x`.
abbrev pub Finds : {X : Type 0} → (Apdu → Option X) → List Apdu → X → Type 0
Finds f apdus x = (n : ℕ) × (a : Apdu) × (message apdus n ≡ Some a) × (f a ≡ Some x)

-- A value found in the rest of a list is found in the whole.
finds_further : {X : Type 0} (f : Apdu → Option X) (a : Apdu) (apdus : List Apdu) (x : X) → Finds f apdus x
    → Finds f (a ∷ apdus) x
finds_further f a apdus x (zero, b, at, is) = search rules
finds_further f a apdus x (suc n, b, at, is) = (suc (suc n), b, at, is)

-- The last value found is found in one of the APDUs, or is the value `o` before them.
last_from : {X : Type 0} (f : Apdu → Option X) (o : Option X) (apdus : List Apdu) (x : X)
    → last_or o (filter_map f apdus) ≡ Some x → (o ≡ Some x) ⊎ Finds f apdus x
last_from f o [] x is = inl is
last_from {X = X} f o (a ∷ apdus) x is = go (f a) refl (λ p. last_from f p apdus x) is
  where
    -- If `f` finds nothing in `a`, the last value is the last of the rest. Otherwise `y` stands before the rest.
    go : (found : Option X) → f a ≡ found
        → ((p : Option X) → last_or p (filter_map f apdus) ≡ Some x → (p ≡ Some x) ⊎ Finds f apdus x)
        → last_or o (cons_option found (filter_map f apdus)) ≡ Some x
        → (o ≡ Some x) ⊎ Finds f (a ∷ apdus) x
    go None e rest is = elim (rest o is) [ inl before ↦ inl before | inr there ↦ inr (finds_further f a apdus x there) ]
    go (Some y) e rest is = elim (rest (Some y) is)
        [ inl here ↦ inr (suc zero, a, refl, e ∙ here) | inr there ↦ inr (finds_further f a apdus x there) ]

-- The last value found is found in one of the APDUs.
pub finds_last : {X : Type 0} (f : Apdu → Option X) (apdus : List Apdu) (x : X) → last_of f apdus ≡ Some x → Finds f apdus x
finds_last f apdus x is = elim (last_from f None apdus x is) [ inl none ↦ search (rules, none) | inr there ↦ there ]

-- If k is among the numbers that `f` finds in `apdus`, `f` finds k in one of them.
pub finds_any : (f : Apdu → Option ℕ) (apdus : List Apdu) (k : ℕ) → list_any (λ m. m == k) (filter_map f apdus) ≡ true
    → Finds f apdus k
finds_any f [] k is = search rules
finds_any f (a ∷ apdus) k is = go (f a) refl (finds_any f apdus k) is
  where
    -- The number m that `f` finds in `a` is k, or k is found in the rest.
    pick : (m : ℕ) (here : Bool) → (m == k) ≡ here → f a ≡ Some m
        → (list_any (λ i. i == k) (filter_map f apdus) ≡ true → Finds f apdus k)
        → (here || list_any (λ i. i == k) (filter_map f apdus)) ≡ true → Finds f (a ∷ apdus) k
    pick m true e found rest is = (suc zero, a, refl, found ∙ ap Some (eqb-true m k e))
    pick m false e found rest is = finds_further f a apdus k (rest is)

    -- `f` finds no number in `a`, or the number m.
    go : (found : Option ℕ) → f a ≡ found → (list_any (λ i. i == k) (filter_map f apdus) ≡ true → Finds f apdus k)
        → list_any (λ m. m == k) (cons_option found (filter_map f apdus)) ≡ true
        → Finds f (a ∷ apdus) k
    go None e rest is = finds_further f a apdus k (rest is)
    go (Some m) e rest is = pick m (m == k) refl e rest is

-- If all found numbers pass a test, the number found in one APDU passes it.
pub all_found : (f : Apdu → Option ℕ) (p : ℕ → Bool) (apdus : List Apdu) (n : ℕ) (a : Apdu) (k : ℕ)
    → list_all p (filter_map f apdus) ≡ true → message apdus n ≡ Some a → f a ≡ Some k → p k ≡ true
all_found f p apdus zero a k all at is = search rules
all_found f p [] (suc n) a k all at is = search rules
all_found f p (b ∷ apdus) (suc zero) a k all at is = go (f b) (ap f (same_apdu b a at) ∙ is) all
  where
    -- The number that `f` finds in `b` is k, and passes the test.
    go : (found : Option ℕ) → found ≡ Some k → list_all p (cons_option found (filter_map f apdus)) ≡ true → p k ≡ true
    go None e all = search rules
    go (Some m) e all = let same : m ≡ k = search rules in subst (λ i. p i ≡ true) same (and_parts _ _ all).0
all_found f p (b ∷ apdus) (suc (suc n)) a k all at is = all_found f p apdus (suc n) a k (rest_all (f b) all) at is
  where
    -- The numbers that `f` finds in the rest pass the test.
    rest_all : (found : Option ℕ) → list_all p (cons_option found (filter_map f apdus)) ≡ true
        → list_all p (filter_map f apdus) ≡ true
    rest_all None all = all
    rest_all (Some m) all = (and_parts _ _ all).1

-- ---- numbers

-- Returns the number of an APDU, if `says` holds of its body.
abbrev pub number_if : (Body → Bool) → Apdu → Option ℕ
number_if says a = if says a.body then Some a.number else None

-- If `if says then Some number else None` is `Some n`, `says` is true and `number` is n.
said_it : (says : Bool) (number n : ℕ) → (if says then Some number else None) ≡ Some n → (says ≡ true) × (number ≡ n)
said_it true number n is = (refl, search rules)
said_it false number n is = search rules

-- If n is the last number that `number_if says` finds, message n has it, and `says` holds of this message.
pub was_last : (says : Body → Bool) (txn : Qualifiers) (apdus : List Apdu) (n : ℕ) → are_numbered txn 1 apdus ≡ true
    → last_of (number_if says) apdus ≡ Some n
    → (a : Apdu) × (message apdus n ≡ Some a) × (says a.body ≡ true) × (a.number ≡ n)
was_last says txn apdus n numbered is =
    let found = finds_last (number_if says) apdus n is in
    let said = said_it (says found.1.body) found.1.number n found.3 in
    let number = message_number txn apdus found.0 found.1 numbered found.2 in
    (found.1, subst (λ k. message apdus k ≡ Some found.1) (sym number.1 ∙ said.1) found.2, said.0, said.1)

-- If the numbers of a list begin at `first`, after `number`, the last number found is not below `number`. `number` is
-- the value found before the list.
last_from_there : (says : Body → Bool) (txn : Qualifiers) (first number : ℕ) (apdus : List Apdu) (n : ℕ)
    → are_numbered txn first apdus ≡ true → number < first
    → last_or (Some number) (filter_map (number_if says) apdus) ≡ Some n → number ≤ n
last_from_there says txn first number apdus n numbered below last = go (last_from (number_if says) (Some number) apdus n last)
  where
    -- The last number is `number` itself, or the number of a later APDU.
    go : (◌≡◌ {A = Option ℕ} (Some number) (Some n)) ⊎ Finds (number_if says) apdus n → number ≤ n
    go (inl e) = let is_n : number ≡ n = search rules in omega (arith, is_n)
    go (inr (zero, a, at, is)) = search rules
    go (inr (suc i, a, at, is)) =
        let there = at_number txn first apdus i a numbered at in
        let said = said_it (says a.body) a.number n is in
        omega (arith, below, there.1, said.1)

-- The last number found is not below the number of an APDU of which `says` holds. The list is numbered from `first` on,
-- and `o` is the value found before it.
last_not_below : (says : Body → Bool) (txn : Qualifiers) (first : ℕ) (o : Option ℕ) (apdus : List Apdu) (i : ℕ) (a : Apdu) (n : ℕ)
    → are_numbered txn first apdus ≡ true → slice_get apdus i ≡ Some a
    → says a.body ≡ true → last_or o (filter_map (number_if says) apdus) ≡ Some n → a.number ≤ n
unfolding are_numbered
last_not_below says txn first o [] i a n numbered at is last = search rules
last_not_below says txn first o (b ∷ apdus) zero a n numbered at is last =
    let same : b ≡ a = same_apdu b a at in
    let says_b : says b.body ≡ true = subst (λ (c : Apdu). says c.body ≡ true) (sym same) is in
    let parts = and_parts _ _ numbered in
    let number = eqb-true b.number first (and_parts _ _ parts.0).1 in
    let start : last_or (Some b.number) (filter_map (number_if says) apdus) ≡ Some n =
    subst (λ (x : Bool). last_or o (cons_option (if x then Some b.number else None) (filter_map (number_if says) apdus))
    ≡ Some n) says_b last in
    subst (λ (c : Apdu). c.number ≤ n) same
    (last_from_there says txn (first + 1) b.number apdus n parts.1 (omega (arith, number)) start)
last_not_below says txn first o (b ∷ apdus) (suc i) a n numbered at is last =
    go (number_if says b) (λ p. last_not_below says txn (first + 1) p apdus i a n (and_parts _ _ numbered).1 at is) last
  where
    -- The number found in `b`, or none, stands before the numbers of the rest.
    go : (found : Option ℕ) → ((p : Option ℕ) → last_or p (filter_map (number_if says) apdus) ≡ Some n → a.number ≤ n)
        → last_or o (cons_option found (filter_map (number_if says) apdus)) ≡ Some n → a.number ≤ n
    go None rest last = rest o last
    go (Some m) rest last = rest (Some m) last

-- A message of which `says` holds has a number up to the last one found.
pub not_above_last : (says : Body → Bool) (txn : Qualifiers) (apdus : List Apdu) (m n : ℕ) (a : Apdu)
    → are_numbered txn 1 apdus ≡ true → message apdus m ≡ Some a → says a.body ≡ true
    → last_of (number_if says) apdus ≡ Some n → a.number ≤ n
not_above_last says txn apdus zero n a numbered at is last = search rules
not_above_last says txn apdus (suc i) n a numbered at is last = last_not_below says txn 1 None apdus i a n numbered at is last

-- A list that is not empty has a last value.
last_some : {X : Type 0} (o : Option X) (xs : List X) (x : X) → (last : X) × (last_or o (x ∷ xs) ≡ Some last)
last_some o [] x = (x, refl)
last_some o (y ∷ xs) x = last_some (Some x) xs y

-- If `says` holds of an APDU of the list, a last number is found. `o` is the value found before the list.
pub has_last : (says : Body → Bool) (o : Option ℕ) (apdus : List Apdu)
    → list_any (λ (a : Apdu). says a.body) apdus ≡ true
    → (n : ℕ) × (last_or o (filter_map (number_if says) apdus) ≡ Some n)
has_last says o [] is = search rules
has_last says o (a ∷ apdus) is = go (says a.body) (has_last says o apdus) is
  where
    -- If `says` holds of `a`, its number is found. Otherwise a number is found in the rest.
    go : (here : Bool) → (list_any (λ (b : Apdu). says b.body) apdus ≡ true → (n : ℕ)
        × (last_or o (filter_map (number_if says) apdus) ≡ Some n)) → (here || list_any (λ (b : Apdu). says b.body) apdus) ≡ true
        → (n : ℕ) × (last_or o (cons_option (if here then Some a.number else None) (filter_map (number_if says) apdus)) ≡ Some n)
    go true rest is = last_some o (filter_map (number_if says) apdus) a.number
    go false rest is = rest is
