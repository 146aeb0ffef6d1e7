-- If the answered numbers are distinct, no two messages of a list answer one number. If at most one message ends the
-- request, its number is the last that is found.
use Rattle.std.proofs.Common.{rules, arith, ◌≡◌, ℕ, zero, suc, ◌+◌, ◌≤◌, Bool, true, false, not, ◌||◌, ◌==◌, cond, List, [], ◌∷◌}
use Rattle.std.proofs.Common.{Option, Some, None, if◌then◌else◌, refl, sym, ap, ◌∙◌, subst}
use Rattle.std.specs.Prelude.{slice_get}
use Rattle.std.specs.List.{list_any, filter_map, cons_option, last_or, count_by}
use Rattle.std.proofs.lemmas.List.Sums.{sum_by-cons}
use Rattle.std.proofs.lemmas.Bool.{and_parts, or_right, eq-eqb, eqb-true}
use Rattle.ill_values.specs.TxnId.{Qualifiers}
use Rattle.ill_values.specs.declared.apdu.Apdu.{Apdu}
use Rattle.ill_values.specs.Body.{Body}
use Rattle.ill_values.specs.Bodies.{is_end}
use Rattle.ill_core.specs.Numbers.{are_distinct}
use Rattle.ill_core.specs.Issued.{message, last_of, number_of_end, are_numbered, is_same_txn}
use Rattle.ill_world.specs.Agreement.{AnswersOnce}

-- ---- numbers

-- In a numbered list, the APDU at index i is of `txn`, and has the number `first + i`.
pub at_number : (txn : Qualifiers) (first : ℕ) (apdus : List Apdu) (i : ℕ) (a : Apdu)
    → are_numbered txn first apdus ≡ true → slice_get apdus i ≡ Some a
    → (is_same_txn a.txn txn ≡ true) × (a.number ≡ first + i)
unfolding are_numbered
at_number txn first [] i a numbered e = search rules
at_number txn first (b ∷ apdus) zero a numbered e =
    let is : b ≡ a = search rules in
    let parts = and_parts _ _ (and_parts _ _ numbered).0 in
    subst (λ x. (is_same_txn x.txn txn ≡ true) × (x.number ≡ first + 0)) is
    (parts.0, omega (arith, eqb-true b.number first parts.1))
at_number txn first (b ∷ apdus) (suc i) a numbered e =
    let rest : (is_same_txn a.txn txn ≡ true) × (a.number ≡ first + 1 + i) =
    at_number txn (first + 1) apdus i a (and_parts _ _ numbered).1 e in
    (rest.0, omega (arith, rest.1))

-- In a numbered list, message n is of `txn`, and has the number n.
pub message_number : (txn : Qualifiers) (apdus : List Apdu) (n : ℕ) (a : Apdu) → are_numbered txn 1 apdus ≡ true
    → message apdus n ≡ Some a → (is_same_txn a.txn txn ≡ true) × (a.number ≡ n)
message_number txn apdus zero a numbered e = search rules
message_number txn apdus (suc i) a numbered e = let at = at_number txn 1 apdus i a numbered e in (at.0, omega (arith, at.1))

-- ---- answers

-- If a number is in a list, it is in the list with one more option before it.
found_tail : (o : Option ℕ) (ks : List ℕ) (k : ℕ) → list_any (λ m. m == k) ks ≡ true
    → list_any (λ m. m == k) (cons_option o ks) ≡ true
found_tail None ks k is = is
found_tail (Some m) ks k is = or_right (m == k) _ is

-- If an option has a number, this number is in the list that begins with the option.
found_head : (o : Option ℕ) (ks : List ℕ) (k : ℕ) → o ≡ Some k → list_any (λ m. m == k) (cons_option o ks) ≡ true
found_head o ks k is = subst (λ x. list_any (λ m. m == k) (cons_option x ks) ≡ true) (sym is)
    (ap (λ (r : Bool). r || list_any (λ m. m == k) ks) (eq-eqb k k refl))

-- If `Some a` and `Some b` are equal, so are `a` and `b`.
pub same_apdu : (a b : Apdu) → ◌≡◌ {A = Option Apdu} (Some a) (Some b) → a ≡ b
same_apdu a b e = search rules

-- A number that `f` finds in an APDU of the list is among all numbers that it finds.
pub found_among : (f : Apdu → Option ℕ) (apdus : List Apdu) (i : ℕ) (a : Apdu) (k : ℕ) → slice_get apdus i ≡ Some a
    → f a ≡ Some k → list_any (λ m. m == k) (filter_map f apdus) ≡ true
found_among f [] i a k e is = search rules
found_among f (b ∷ apdus) zero a k e is = found_head (f b) (filter_map f apdus) k (ap f (same_apdu b a e) ∙ is)
found_among f (b ∷ apdus) (suc i) a k e is = found_tail (f b) (filter_map f apdus) k (found_among f apdus i a k e is)

-- If a list with an option before it is distinct, the list is distinct.
rest_distinct : (o : Option ℕ) (ks : List ℕ) → are_distinct (cons_option o ks) ≡ true → are_distinct ks ≡ true
unfolding are_distinct
rest_distinct None ks distinct = distinct
rest_distinct (Some m) ks distinct = (and_parts _ _ distinct).1

-- If a list with k before it is distinct, k is not in the list.
not_twice : (o : Option ℕ) (ks : List ℕ) (k : ℕ) → o ≡ Some k → are_distinct (cons_option o ks) ≡ true
    → list_any (λ m. m == k) ks ≡ true → ⊥
unfolding are_distinct
not_twice None ks k is distinct twice = search rules
not_twice (Some m) ks k is distinct twice =
    let same : m ≡ k = search rules in
    let once = (and_parts _ _ distinct).0 in
    let also : list_any (λ n. n == m) ks ≡ true = subst (λ x. list_any (λ n. n == x) ks ≡ true) (sym same) twice in
    let no : not true ≡ true = ap not (sym also) ∙ once in
    search rules

-- If the numbers that `f` finds are distinct, it finds no number at two places.
distinct_places : (f : Apdu → Option ℕ) (apdus : List Apdu) (i j k : ℕ) (a b : Apdu)
    → are_distinct (filter_map f apdus) ≡ true → slice_get apdus i ≡ Some a → slice_get apdus j ≡ Some b
    → f a ≡ Some k
    → f b ≡ Some k → i ≡ j
distinct_places f [] i j k a b distinct at_i at_j is_a is_b = search rules
distinct_places f (c ∷ apdus) zero zero k a b distinct at_i at_j is_a is_b = refl
distinct_places f (c ∷ apdus) zero (suc j) k a b distinct at_i at_j is_a is_b =
    absurd (not_twice (f c) (filter_map f apdus) k (ap f (same_apdu c a at_i) ∙ is_a) distinct
    (found_among f apdus j b k at_j is_b))
distinct_places f (c ∷ apdus) (suc i) zero k a b distinct at_i at_j is_a is_b =
    absurd (not_twice (f c) (filter_map f apdus) k (ap f (same_apdu c b at_j) ∙ is_b) distinct
    (found_among f apdus i a k at_i is_a))
distinct_places f (c ∷ apdus) (suc i) (suc j) k a b distinct at_i at_j is_a is_b =
    ap suc (distinct_places f apdus i j k a b (rest_distinct (f c) (filter_map f apdus) distinct) at_i at_j is_a is_b)

-- If the answered numbers are distinct, no two messages of the list answer one number.
pub answers_once : (answered : Body → Option ℕ) (apdus : List Apdu)
    → are_distinct (filter_map (λ a. answered a.body) apdus) ≡ true → AnswersOnce answered (message apdus)
answers_once answered apdus distinct zero n k a b at_m at_n is_a is_b = search rules
answers_once answered apdus distinct (suc m) zero k a b at_m at_n is_a is_b = search rules
answers_once answered apdus distinct (suc m) (suc n) k a b at_m at_n is_a is_b =
    ap suc (distinct_places (λ x. answered x.body) apdus m n k a b distinct at_m at_n is_a is_b)

-- ---- the end

-- If no APDU ends the request, neither the first one nor the rest gives the number of an end.
none_with_first : (ends : Bool) (n : ℕ) (rest : List ℕ) (count : ℕ) → (cond ends 1 0) + count ≡ 0 → (count ≡ 0 → rest ≡ [])
    → cons_option (if ends then Some n else None) rest ≡ []
none_with_first true n rest count none more = absurd (omega (arith, none))
none_with_first false n rest count none more = more (omega (arith, none))

-- Returns the count of the APDUs that end the request.
abbrev ends_in : List Apdu → ℕ
ends_in apdus = count_by (λ a. is_end a.body) apdus

-- A list's count of ends is 1 or 0 for its first APDU, plus the count in the rest.
count_first : (a : Apdu) (apdus : List Apdu) → ends_in (a ∷ apdus) ≡ (cond (is_end a.body) 1 0) + ends_in apdus
count_first a apdus = sum_by-cons (λ (x : Apdu). cond (is_end x.body) 1 0) a apdus

-- In a list without an end, no number of an end is found.
none_found : (apdus : List Apdu) → ends_in apdus ≡ 0 → filter_map number_of_end apdus ≡ []
none_found [] none = refl
none_found (a ∷ apdus) none = none_with_first (is_end a.body) a.number (filter_map number_of_end apdus) (ends_in apdus)
    (sym (count_first a apdus) ∙ none) (none_found apdus)

-- If only the first APDU ends the request, its number is the last found.
first_is_last : (ends : Bool) (n : ℕ) (rest : List ℕ) (o : Option ℕ) → ends ≡ true → rest ≡ []
    → last_or o (cons_option (if ends then Some n else None) rest) ≡ Some n
first_is_last true n rest o is none = ap (last_or (Some n)) none
first_is_last false n rest o is none = search rules

-- The last number found in the rest of a list is the last found in the whole.
last_in_rest : (ends : Bool) (n m : ℕ) (rest : List ℕ) (o : Option ℕ) → ((o : Option ℕ) → last_or o rest ≡ Some m)
    → last_or o (cons_option (if ends then Some n else None) rest) ≡ Some m
last_in_rest true n m rest o last = last (Some n)
last_in_rest false n m rest o last = last o

-- If the first APDU ends the request, and at most one does, no other does.
one_more_end : (ends : Bool) (count : ℕ) → ends ≡ true → (cond ends 1 0) + count ≤ 1 → count ≡ 0
one_more_end true count is most = omega (arith, most)
one_more_end false count is most = search rules

-- In a list with at most one end, the number of this end is the last number found.
one_last : (apdus : List Apdu) (i : ℕ) (a : Apdu) (o : Option ℕ) → ends_in apdus ≤ 1 → slice_get apdus i ≡ Some a
    → is_end a.body ≡ true → last_or o (filter_map number_of_end apdus) ≡ Some a.number
one_last [] i a o most e is = search rules
one_last (b ∷ apdus) zero a o most e is =
    let same : b ≡ a = same_apdu b a e in
    let ends : is_end b.body ≡ true = ap (λ (x : Apdu). is_end x.body) same ∙ is in
    let none = none_found apdus (one_more_end (is_end b.body) (ends_in apdus) ends (omega (arith, most, count_first b apdus))) in
    first_is_last (is_end b.body) b.number (filter_map number_of_end apdus) o ends none ∙ ap (λ (x : Apdu). Some x.number) same
one_last (b ∷ apdus) (suc i) a o most e is =
    last_in_rest (is_end b.body) b.number a.number (filter_map number_of_end apdus) o
    (λ p. one_last apdus i a p (omega (arith, most, count_first b apdus)) e is)

-- In a numbered list with at most one end, if message n is the end, n is the last found.
pub one_end : (txn : Qualifiers) (apdus : List Apdu) (n : ℕ) (a : Apdu) → are_numbered txn 1 apdus ≡ true
    → ends_in apdus ≤ 1 → message apdus n ≡ Some a → is_end a.body ≡ true
    → last_of number_of_end apdus ≡ Some n
one_end txn apdus zero a numbered most e is = search rules
one_end txn apdus (suc i) a numbered most e is =
    one_last apdus i a None most e is ∙ ap Some (message_number txn apdus (suc i) a numbered e).1
