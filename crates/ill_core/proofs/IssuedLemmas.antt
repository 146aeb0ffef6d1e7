-- Proves how one more APDU changes the tests of a list of issued APDUs.
use Rattle.std.proofs.Common.{rules, arith, ◌≡◌, ◌⊎◌, inl, inr, ℕ, zero, suc, ◌+◌, ◌<◌, ◌≤◌, Bool, true, false, not, ◌&&◌, ◌||◌}
use Rattle.std.proofs.Common.{nat_eq, List, [], ◌∷◌, ◌++◌, length, take, drop, Option, Some, None, Ok, Err, nat_lt, if◌then◌else◌}
use Rattle.std.proofs.Common.{refl, ap, append-nil, length-append, eq-eqb, subst, sym, ◌∙◌}
use Rattle.std.proofs.lemmas.Bool.{and_parts, and_from, or_from, eqb-true}
use Rattle.std.proofs.Math.Bool.{or-false}
use Rattle.std.specs.List.{list_all, filter_map, cons_option, last_or}
use Rattle.std.specs.Option.{option_or}
use Rattle.std.proofs.Math.ListN.{get_or}
use Rattle.std.proofs.lemmas.List.{at_drop_all, append_cancel_left, drop_more}
use Rattle.std.proofs.lemmas.List.Elements.{filter_map-append}
use Rattle.std.proofs.lemmas.List.Folds.{list_any-append, list_all-append}
use Rattle.ill_values.specs.TxnId.{Qualifiers}
use Rattle.ill_values.specs.declared.apdu.Apdu.{Apdu}
use Rattle.ill_values.specs.Body.{Body}
use Rattle.ill_core.specs.declared.refusal.Refusal.TheVariants.{NumbersUsed}
use Rattle.ill_core.specs.Numbers.{is_equal_number}
use Rattle.ill_values.specs.Bodies.{is_cancel, is_renew, is_ill_request}
use Rattle.ill_core.specs.Issued.{is_message_with, number_of_cancel, number_of_renew, next_number, with_next, next_apdu}
use Rattle.ill_core.specs.Issued.{are_numbered}
use Rattle.ill_core.specs.Issued.{is_same_txn, has_message_with, last_of}
use Rattle.ill_core.specs.Requester.{begins_with_request}
use Rattle.ill_core.specs.Issued.{is_none}

-- `are_numbered` of a list is its test of the first APDU and of the rest.
numbered_cons : (txn : Qualifiers) (number : ℕ) (a : Apdu) (apdus : List Apdu)
    → are_numbered txn number (a ∷ apdus)
    ≡ ((is_same_txn a.txn txn && (nat_eq a.number number)) && are_numbered txn (number + 1) apdus)
unfolding are_numbered
numbered_cons txn number a apdus = refl

-- `are_numbered` is true of an empty list.
pub numbered_none : (txn : Qualifiers) (number : ℕ) → are_numbered txn number [] ≡ true
unfolding are_numbered
numbered_none txn number = refl

-- `a` is the APDU at index `i`, and `judged` says that `a` belongs to `txn` and has number `i + 1`. Then `are_numbered`
-- of the list from index `i` on is `judged` and `are_numbered` of the list after `a`.
pub numbered_at : (txn : Qualifiers) (apdus : List Apdu) (i : ℕ) (a : Apdu) (judged : Bool) → i < length apdus
    → a ≡ get_or apdus i a
    → judged ≡ (is_same_txn a.txn txn && nat_eq a.number (i + 1))
    → are_numbered txn (i + 1) (drop i apdus) ≡ (judged && are_numbered txn (i + 1 + 1) (drop (i + 1) apdus))
numbered_at txn apdus i a judged within there is =
    let prefix : are_numbered txn (i + 1) (drop i apdus) ≡ are_numbered txn (i + 1) (get_or apdus i a ∷ drop (i + 1) apdus) =
    ap (are_numbered txn (i + 1)) (drop_more apdus i a within) in
    let same : are_numbered txn (i + 1) (get_or apdus i a ∷ drop (i + 1) apdus)
    ≡ are_numbered txn (i + 1) (a ∷ drop (i + 1) apdus) =
    ap (λ b. are_numbered txn (i + 1) (b ∷ drop (i + 1) apdus)) (sym there) in
    prefix ∙ (same ∙ (numbered_cons txn (i + 1) a (drop (i + 1) apdus)
    ∙ ap (λ b. b && are_numbered txn (i + 1 + 1) (drop (i + 1) apdus)) (sym is)))

-- `are_numbered` is true of the empty list after the last APDU.
pub numbered_end : (txn : Qualifiers) (apdus : List Apdu) (i : ℕ) → length apdus ≤ i
    → are_numbered txn (i + 1) (drop i apdus) ≡ true
numbered_end txn apdus i all = at_drop_all (are_numbered txn (i + 1)) apdus i all ∙ numbered_none txn (i + 1)

-- A value found in the first APDU replaces the value found before, and values in the others replace both.
found_first : {X : Type 0} (o found : Option X) (others : List X)
    → last_or o (cons_option found others) ≡ last_or (option_or found o) others
found_first o None others = refl
found_first o (Some x) others = refl

-- A value found in the APDU at index `i` replaces the value found before, and later ones replace both.
pub last_at : {X : Type 0} (f : Apdu → Option X) (o : Option X) (apdus : List Apdu) (i : ℕ) (d : Apdu) → i < length apdus
    → last_or o (filter_map f (drop i apdus)) ≡ last_or (option_or (f (get_or apdus i d)) o) (filter_map f (drop (i + 1) apdus))
last_at f o apdus i d within =
    let prefix : last_or o (filter_map f (drop i apdus)) ≡ last_or o (filter_map f (get_or apdus i d ∷ drop (i + 1) apdus)) =
    ap (λ xs. last_or o (filter_map f xs)) (drop_more apdus i d within) in
    prefix ∙ found_first o (f (get_or apdus i d)) (filter_map f (drop (i + 1) apdus))

-- If a list is numbered, it is numbered with one more APDU of `txn` with the next number.
pub numbered_next : (txn : Qualifiers) (number : ℕ) (apdus : List Apdu) (a : Apdu)
    → are_numbered txn number apdus ≡ true → is_same_txn a.txn txn ≡ true → a.number ≡ number + length apdus
    → are_numbered txn number (apdus ++ a ∷ []) ≡ true
unfolding are_numbered
numbered_next txn number [] a numbered same next =
    and_from _ _ (and_from _ _ same (eq-eqb a.number number (omega (arith, next)))) refl
numbered_next txn number (b ∷ apdus) a numbered same next =
    let parts = and_parts _ _ numbered in
    and_from _ _ parts.0 (numbered_next txn (number + 1) apdus a parts.1 same (omega (arith, next)))

-- The first `count` APDUs of a numbered list are numbered.
pub numbered_prefix : (txn : Qualifiers) (number count : ℕ) (apdus : List Apdu) → are_numbered txn number apdus ≡ true
    → are_numbered txn number (take count apdus) ≡ true
unfolding are_numbered
numbered_prefix txn number zero apdus numbered = refl
numbered_prefix txn number (suc count) [] numbered = refl
numbered_prefix txn number (suc count) (a ∷ apdus) numbered =
    let parts = and_parts _ _ numbered in
    and_from _ _ parts.0 (numbered_prefix txn (number + 1) count apdus parts.1)

-- If `not b` is true, `b` is false.
pub not_true : (b : Bool) → not b ≡ true → b ≡ false
not_true b h = search rules

-- If a number is left, it is `n + 1`, and `n` is below 255.
pub next_of : (n number : ℕ) → (if nat_lt n 255 then Ok (n + 1) else Err NumbersUsed) ≡ Ok number → (number ≡ n + 1) × (n < 255)
next_of n number h = search rules

-- Each transaction equals itself.
pub same_txn : (txn : Qualifiers) → is_same_txn txn txn ≡ true
same_txn txn = search rules

-- If a list is numbered and a number is left, the list with the next APDU is numbered. It has at most 255 APDUs.
pub numbered_issue : (txn : Qualifiers) (apdus : List Apdu) (a : Apdu) (number : ℕ) → are_numbered txn 1 apdus ≡ true
    → next_number apdus ≡ Ok number → a.txn ≡ txn → a.number ≡ number
    → (are_numbered txn 1 (apdus ++ a ∷ []) ≡ true) × (length (apdus ++ a ∷ []) ≤ 255)
numbered_issue txn apdus a number numbered next same is =
    let n = next_of (length apdus) number next in (
      numbered_next txn 1 apdus a numbered (subst (λ t. is_same_txn t txn ≡ true) (sym same) (same_txn txn))
          (omega (arith, n.0, is)),
      omega (arith, n.1, length-append apdus (a ∷ [])),
    )

-- `says` holds in `apdus` with `a` at the end if, and only if, it holds in `apdus` or of `a`.
pub has_more : (says : Body → Bool) (apdus : List Apdu) (a : Apdu)
    → has_message_with says (apdus ++ a ∷ []) ≡ (has_message_with says apdus || says a.body)
has_more says apdus a =
    list_any-append (λ (b : Apdu). says b.body) apdus (a ∷ [])
    ∙ ap (λ b. has_message_with says apdus || b) (or-false (says a.body))

-- If `says` holds of all old APDUs and of the new one, it holds of all.
pub all_more : (says : Body → Bool) (apdus : List Apdu) (a : Apdu) → list_all (λ b. says b.body) apdus ≡ true → says a.body ≡ true
    → list_all (λ b. says b.body) (apdus ++ a ∷ []) ≡ true
all_more says apdus a old next =
    list_all-append (λ (b : Apdu). says b.body) apdus (a ∷ []) ∙ and_from _ _ old (and_from _ _ next refl)

-- A list with one more APDU is not empty.
pub none_more : (apdus : List Apdu) (a : Apdu) → is_none (apdus ++ a ∷ []) ≡ false
none_more [] a = refl
none_more (b ∷ apdus) a = refl

-- If a new APDU is an ILL-Request exactly when the list was empty, `begins_with_request` still holds with it.
pub begins_more : (apdus : List Apdu) (a : Apdu) → begins_with_request apdus ≡ true → is_ill_request a.body ≡ is_none apdus
    → begins_with_request (apdus ++ a ∷ []) ≡ true
begins_more [] a old is = and_from _ _ is refl
begins_more (b ∷ apdus) a old is =
    let parts = and_parts _ _ old in
    and_from _ _ parts.0 (ap not (has_more is_ill_request apdus a ∙ or_from _ _ (not_true _ parts.1) is))

-- The last value of a list with `x` at its end is `x`.
last_more : {X : Type 0} (o : Option X) (xs : List X) (x : X) → last_or o (xs ++ x ∷ []) ≡ Some x
last_more o [] x = refl
last_more o (y ∷ xs) x = last_more (Some y) xs x

-- If `f` finds nothing in the new APDU, the values found in the list do not change.
pub found_none : {X : Type 0} (f : Apdu → Option X) (apdus : List Apdu) (a : Apdu) → f a ≡ None
    → filter_map f (apdus ++ a ∷ []) ≡ filter_map f apdus
found_none f apdus a none =
    filter_map-append f apdus (a ∷ []) ∙ (ap (λ o. filter_map f apdus ++ cons_option o []) none ∙ append-nil (filter_map f apdus))

-- If `f` finds `x` in the new APDU, `x` is added at the end of the values found.
pub found_more : {X : Type 0} (f : Apdu → Option X) (apdus : List Apdu) (a : Apdu) (x : X) → f a ≡ Some x
    → filter_map f (apdus ++ a ∷ []) ≡ filter_map f apdus ++ x ∷ []
found_more f apdus a x there = filter_map-append f apdus (a ∷ []) ∙ ap (λ o. filter_map f apdus ++ cons_option o []) there

-- A value found at the end replaces the last value. If none is found, the last value does not change.
last_after : {X : Type 0} (o : Option X) (xs : List X) (found : Option X)
    → last_or o (xs ++ cons_option found []) ≡ option_or found (last_or o xs)
last_after o [] None = refl
last_after o [] (Some x) = refl
last_after o (y ∷ xs) found = last_after (Some y) xs found

-- A value found in the new APDU replaces the last value. If none is found, the last value does not change.
pub last_of_next : {X : Type 0} (f : Apdu → Option X) (apdus : List Apdu) (a : Apdu)
    → last_of f (apdus ++ a ∷ []) ≡ option_or (f a) (last_of f apdus)
last_of_next f apdus a = ap (last_or None) (filter_map-append f apdus (a ∷ [])) ∙ last_after None (filter_map f apdus) (f a)

-- If `f` finds `x` in the new APDU, `x` is the last value.
pub last_of_more : {X : Type 0} (f : Apdu → Option X) (apdus : List Apdu) (a : Apdu) (x : X) → f a ≡ Some x
    → last_of f (apdus ++ a ∷ []) ≡ Some x
last_of_more f apdus a x there = ap (last_or None) (found_more f apdus a x there) ∙ last_more None (filter_map f apdus) x

-- If the numbers found before are below `number`, and the APDU has `number`, the number found is below `number + 1`.
-- `is_one` says that the APDU is of the kind sought.
number_found : (number a_number m : ℕ) (is_one : Bool) (o : Option ℕ) → a_number ≡ number → ((m : ℕ) → o ≡ Some m → m < number)
    → option_or (if is_one then Some a_number else None) o ≡ Some m → m < number + 1
number_found number a_number m true o is within found = search rules
number_found number a_number m false o is within found = omega (arith, within m found)

-- In a list numbered from `number` on, the number of the last Renew is below the next number. If the list has no Renew,
-- `o` stands for it, and is below `number`.
renew_below : (txn : Qualifiers) (number : ℕ) (apdus : List Apdu) (o : Option ℕ) (n : ℕ) → ((m : ℕ) → o ≡ Some m → m < number)
    → are_numbered txn number apdus ≡ true → last_or o (filter_map number_of_renew apdus) ≡ Some n → n < number + length apdus
renew_below txn number [] o n within numbered found = omega (arith, within n found)
renew_below txn number (a ∷ apdus) o n within numbered found =
    let parts : ((is_same_txn a.txn txn && nat_eq a.number number) ≡ true) × (are_numbered txn (number + 1) apdus ≡ true) =
    and_parts _ _ (sym (numbered_cons txn number a apdus) ∙ numbered) in
    let same : a.number ≡ number = eqb-true a.number number
    (and_parts (is_same_txn a.txn txn) (nat_eq a.number number) parts.0).1 in
    let after : n < number + 1 + length apdus =
    renew_below txn (number + 1) apdus (option_or (number_of_renew a) o) n
    (λ m. number_found number a.number m (is_renew a.body) o same within) parts.1
    (sym (found_first o (number_of_renew a) (filter_map number_of_renew apdus)) ∙ found) in
    omega (arith, after)

-- In a list numbered from 1 on, the number of the last Renew is at most the length.
pub last_renew_within : (txn : Qualifiers) (apdus : List Apdu) (n : ℕ) → are_numbered txn 1 apdus ≡ true
    → last_of number_of_renew apdus ≡ Some n → n ≤ length apdus
last_renew_within txn apdus n numbered found = let below : n < 1 + length apdus =
    renew_below txn 1 apdus None n (λ m no. search rules) numbered found in omega (arith, below)

-- If two lists of one APDU each are equal, the bodies of both APDUs are equal.
same_body : (a b : Apdu) → ◌≡◌ {A = List Apdu} (a ∷ []) (b ∷ []) → a.body ≡ b.body
same_body a b same = search rules

-- Let the list with the next APDU, which has `body`, equal the list with `a` at the end. Then `body` is the body of
-- `a`.
pub issued_body : (txn : Qualifiers) (apdus : List Apdu) (body : Body) (a : Apdu)
    → with_next txn apdus body ≡ apdus ++ a ∷ [] → body ≡ a.body
issued_body txn apdus body a same = same_body (next_apdu txn apdus body) a (append_cancel_left apdus _ _ same)

-- No number equals itself plus 1.
more_than_itself : (n : ℕ) → n ≡ n + 1 → ⊥
more_than_itself n h = omega (arith, h)

-- No list `new` equals both `old` and `old` with one more APDU. If one did, any `P` would hold.
pub not_longer : {P : Type 0} (old new : List Apdu) (a : Apdu) → new ≡ old → new ≡ old ++ a ∷ [] → P
not_longer old new a same longer =
    absurd (more_than_itself (length old) (ap length (sym same ∙ longer) ∙ length-append old (a ∷ [])))

-- ---- messages by their numbers, and Cancels

-- If message `n + 1` is old or the new one, so is message `n + 2` after an APDU is put first. `old` tests an old
-- message, and `says` the new one. `size` is the number of old messages.
message_one_further : (says : Bool) (old : Bool) (n size : ℕ) → (old ≡ true) ⊎ ((suc n ≡ size + 1) × (says ≡ true))
    → (old ≡ true) ⊎ ((suc (suc n) ≡ suc size + 1) × (says ≡ true))
message_one_further says old n size (inl is) = inl is
message_one_further says old n size (inr (at, is)) = inr (omega (arith, at), is)

-- If `says` holds of message `c` after APDU `a` is added, it holds of the old message `c`. Or `c` is the next number,
-- and `says` holds of `a`.
pub was_more : (says : Body → Bool) (apdus : List Apdu) (a : Apdu) (c : ℕ) → is_message_with says (apdus ++ a ∷ []) c ≡ true
    → (is_message_with says apdus c ≡ true) ⊎ ((c ≡ length apdus + 1) × (says a.body ≡ true))
was_more says apdus a zero h = search rules
was_more says [] a (suc zero) h = search rules
was_more says [] a (suc (suc n)) h = search rules
was_more says (b ∷ apdus) a (suc zero) h = inl h
was_more says (b ∷ apdus) a (suc (suc n)) h =
    message_one_further (says a.body) (is_message_with says apdus (suc n)) n (length apdus) (was_more says apdus a (suc n) h)

-- If the new APDU is not a Cancel, each message that is a Cancel was one before.
pub still_cancel : (apdus : List Apdu) (a : Apdu) (c : ℕ) → is_cancel a.body ≡ false
    → is_message_with is_cancel (apdus ++ a ∷ []) c ≡ true → is_message_with is_cancel apdus c ≡ true
still_cancel apdus a c other h = search (rules, was_more is_cancel apdus a c h)

-- If the new APDU is a Cancel, its number is the number of the last Cancel.
pub last_cancel_more : (apdus : List Apdu) (a : Apdu) → is_cancel a.body ≡ true
    → last_of number_of_cancel (apdus ++ a ∷ []) ≡ Some a.number
last_cancel_more apdus a is = last_of_more number_of_cancel apdus a a.number (ap (λ b. if b then Some a.number else None) is)

-- Cancel `c` is old, as `old` says, or has number `size`. If `size` is the number of the last Cancel and `c` is not,
-- Cancel `c` is old.
pub older_cancel : (c size : ℕ) (last : Option ℕ) (old : Bool) → last ≡ Some size → is_equal_number c last ≡ false
    → (old ≡ true) ⊎ ((c ≡ size) × (true ≡ true)) → old ≡ true
older_cancel c size last old is_last other (inl is) = is
older_cancel c size last old is_last other (inr (same, h)) = search rules
