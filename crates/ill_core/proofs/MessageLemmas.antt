-- Proves statements on message n of a list of issued APDUs, and of a list with one more APDU.
use Rattle.std.proofs.Common.{rules, arith, ◌≡◌, ◌⊎◌, inl, inr, ℕ, zero, suc, ◌+◌, ◌≤◌, Bool, true, List, [], ◌∷◌, ◌++◌, length}
use Rattle.std.proofs.Common.{Some, refl, ap, ◌∙◌}
use Rattle.std.proofs.lemmas.Bool.{or_cases, or_left, or_right}
use Rattle.ill_values.specs.declared.apdu.Apdu.{Apdu}
use Rattle.ill_values.specs.Body.{Body}
use Rattle.ill_core.specs.Issued.{message, has_message_with}

-- If message n + 1 is old or new, so is message n + 2 after an APDU is put first.
message_further : (apdus : List Apdu) (a b : Apdu) (n : ℕ)
    → ((message apdus (suc n) ≡ Some b) × (suc n ≤ length apdus)) ⊎ ((suc n ≡ length apdus + 1) × (a ≡ b))
    → ((message apdus (suc n) ≡ Some b) × (suc (suc n) ≤ suc (length apdus))) ⊎ ((suc (suc n) ≡ suc (length apdus) + 1) × (a ≡ b))
message_further apdus a b n (inl old) = inl (old.0, omega (arith, old.1))
message_further apdus a b n (inr new) = inr (omega (arith, new.0), new.1)

-- Let `a` be added to a list. Then message `n` is an old message, and `n` is at most the old length. Or message `n` is
-- `a`, and `n` is the old length plus 1.
pub message_more : (apdus : List Apdu) (a b : Apdu) (n : ℕ) → message (apdus ++ a ∷ []) n ≡ Some b
    → ((message apdus n ≡ Some b) × (n ≤ length apdus)) ⊎ ((n ≡ length apdus + 1) × (a ≡ b))
message_more apdus a b zero there = search rules
message_more [] a b (suc zero) there = inr (refl, search rules)
message_more [] a b (suc (suc n)) there = search rules
message_more (c ∷ apdus) a b (suc zero) there = inl (there, omega arith)
message_more (c ∷ apdus) a b (suc (suc n)) there = message_further apdus a b n (message_more apdus a b (suc n) there)

-- If `says` holds of message `n`, it holds of at least one APDU of the list.
pub message_says : (says : Body → Bool) (apdus : List Apdu) (n : ℕ) (b : Apdu) → message apdus n ≡ Some b
    → says b.body ≡ true → has_message_with says apdus ≡ true
message_says says apdus zero b there is = search rules
message_says says [] (suc n) b there is = search rules
message_says says (c ∷ apdus) (suc zero) b there is =
    let same : c ≡ b = search rules in
    or_left _ _ (ap (λ (a : Apdu). says a.body) same ∙ is)
message_says says (c ∷ apdus) (suc (suc n)) b there is = or_right (says c.body) _ (message_says says apdus (suc n) b there is)

-- `says` holds of the body of some message of the list.
abbrev pub Said : (Body → Bool) → List Apdu → Type 0
Said says apdus = (n : ℕ) × (a : Apdu) × (message apdus n ≡ Some a) × (says a.body ≡ true)

-- If `says` holds of message `n`, it holds of some message after APDU `b` is put first.
said_further : (says : Body → Bool) (b : Apdu) (apdus : List Apdu) (n : ℕ) (a : Apdu) → message apdus n ≡ Some a
    → says a.body ≡ true → Said says (b ∷ apdus)
said_further says b apdus zero a at is = search rules
said_further says b apdus (suc n) a at is = (suc (suc n), a, at, is)

-- If `says` holds of `b` or of one of `apdus`, it holds of some message of `b ∷ apdus`.
said_first : (says : Body → Bool) (b : Apdu) (apdus : List Apdu) → (says b.body ≡ true) ⊎ (has_message_with says apdus ≡ true)
    → (has_message_with says apdus ≡ true → Said says apdus) → Said says (b ∷ apdus)
said_first says b apdus (inl is) others = (1, b, refl, is)
said_first says b apdus (inr there) others =
    let said = others there in
    said_further says b apdus said.0 said.1 said.2 said.3

-- If `says` holds of at least one APDU of the list, it holds of some message.
pub says_message : (says : Body → Bool) (apdus : List Apdu) → has_message_with says apdus ≡ true → Said says apdus
says_message says [] there = search rules
says_message says (b ∷ apdus) there = said_first says b apdus (or_cases _ _ there) (says_message says apdus)
