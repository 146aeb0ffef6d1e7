-- The laws of sealed letters. What opens is what was sealed, and the other way round.
use Rattle.std.proofs.Common.{◌≡◌, ◌==◌, ℕ, ◌-◌, ◌+◌, ◌≤◌, ltb, Bool, true, false, cond, not, List, [], ◌∷◌, ◌++◌, length}
use Rattle.std.proofs.Common.{take, drop, Result, Ok, Err, refl, sym, ap, subst, ◌∙◌, arith, length-append}
use Rattle.std.specs.Prelude.{nat_eq, slice_index, Contains}
use Rattle.std.specs.List.{starts_with}
use Rattle.std.specs.Str.{bytes_eq}
use Rattle.std.proofs.lemmas.Bool.{eqb-true, eq-eqb, ltb-false, le-ltb, not-false}
use Rattle.std.proofs.lemmas.List.{take_at, drop_at, take-append-drop, take-take, get_or-take}
use Rattle.std.proofs.lemmas.Slice.Eq.{bytes_eq-Decides}
use Rattle.sha2.proofs.Facts256.{length-sha256}
use Rattle.ill_seal.specs.declared.sender.Sender.{Sender}
use Rattle.ill_seal.specs.declared.sender.Sender.TheVariants.{Requester, Responder}
use Rattle.ill_seal.specs.declared.fault.SealFault.{SealFault}
use Rattle.ill_seal.specs.declared.fault.SealFault.TheVariants as faults
use Rattle.ill_seal.specs.Hmac.{hmac}
use Rattle.ill_seal.specs.Sender.{octet_of}
use Rattle.ill_seal.specs.Letter.{mark, unsealed, sealed, body_of, opened}
use Rattle.ill_seal.specs.Carried.{HasSeal, NobodyElseSeals}

-- An HMAC-SHA256 has 32 bytes.
pub length-hmac : (key text : List ℕ) → length (hmac key text) ≡ 32
unfolding hmac
length-hmac key text = length-sha256 _

-- If `cond b r (Err fault)` gives `x`, `b` is true and `r` gives `x`.
passed : {A : Type 0} (b : Bool) (r : Result A SealFault) (fault : SealFault) (x : A) → cond b r (Err fault) ≡ Ok x
    → (b ≡ true) × (r ≡ Ok x)
passed true r fault x e = (refl, e)
passed false r fault x e = absurd cc

-- If `cond b (Err fault) r` gives `x`, `b` is false and `r` gives `x`.
went_on : {A : Type 0} (b : Bool) (r : Result A SealFault) (fault : SealFault) (x : A) → cond b (Err fault) r ≡ Ok x
    → (b ≡ false) × (r ≡ Ok x)
went_on true r fault x e = absurd cc
went_on false r fault x e = (refl, e)

-- Returns `Ok x`, with the type of its fault.
abbrev done : List ℕ → Result (List ℕ) SealFault
done x = Ok x

-- If `Ok x` equals `Ok y`, `x` equals `y`.
ok_is : (x y : List ℕ) → done x ≡ done y → x ≡ y
ok_is x y e = cc

-- Returns `Err fault`, with the type of its value.
abbrev failed : SealFault → Result (List ℕ) SealFault
failed fault = Err fault

-- A fault is no text.
no_text : (fault : SealFault) (text : List ℕ) → failed fault ≡ done text → ⊥
no_text fault text e = cc

-- Five elements before the rest are at least five.
five_first : (a b c d e : ℕ) (rest : List ℕ) → 5 ≤ length (a ∷ b ∷ c ∷ d ∷ e ∷ rest)
five_first a b c d e rest = omega arith

-- A sealed letter opens, and gives its text: it passes each test of `opened`.
pub opens : (key : List ℕ) (sender : Sender) (text : List ℕ) → opened key sender (sealed key sender text) ≡ Ok text
unfolding opened sealed
opens key sender text =
    let body = unsealed sender text in
    let seal = hmac key body in
    let letter = body ++ seal in
    let size : length seal ≡ 32 = length-hmac key body in
    let all = length-append body seal in
    let five : 5 ≤ length body = five_first 73 76 76 83 (octet_of sender) text in
    let long : ltb (length letter) 37 ≡ false = le-ltb (length letter) 37 (omega (arith, size, all, five)) in
    let at_seal : length body ≡ length letter - 32 = omega (arith, size, all) in
    let taken : body_of letter ≡ body = take_at body seal (length letter - 32) at_seal in
    let dropped : drop (length letter - 32) letter ≡ seal = drop_at body seal (length letter - 32) at_seal in
    let named : (octet_of sender == octet_of sender) ≡ true = eq-eqb (octet_of sender) (octet_of sender) refl in
    let fits : bytes_eq (drop (length letter - 32) letter) (hmac key (body_of letter)) ≡ true =
    (bytes_eq-Decides _ _).1 (dropped ∙ ap (hmac key) (sym taken)) in
    rw (long, named, fits) (ap (λ (x : List ℕ). done (drop 5 x)) taken)

-- A list of at least five elements is its first four, the fifth, and the rest.
split_five : (bytes : List ℕ) → 5 ≤ length bytes → bytes ≡ take 4 bytes ++ slice_index bytes 4 ∷ drop 5 bytes
split_five [] long = absurd (omega (arith, long))
split_five (a ∷ []) long = absurd (omega (arith, long))
split_five (a ∷ b ∷ []) long = absurd (omega (arith, long))
split_five (a ∷ b ∷ c ∷ []) long = absurd (omega (arith, long))
split_five (a ∷ b ∷ c ∷ d ∷ []) long = absurd (omega (arith, long))
split_five (a ∷ b ∷ c ∷ d ∷ e ∷ rest) long = refl

-- Bytes that open are the sealed letter of the text that they give. By `long`, `begun`, `named` and `closed` they have
-- passed each test of `opened`. So their parts are known, and are joined.
pub only : (key : List ℕ) (sender : Sender) (letter text : List ℕ) → opened key sender letter ≡ Ok text
    → letter ≡ sealed key sender text
unfolding opened sealed
only key sender letter text e =
    let size = length letter - 32 in
    let body = body_of letter in
    let long = went_on (ltb (length letter) 37) _ faults.Short text e in
    let begun = went_on (not (starts_with nat_eq letter mark)) _ faults.Mark text long.1 in
    let named = went_on (not (slice_index letter 4 == octet_of sender)) _ faults.Sender text begun.1 in
    let closed = passed (bytes_eq (drop size letter) (hmac key body)) (Ok (drop 5 body)) faults.Seal text named.1 in
    let enough : 37 ≤ length letter = ltb-false (length letter) 37 long.0 in
    let marked : mark ≡ take 4 letter =
    (bytes_eq-Decides mark (take 4 letter)).0 (not-false (starts_with nat_eq letter mark) begun.0) in
    let octet : slice_index letter 4 ≡ octet_of sender =
    eqb-true (slice_index letter 4) (octet_of sender) (not-false (slice_index letter 4 == octet_of sender) named.0) in
    let seal : drop size letter ≡ hmac key body = (bytes_eq-Decides (drop size letter) (hmac key body)).0 closed.0 in
    let after : drop 5 body ≡ text = ok_is (drop 5 body) text closed.1 in
    let first : take 4 body ≡ mark = take-take 4 size letter (omega (arith, enough)) ∙ sym marked in
    let fifth : slice_index body 4 ≡ octet_of sender = get_or-take size letter 4 0 (omega (arith, enough)) ∙ octet in
    let halves : body ++ drop size letter ≡ letter = take-append-drop size letter in
    let sizes = length-append body (drop size letter) in
    let rest : length (drop size letter) ≡ 32 = ap length seal ∙ length-hmac key body in
    let whole_size : length (body ++ drop size letter) ≡ length letter = ap length halves in
    let five : 5 ≤ length body = omega (arith, sizes, rest, whole_size, enough) in
    let prefix : body ≡ unsealed sender text =
    split_five body five ∙ ap (λ (x : List ℕ). x ++ slice_index body 4 ∷ drop 5 body) first
    ∙ ap (λ (x : ℕ). mark ++ x ∷ drop 5 body) fifth ∙ ap (λ (x : List ℕ). mark ++ octet_of sender ∷ x) after in
    let whole : letter ≡ body ++ hmac key body = sym halves ∙ ap (λ (x : List ℕ). body ++ x) seal in
    subst (λ (x : List ℕ). letter ≡ x ++ hmac key x) prefix whole

-- A letter of the responder does not open as a letter of the requester. The fault is Sender.
pub not_of_requester : (key other text : List ℕ) → opened key Requester (sealed other Responder text) ≡ Err faults.Sender
unfolding opened sealed
not_of_requester key other text =
    let body = unsealed Responder text in
    let seal = hmac other body in
    let letter = body ++ seal in
    let size : length seal ≡ 32 = length-hmac other body in
    let all = length-append body seal in
    let five : 5 ≤ length body = five_first 73 76 76 83 1 text in
    let long : ltb (length letter) 37 ≡ false = le-ltb (length letter) 37 (omega (arith, size, all, five)) in
    rw long refl

-- A letter of the requester does not open as a letter of the responder. The fault is Sender.
pub not_of_responder : (key other text : List ℕ) → opened key Responder (sealed other Requester text) ≡ Err faults.Sender
unfolding opened sealed
not_of_responder key other text =
    let body = unsealed Requester text in
    let seal = hmac other body in
    let letter = body ++ seal in
    let size : length seal ≡ 32 = length-hmac other body in
    let all = length-append body seal in
    let five : 5 ≤ length body = five_first 73 76 76 83 0 text in
    let long : ltb (length letter) 37 ≡ false = le-ltb (length letter) 37 (omega (arith, size, all, five)) in
    rw long refl

-- Let two lists be equal, and their ends `x` and `y` have one length. Then the ends are equal, and so is what stands
-- before them.
ends_alike : (xs ys x y : List ℕ) → length x ≡ length y → xs ++ x ≡ ys ++ y → (xs ≡ ys) × (x ≡ y)
ends_alike xs ys x y size e =
    let left = length-append xs x in
    let right = length-append ys y in
    let all : length (xs ++ x) ≡ length (ys ++ y) = ap length e in
    let fronts : length xs ≡ length ys = omega (arith, left, right, all, size) in (
      sym (take_at xs x (length xs) refl) ∙ ap (take (length xs)) e ∙ take_at ys y (length xs) (sym fronts),
      sym (drop_at xs x (length xs) refl) ∙ ap (drop (length xs)) e ∙ drop_at ys y (length xs) (sym fronts),
    )

-- If a letter of `body` and the 32 bytes `seal` opens, `seal` is the HMAC of `body`. And `body` is all of the sealed
-- letter of the text but its seal.
pub seal_fits : (key : List ℕ) (sender : Sender) (body seal text : List ℕ) → length seal ≡ 32
    → opened key sender (body ++ seal) ≡ Ok text → (body ≡ unsealed sender text) × (seal ≡ hmac key body)
unfolding sealed
seal_fits key sender body seal text size e =
    let is : body ++ seal ≡ unsealed sender text ++ hmac key (unsealed sender text) = only key sender (body ++ seal) text e in
    let long = length-hmac key (unsealed sender text) in
    let both = ends_alike body (unsealed sender text) seal (hmac key (unsealed sender text)) (omega (arith, size, long)) is in
    (both.0, both.1 ∙ ap (hmac key) (sym both.0))

-- If `body` and `changed` both open with the same `seal`, they have one HMAC under the key.
pub one_seal : (key : List ℕ) (sender : Sender) (body changed seal text other : List ℕ) → length seal ≡ 32
    → opened key sender (body ++ seal) ≡ Ok text → opened key sender (changed ++ seal) ≡ Ok other
    → hmac key body ≡ hmac key changed
one_seal key sender body changed seal text other size before after =
    sym (seal_fits key sender body seal text size before).1 ∙ (seal_fits key sender changed seal other size after).1

-- If a letter that `by` has sealed opens as a letter of `sender`, `sender` has sealed its text.
is_of : (key : List ℕ) (texts : Sender → List (List ℕ)) (sender by : Sender) (text other : List ℕ)
    → opened key sender (sealed key by other) ≡ Ok text → Contains (texts by) other → Contains (texts sender) text
is_of key texts Requester Requester text other e has =
    subst (λ (x : List ℕ). Contains (texts Requester) x) (ok_is other text (sym (opens key Requester other) ∙ e)) has
is_of key texts Responder Responder text other e has =
    subst (λ (x : List ℕ). Contains (texts Responder) x) (ok_is other text (sym (opens key Responder other) ∙ e)) has
is_of key texts Requester Responder text other e has = absurd (no_text _ text (sym (not_of_requester key key other) ∙ e))
is_of key texts Responder Requester text other e has = absurd (no_text _ text (sym (not_of_responder key key other) ∙ e))

-- A sealed letter is `unsealed` of its text, followed by the HMAC of these bytes.
sealed_is : (key : List ℕ) (sender : Sender) (bytes text : List ℕ) → bytes ≡ sealed key sender text
    → bytes ≡ unsealed sender text ++ hmac key (unsealed sender text)
unfolding sealed
sealed_is key sender bytes text is = is

-- If nobody else seals, and bytes that came open as a letter of `sender`, `sender` has sealed their text.
pub forged_by_nobody : (key : List ℕ) (texts : Sender → List (List ℕ)) (came : List (List ℕ)) (sender : Sender)
    (bytes text : List ℕ) → NobodyElseSeals key texts came → Contains came bytes → opened key sender bytes ≡ Ok text
    → Contains (texts sender) text
forged_by_nobody key texts came sender bytes text nobody has e =
    let is = only key sender bytes text e in
    let fits : HasSeal key bytes = (unsealed sender text, sealed_is key sender bytes text is) in
    let theirs = nobody bytes has fits in
    is_of key texts sender theirs.0 text theirs.1
    (subst (λ (x : List ℕ). opened key sender x ≡ Ok text) theirs.3 e) theirs.2

-- A sealed letter has 37 bytes more than its text.
pub letter_size : (key : List ℕ) (sender : Sender) (text : List ℕ) → length (sealed key sender text) ≡ length text + 37
unfolding sealed
letter_size key sender text =
    let body = unsealed sender text in
    let all = length-append body (hmac key body) in
    let seal = length-hmac key body in
    let front : length body ≡ length text + 5 = omega arith in
    omega (arith, all, seal, front)
