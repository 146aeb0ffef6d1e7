-- The sizes of elements and of fields in bytes, for the contracts of `sizing.rt`.
use Rattle.std.proofs.Common.{◌≡◌, ℕ, ◌+◌, Bool, cond, List, [], ◌∷◌, ◌++◌, length, Option, is_some, refl, sym, ap, ◌∙◌, arith}
use Rattle.std.proofs.lemmas.List.{length-append}
use Rattle.ill_values.specs.Day.{Date, date_text}
use Rattle.ill_der.specs.Contents.{number_octets, date}
use Rattle.ill_der.specs.Format.{length_octets, element, optional}
use Rattle.ill_der.specs.ShortForm.{qualifiers, txn_id, head, request, reply, grant}

-- An element has one identifier octet, the length octets of its contents, and the contents.
pub element_length : (identifier : ℕ) (contents : List ℕ)
    → length (element identifier contents) ≡ 1 + length (length_octets (length contents)) + length contents
unfolding element
element_length identifier contents = omega (arith, length-append (length_octets (length contents)) contents)

-- The element of a date has 10 bytes.
pub date_length : (d : Date) → length (element 0x85 (date_text d)) ≡ 10
unfolding element length_octets
date_length d = refl

-- The element of one contents octet has 3 bytes.
pub code_length : (code : ℕ) → length (element 0x84 (code ∷ [])) ≡ 3
unfolding element length_octets
code_length code = refl

-- Returns the element of a yes or no.
abbrev yes_no_element : Bool → List ℕ
yes_no_element is_yes = element 0x84 (cond is_yes 0xFF 0 ∷ [])

-- Returns the number of bytes of an element with `n` contents octets.
abbrev pub sized : ℕ → ℕ
sized n = 1 + length (length_octets n) + n

-- If `a` and `b` are the sizes of the elements of both qualifiers, their encoding has `a + b` bytes.
pub qualifiers_length : (group transaction : List ℕ) (a b : ℕ) → a ≡ sized (length group)
    → b ≡ sized (length transaction) → a + b ≡ length (qualifiers.encode (group, transaction))
qualifiers_length group transaction a b ea eb =
    omega (
      arith,
      ea,
      eb,
      length-append (element 0x81 group) (element 0x82 transaction),
      element_length 0x81 group,
      element_length 0x82 transaction,
    )

-- If the qualifiers take `inside` bytes, the transaction id has the size of an element with `inside` contents octets.
pub id_length : (group transaction : List ℕ) (inside n : ℕ) → inside ≡ length (qualifiers.encode (group, transaction))
    → n ≡ sized inside → n ≡ length (txn_id.encode (group, transaction))
id_length group transaction inside n e en = en ∙ ap sized e ∙ sym (element_length 0xA1 (qualifiers.encode (group, transaction)))

-- The size of an element does not depend on its identifier.
same_size : (identifier : ℕ) (contents : List ℕ) (n : ℕ) → n ≡ length (element 0 contents)
    → n ≡ length (element identifier contents)
same_size identifier contents n e = e ∙ element_length 0 contents ∙ sym (element_length identifier contents)

-- The element of the version has 3 bytes.
version_length : length (element 0x80 (1 ∷ [])) ≡ 3
unfolding element length_octets
version_length = refl

-- If the transaction id has `id` bytes and the number `n`, the head has `3 + id + n`.
pub head_length : (group transaction : List ℕ) (number id n : ℕ) → id ≡ length (txn_id.encode (group, transaction))
    → n ≡ length (element 0 (number_octets number))
    → 3 + id + n ≡ length (head.encode (tt, ((group, transaction), number)))
head_length group transaction number id n ei en =
    let text = txn_id.encode (group, transaction) in
    omega (
      arith,
      ei,
      same_size 0x82 (number_octets number) n en,
      version_length,
      length-append (element 0x80 (1 ∷ [])) (text ++ element 0x82 (number_octets number)),
      length-append text (element 0x82 (number_octets number)),
    )

-- If the expiry date has `a` bytes and the item `b`, the fields of a request have `a + b`.
pub request_length : (expiry : Option Date) (text : List ℕ) (a b : ℕ) → a ≡ length ((optional 0x85 date).encode expiry)
    → b ≡ sized (length text) → a + b ≡ length (request.encode (expiry, text))
request_length expiry text a b ea eb =
    omega (arith, ea, eb, element_length 0x86 text, length-append ((optional 0x85 date).encode expiry) (element 0x86 text))

-- If `n` is the size of the number, the fields of a reply have `n + 3` bytes.
pub reply_length : (answers : ℕ) (is_yes : Bool) (n : ℕ) → n ≡ length (element 0 (number_octets answers))
    → n + 3 ≡ length (reply.encode (answers, is_yes))
reply_length answers is_yes n e =
    omega (
      arith,
      same_size 0x83 (number_octets answers) n e,
      code_length (cond is_yes 0xFF 0),
      length-append (element 0x83 (number_octets answers)) (yes_no_element is_yes),
    )

-- If the number has `n` bytes and the date `m`, the fields of a Renew-Answer have `n + 3 + m`.
pub grant_length : (answers : ℕ) (granted : Option Date) (n m : ℕ) → n ≡ length (element 0 (number_octets answers))
    → m ≡ length ((optional 0x85 date).encode granted)
    → n + 3 + m ≡ length (grant.encode (answers, granted))
grant_length answers granted n m en em =
    let flag = yes_no_element (is_some granted) in
    let day = (optional 0x85 date).encode granted in
    omega (
      arith,
      same_size 0x83 (number_octets answers) n en,
      em,
      code_length (cond (is_some granted) 0xFF 0),
      length-append (element 0x83 (number_octets answers)) (flag ++ day),
      length-append flag day,
    )
