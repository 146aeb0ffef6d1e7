-- Proves how `written` writes a text, by its first bytes. An acting character is one on which a terminal may act.
use Rattle.std.proofs.Common.{◌≡◌, ℕ, Bool, true, false, ◌++◌, List, [], ◌∷◌, if◌then◌else◌, sym, ap, subst, ◌∙◌}
use Rattle.std.proofs.lemmas.List.{append-nil}
use Rattle.ill_text.specs.declared.escape.Escaping.{Escaping}
use Rattle.ill_text.specs.Escape.{byte_text, escape, written, number_of_two, number_of_three, number_of_four, is_acting_pair}
use Rattle.ill_text.specs.Escape.{is_acting_triple, is_acting_quad}

-- If the first two bytes are an acting character, `written` replaces them by its escape.
pub two_escape : (escaping : Escaping) (first second : ℕ) (rest : List ℕ) → is_acting_pair first second ≡ true
    → written escaping (first ∷ second ∷ rest) ≡ escape escaping (number_of_two first second) ++ written escaping rest
unfolding written
two_escape escaping first second [] acts =
    let shown = escape escaping (number_of_two first second) in
    ap (λ (act : Bool). if act then shown else byte_text escaping first ++ byte_text escaping second) acts
    ∙ sym (append-nil shown)
two_escape escaping first second (third ∷ []) acts =
    ap
    (λ (act : Bool). if act then escape escaping (number_of_two first second) ++ byte_text escaping third
    else (if is_acting_triple first second third then escape escaping (number_of_three first second third)
    else byte_text escaping first ++ written escaping (second ∷ third ∷ [])))
    acts
two_escape escaping first second (third ∷ fourth ∷ rest) acts =
    ap
    (λ (act : Bool). if act then escape escaping (number_of_two first second) ++ written escaping (third ∷ fourth ∷ rest)
    else (if is_acting_triple first second third then
    escape escaping (number_of_three first second third) ++ written escaping (fourth ∷ rest)
    else (if is_acting_quad first second third fourth then
    escape escaping (number_of_four first second third fourth) ++ written escaping rest
    else byte_text escaping first ++ written escaping (second ∷ third ∷ fourth ∷ rest))))
    acts

-- If the first three bytes are an acting character and the first two are none, `written` escapes all three.
pub three_escape : (escaping : Escaping) (first second third : ℕ) (rest : List ℕ) → is_acting_pair first second ≡ false
    → is_acting_triple first second third ≡ true
    → written escaping (first ∷ second ∷ third ∷ rest)
    ≡ escape escaping (number_of_three first second third) ++ written escaping rest
unfolding written
three_escape escaping first second third [] pass acts =
    let shown = escape escaping (number_of_three first second third) in
    let stays = byte_text escaping first ++ written escaping (second ∷ third ∷ []) in
    ap (λ (act : Bool). if act then escape escaping (number_of_two first second) ++ byte_text escaping third
    else (if is_acting_triple first second third then shown else stays)) pass
    ∙ ap (λ (act : Bool). if act then shown else stays) acts ∙ sym (append-nil shown)
three_escape escaping first second third (fourth ∷ rest) pass acts =
    let shown = escape escaping (number_of_three first second third) ++ written escaping (fourth ∷ rest) in
    let stays = byte_text escaping first ++ written escaping (second ∷ third ∷ fourth ∷ rest) in
    let other = escape escaping (number_of_four first second third fourth) ++ written escaping rest in
    let later = (if is_acting_quad first second third fourth then other else stays) in
    ap (λ (act : Bool). if act then escape escaping (number_of_two first second) ++ written escaping (third ∷ fourth ∷ rest)
    else (if is_acting_triple first second third then shown else later)) pass
    ∙ ap (λ (act : Bool). if act then shown else later) acts

-- If the first two and the first three bytes are no acting character, `written` tests the first four.
fourth_byte_decides : (escaping : Escaping) (first second third fourth : ℕ) (rest : List ℕ)
    → is_acting_pair first second ≡ false → is_acting_triple first second third ≡ false
    → written escaping (first ∷ second ∷ third ∷ fourth ∷ rest)
    ≡ (if is_acting_quad first second third fourth then
    escape escaping (number_of_four first second third fourth) ++ written escaping rest else
    byte_text escaping first ++ written escaping (second ∷ third ∷ fourth ∷ rest))
unfolding written
fourth_byte_decides escaping first second third fourth rest pass passes =
    let three = escape escaping (number_of_three first second third) ++ written escaping (fourth ∷ rest) in
    let stays = byte_text escaping first ++ written escaping (second ∷ third ∷ fourth ∷ rest) in
    let four = escape escaping (number_of_four first second third fourth) ++ written escaping rest in
    let later = (if is_acting_quad first second third fourth then four else stays) in
    ap (λ (act : Bool). if act then escape escaping (number_of_two first second) ++ written escaping (third ∷ fourth ∷ rest)
    else (if is_acting_triple first second third then three else later)) pass
    ∙ ap (λ (act : Bool). if act then three else later) passes

-- If the first four bytes are an acting character and fewer are none, `written` escapes all four.
pub four_escape : (escaping : Escaping) (first second third fourth : ℕ) (rest : List ℕ)
    → is_acting_pair first second ≡ false → is_acting_triple first second third ≡ false
    → is_acting_quad first second third fourth ≡ true
    → written escaping (first ∷ second ∷ third ∷ fourth ∷ rest)
    ≡ escape escaping (number_of_four first second third fourth) ++ written escaping rest
four_escape escaping first second third fourth rest pass passes acts =
    fourth_byte_decides escaping first second third fourth rest pass passes
    ∙ ap (λ (act : Bool). if act then escape escaping (number_of_four first second third fourth) ++ written escaping rest else
    byte_text escaping first ++ written escaping (second ∷ third ∷ fourth ∷ rest)) acts

-- If a text of four bytes or more begins with no acting character, `written` writes its first byte by itself.
pub first_stays : (escaping : Escaping) (first second third fourth : ℕ) (rest : List ℕ)
    → is_acting_pair first second ≡ false → is_acting_triple first second third ≡ false
    → is_acting_quad first second third fourth ≡ false
    → written escaping (first ∷ second ∷ third ∷ fourth ∷ rest)
    ≡ byte_text escaping first ++ written escaping (second ∷ third ∷ fourth ∷ rest)
first_stays escaping first second third fourth rest pass passes last =
    fourth_byte_decides escaping first second third fourth rest pass passes
    ∙ ap (λ (act : Bool). if act then escape escaping (number_of_four first second third fourth) ++ written escaping rest else
    byte_text escaping first ++ written escaping (second ∷ third ∷ fourth ∷ rest)) last

-- If a text of three bytes begins with no acting character, `written` writes its first byte by itself.
pub first_of_three_stays : (escaping : Escaping) (first second third : ℕ) (after more rest : List ℕ) → after ≡ second ∷ more
    → more ≡ third ∷ rest → rest ≡ [] → is_acting_pair first second ≡ false → is_acting_triple first second third ≡ false
    → written escaping (first ∷ after) ≡ byte_text escaping first ++ written escaping after
unfolding written
first_of_three_stays escaping first second third after more rest is goes none pass passes =
    let three = escape escaping (number_of_three first second third) in
    let stays = byte_text escaping first ++ written escaping (second ∷ third ∷ []) in
    let all =
    ap (λ (act : Bool). if act then escape escaping (number_of_two first second) ++ byte_text escaping third
    else (if is_acting_triple first second third then three else stays)) pass
    ∙ ap (λ (act : Bool). if act then three else stays) passes in
    let whole = is ∙ ap (λ (more : List ℕ). second ∷ more) (goes ∙ ap (λ (rest : List ℕ). third ∷ rest) none) in
    subst (λ (after : List ℕ). written escaping (first ∷ after) ≡ byte_text escaping first ++ written escaping after)
    (sym whole) all

-- `written` writes the last byte of a text by itself.
pub last_stays : (escaping : Escaping) (first : ℕ) (after : List ℕ) → after ≡ []
    → written escaping (first ∷ after) ≡ byte_text escaping first ++ written escaping after
unfolding written
last_stays escaping first after none =
    subst (λ (after : List ℕ). written escaping (first ∷ after) ≡ byte_text escaping first ++ written escaping after) (sym none)
    (sym (append-nil (byte_text escaping first)))

-- If a text of two bytes is no acting character, `written` writes its first byte by itself.
pub first_of_two_stays : (escaping : Escaping) (first second : ℕ) (after rest : List ℕ) → after ≡ second ∷ rest
    → rest ≡ [] → is_acting_pair first second ≡ false
    → written escaping (first ∷ after) ≡ byte_text escaping first ++ written escaping after
unfolding written
first_of_two_stays escaping first second after rest is none pass =
    let both = ap (λ (act : Bool). if act then escape escaping (number_of_two first second) else
    byte_text escaping first ++ byte_text escaping second) pass in
    subst (λ (after : List ℕ). written escaping (first ∷ after) ≡ byte_text escaping first ++ written escaping after)
    (ap (λ (rest : List ℕ). second ∷ rest) (sym none) ∙ sym is) both

-- If `rest`, the bytes left to write, is empty, the text `shown` so far is `all`.
pub none_left : (escaping : Escaping) (shown all rest : List ℕ) → shown ++ written escaping rest ≡ all → rest ≡ [] → shown ≡ all
unfolding written
none_left escaping shown all rest left none =
    sym (append-nil shown) ∙ subst (λ (rest : List ℕ). shown ++ written escaping rest ≡ all) none left
