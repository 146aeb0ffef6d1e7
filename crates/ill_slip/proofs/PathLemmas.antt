-- Proves that the path of a code is drawn symbol by symbol.
use Rattle.std.proofs.Common.{◌≡◌, ℕ, List, [], ◌∷◌, ◌++◌, map, codes, refl, ap, sym, ◌∙◌, append_assoc}
use Rattle.std.specs.List.{flat_map}
use Rattle.ill_slip.specs.Code128.{check, drawn, encoded, path, start, stop, symbol, value_of}

-- The path of the symbol of `value`, and of `rest` after it, is `drawn value` and the path of `rest`.
path_of_symbol : (value : ℕ) (rest : List ℕ) → path (symbol value ++ rest) ≡ drawn value ++ path rest
unfolding drawn
path_of_symbol value rest = refl

-- The path of the symbols of `text`, and of `rest`, is each character drawn, and then the path of `rest`.
path_of_characters : (text rest : List ℕ)
    → path (flat_map symbol (map value_of text ++ rest) ++ 2 ∷ [])
    ≡ flat_map (λ character. drawn (value_of character)) text ++ path (flat_map symbol rest ++ 2 ∷ [])
path_of_characters [] rest = refl
path_of_characters (character ∷ text) rest =
    let after = flat_map symbol (map value_of text ++ rest) in
    let first = drawn (value_of character) in
    path_of_symbol (value_of character) (after ++ 2 ∷ [])
    ∙ ap (λ others. first ++ others) (path_of_characters text rest)
    ∙ sym (append_assoc first (flat_map (λ other. drawn (value_of other)) text) (path (flat_map symbol rest ++ 2 ∷ [])))

-- The path of the code of a text is drawn symbol by symbol, and ends with a bar.
pub path_of_code : (text : List ℕ) → path (encoded text)
    ≡ drawn start ++ (flat_map (λ character. drawn (value_of character)) text
    ++ (drawn (check text) ++ (drawn stop ++ codes "h2")))
unfolding encoded
path_of_code text =
    path_of_symbol start (flat_map symbol (map value_of text ++ check text ∷ stop ∷ []) ++ 2 ∷ [])
    ∙ ap (λ others. drawn start ++ others) (path_of_characters text (check text ∷ stop ∷ [])
    ∙ ap (λ others. flat_map (λ character. drawn (value_of character)) text ++ others)
    (path_of_symbol (check text) (symbol stop ++ 2 ∷ [])
    ∙ ap (λ others. drawn (check text) ++ others) (path_of_symbol stop (2 ∷ []))))

-- A text that grows by `one` and then by `rest` grows by both.
pub grown : (before first last one rest : List ℕ) → first ≡ before ++ one → last ≡ first ++ rest → last ≡ before ++ (one ++ rest)
grown before first last one rest e f = f ∙ ap (λ text. text ++ rest) e ∙ append_assoc before one rest
