-- Proves that the path in a record of CSV is read back.
use Rattle.std.proofs.Common.{◌≡◌, ℕ, Bool, true, false, List, [], ◌∷◌, ◌++◌, Some, refl, sym, ap, ◌∙◌}
use Rattle.std.specs.Prelude.{◌==◌, codes, cond, if◌then◌else◌, option_map}
use Rattle.std.specs.List.{flat_map}
use Rattle.std.proofs.lemmas.Bool.{eqb-true}
use Rattle.ill_figures.specs.Texts.{quoted, quoted_byte, unquoted, within}

-- If the text after a byte is read back, so is the byte with this text. `is_quote` is true if the byte is a quote.
byte_read : (byte : ℕ) (is_quote : Bool) (text : List ℕ) → (byte == 0x22) ≡ is_quote
    → within false (flat_map quoted_byte text ++ codes "\"") ≡ Some text
    → within false ((cond is_quote (codes "\"\"") (byte ∷ []) ++ flat_map quoted_byte text) ++ codes "\"") ≡ Some (byte ∷ text)
unfolding within
byte_read byte true text is read =
    ap (option_map (λ rest. 0x22 ∷ rest)) read
    ∙ ap (λ (first : ℕ). Some (first ∷ text)) (sym (eqb-true byte 0x22 is))
byte_read byte false text is read =
    ap (λ (b : Bool). if b then within true (flat_map quoted_byte text ++ codes "\"")
    else option_map (λ rest. byte ∷ rest) (within false (flat_map quoted_byte text ++ codes "\""))) is
    ∙ ap (option_map (λ rest. byte ∷ rest)) read

-- The text within quotes is read back.
text_read : (text : List ℕ) → within false (flat_map quoted_byte text ++ codes "\"") ≡ Some text
unfolding within
text_read [] = refl
text_read (byte ∷ text) = byte_read byte (byte == 0x22) text refl (text_read text)

-- A text in quotes is read back.
pub read_back : (text : List ℕ) → unquoted (quoted text) ≡ Some text
read_back text = text_read text
