-- Proves that an escaped text is inert: it has no `<`, no `>` and no quote.
use Rattle.std.proofs.Common.{◌≡◌, ℕ, Bool, true, false, ◌==◌, List, [], ◌∷◌, if◌then◌else◌, refl, ap, ◌∙◌}
use Rattle.std.specs.Prelude.{codes, ◌&&◌}
use Rattle.std.specs.List.{list_all}
use Rattle.std.proofs.lemmas.List.Folds.{list_all-append}
use Rattle.ill_text.specs.Html.{html_byte, html_escaped, is_inert}

-- The name that replaces a byte is inert, and so is a byte that no name replaces.
either_inert : (byte : ℕ) (amp less more quote mark : Bool) → (byte == 0x3C) ≡ less → (byte == 0x3E) ≡ more
    → (byte == 0x22) ≡ quote → (byte == 0x27) ≡ mark
    → list_all is_inert (if amp then codes "&amp;" else
    (if less then codes "&lt;" else
    (if more then codes "&gt;" else (if quote then codes "&quot;" else (if mark then codes "&#39;" else byte ∷ []))))) ≡ true
either_inert byte true less more quote mark e1 e2 e3 e4 = refl
either_inert byte false true more quote mark e1 e2 e3 e4 = refl
either_inert byte false false true quote mark e1 e2 e3 e4 = refl
either_inert byte false false false true mark e1 e2 e3 e4 = refl
either_inert byte false false false false true e1 e2 e3 e4 = refl
either_inert byte false false false false false e1 e2 e3 e4 = simp (e1, e2, e3, e4) refl

-- The text that `html_byte` returns for a byte is inert.
byte_inert : (byte : ℕ) → list_all is_inert (html_byte byte) ≡ true
byte_inert byte = either_inert byte (byte == 0x26) (byte == 0x3C) (byte == 0x3E) (byte == 0x22) (byte == 0x27) refl refl refl refl

-- The text that `html_escaped` returns is inert.
pub text_inert : (text : List ℕ) → list_all is_inert (html_escaped text) ≡ true
text_inert [] = refl
text_inert (byte ∷ text) =
    list_all-append is_inert (html_byte byte) (html_escaped text)
    ∙ ap (λ first. first && list_all is_inert (html_escaped text)) (byte_inert byte) ∙ text_inert text
