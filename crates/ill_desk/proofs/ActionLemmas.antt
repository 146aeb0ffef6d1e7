-- Proves which action the words of a command line name. `text` returns the bytes of a word.
use Rattle.std.proofs.Common.{◌≡◌, ℕ, Bool, true, false, ◌&&◌, cond, List, [], ◌∷◌, map, Option, None, refl, ap, ◌∙◌}
use Rattle.std.specs.List.{list_all}
use Rattle.ill_values.specs.Day.{Date}
use Rattle.ill_record.specs.declared.role.Role.{Role}
use Rattle.ill_desk.specs.Actions.{is_word, action_for, action_named}

-- A test of all texts of `words` equals a test of all `words` by their texts.
all_mapped : {X : Type 0} (text : X → List ℕ) (words : List X)
    → list_all is_word (map text words) ≡ list_all (λ word. is_word (text word)) words
all_mapped text [] = refl
all_mapped text (word ∷ words) = ap (λ rest. is_word (text word) && rest) (all_mapped text words)

-- If a script may have each of `words`, `action_named` returns the answer of `action_for`.
pub named_by_words : {X : Type 0} (text : X → List ℕ) (role : Role) (today : Option Date) (words : List X)
    → list_all (λ word. is_word (text word)) words ≡ true
    → action_named role today (map text words) ≡ action_for role today (map text words)
unfolding action_named
named_by_words text role today words all =
    ap (λ (fits : Bool). cond fits (action_for role today (map text words)) None) (all_mapped text words ∙ all)

-- If a script may not have each of `words`, they name no action.
pub named_by_none : {X : Type 0} (text : X → List ℕ) (role : Role) (today : Option Date) (words : List X)
    → list_all (λ word. is_word (text word)) words ≡ false
    → action_named role today (map text words) ≡ None
unfolding action_named
named_by_none text role today words some =
    ap (λ (fits : Bool). cond fits (action_for role today (map text words)) None) (all_mapped text words ∙ some)
