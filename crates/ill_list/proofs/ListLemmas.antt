-- Proves how the command `list` selects loans and writes its text.
use Rattle.std.proofs.Common.{◌≡◌, ℕ, Bool, true, false, cond, List, [], ◌∷◌, map, refl, ap}
use Rattle.std.proofs.Common.{sym, subst, Option, Result, Ok, Err}
use Rattle.std.specs.Prelude.{filter}
use Rattle.ill_text.specs.declared.fault.ToolFault.{ToolFault}
use Rattle.ill_text.specs.Output.{WritesPrefix, WritesText}

-- Filtering the values of items equals filtering the items by their values.
pub filter_mapped : {X Y : Type 0} (now : X → Y) (keeps : Y → Bool) (items : List X)
    → map now (filter (λ item. keeps (now item)) items) ≡ filter keeps (map now items)
filter_mapped now keeps [] = refl
filter_mapped {X} now keeps (item ∷ items) = go (keeps (now item)) (filter_mapped now keeps items)
  where
    -- `is_kept` is true if the value of the first item is kept.
    go : (is_kept : Bool) → map now (filter (λ item. keeps (now item)) items) ≡ filter keeps (map now items)
        → map now (cond is_kept (item ∷ filter (λ item. keeps (now item)) items) (filter (λ item. keeps (now item)) items))
        ≡ cond is_kept (now item ∷ filter keeps (map now items)) (filter keeps (map now items))
    go true rest = ap (λ others. now item ∷ others) rest
    go false rest = rest

-- If `WritesPrefix` holds of a text that is written, `WritesText` holds of it too.
pub text_written : (before after : Option (List ℕ)) (bytes : List ℕ) (result : Result (Unit {0}) ToolFault)
    → WritesPrefix before after bytes result → WritesText before after bytes result
text_written before after bytes (Ok done) written = written
text_written before after bytes (Err fault) (is, prefix) =
    subst (λ (fault : ToolFault). WritesText before after bytes (Err fault)) (sym is) prefix
