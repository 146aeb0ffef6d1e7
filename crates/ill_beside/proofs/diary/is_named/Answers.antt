-- Answers the contract of `is_named` (`src/diary.rt`).
use Rattle.std.proofs.Common.{rules, tests, ℕ, Vec, Global, sym, ◌∙◌}
use Rattle.std.proofs.lemmas.Iterator.{YieldsList-from_slice}
use Rattle.std.proofs.lemmas.Iterator.Search.{any_from_yields_List}
use Rattle.ill_beside.specs.Diary.{has_key, said_by}
use Rattle.ill_beside.proofs.DiaryLemmas.{any_mapped}
use Rattle.ill_beside.proofs.diary.is_named.Goals as goal

-- Proves the contract of `is_named`. By `any_mapped` a test of the lines' bytes is a test of the lines.
pub returns : goal.returns
returns c =
    let key = c.args.key.now in
    let lines = c.args.lines.now in
    any_from_yields_List (λ (line : Vec ℕ Global). has_key key (said_by line.items)) _ _ c.any.result
    c.any.ensures.ran (YieldsList-from_slice lines cc) (λ x b q k. search (rules, tests))
    ∙ sym (any_mapped (λ (line : Vec ℕ Global). line.items) (λ line. has_key key (said_by line)) lines)
