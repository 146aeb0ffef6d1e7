-- Answers the contract of `push_words` (`src/status.rt`).
use Rattle.std.proofs.Common.{rules, ◌≡◌, ◌==◌, false, length, ◌++◌, ℕ, List, OnOk, Bor, subst, ◌∙◌}
use Rattle.ill_text.specs.Lines.{line}
use Rattle.ill_show.proofs.StatusLemmas.{joined_by_spaces}
use Rattle.ill_show.proofs.status.push_words.Goals as goal

-- Proves the contract of `push_words` if there are words. By `joined_by_spaces` the line has their texts.
pub returns : goal.returns
returns c =
    let text : Bor (List ℕ) → List ℕ = λ word. word.now in
    let words = c.args.words.now in
    let some : (length words == 0) ≡ false = search (rules, c.is_empty.ensures, c.if-is_empty.false) in
    let joined = c.in_ok-text.ensures.ok ∙ joined_by_spaces text words some in
    subst
    (λ (shown : List ℕ). OnOk c.push_line-2.result
    (c.push_line-2.new.lines.items ≡ c.args.lines.now.items ++ line c.args.label.now shown))
    (c.as_bytes.ensures.value ∙ joined)
    c.push_line-2.ensures
