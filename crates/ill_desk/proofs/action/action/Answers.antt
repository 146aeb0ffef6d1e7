-- Answers the contract of `action` (`src/action.rt`).
use Rattle.std.proofs.Common.{◌≡◌, map, IfOk, Bor, sym, ap, subst, ◌∙◌, List, ℕ, Option}
use Rattle.ill_record.specs.declared.side.Action.{Action}
use Rattle.ill_desk.specs.Actions.{action_for}
use Rattle.ill_desk.proofs.ActionLemmas.{named_by_words, named_by_none}
use Rattle.ill_desk.proofs.action.action.Goals as goal

-- Proves the contract of `action` if a script may have all words. Then `action_named` is `action_for` of their bytes.
pub returns-in_ok-words : goal.returns-in_ok-words
returns-in_ok-words c =
    let words = c.args.words.now in
    let same = ap (map (λ (word : Bor (List ℕ)). word.now)) c.deref.ensures.value ∙ c.in_ok-words.ensures in
    let named = named_by_words (λ (word : Bor (List ℕ)). word.now) c.args.role c.args.today words
    (sym c.are_words.ensures ∙ c.if-are_words.true) in
    subst (λ (named : Option Action). IfOk c.action_for.result (λ action. action ≡ named))
    (ap (action_for c.args.role c.args.today) same ∙ sym named) c.action_for.ensures

-- Proves the contract of `action` if a script may not have all words. Then `action_named` is `None`.
pub returns-else-are_words : goal.returns-else-are_words
returns-else-are_words c =
    sym (named_by_none (λ (word : Bor (List ℕ)). word.now) c.args.role c.args.today c.args.words.now
    (sym c.are_words.ensures ∙ c.if-are_words.false))
