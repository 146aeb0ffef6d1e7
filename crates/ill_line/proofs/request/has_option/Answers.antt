-- Answers the contract of `has_option` (`src/request.rt`).
use Rattle.std.proofs.Common.{List, ℕ, Bool, Bor, ap, sym, ◌∙◌}
use Rattle.std.specs.Prelude.{◌&&◌, not}
use Rattle.std.specs.List.{list_any}
use Rattle.ill_line.specs.CommandLine.{is_option}
use Rattle.ill_line.proofs.RequestLemmas.{options_met}
use Rattle.ill_line.proofs.request.has_option.Goals as goal

-- Proves the contract of `has_option` if `--` does not stand right before the action. The code returns `any`: a word of
-- the action is an option. `met` says of the definition that it is `any` if no `--` stands there, and false else.
pub returns-then-not-end_with_dashes : goal.returns-then-not-end_with_dashes
returns-then-not-end_with_dashes c =
    let any = list_any (λ (word : Bor (List ℕ)). is_option word.now) c.args.action.now in
    let met = options_met c.args.words.now c.args.action.now _ _ c.saturating_sub-first.ensures c.end_with_dashes.ensures in
    c.is_any_option.ensures ∙ ap (λ (met : Bool). not met && any) (sym c.if-not-end_with_dashes.true) ∙ sym met

-- Proves the contract of `has_option` if `--` stands right before the action. The code returns false. So does the
-- definition by `met`: it is `any`, that a word of the action is an option, only if no `--` stands there.
pub returns-else-not-end_with_dashes : goal.returns-else-not-end_with_dashes
returns-else-not-end_with_dashes c =
    let any = list_any (λ (word : Bor (List ℕ)). is_option word.now) c.args.action.now in
    let met = options_met c.args.words.now c.args.action.now _ _ c.saturating_sub-first.ensures c.end_with_dashes.ensures in
    ap not c.if-not-end_with_dashes.false ∙ ap (λ (met : Bool). not met && any) (sym c.if-not-end_with_dashes.false) ∙ sym met
