-- Answers the contract of `texts` (`src/request.rt`).
use Rattle.std.proofs.Common.{List, ℕ, Bor, Some, map, sym, ap, ◌∙◌}
use Rattle.ill_line.proofs.RequestLemmas.{texts_said, no_texts_said}
use Rattle.ill_line.proofs.request.texts.Goals as goal

-- Proves the contract of `texts` if the parser has texts. By `texts_said` they are the texts of the argument.
pub returns-in-Ok : goal.returns-in-Ok
returns-in-Ok c =
    texts_said c.args.matches.now _ c.args.argument (Some (map (λ (text : Bor (List ℕ)). text.now) c.in-Some.texts.now))
    c.id.ensures c.in-Some.ensures
    ∙ ap (λ (items : List (Bor (List ℕ))). Some (map (λ (text : Bor (List ℕ)). text.now) items)) (sym c.in-Ok.ensures.items)

-- Proves the contract of `texts` if the parser has no texts. By `no_texts_said` the refusal is justified.
pub returns-in-None : goal.returns-in-None
returns-in-None c = no_texts_said c.args.matches.now _ c.args.argument c.unknown.result c.id.ensures c.in-None.ensures
    c.unknown.ensures
