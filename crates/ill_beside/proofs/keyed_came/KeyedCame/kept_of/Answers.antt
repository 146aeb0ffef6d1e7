-- Answers the contract of `KeyedCame::kept_of` (`src/keyed_came.rt`).
use Rattle.std.proofs.Common.{ℕ, List, [], ap, ◌∙◌}
use Rattle.std.proofs.lemmas.Result.{IfOk-weaker}
use Rattle.ill_values.specs.declared.apdu.Apdu.{Apdu}
use Rattle.ill_beside.specs.Kept.{kept_of, looks_kept}
use Rattle.ill_beside.specs.Places.{looked_up, places_of}
use Rattle.ill_beside.proofs.KeptLemmas.{all_kept}
use Rattle.ill_beside.proofs.keyed_came.KeyedCame.kept_of.Goals as goal

-- Proves the contract of `kept_of`. By `all_kept` the messages at the places of the key are those of the loan.
pub returns : goal.returns
returns c =
    let by_key = c.self.inside.places.by_key.entries in
    let txn = c.args.txn.now in
    let key = c.in_ok-key.key in
    let found = λ (came : List Apdu) (places : List ℕ). looked_up (looks_kept txn) came [] places in
    IfOk-weaker c.kept_at.result _ _
    (λ kept is. is
    ∙ ap (λ (places : List ℕ). found c.deref.result.now places) c.with_key.ensures
    ∙ ap (λ (came : List Apdu). found came (places_of by_key key)) c.deref.ensures.value
    ∙ all_kept by_key c.self.inside.apdus.items c.self.invariant txn key c.in_ok-key.ensures
    ∙ ap (kept_of txn) c.self.view_is)
    c.kept_at.ensures
