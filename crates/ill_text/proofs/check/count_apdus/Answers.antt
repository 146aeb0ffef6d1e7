-- Answers the contract of `count_apdus` (`src/check.rt`).
use Rattle.ill_text.specs.declared.check.Passing.{Passing}
use Rattle.ill_text.specs.Check.{SkipsApdu}
use Rattle.ill_text.proofs.InputLemmas.{reads_on_views}
use Rattle.ill_text.proofs.check.count_apdus.Goals as goal

-- Proves the contract of `count_apdus`. The handler does nothing, so `reads_on_views` can drop its state.
pub returns : goal.returns
returns g c =
    reads_on_views (λ (s : Passing × Unit {0}) apdu r (t : Passing × Unit {0}). SkipsApdu tt apdu r tt) SkipsApdu (λ s. tt)
    (λ s t apdu r h. h) _ _
    (c.new.result.handler, c.handle_input.new.context) (c.handle_input.new.counted.handler, c.handle_input.new.context)
    c.handle_input.result c.handle_input.ensures
