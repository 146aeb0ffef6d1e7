-- Proves the contract of `are_numbered` (`src/issued.rt`). It holds because the test of a list is that of its first
-- APDU and of the rest.
use Rattle.std.proofs.Common.{arith, true, false, sym, refl, ◌∙◌}
use Rattle.ill_core.proofs.IssuedLemmas.{numbered_at, numbered_end}
use Rattle.ill_core.proofs.issued.are_numbered.Goals as goal

-- If the APDU at the index fails its test, the list is not numbered.
pub returns-then-not-is_message-clause-value : goal.returns-then-not-is_message-clause-value
returns-then-not-is_message-clause-value c =
    sym (c.loop-index.invariant.rest
    ∙ numbered_at _ _ _ c.index-apdus-index.result false c.loop-index-test.true c.index-apdus-index.is
    c.if-not-is_message.ensures.value)

-- If the APDU at the index passes its test, the test of the rest decides. The index stays within 255.
pub loop-index-preserved : goal.loop-index-preserved
loop-index-preserved c = record {
  rest = c.loop-index.invariant.rest
      ∙ numbered_at _ _ _ c.index-apdus-index.result true c.loop-index-test.true c.index-apdus-index.is
      c.if-not-is_message.ensures.value;
  few = c.if-not-is_message.ensures.few refl;
}

-- After the last APDU the rest is empty, so the list is numbered.
pub returns-clause-value : goal.returns-clause-value
returns-clause-value c = sym (c.loop-index.invariant.rest ∙ numbered_end _ _ _ (omega (arith, c.loop-index-test.false)))
