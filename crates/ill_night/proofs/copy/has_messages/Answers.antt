-- Answers the contract of `has_messages` (`src/copy.rt`).
use Rattle.ill_night.proofs.CopyLemmas.{prefix_decided}
use Rattle.ill_night.proofs.copy.has_messages.Goals as goal

-- Proves the contract of `has_messages`. `==` decides the equality of messages.
pub returns : goal.returns
returns c =
    prefix_decided c.equal_apdus.ensures _ _ _ _ _ c.all_issued.ensures.value c.all_issued-2.ensures.value
    c.starts_with.ensures.value
