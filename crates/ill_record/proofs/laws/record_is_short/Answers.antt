-- Proves the contract of `record_is_short` (`src/laws.rt`).
use Rattle.ill_record.proofs.Sizes.{record_bound}
use Rattle.ill_record.proofs.laws.record_is_short.Goals as goal

-- The record of a consistent side in range has at most 41,811 bytes.
pub returns : goal.returns
returns c = record_bound (record
    { qualifier = c.text_sizes.ensures.qualifier; longest = c.longest.ensures.most; shorter = c.shorter.ensures.most })
