-- Answers the contract of `has_part` (`src/finding.rt`).
use Rattle.std.proofs.Common.{◌∙◌}
use Rattle.std.proofs.lemmas.List.{nil_from_length}
use Rattle.ill_rows.proofs.FindingLemmas.{part_after, part_here, part_nowhere}
use Rattle.ill_rows.proofs.finding.has_part.Goals as goal

-- Proves the contract of `has_part` if `rest` begins with `part`. By `part_here` `part` is within `rest`.
pub returns-then-starts_with : goal.returns-then-starts_with
returns-then-starts_with c =
    part_here c.args.part.now c.loop-after.rest.now c.in-Some.after.now c.in-Some.field-0-0.now c.in-Some.ensures.cases.0
    c.if-starts_with.ensures.value
    ∙ c.loop-after.invariant.left

-- Proves the loop invariant of `has_part` after one more byte, at which `part` does not begin. By `part_after` it is
-- looked for in the bytes after it.
pub loop-after-preserved : goal.loop-after-preserved
loop-after-preserved c = record {
  left = part_after c.args.part.now c.loop-after.rest.now c.in-Some.after.now c.in-Some.field-0-0.now c.in-Some.ensures.cases.0
      c.if-starts_with.ensures.value
      ∙ c.loop-after.invariant.left;
}

-- Proves the contract of `has_part` after the loop: no byte is left.
pub returns : goal.returns
returns c =
    c.starts_with-2.ensures.value
    ∙ part_nowhere c.args.part.now c.loop-after.rest.now (nil_from_length c.loop-after.rest.now c.in_default.ensures.cases)
    ∙ c.loop-after.invariant.left
