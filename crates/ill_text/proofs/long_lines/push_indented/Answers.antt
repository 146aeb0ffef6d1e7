-- Answers the contract of `push_indented` (`src/long_lines.rt`).
use Rattle.std.proofs.Common.{◌<◌, ◌++◌, arith, ap, ◌∙◌, length}
use Rattle.ill_text.proofs.LongLemmas.{none_further, one_byte_further}
use Rattle.ill_text.proofs.long_lines.push_indented.Goals as goal

-- Proves the loop invariant of `push_indented` after one more byte. By `one_byte_further` the later bytes are left.
pub loop-byte-preserved : goal.loop-byte-preserved
loop-byte-preserved c =
    let lt : c.loop-byte.byte-index < length c.args.text.now =
    omega (arith, c.loop-byte-test.true, c.loop-byte.auto.byte-index-end) in
    let on =
    one_byte_further c.args.text.now c.loop-byte.byte-index c.loop-byte.begins c.loop-byte.lines.items
    c.extend_from_slice.new.self.items c.push.new.self.items lt
    (c.in_ok-extend_from_slice.ensures.items ∙ ap (λ bytes. c.loop-byte.lines.items ++ bytes) c.indent.ensures)
    c.in_ok-push.ensures.items in
    record { shown = on ∙ c.loop-byte.invariant.shown }

-- Proves the contract of `push_indented`. After the loop no byte is left.
pub returns : goal.returns
returns c =
    none_further c.args.text.now c.loop-byte.byte-index c.loop-byte.begins c.loop-byte.lines.items c.loop-byte-test.false
    ∙ c.loop-byte.invariant.shown
