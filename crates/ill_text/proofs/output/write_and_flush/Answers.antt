-- Answers the contract of `write_and_flush` (`src/output.rt`).
use Rattle.std.proofs.Common.{length, subst, sym, refl, arith}
use Rattle.std.proofs.lemmas.List.{take_all}
use Rattle.std.specs.Io.KnownBytes.{Appends}
use Rattle.std.proofs.KnownBytes.{Appends-kept}
use Rattle.ill_text.proofs.output.write_and_flush.Goals as goal

-- Proves the contract of `write_and_flush` if the flush fails. The prefix that was written is all of `bytes`.
pub returns-in_default : goal.returns-in_default
returns-in_default g c =
    let bytes = c.args.bytes.now in
    let before = g.W.Write.contents c.args.writer.now in
    let after = g.W.Write.contents c.flush.new.self in
    let all = Appends-kept before (g.W.Write.contents c.write_whole.new.writer) after bytes c.in_ok-write_whole.ensures
    c.flush.ensures.bytes in
    (refl, (length bytes, subst (λ kept. Appends before after kept) (sym (take_all (length bytes) bytes (omega arith))) all))
