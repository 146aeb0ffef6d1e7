-- Proves the invariant of the loop of `writing::write_bytes_counted`: each turn writes at least one byte.
-- Each write appends the next bytes after the first `written` bytes.
use Rattle.std.proofs.Common.{ℕ, List, length, take, ap, subst, arith}
use Rattle.std.specs.Io.KnownBytes.{Appends}
use Rattle.std.proofs.lemmas.List.{length-drop}
use Rattle.ill_der.proofs.WriteLemmas.{appends_from, whole_rest}
use Rattle.ill_der.proofs.writing.write_bytes_counted.Goals as goal

pub loop-preserved : goal.loop-preserved
loop-preserved g c =
    let bytes = c.args.bytes.now in
    let written = c.loop.written in
    let count = c.in-Ok.count in
    let rest = whole_rest written bytes in
    let taken = subst (λ (x : List ℕ).
    Appends (g.W.CountedWrite.contents c.loop.writer) (g.W.CountedWrite.contents c.write_once.new.self) (take count x)) rest
    c.in-Ok.ensures.bytes in
    record {
      prefix = omega (arith, c.in-Ok.ensures.bound, ap length rest, length-drop written bytes);
      turns = omega arith;
      ticks = omega (arith, c.write_once.ensures.count, c.loop.invariant.ticks);
      appended = appends_from _ _ _ written count bytes c.loop.invariant.appended taken;
    }
