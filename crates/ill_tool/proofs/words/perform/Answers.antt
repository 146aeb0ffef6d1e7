-- Answers the contract of `perform` (`src/words.rt`).
use Rattle.std.proofs.Common.{◌≡◌, ℕ, List, [], Option, inr, refl, subst, ap, ◌∙◌, rules}
use Rattle.std.specs.Prelude.{None, Some}
use Rattle.std.specs.Io.KnownBytes.{append_known}
use Rattle.ill_commands.specs.Streams.{streams_of}
use Rattle.ill_tool.specs.Runs.{RunsCall}
use Rattle.ill_tool.proofs.words.perform.Goals as goal

-- `append_known` of `known` and no bytes, as of an empty buffer, is `known`.
appends_nothing : (known : Option (List ℕ)) → append_known known [] ≡ known
appends_nothing None = refl
appends_nothing (Some bytes) = search rules

-- Proves the contract of `perform`. The buffer is empty at first, so by `before` the command begins at the output of
-- `machine`. `begun` is the writer that the buffer gets, and `writer` the buffer after the command with the result
-- `done`. `after` is the output then: the bytes of the inner writer, and then those of the buffer. `left` is the input
-- before the command, and `rest` the input after it.
pub returns : goal.returns
returns g c =
    let done = c.run_call-done.result in
    let writer = c.run_call-done.new.machine.writer in
    let after = append_known (g.W.Write.contents writer.inner.now) writer.buf.items in
    let begun = c.in-Ok.buffer.inner.now in
    let before = ap (λ bytes. append_known (g.W.Write.contents begun) bytes) c.in-Ok.ensures.empty
    ∙ appends_nothing (g.W.Write.contents begun)
    ∙ ap (λ inner. g.W.Write.contents inner.now) c.in-Ok.ensures.inner in
    let left = g.R.Read.remaining c.args.reader.now in
    let rest = g.R.Read.remaining c.run_call-done.new.reader in
    inr (
      after,
      done,
      subst (λ (before : Option (List ℕ)).
          RunsCall g.D.DeskStore.Store.state c.args.call.now (streams_of left before) done (streams_of rest after)) before
          c.run_call-done.ensures,
      c.finish_writing.ensures,
    )
