-- Answers the contract of `run_desk_outbox_stream` (`src/outbox.rt`).
use Rattle.ill_night.proofs.OutboxLemmas.{stream_written}
use Rattle.ill_night.proofs.outbox.run_desk_outbox_stream.Goals as goal

-- Proves the contract of `run_desk_outbox_stream` if all message files are put on the stream. By `stream_written` their
-- bytes are written.
pub returns-in-Ok : goal.returns-in-Ok
returns-in-Ok g c =
    stream_written c.args.asking.now c.args.desk.now.live.held c.new.result.items c.run_desk_outbox.new.out.bytes.items
    c.deref.result.now c.in-Ok.field-0 _ _ c.write_whole.result
    c.new.ensures.items c.deref.ensures.value c.in-Ok.ensures c.write_whole.ensures
