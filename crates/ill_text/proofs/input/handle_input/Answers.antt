-- Answers the contract of `handle_input` (`src/input.rt`).
use Rattle.std.proofs.Common.{◌≡◌, ◌≤◌, ℕ, length, take, subst, arith, rules}
use Rattle.std.specs.Io.KnownBytes.{Consumes}
use Rattle.std.proofs.lemmas.List.{length-take-le}
use Rattle.ill_text.proofs.InputLemmas.{none_read, one_piece_more, read_nothing, ends_at_end, ends_unread, ends_closed}
use Rattle.ill_text.proofs.InputLemmas.{ends_failing}
use Rattle.ill_text.proofs.input.handle_input.Goals as goal

-- Proves the loop invariant of `handle_input` before the first read. No APDU is read, and no byte is held.
pub loop-feed-init : goal.loop-feed-init
loop-feed-init g c = record { size = search rules; so_far = none_read _ _ _ _ _ c.requires c.new-feed.ensures }

-- Proves the contract of `handle_input` if a read gives no byte. Then the reader is at its end. `nothing` says that the
-- read took no byte, and `still` that `ReadSoFar` holds after it.
pub returns-in-Ok-eq0 : goal.returns-in-Ok-eq0
returns-in-Ok-eq0 g c =
    let remaining = g.R.Read.remaining in
    let size : length c.read.new.buf ≡ 4096 = search rules in
    let nothing = subst (λ (n : ℕ). Consumes (remaining c.loop-feed.reader) (remaining c.read.new.self) (take n c.read.new.buf))
    c.in-Ok-eq0.field-0-test c.in-Ok-eq0.ensures.bytes.0 in
    let still = read_nothing _ _ _ _ _ _ _ _ c.loop-feed.invariant.so_far nothing in
    rw c.end.ensures
    (ends_at_end _ c.short_has_the_size.ensures _ _ _ _ c.loop-feed.counted.count c.loop-feed.feed still
    (c.in-Ok-eq0.ensures.bytes.1 c.in-Ok-eq0.field-0-test (omega (arith, size))))

-- Proves that each pass of the loop of `handle_input` lowers its measure. The piece has `size` bytes (`long`), which is
-- not 0 (`some`), so by `one_piece_more` `most_bytes_left` is smaller.
pub loop-feed-smaller : goal.loop-feed-smaller
loop-feed-smaller g c =
    let few : c.in-Ok.size ≤ length c.read.new.buf = search rules in
    let long = length-take-le c.in-Ok.size c.read.new.buf few in
    let some : c.in-Ok.size ≡ 0 → ⊥ = search rules in
    let more =
    one_piece_more g.H.Handler.handles c.short_has_the_size.ensures _ _ _ (c.args.counted.now.handler, c.args.context.now)
    (c.loop-feed.counted, c.loop-feed.context) (c.each.new.handler, c.each.new.context)
    c.loop-feed.feed c.each.new.self (take c.in-Ok.size c.read.new.buf) c.loop-feed.invariant.so_far c.in-Ok.ensures.bytes.0
    (omega (arith, long, some)) c.in-Ok-None.field-0
    c.in-Ok-None.field-0-is c.in-Ok-None.ensures in
    more.1

-- Proves the loop invariant of `handle_input` after one more piece. The piece has `size` bytes (`long`), which is not 0
-- (`some`). By `one_piece_more` its APDUs join those so far.
pub loop-feed-preserved : goal.loop-feed-preserved
loop-feed-preserved g c =
    let few : c.in-Ok.size ≤ length c.read.new.buf = search rules in
    let long = length-take-le c.in-Ok.size c.read.new.buf few in
    let some : c.in-Ok.size ≡ 0 → ⊥ = search rules in
    let more =
    one_piece_more g.H.Handler.handles c.short_has_the_size.ensures _ _ _ (c.args.counted.now.handler, c.args.context.now)
    (c.loop-feed.counted, c.loop-feed.context) (c.each.new.handler, c.each.new.context)
    c.loop-feed.feed c.each.new.self (take c.in-Ok.size c.read.new.buf) c.loop-feed.invariant.so_far c.in-Ok.ensures.bytes.0
    (omega (arith, long, some)) c.in-Ok-None.field-0
    c.in-Ok-None.field-0-is c.in-Ok-None.ensures in
    record { size = search rules; so_far = more.0 }

-- Proves the contract of `handle_input` if a piece closes the feed. By `ends_closed` the input ends with that fault.
pub returns-in-Ok-Some : goal.returns-in-Ok-Some
returns-in-Ok-Some g c =
    let few : c.in-Ok.size ≤ length c.read.new.buf = search rules in
    let long = length-take-le c.in-Ok.size c.read.new.buf few in
    let size : length c.read.new.buf ≡ 4096 = search rules in
    ends_closed g.H.Handler.handles c.short_has_the_size.ensures _ _ _ (c.args.counted.now.handler, c.args.context.now)
    (c.loop-feed.counted, c.loop-feed.context) (c.each.new.handler, c.each.new.context)
    c.loop-feed.feed c.each.new.self (take c.in-Ok.size c.read.new.buf) c.in-Ok-Some.fault c.loop-feed.invariant.so_far
    c.in-Ok.ensures.bytes.0 (omega (arith, long, few, size)) c.in-Ok-Some.field-0
    c.in-Ok-Some.field-0-is c.in-Ok-Some.ensures

-- Proves the contract of `handle_input` if handling a piece fails. By `ends_failing` the input ends at an APDU of it.
pub returns-in-Err-each : goal.returns-in-Err-each
returns-in-Err-each g c =
    let few : c.in-Ok.size ≤ length c.read.new.buf = search rules in
    let long = length-take-le c.in-Ok.size c.read.new.buf few in
    let size : length c.read.new.buf ≡ 4096 = search rules in
    ends_failing g.H.Handler.handles c.short_has_the_size.ensures _ _ _ (c.args.counted.now.handler, c.args.context.now)
    (c.loop-feed.counted, c.loop-feed.context) (c.each.new.handler, c.each.new.context)
    c.loop-feed.feed c.each.new.self (take c.in-Ok.size c.read.new.buf) c.in-Err-each.fault c.loop-feed.invariant.so_far
    c.in-Ok.ensures.bytes.0 (omega (arith, long, few, size)) c.in-Err-each.ensures

-- Proves the contract of `handle_input` if the reader fails. By `ends_unread` the input ends with the fault `Read`.
pub returns-in-Err : goal.returns-in-Err
returns-in-Err g c = ends_unread _ c.short_has_the_size.ensures _ _ _ _ _ _ _ c.loop-feed.invariant.so_far c.in-Err.ensures.bytes
