-- Proves the contract of `reading::read_counted`: it reads one APDU, in at most 360 reads.
-- It never asks for more bytes than the APDU lacks, and each read but the last gives at least one byte.
use Rattle.std.proofs.Common.{◌≡◌, ℕ, ◌≤◌, ◌+◌, ◌-◌, length, take, Err, sym, ap, subst, ◌∙◌, arith, rules}
use Rattle.std.specs.Io.KnownBytes.{Consumes}
use Rattle.std.proofs.lemmas.List.{length-take-le}
use Rattle.ill_der.specs.declared.fault.DerFault.TheVariants.{Short}
use Rattle.ill_der.specs.Stream.{AreUnfinished}
use Rattle.std.proofs.KnownBytes.{Consumes-trans, Consumes-kept}
use Rattle.ill_der.proofs.StreamLemmas.{consumes_nothing}
use Rattle.ill_der.proofs.MissingLemmas.{unfinished_alone, most_missing, read_on, filled, filled_length}
use Rattle.ill_der.proofs.reading.read_counted.Goals as goal

-- The bytes that were read and the missing ones are at most 359, so their sum does not overflow.
pub overflow_add-size : goal.overflow_add-size
overflow_add-size g c =
    let prefix = take c.loop.size c.loop.bytes in
    let most = most_missing prefix (omega (arith, c.missing-missing.ensures, c.if-missing-eq0.false)) in
    omega (arith, most, c.missing-missing.ensures, c.loop.invariant.size)

-- The slice for the next read ends within the buffer of 359 bytes.
pub slice_bounds-bytes-end-in-loop : goal.slice_bounds-bytes-end-in-loop
slice_bounds-bytes-end-in-loop g c =
    let prefix = take c.loop.size c.loop.bytes in
    let is = c.loop.invariant in
    let long = length-take-le c.loop.size c.loop.bytes (omega (arith, is.room, is.size)) in
    let most = most_missing prefix (omega (arith, c.missing-missing.ensures, c.if-missing-eq0.false)) in
    let within : c.loop.size + c.missing-missing.result ≤ length c.loop.bytes =
    omega (arith, most, long, c.missing-missing.ensures, is.room) in
    omega arith

-- If the input ends after some bytes, these have the fault Short.
pub returns-in-Ok-eq0-2-clause-read : goal.returns-in-Ok-eq0-2-clause-read
returns-in-Ok-eq0-2-clause-read g c =
    let remaining = g.R.CountedRead.remaining in
    let prefix = take c.loop.size c.loop.bytes in
    let is = c.loop.invariant in
    let long = length-take-le c.loop.size c.loop.bytes (omega (arith, is.room, is.size)) in
    let room : length c.read_once.new.buffer ≡ c.missing-missing.result = search rules in
    let alone = unfinished_alone prefix (omega (arith, c.missing-missing.ensures, c.if-missing-eq0.false)) in
    let taken = subst (λ (n : ℕ). Consumes (remaining c.loop.reader) (remaining c.read_once.new.self)
    (take n c.read_once.new.buffer)) c.in-Ok-eq0.field-0-test c.in-Ok-eq0.ensures.bytes.0 in (
      prefix,
      consumes_nothing _ _ _ prefix is.read taken,
      (
        alone ∙ ap (λ (n : ℕ). Err (Short n)) long,
        is.unfinished,
        c.in-Ok-eq0.ensures.bytes.1 c.in-Ok-eq0.field-0-test (omega (arith, room, c.if-missing-eq0.false)),
      ),
    )

-- If a read fails, the bytes that were read before are unfinished.
pub returns-in-Err-clause-read : goal.returns-in-Err-clause-read
returns-in-Err-clause-read g c =
    let prefix = take c.loop.size c.loop.bytes in
    let alone = unfinished_alone prefix (omega (arith, c.missing-missing.ensures, c.if-missing-eq0.false)) in
    (prefix, Consumes-kept _ _ _ prefix c.loop.invariant.read c.in-Err.ensures.bytes, alone)

-- A read of `count` bytes, at least one and at most the missing ones, keeps the invariant. These bytes are `more`, and
-- by `now` they follow `prefix` in the buffer.
pub loop-preserved : goal.loop-preserved
loop-preserved g c =
    let remaining = g.R.CountedRead.remaining in
    let prefix = take c.loop.size c.loop.bytes in
    let is = c.loop.invariant in
    let count = c.in-Ok.count in
    let more = take count c.read_once.new.buffer in
    let long = length-take-le c.loop.size c.loop.bytes (omega (arith, is.room, is.size)) in
    let room : length c.read_once.new.buffer ≡ c.missing-missing.result = search rules in
    let few : count ≤ length c.read_once.new.buffer = search rules in
    let some : count ≡ 0 → ⊥ = search rules in
    let most = most_missing prefix (omega (arith, c.missing-missing.ensures, c.if-missing-eq0.false)) in
    let now = filled c.loop.size (c.loop.size + c.missing-missing.result - c.loop.size) count c.loop.bytes c.read_once.new.buffer
    (omega (arith, is.room, is.size)) few in
    record {
      room =
          filled_length c.loop.size (c.loop.size + c.missing-missing.result - c.loop.size) c.loop.bytes c.read_once.new.buffer
          (omega (arith, room)) (omega (arith, most, long, is.room, c.missing-missing.ensures)) ∙ is.room;
      size = omega (arith, most, long, room, few, c.missing-missing.ensures);
      turns = omega (arith, is.turns, some);
      ticks = omega (arith, c.read_once.ensures.count, is.ticks);
      read = subst (Consumes (remaining c.args.reader.now) (remaining c.read_once.new.self)) (sym now)
          (Consumes-trans _ _ _ prefix more is.read c.in-Ok.ensures.bytes.0);
      unfinished = subst AreUnfinished (sym now)
          (read_on prefix more is.unfinished
          (omega (arith, length-take-le count c.read_once.new.buffer few, few, room, c.missing-missing.ensures)));
    }
