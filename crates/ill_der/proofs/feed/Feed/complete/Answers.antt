-- Proves the contract of `Feed::complete`: a push of the piece, whose first APDU may begin with the held bytes.
-- The held bytes are unfinished, so the first APDU contains all of them and ends within the piece.
-- In the answers `first` says what `handle_first` did with the filled bytes, and `was` what the feed held.
use Rattle.std.proofs.Common.{◌≡◌, ℕ, ◌-◌, length, take, drop, [], None, Option, Result, Ok, Err, refl, sym, ap, subst, ◌∙◌}
use Rattle.ill_der.specs.declared.fault.DerFault.{DerFault}
use Rattle.ill_der.specs.ShortForm.{apdu_at}
use Rattle.ill_der.specs.Stream.{IfShort}
use Rattle.ill_der.specs.Handling.{HandlesEach}
use Rattle.ill_der.specs.FeedView.{held_of, HandlesFirst, HandlesRest}
use Rattle.ill_der.proofs.FeedLemmas.{closing_some, is_open, holds_prefix, holds_still, short_held, first_ends_in_piece}
use Rattle.ill_der.proofs.FeedLemmas.{push_after_filled}
use Rattle.ill_der.proofs.FeedLemmas.{push_when_open_and_empty, all_left, fault_of_all, fails_first, still_held}
use Rattle.ill_der.proofs.feed.Feed.complete.Goals as goal

-- If nothing is held, handling the piece alone is the push.
pub returns-then-self-eq0 : goal.returns-then-self-eq0
returns-then-self-eq0 g c =
    let held = take c.self.inside.size c.self.inside.buffer in
    let opened = holds_prefix c.self.inside.closed held c.args.self.now c.self.view_is c.requires in
    let none : held ≡ [] = rw c.if-self-eq0.true refl in
    push_when_open_and_empty g.H.Handler.handles held c.args.piece.now _ _ c.args.self.now c.hand_on.result c.hand_on.new.self
    opened none
    c.hand_on.ensures

-- By `there` the first APDU contains all held bytes, so `end` is at least `size`.
pub overflow_sub-after : goal.overflow_sub-after
overflow_sub-after g c =
    let handles = g.H.Handler.handles in
    let old = c.self.inside.buffer in
    let new = c.fill-filled.new.buffer in
    let filled = c.fill-filled.result in
    let first =
    subst (λ (r : Result ℕ DerFault).
    HandlesFirst handles (take filled new) (c.args.handler.now, c.args.context.now) (Ok r)
    (c.handle_first.new.handler, c.handle_first.new.context)) c.in-Ok-Ok.field-0-is
    c.in-Ok-Ok.ensures in
    let there = first_ends_in_piece handles c.read_again.ensures old new c.args.piece.now c.self.inside.size filled c.in-Ok-Ok.end
    _ _
    c.fill-filled.ensures c.self.invariant first in
    there.0

-- After the fill the buffer still holds its first `size` bytes.
pub invariant_of-self : goal.invariant_of-self
invariant_of-self g c = holds_still c.self.inside.buffer c.fill-filled.new.buffer c.args.piece.now c.self.inside.size
    c.fill-filled.result c.fill-filled.ensures c.self.invariant

-- If the filled bytes have the fault Short, they are unfinished, so the buffer holds all of them.
pub invariant_of-self-in-None : goal.invariant_of-self-in-None
invariant_of-self-in-None g c =
    let old = c.self.inside.buffer in
    let new = c.fill-filled.new.buffer in
    let filled = c.fill-filled.result in
    let first =
    subst (λ (r : Result ℕ DerFault).
    HandlesFirst g.H.Handler.handles (take filled new) (c.args.handler.now, c.args.context.now) (Ok r)
    (c.handle_first.new.handler, c.handle_first.new.context))
    c.in-Ok-Err.field-0-is c.in-Ok-Err.ensures in
    let is = short_held c.short_has_the_size.ensures old new c.args.piece.now c.self.inside.size filled c.in-Ok-Err.fault
    c.fill-filled.ensures c.in-None.ensures first.0 in
    is.0

-- If another fault closes the feed, the buffer still holds its first `size` bytes.
pub invariant_of-self-in-Some : goal.invariant_of-self-in-Some
invariant_of-self-in-Some g c =
    holds_still c.self.inside.buffer c.fill-filled.new.buffer c.args.piece.now c.self.inside.size c.fill-filled.result
    c.fill-filled.ensures c.self.invariant

-- If handling failed, the buffer still holds its first `size` bytes.
pub invariant_of-self-in-Err : goal.invariant_of-self-in-Err
invariant_of-self-in-Err g c = holds_still c.self.inside.buffer c.fill-filled.new.buffer c.args.piece.now c.self.inside.size
    c.fill-filled.result c.fill-filled.ensures c.self.invariant

-- If the first APDU was handled (`first`), handling the rest of the piece (`on`) completes the push.
pub returns-in-Ok-Ok : goal.returns-in-Ok-Ok
returns-in-Ok-Ok g c =
    let handles = g.H.Handler.handles in
    let old = c.self.inside.buffer in
    let new = c.fill-filled.new.buffer in
    let filled = c.fill-filled.result in
    let size = c.self.inside.size in
    let closed = c.self.inside.closed in
    let was = holds_prefix closed (take size old) c.args.self.now c.self.view_is c.requires in
    let first =
    subst (λ (r : Result ℕ DerFault).
    HandlesFirst handles (take filled new) (c.args.handler.now, c.args.context.now) (Ok r)
    (c.handle_first.new.handler, c.handle_first.new.context)) c.in-Ok-Ok.field-0-is
    c.in-Ok-Ok.ensures in
    let opened = is_open closed (take size old) c.args.self.now c.self.view_is c.requires in
    let on =
    subst (λ (k : Option DerFault).
    HandlesRest handles (held_of k (take size new), (c.handle_first.new.handler, c.handle_first.new.context))
    (take (length c.args.piece.now - (c.in-Ok-Ok.end - size)) (drop (c.in-Ok-Ok.end - size) c.args.piece.now))
    c.hand_on-in-Ok-Ok.result (c.hand_on-in-Ok-Ok.new.self, (c.hand_on-in-Ok-Ok.new.handler, c.hand_on-in-Ok-Ok.new.context)))
    opened c.hand_on-in-Ok-Ok.ensures in
    push_after_filled handles c.read_again.ensures old new c.args.piece.now size filled c.in-Ok-Ok.end _ _ _ c.args.self.now
    c.hand_on-in-Ok-Ok.result c.hand_on-in-Ok-Ok.new.self c.fill-filled.ensures c.self.invariant was first on

-- If the filled bytes have the fault Short, the push handles no APDU, and the feed holds all bytes.
pub returns-in-None : goal.returns-in-None
returns-in-None g c =
    let old = c.self.inside.buffer in
    let new = c.fill-filled.new.buffer in
    let filled = c.fill-filled.result in
    let size = c.self.inside.size in
    let closed = c.self.inside.closed in
    let was = holds_prefix closed (take size old) c.args.self.now c.self.view_is c.requires in
    let opened = is_open closed (take size old) c.args.self.now c.self.view_is c.requires in
    let first =
    subst (λ (r : Result ℕ DerFault).
    HandlesFirst g.H.Handler.handles (take filled new) (c.args.handler.now, c.args.context.now) (Ok r)
    (c.handle_first.new.handler, c.handle_first.new.context))
    c.in-Ok-Err.field-0-is c.in-Ok-Err.ensures in
    let is = short_held c.short_has_the_size.ensures old new c.args.piece.now size filled c.in-Ok-Err.fault c.fill-filled.ensures
    c.in-None.ensures first.0 in
    subst
    (λ (k : Option DerFault). HandlesEach g.H.Handler.handles (c.args.self.now, (c.args.handler.now, c.args.context.now))
    c.args.piece.now (Ok None) (held_of k (take filled new), (c.handle_first.new.handler, c.handle_first.new.context)))
    (sym opened) (all_left g.H.Handler.handles (take size old) c.args.piece.now _ _ c.args.self.now (Ok (take filled new)) was
    (is.1, is.2) first.1)

-- If the filled bytes have another fault, the push handles no APDU, and this fault closes the feed.
pub returns-in-Some : goal.returns-in-Some
returns-in-Some g c =
    let old = c.self.inside.buffer in
    let new = c.fill-filled.new.buffer in
    let filled = c.fill-filled.result in
    let size = c.self.inside.size in
    let was = holds_prefix c.self.inside.closed (take size old) c.args.self.now c.self.view_is c.requires in
    let first =
    subst (λ (r : Result ℕ DerFault).
    HandlesFirst g.H.Handler.handles (take filled new) (c.args.handler.now, c.args.context.now) (Ok r)
    (c.handle_first.new.handler, c.handle_first.new.context))
    c.in-Ok-Err.field-0-is c.in-Ok-Err.ensures in
    let closes = closing_some c.in-Ok-Err.fault c.in-Some.fault c.in-Some.ensures in
    let at_fault : apdu_at (take filled new) ≡ Err c.in-Some.fault = first.0 ∙ ap (λ (f : DerFault). Err f) closes.0 in
    let leaves =
    fault_of_all old new c.args.piece.now size filled c.in-Some.fault c.fill-filled.ensures
    (subst (λ (f : DerFault). IfShort f ⊥) closes.0 closes.1) at_fault in
    all_left g.H.Handler.handles (take size old) c.args.piece.now _ _ c.args.self.now (Err c.in-Some.fault) was leaves first.1

-- If handling failed, the feed is unchanged, and handling failed at the first APDU.
pub returns-in-Err : goal.returns-in-Err
returns-in-Err g c =
    let old = c.self.inside.buffer in
    let new = c.fill-filled.new.buffer in
    let filled = c.fill-filled.result in
    let size = c.self.inside.size in
    let closed = c.self.inside.closed in
    let was = holds_prefix closed (take size old) c.args.self.now c.self.view_is c.requires in
    let still = still_held old new c.args.piece.now size filled c.fill-filled.ensures in
    let same : held_of closed (take size new) ≡ c.args.self.now = ap (held_of closed) still ∙ c.self.view_is in (
      same,
      fails_first g.H.Handler.handles old new c.args.piece.now size filled _ _ c.args.self.now c.in-Err.fault
          c.fill-filled.ensures was c.in-Err.ensures,
    )
