-- Proves the contract of `Feed::leave`: the feed holds a rest whose fault is Short.
-- Such a rest has at most 358 bytes, so all of it fits into the buffer.
use Rattle.std.proofs.Common.{take, Option, sym, subst}
use Rattle.ill_der.specs.declared.fault.DerFault.{DerFault}
use Rattle.ill_der.specs.Feed.{Leaves}
use Rattle.ill_der.specs.FeedView.{held_of}
use Rattle.ill_der.proofs.FeedLemmas.{is_open, rest_held}
use Rattle.ill_der.proofs.feed.Feed.leave.Goals as goal

-- If `fault` is Short, the buffer holds `rest` after the fill, and `rest` is unfinished.
pub invariant_of-self : goal.invariant_of-self
invariant_of-self c =
    let is =
    rest_held c.short_has_the_size.ensures c.self.inside.buffer c.fill-self-inside.new.buffer c.args.rest.now
    c.fill-self-inside.result c.args.fault c.fill-self-inside.ensures
    c.in-None.ensures c.requires.fault in
    is.0

-- If `fault` is Short, the feed stays open and holds exactly `rest`.
pub returns-in-None-clause-leaves : goal.returns-in-None-clause-leaves
returns-in-None-clause-leaves c =
    let old = c.self.inside.buffer in
    let new = c.fill-self-inside.new.buffer in
    let filled = c.fill-self-inside.result in
    let is = rest_held c.short_has_the_size.ensures old new c.args.rest.now filled c.args.fault c.fill-self-inside.ensures
    c.in-None.ensures c.requires.fault in
    let opened = is_open c.self.inside.closed (take c.self.inside.size old) c.args.self.now c.self.view_is c.requires.opened in
    subst (λ (k : Option DerFault). Leaves c.args.rest.now (held_of k (take filled new))) (sym opened) (is.1, is.2)
