-- Proves the contract of `OneSide::go_back` (`src/one_side.rt`).
-- The committed record encodes exactly the side to which the live side goes back.
use Rattle.std.proofs.Common.{◌∙◌, None, Some, sym, subst}
use Rattle.std.specs.Prelude.{option_map}
use Rattle.ill_saved.specs.Holdings.{DeskEntry, IsBacked}
use Rattle.ill_saved.specs.CommittedBytes.{GoesBackTo}
use Rattle.ill_saved.specs.OneSide.{OneBacks, one_side}
use Rattle.ill_saved.proofs.Desks.{alone_whole, back_rules, idle_again_backs}
use Rattle.ill_saved.proofs.one_side.OneSideHeld.go_back.Goals as goal

-- If there are no bytes, the idle side is backed.
pub returns-in_default-clause-backed : goal.returns-in_default-clause-backed
returns-in_default-clause-backed c =
    let live = c.args.self.now.side in
    subst (λ bytes. IsBacked one_side OneBacks (option_map (λ b. b.items) bytes) c.begin_again.new.self) (sym c.in_default.is)
    (subst (λ held. IsBacked one_side OneBacks None held) (sym (c.begin_again.ensures ∙ alone_whole live))
    (idle_again_backs live))

-- The held side satisfies `Rules` if the side goes back to the committed record. `held` is the side in memory with its
-- count and copy. `back` says that the side went back to the record `bytes`.
pub invariant_of-self : goal.invariant_of-self
invariant_of-self c =
    let held = c.self.inside in
    let bytes = c.deref.result.now in
    let back = subst (λ went. GoesBackTo held.committed_record held.released bytes went held.side c.take_back.new.live)
    c.if-take_back.true c.take_back.ensures in
    (back_rules c.read_again.ensures held.committed_record held.released bytes held.side c.take_back.new.live back).0

-- If the side goes back to the committed record, the loaded bytes back it. `back` says that the side went back to the
-- record `bytes`, and `now` is the side after that.
pub returns-then-take_back-clause-backed : goal.returns-then-take_back-clause-backed
returns-then-take_back-clause-backed c =
    let held = c.self.inside in
    let bytes = c.deref.result.now in
    let back = subst (λ went. GoesBackTo held.committed_record held.released bytes went held.side c.take_back.new.live)
    c.if-take_back.true c.take_back.ensures in
    let now : DeskEntry = record { side = c.take_back.new.live; released = held.released } in
    let backed =
    (back_rules c.read_again.ensures held.committed_record held.released bytes held.side c.take_back.new.live back).1 in
    subst (λ b. IsBacked one_side OneBacks (option_map (λ b. b.items) b) now) (sym c.in-Some.is)
    (subst (λ b. IsBacked one_side OneBacks (Some b) now) c.deref.ensures.value backed)
