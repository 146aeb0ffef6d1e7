-- Proves the contract of `AnyDesk::restart` (`src/desk.rt`).
-- Committed bytes that back the live sides have no fault of the record.
use Rattle.std.proofs.Common.{◌≡◌, true, subst}
use Rattle.ill_saved.specs.Desk.{Restarts}
use Rattle.ill_saved.specs.Holdings.{committed_live}
use Rattle.ill_saved.proofs.Desks.{restarts_to}
use Rattle.ill_saved.proofs.desk.AnyDesk.restart.Goals as goal

-- If the store is correct, going back to the bytes that it loads is a restart.
pub returns-clause-restarts : goal.returns-clause-restarts
returns-clause-restarts g c =
    let held = g.H.Held in
    subst (λ desk. (g.S.Store.state desk.store).is_correct ≡ true
    → Restarts (committed_live held.effects (g.S.Store.state desk.store).committed desk.live) (g.S.Store.state desk.store).plan
    c.go_back.result c.go_back.new.self) c.self.view_is
    (restarts_to held.effects held.backs c.self.inside.held c.go_back.new.self c.go_back.result c.in_ok-bytes.ensures.loads
    (λ correct. (c.self.invariant correct).now) c.go_back.ensures.goes c.go_back.ensures.faults)
