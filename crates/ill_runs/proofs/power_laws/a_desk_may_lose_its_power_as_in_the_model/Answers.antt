-- Proves the clauses of `a_desk_may_lose_its_power_as_in_the_model` (`src/power_laws.rt`).
use Rattle.ill_saved.specs.ManySides.{many_sides}
use Rattle.ill_desk.specs.Performing.{view_of}
use Rattle.ill_runs.proofs.PowerLemmas.{known_correct, left_after_save, left_in_save, loaded_left, lost_starts}
use Rattle.ill_runs.proofs.PowerLemmas.{saved_commits}
use Rattle.ill_runs.proofs.power_laws.a_desk_may_lose_its_power_as_in_the_model.Goals as goal

-- After a load or a save that is done the committed record is left.
pub returns-clause-loaded : goal.returns-clause-loaded
returns-clause-loaded g c p is lasts =
    let desk = c.args.desk.now in
    let state = g.S.Store.state desk.store in
    loaded_left state.is_correct state.committed (g.S.Store.leaves desk.store) desk.live p is lasts

-- In a save the new record may be left, and each record that might have been left before.
pub returns-clause-in_save : goal.returns-clause-in_save
returns-clause-in_save g c who committed p is again =
    let desk = c.args.desk.now in
    left_in_save (view_of g.S.Store.state desk) (g.S.Store.leaves desk.store) p is again who committed

-- After a save its answer says which records may be left.
pub returns-clause-after_save : goal.returns-clause-after_save
returns-clause-after_save g c who committed p answer is again saves lasts either =
    let desk = c.args.desk.now in
    let state = g.S.Store.state desk.store in
    let after = g.S.Store.state c.args.after.now in
    let correct = known_correct state.is_correct state.committed p.desk.committed is.desk.committed in
    left_after_save (view_of g.S.Store.state desk) (g.S.Store.leaves desk.store) p is again who committed answer after.committed
    (g.S.Store.leaves c.args.after.now) (saved_commits (many_sides.encoding desk.live) state after answer saves correct) lasts
    either

-- A desk starts from each record that may be left.
pub returns-clause-lost : goal.returns-clause-lost
returns-clause-lost g c p left is is_left =
    let desk = c.args.desk.now in
    lost_starts (view_of g.S.Store.state desk) (g.S.Store.leaves desk.store) p left is is_left
