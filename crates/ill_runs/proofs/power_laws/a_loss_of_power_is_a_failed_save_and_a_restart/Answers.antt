-- Proves the clauses of `a_loss_of_power_is_a_failed_save_and_a_restart` (`src/power_laws.rt`).
use Rattle.std.proofs.Common.{inl, inr, refl, ◌∙◌}
use Rattle.ill_saved.specs.ManySides.{no_sides}
use Rattle.ill_world.specs.Desks.{first_desk}
use Rattle.ill_runs.proofs.PowerLemmas.{fault_starts, known_correct, left_read, new_read, restart_starts, save_starts}
use Rattle.ill_runs.proofs.PowerLemmas.{starts_as}
use Rattle.ill_runs.proofs.power_laws.a_loss_of_power_is_a_failed_save_and_a_restart.Goals as goal

-- Between two calls the committed record is left.
pub returns-clause-between : goal.returns-clause-between
returns-clause-between g c who sent p left is lasts is_left =
    let desk = c.args.desk.now in
    let state = g.S.Store.state desk.store in
    restart_starts who sent p left
    (left_read state.is_correct state.committed (g.S.Store.leaves desk.store) p.committed left is.committed lasts is_left)

-- In a save the committed record is left, or the new one.
pub returns-clause-in_save : goal.returns-clause-in_save
returns-clause-in_save g c who sent p left is lasts again either =
    let desk = c.args.desk.now in
    let state = g.S.Store.state desk.store in
    fault_starts state.is_correct state.committed (g.S.Store.leaves desk.store) desk.live who sent p left is lasts again either

-- After a save with any answer the committed record is left, or the new one.
pub returns-clause-after_save : goal.returns-clause-after_save
returns-clause-after_save g c who sent p left is lasts again either is_left =
    let desk = c.args.desk.now in
    let state = g.S.Store.state desk.store in
    fault_starts state.is_correct state.committed (g.S.Store.leaves desk.store) desk.live who sent p left is lasts again
    (either left is_left)

-- After a save that is done the new record is left.
pub returns-clause-saved : goal.returns-clause-saved
returns-clause-saved g c who sent p left is again saves lasts is_left =
    let desk = c.args.desk.now in
    let state = g.S.Store.state desk.store in
    let correct = known_correct state.is_correct state.committed p.committed is.committed in
    save_starts who sent p left
    (new_read desk.live p.live left is.live again (lasts left is_left ∙ (saves.committed correct).0))

-- In the first save nothing is left, or the new record.
pub returns-clause-first : goal.returns-clause-first
returns-clause-first g c role left live lasts again either = elim either [
  | inl old ↦ inl (lasts left old)
  | inr new ↦ inr (starts_as left (first_desk role) (new_read c.args.desk.now.live (no_sides role) left live again new) refl)
]
