-- Proves the contract of `written_lines` (`src/show.rt`).
use Rattle.std.proofs.Common.{List, ℕ, [], Some, Ok, subst}
use Rattle.ill_saved.specs.ManySides.{found_by, txn_held}
use Rattle.ill_show.specs.Loan.{RunsLoan, beside_of}
use Rattle.ill_show.specs.declared.loan.LoanForm.TheVariants.{Lines}
use Rattle.ill_web.proofs.show.written_lines.Goals as goal

-- The lines are those that `run_desk_loan` wrote, since nothing was written before.
pub returns-in-Ok : goal.returns-in-Ok
returns-in-Ok g c =
    let beside = beside_of c.args.beside.now in
    let held = found_by txn_held c.args.place.now.txn.now c.args.desk.now.live.held in (
      beside,
      subst (λ (items : List ℕ). RunsLoan Lines beside held (Some items) (Some c.run_desk_loan.new.writer.items) (Ok tt))
          c.new-lines.ensures.items c.in-Ok.ensures,
    )
