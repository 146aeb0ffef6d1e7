-- Answers the contract of `loan` (`src/commands.rt`).
use Rattle.std.proofs.Common.{inr}
use Rattle.ill_beside.specs.FileLines.{lines_of}
use Rattle.ill_commands.proofs.commands.loan.Goals as goal

-- Proves that the transaction is one of the desk that was loaded at the place. It is shown with the files beside the
-- desk.
pub returns : goal.returns
returns g c =
    inr (
      c.in_ok-desk.desk,
      c.in_ok-desk.ensures.starts,
      record {
        notes = c.in_ok-notes.notes;
        diary = lines_of c.in_ok-diary.diary;
        came = c.deref.result.now;
      },
      (c.run_desk_loan-shown.result, c.run_desk_loan-shown.ensures, c.all_succeed.ensures),
    )
