-- Answers the contract of `said_by` (`src/diary.rt`).
use Rattle.std.proofs.Common.{ap, ◌∙◌}
use Rattle.ill_beside.specs.Diary.{said_in}
use Rattle.ill_beside.proofs.DiaryLemmas.{other_says_nothing, text_says}
use Rattle.ill_beside.proofs.diary.said_by.Goals as goal

-- Proves the contract of `said_by` if the line is UTF-8.
pub returns-in-Ok : goal.returns-in-Ok
returns-in-Ok c =
    c.said_in.ensures ∙ ap said_in c.in-Ok.ensures.cases.0 ∙ text_says c.args.line.now c.in-Ok.ensures.cases.1

-- Proves the contract of `said_by` if the line is not UTF-8. It says nothing.
pub returns-in-Err : goal.returns-in-Err
returns-in-Err c = other_says_nothing c.args.line.now c.in-Err.ensures.cases.0
