-- Answers the contract of `count_file` (`src/counting.rt`).
use Rattle.std.proofs.Common.{inr}
use Rattle.ill_saved.specs.ManySides.{sides_held}
use Rattle.ill_beside.specs.FileLines.{lines_of}
use Rattle.ill_visits.proofs.counting.count_file.Goals as goal

-- Proves the contract of `count_file` if the files are opened. `run_desk_figures` writes the figures of its sides.
pub returns : goal.returns
returns g c = inr (
  (sides_held c.in_ok-desk.desk.live).sides,
  lines_of c.in_ok-diary.diary,
  _,
  (c.run_desk_figures-counted.result, c.run_desk_figures-counted.ensures, c.all_succeed.ensures),
)
