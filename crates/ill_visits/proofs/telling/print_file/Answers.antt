-- Answers the contract of `print_file` (`src/telling.rt`).
use Rattle.std.proofs.Common.{inl, inr, refl}
use Rattle.ill_saved.specs.ManySides.{sides_held}
use Rattle.ill_files.proofs.OpenLemmas.{open_fault}
use Rattle.ill_visits.proofs.telling.print_file.Goals as goal

-- Proves the contract of `print_file` if the files are opened. `run_desk_news` prints what came to its sides.
pub returns : goal.returns
returns g c = inr (
  (sides_held c.in_ok-desk.desk.live).sides,
  _,
  c.in_ok-notes.notes,
  c.in_ok-diary.diary,
  (c.run_desk_news-printed.result, c.run_desk_news-printed.ensures, c.all_succeed.ensures),
)

-- Proves the contract of `print_file` if the file of the messages that came is not read. Then nothing is written.
pub returns-in_err-bytes : goal.returns-in_err-bytes
returns-in_err-bytes g c =
    let result = c.from_residual-in_err-bytes.result in
    inl (open_fault result c.in_err-bytes.field-0.0 c.from_residual-in_err-bytes.ensures.1 c.in_err-bytes.ensures, refl)
