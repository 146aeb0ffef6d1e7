-- Answers the contract of `note_on_shelf` (`src/on_shelf.rt`).
use Rattle.std.proofs.Common.{ℕ, List, inl, refl, subst}
use Rattle.std.specs.Prelude.{string_bytes}
use Rattle.ill_place.specs.Place.{place_of}
use Rattle.ill_commands.specs.Note.{NotesAtFile, text_of}
use Rattle.ill_record.specs.declared.role.Role.TheVariants.{Requester}
use Rattle.ill_files.specs.ShelfNames.{desk_path}
use Rattle.ill_files.proofs.OpenLemmas.{open_fault}
use Rattle.ill_shelf.proofs.on_shelf.note_on_shelf.Goals as goal

-- Proves that the command runs at the desk of the group.
pub returns : goal.returns
returns g c = (
  string_bytes c.in_ok-file.file,
  c.in_ok-file.ensures.home,
  subst (λ (path : List ℕ). NotesAtFile (place_of g.D.DeskStore.Store.state path) c.args.view.now.txn.now
      (text_of c.args.view.now)
      (g.W.Write.contents c.args.machine.now.writer) (g.W.Write.contents c.note.new.machine.writer) c.note.result)
      c.as_str.ensures.value c.note.ensures,
)

-- Proves the contract if `home_of` fails. The shelf is not opened, the group is retired or that cannot be read, or
-- memory runs out. Then no note is kept.
pub returns-in_err-file : goal.returns-in_err-file
returns-in_err-file g c =
    let result = c.from_residual.result in
    let opens = open_fault result c.in_err-file.field-0.0 c.from_residual.ensures.1 c.in_err-file.ensures.faults in
    (desk_path c.args.place.now.folder.now Requester c.args.view.now.txn.now.group, (Requester, refl), inl (opens, refl))
