-- Answers the contract of `retire` (`src/retiring.rt`).
use Rattle.std.proofs.Common.{ℕ, List, inr, subst}
use Rattle.std.specs.Prelude.{string_bytes}
use Rattle.ill_place.specs.Place.{place_of, shelf_of}
use Rattle.ill_text.specs.declared.fault.ToolFault.TheVariants.{OutOfMemory}
use Rattle.ill_text.specs.Output.{WritesPrefix}
use Rattle.ill_files.proofs.OpenLemmas.{open_fault}
use Rattle.ill_shelf.specs.Retiring.{MarksGroup}
use Rattle.ill_shelf.proofs.HomeLemmas.{is_home}
use Rattle.ill_shelf.proofs.RetiringLemmas.{not_retired}
use Rattle.ill_shelf.proofs.retiring.retire.Goals as goal

-- Proves that the group was marked at its desk, and that the line says if it is marked.
pub returns : goal.returns
returns g c =
    let printed = c.write_whole-printed.result in
    let path = string_bytes c.in_ok-file.file in
    let home = is_home c.args.place.now.folder.now c.in_ok-shelf.shelf.folder.now c.in_ok-shelf.shelf.role c.args.group.now
    c.as_bytes.result.now path c.in_ok-shelf.ensures.folder c.as_bytes.ensures.value c.in_ok-file.ensures in
    let marks = subst (λ (path : List ℕ). MarksGroup (place_of g.D.DeskStore.Store.state path) c.in_ok-is_marked.is_marked)
    c.as_str-2.ensures.value c.in_ok-is_marked.ensures.marks in
    let writes = subst (λ (line : List ℕ). WritesPrefix (g.W.Write.contents c.args.machine.now.writer)
    (g.W.Write.contents c.write_whole-printed.new.writer) line printed) c.retired_line.ensures c.write_whole-printed.ensures in
    (path, home, inr (c.in_ok-is_marked.is_marked, printed, marks, writes, c.print_with.ensures))

-- Proves the contract if the shelf is not opened. Then nothing is written.
pub returns-in_err-shelf : goal.returns-in_err-shelf
returns-in_err-shelf g c =
    let result = c.from_residual.result in
    let opens = open_fault result c.in_err-shelf.field-0.0 c.from_residual.ensures.1 c.in_err-shelf.ensures.faults in
    not_retired (shelf_of g.D.DeskStore.Store.state c.args.place.now.folder.now) c.args.group.now
    (g.W.Write.contents c.args.machine.now.writer) result opens

-- Proves the contract if memory runs out for the path of the shelf's own desk. Then nothing is written.
pub returns-in_err-own : goal.returns-in_err-own
returns-in_err-own g c =
    let result = c.from_residual-in_err-own.result in
    let opens = open_fault result OutOfMemory c.from_residual-in_err-own.ensures.1 tt in
    not_retired (shelf_of g.D.DeskStore.Store.state c.args.place.now.folder.now) c.args.group.now
    (g.W.Write.contents c.args.machine.now.writer) result opens

-- Proves the contract if the shelf's own desk cannot be locked. Then nothing is written.
pub returns-in_err-sorting : goal.returns-in_err-sorting
returns-in_err-sorting g c =
    let result = c.from_residual-in_err-sorting.result in
    let opens = open_fault result c.in_err-sorting.field-0.0 c.from_residual-in_err-sorting.ensures.1 c.in_err-sorting.ensures in
    not_retired (shelf_of g.D.DeskStore.Store.state c.args.place.now.folder.now) c.args.group.now
    (g.W.Write.contents c.args.machine.now.writer) result opens

-- Proves the contract if memory runs out for the path of the desk. Then nothing is written.
pub returns-in_err-file : goal.returns-in_err-file
returns-in_err-file g c =
    let result = c.from_residual-in_err-file.result in
    let opens = open_fault result OutOfMemory c.from_residual-in_err-file.ensures.1 tt in
    not_retired (shelf_of g.D.DeskStore.Store.state c.args.place.now.folder.now) c.args.group.now
    (g.W.Write.contents c.args.machine.now.writer) result opens

-- Proves the contract if the desk cannot be locked. Then nothing is written.
pub returns-in_err-held : goal.returns-in_err-held
returns-in_err-held g c =
    let result = c.from_residual-in_err-held.result in
    let opens = open_fault result c.in_err-held.field-0.0 c.from_residual-in_err-held.ensures.1 c.in_err-held.ensures.faults in
    not_retired (shelf_of g.D.DeskStore.Store.state c.args.place.now.folder.now) c.args.group.now
    (g.W.Write.contents c.args.machine.now.writer) result opens

-- Proves the contract if the mark or the desk cannot be loaded, or the mark not be saved. Then nothing is written.
pub returns-in_err-is_marked : goal.returns-in_err-is_marked
returns-in_err-is_marked g c =
    let result = c.from_residual-in_err-is_marked.result in
    let opens = open_fault result c.in_err-is_marked.field-0.0 c.from_residual-in_err-is_marked.ensures.1
    c.in_err-is_marked.ensures.faults in
    not_retired (shelf_of g.D.DeskStore.Store.state c.args.place.now.folder.now) c.args.group.now
    (g.W.Write.contents c.args.machine.now.writer) result opens
