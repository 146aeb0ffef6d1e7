-- Answers the contract of `act_on_shelf` (`src/on_shelf.rt`).
use Rattle.std.proofs.Common.{Option, subst, ◌∙◌}
use Rattle.std.specs.Prelude.{string_bytes}
use Rattle.ill_record.specs.declared.role.Role.{Role}
use Rattle.ill_place.specs.Place.{OpensAs, place_of, shelf_of}
use Rattle.ill_text.specs.declared.fault.ToolFault.TheVariants.{OutOfMemory}
use Rattle.ill_desk.specs.ActAs.{asking_of}
use Rattle.ill_files.proofs.OpenLemmas.{open_fault}
use Rattle.ill_shelf.proofs.HomeLemmas.{acted_at_home, at_home, not_acted}
use Rattle.ill_shelf.proofs.on_shelf.act_on_shelf.Goals as goal

-- Proves that the action is performed at the desk of the group. `at` says that its path is that of the group, and
-- `opens` that it was begun only if a new group may be begun.
pub returns : goal.returns
returns g c =
    let shelf = shelf_of g.D.DeskStore.Store.state c.args.place.now.folder.now in
    let role = c.in_ok-shelf.shelf.role in
    let group = c.args.view.now.txn.now.group in
    let old = c.in_ok-locked.locked.desk in
    let at = c.as_str.ensures.value ∙ at_home c.args.place.now.folder.now c.in_ok-shelf.shelf.folder.now role group
    c.group.result.now (string_bytes c.in_ok-file.file) c.in_ok-shelf.ensures.folder c.group.ensures.value c.in_ok-file.ensures in
    let opens = subst (λ (role : Option Role). OpensAs role (place_of g.D.DeskStore.Store.state c.as_str.result.now) old)
    c.role_to_begin-role.ensures c.in_ok-locked.ensures.opens in
    acted_at_home shelf role (record {
      asking = asking_of c.args.view.now;
      is_long = c.args.is_long;
      is_new_group = c.args.is_new_group;
    }) c.as_str.result.now old c.act_at.ensures.0 (g.W.Write.contents c.args.machine.now.writer)
    (g.W.Write.contents c.act_at.new.machine.writer) c.act_at.result at opens c.act_at.ensures.1

-- Proves the contract if the shelf is not opened. Then no action is performed.
pub returns-in_err-shelf : goal.returns-in_err-shelf
returns-in_err-shelf g c =
    let result = c.from_residual.result in
    let opens = open_fault result c.in_err-shelf.field-0.0 c.from_residual.ensures.1 c.in_err-shelf.ensures.faults in
    not_acted (shelf_of g.D.DeskStore.Store.state c.args.place.now.folder.now) (record {
      asking = asking_of c.args.view.now;
      is_long = c.args.is_long;
      is_new_group = c.args.is_new_group;
    }) _ result opens

-- Proves the contract if memory runs out for the path of the desk. Then no action is performed.
pub returns-in_err-file : goal.returns-in_err-file
returns-in_err-file g c =
    let result = c.from_residual-in_err-file.result in
    let opens = open_fault result OutOfMemory c.from_residual-in_err-file.ensures.1 tt in
    not_acted (shelf_of g.D.DeskStore.Store.state c.args.place.now.folder.now) (record {
      asking = asking_of c.args.view.now;
      is_long = c.args.is_long;
      is_new_group = c.args.is_new_group;
    }) _ result opens

-- Proves the contract if `open_or_begin` fails: the desk is neither opened nor begun. Then no action is performed.
pub returns-in_err-locked : goal.returns-in_err-locked
returns-in_err-locked g c =
    let result = c.from_residual-in_err-locked.result in
    let opens = open_fault result c.in_err-locked.field-0.0 c.from_residual-in_err-locked.ensures.1
    c.in_err-locked.ensures.faults in
    not_acted (shelf_of g.D.DeskStore.Store.state c.args.place.now.folder.now) (record {
      asking = asking_of c.args.view.now;
      is_long = c.args.is_long;
      is_new_group = c.args.is_new_group;
    }) _ result opens
