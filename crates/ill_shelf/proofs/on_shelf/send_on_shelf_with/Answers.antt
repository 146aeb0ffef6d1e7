-- Answers the contract of `send_on_shelf_with` (`src/on_shelf.rt`).
use Rattle.std.proofs.Common.{ℕ, List, subst}
use Rattle.std.specs.Prelude.{option_map, string_bytes}
use Rattle.ill_place.specs.Place.{place_of, shelf_of}
use Rattle.ill_commands.specs.AtFile.{message_of}
use Rattle.ill_commands.specs.Letters.{SendsWith}
use Rattle.ill_files.proofs.OpenLemmas.{open_fault}
use Rattle.ill_shelf.proofs.HomeLemmas.{not_sent}
use Rattle.ill_shelf.proofs.on_shelf.send_on_shelf_with.Goals as goal

-- Proves that the command runs at the desk of the group.
pub returns : goal.returns
returns g c =
    let key = option_map (λ file. file.now) c.args.key_file in
    let message = message_of c.args.txn.now c.args.number in
    let sent = subst (λ (path : List ℕ). SendsWith (place_of g.D.DeskStore.Store.state path) key message
    (g.W.Write.contents c.args.machine.now.writer)
    (g.W.Write.contents c.send_with.new.machine.writer) c.send_with.result) c.as_str.ensures.value c.send_with.ensures in
    (string_bytes c.in_ok-file.file, c.in_ok-file.ensures.home, sent)

-- Proves the contract if `home_of` fails. The shelf is not opened, the group is retired or that cannot be read, or
-- memory runs out. Then no message is sent.
pub returns-in_err-file : goal.returns-in_err-file
returns-in_err-file g c =
    let key = option_map (λ file. file.now) c.args.key_file in
    let result = c.from_residual.result in
    let opens = open_fault result c.in_err-file.field-0.0 c.from_residual.ensures.1 c.in_err-file.ensures.faults in
    not_sent (shelf_of g.D.DeskStore.Store.state c.args.place.now.folder.now) key (message_of c.args.txn.now c.args.number) _
    result opens
