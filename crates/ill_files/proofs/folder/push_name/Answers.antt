-- Answers the contract of `push_name` (`src/folder.rt`).
use Rattle.std.specs.Prelude.{string_bytes}
use Rattle.ill_files.specs.Folders.{IsEntryOf}
use Rattle.ill_files.proofs.FoldersLemmas.{gets_entry, on_ok}
use Rattle.ill_files.proofs.folder.push_name.Goals as goal

-- Proves the contract of `push_name` if the name is a text. Its path is that of an entry of the folder.
pub returns-in_ok-joined-in-Ok : goal.returns-in_ok-joined-in-Ok
returns-in_ok-joined-in-Ok g c =
    let path = c.in_ok-joined-in-Ok.field-0 in
    on_ok c.push_file.result (λ added. gets_entry (IsEntryOf c.args.folder.now) (λ file. string_bytes file)
    c.args.found.now.files.items c.push_file.new.files.items path added (c.in-Ok.name.now, c.in_ok-joined-in-Ok.ensures))
    c.push_file.ensures
