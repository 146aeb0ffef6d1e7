-- Answers the contract of `push_path` (`src/folder.rt`).
use Rattle.std.proofs.Common.{inl, inr}
use Rattle.std.specs.Prelude.{string_bytes}
use Rattle.ill_files.specs.Folders.{IsEntryOf, IsFoundAt}
use Rattle.ill_files.proofs.FoldersLemmas.{gets_entry, gets_weaker, on_ok}
use Rattle.ill_files.proofs.folder.push_path.Goals as goal

-- Proves the contract of `push_path` if a folder is at the path. Each file that is appended is an entry of it.
pub returns-in-Ok : goal.returns-in-Ok
returns-in-Ok g c =
    let folder = c.without_slashes.result.now in
    on_ok c.push_names.result (gets_weaker (IsEntryOf folder) (IsFoundAt c.args.path.now) _ _
    (λ file is_entry. inr (folder, c.without_slashes.ensures, is_entry))) c.push_names.ensures

-- Proves the contract of `push_path` if no folder is at the path. The path itself is appended.
pub returns-in_ok-push-in-Err-2 : goal.returns-in_ok-push-in-Err-2
returns-in_ok-push-in-Err-2 g c =
    gets_entry (IsFoundAt c.args.path.now) (λ file. string_bytes file) c.args.found.now.files.items c.push.new.self.items
    c.in_ok-from_str-in-Err-2.field-0 (inr c.in_ok-push-in-Err-2.ensures.items) (inl c.in_ok-from_str-in-Err-2.ensures.ok)
