-- Answers the contract of `new_shelf` (`src/on_shelf.rt`).
use Rattle.std.proofs.Common.{ℕ, List, inl, refl, subst, ◌∙◌}
use Rattle.ill_commands.specs.AtFile.{NewAtFile}
use Rattle.ill_place.specs.Place.{place_of}
use Rattle.ill_text.specs.declared.fault.ToolFault.TheVariants.{OutOfMemory}
use Rattle.ill_files.proofs.OpenLemmas.{open_fault}
use Rattle.ill_shelf.proofs.on_shelf.new_shelf.Goals as goal

-- Proves the contract if the folder is not made. Then no desk is begun.
pub returns-in_err-make_shelf_folder : goal.returns-in_err-make_shelf_folder
returns-in_err-make_shelf_folder g c =
    inl (
      open_fault c.from_residual.result c.in_err-make_shelf_folder.field-0.0 c.from_residual.ensures.1
          c.in_err-make_shelf_folder.ensures,
      refl,
    )

-- Proves the contract if memory runs out for the path of the shelf's own desk. Then no desk is begun.
pub returns-in_err-own : goal.returns-in_err-own
returns-in_err-own g c =
    inl (open_fault c.from_residual-in_err-own.result OutOfMemory c.from_residual-in_err-own.ensures.1 tt, refl)

-- Proves that the desk is begun at the path of the shelf's own desk.
pub returns : goal.returns
returns g c =
    let at = c.as_str.ensures.value ∙ c.in_ok-own.ensures in
    subst (λ (path : List ℕ). NewAtFile (place_of g.D.DeskStore.Store.state path) c.args.role
    (g.W.Write.contents c.args.machine.now.writer) (g.W.Write.contents c.new.new.machine.writer) c.new.result) at c.new.ensures
