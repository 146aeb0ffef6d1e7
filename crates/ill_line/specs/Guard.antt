-- The guard of a shelf's desks: a request for one desk that changes a desk of a shelf is refused.
use Rattle.std.specs.Prelude.{ℕ, List, IsSomeAnd}
use Rattle.std.specs.Path.{path_file_name}
use Rattle.ill_text.specs.declared.fault.ToolFault.{ToolFault}
use Rattle.ill_text.specs.declared.fault.ToolFault.TheVariants.{Arguments}
use Rattle.ill_text.specs.Fault.{IsOpenFault}
use Rattle.ill_files.specs.ShelfNames.{IsNamedOnShelf}
use Rattle.ill_line.specs.Asked.{Asked, desk_at_stake}

-- The guard may answer a request for the desk in `file` with the fault. It refuses only a file with the name of a
-- desk on a shelf. Else its folder could not be looked at, or memory ran out.
abbrev pub IsGuardedAt : List ℕ → ToolFault → Type 0
IsGuardedAt file Arguments = IsSomeAnd (path_file_name file) IsNamedOnShelf
IsGuardedAt file fault = IsOpenFault fault

-- The guard may answer a request with the fault. It lets each request through that changes no desk, sends from none,
-- keeps no note and names no file of a key.
abbrev pub IsGuarded : Asked → ToolFault → Type 0
IsGuarded asked fault = IsSomeAnd (desk_at_stake asked) (λ file. IsGuardedAt file fault)
