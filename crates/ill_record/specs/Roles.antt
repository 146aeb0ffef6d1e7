-- The names of the two roles.
use Rattle.std.specs.Prelude.{ℕ, List, [], ◌∷◌, Option, codes}
use Rattle.ill_values.specs.Names.{named_by}
use Rattle.ill_record.specs.declared.role.Role.{Role}
use Rattle.ill_record.specs.declared.role.Role.TheVariants.{Requester, Responder}

-- Returns the name of a role.
abbrev pub role_name : Role → List ℕ
role_name Requester = codes "requester"
role_name Responder = codes "responder"

-- Returns the role with the name `text`, if there is one.
abbrev pub role_named : List ℕ → Option Role
role_named = named_by role_name (Requester ∷ Responder ∷ [])
