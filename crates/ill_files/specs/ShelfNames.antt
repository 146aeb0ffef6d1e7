-- The names of the desks of a shelf.
use Rattle.std.specs.Prelude.{◌≡◌, ◌⊎◌, All, ℕ, ◌-◌, List, ◌++◌, length, take, codes}
use Rattle.percent_encoding.specs.Percent.{percent_decode, percent_encode}
use Rattle.ill_values.specs.Text.{IsQualifier}
use Rattle.ill_record.specs.declared.role.Role.{Role}
use Rattle.ill_record.specs.declared.role.Role.TheVariants.{Requester, Responder}
use Rattle.ill_files.specs.declared.shelf.TheConstants.{ESCAPED}
use Rattle.ill_record.specs.Roles.{role_name}

-- Returns the name of the desk of a group: the group in percent-encoding, a full stop, and the role.
abbrev pub desk_name : Role → List ℕ → List ℕ
desk_name role group = percent_encode ESCAPED group ++ (codes "." ++ role_name role)

-- Returns the path of the desk of `group`, on the shelf in `folder`.
abbrev pub desk_path : List ℕ → Role → List ℕ → List ℕ
desk_path folder role group = folder ++ (codes "/" ++ desk_name role group)

-- Returns the path of the own desk of the shelf in `folder`.
abbrev pub own_path : List ℕ → List ℕ
own_path folder = folder ++ (codes "/" ++ codes ".shelf")

-- Returns the path of the file that marks a group as retired. `path` is that of the desk of the group.
abbrev pub retired_path : (path : List ℕ) → List ℕ
retired_path path = path ++ codes ".retired"

-- Returns the group in `name`, if `name` is that of a desk of `role`.
abbrev pub group_in : Role → List ℕ → List ℕ
group_in role name = percent_decode (take (length name - length (role_name role) - 1) name)

-- `name` is the name of the desk of `role` of some group.
abbrev pub IsDeskName : Role → List ℕ → Type 0
IsDeskName role name = (group : List ℕ) × IsQualifier group × (name ≡ desk_name role group)

-- `name` is the name of the own desk of a shelf, or of the desk of a group.
abbrev pub IsNamedOnShelf : List ℕ → Type 0
IsNamedOnShelf name = (name ≡ codes ".shelf") ⊎ (IsDeskName Requester name ⊎ IsDeskName Responder name)

-- Each of `names` is the name of the desk of `role` of some group.
abbrev pub AreDeskNames : Role → (names : List (List ℕ)) → Type 0
AreDeskNames role names = All (IsDeskName role) names

-- `path` is that of a desk of the shelf in `folder`: its own desk, or that of a group.
abbrev pub IsOnShelf : (folder path : List ℕ) → Type 0
IsOnShelf folder path = (name : List ℕ) × IsNamedOnShelf name × (path ≡ folder ++ (codes "/" ++ name))

-- Each of `paths` is that of a desk of the shelf in `folder`.
abbrev pub AreOnShelf : (folder : List ℕ) → (paths : List (List ℕ)) → Type 0
AreOnShelf folder paths = All (IsOnShelf folder) paths
