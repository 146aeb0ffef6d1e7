-- The files of desks that are found at the paths of a command: a path is that of a file, or of a folder.
use Rattle.std.specs.Prelude.{◌≡◌, ◌⊎◌, ℕ, List, ◌++◌, codes, replicate}
use Rattle.std.specs.List.{All, Any}

-- `file` is the path of an entry of `folder`: that of the folder, a slash, and the entry's name. Nothing is asked of
-- the name.
abbrev pub IsEntryOf : (folder file : List ℕ) → Type 0
IsEntryOf folder file = (name : List ℕ) × (file ≡ folder ++ (codes "/" ++ name))

-- `path` is `folder`, followed by slashes alone, or by nothing. `folder` may still end with a slash.
abbrev pub IsWithoutSlashes : (path folder : List ℕ) → Type 0
IsWithoutSlashes path folder = (slashes : ℕ) × (path ≡ folder ++ replicate slashes 47)

-- `file` is found at `path`: it is `path` itself, or the path of an entry of the folder there.
abbrev pub IsFoundAt : (path file : List ℕ) → Type 0
IsFoundAt path file = (file ≡ path) ⊎ ((folder : List ℕ) × IsWithoutSlashes path folder × IsEntryOf folder file)

-- Each of `files` is found at one of `paths`.
abbrev pub AreFoundAt : (paths files : List (List ℕ)) → Type 0
AreFoundAt paths files = All (λ file. Any (λ path. IsFoundAt path file) paths) files

-- The list `new` is `old`, and then files that all satisfy `P`.
abbrev pub GetsFiles : (P : List ℕ → Type 0) → (old new : List (List ℕ)) → Type 0
GetsFiles P old new = (more : List (List ℕ)) × (new ≡ old ++ more) × All P more
