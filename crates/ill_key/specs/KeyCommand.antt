-- The command `key`: a key is made, shown or read.
use Rattle.std.specs.Prelude.{◌≡◌, ◌⊎◌, ℕ, Bool, List, [], ◌∷◌, ◌++◌, length, codes, Option, Result, Ok, Err, IsErrAnd}
use Rattle.ill_seal.specs.declared.fault.KeyFault.{KeyFault}
use Rattle.ill_seal.specs.declared.fault.KeyFault.TheVariants as texts
use Rattle.ill_seal.specs.KeyText.{key_text, key_in}
use Rattle.ill_text.specs.declared.fault.BadKey.TheVariants.{Digits, Check}
use Rattle.ill_text.specs.declared.fault.ToolFault.{ToolFault}
use Rattle.ill_text.specs.declared.fault.ToolFault.TheVariants.{Key, OutOfMemory}
use Rattle.ill_text.specs.Fault.{IsOpenFault}
use Rattle.ill_text.specs.Input.{IsWhole, StopsWhole}
use Rattle.ill_text.specs.Output.{WritesText}
use Rattle.ill_files.specs.Opening.{Succeeds}
use Rattle.ill_key.specs.declared.key.KeyDeed.{KeyDeed}
use Rattle.ill_key.specs.declared.key.KeyDeed.TheVariants as deeds

-- The fault is one of a key.
abbrev pub IsBadKey : ToolFault → Type 0
IsBadKey (Key bad) = Unit {0}
IsBadKey other = ⊥

-- The fault is one of a key, or one with which a file is not opened.
abbrev pub IsKeyFault : ToolFault → Type 0
IsKeyFault fault = IsBadKey fault ⊎ IsOpenFault fault

-- The command fails since no key could be used, or a file could not be opened. Nothing was written.
abbrev pub FailsAtKey : Option (List ℕ) → Option (List ℕ) → Result Bool ToolFault → Type 0
FailsAtKey before after result = IsErrAnd result IsKeyFault × (after ≡ before)

-- The file of a key was made, and then `done` was written. Or the file could not be made, and nothing was written.
abbrev pub MakesKey : Option (List ℕ) → Option (List ℕ) → Result Bool ToolFault → Type 0
MakesKey before after result =
    FailsAtKey before after result ⊎ Succeeds (WritesText before after (codes "done\n")) result

-- The text of a key was written, in a line. Or no key could be read, and nothing was written.
abbrev pub ShowsKey : Option (List ℕ) → Option (List ℕ) → Result Bool ToolFault → Type 0
ShowsKey before after result =
    FailsAtKey before after result
    ⊎ ((key : List ℕ) × (length key ≡ 32) × Succeeds (WritesText before after (key_text key ++ 10 ∷ [])) result)

-- Returns the fault of the command for the fault of the text of a key.
abbrev pub key_fault : KeyFault → ToolFault
key_fault texts.Digits = Key Digits
key_fault texts.Check = Key Check
key_fault texts.OutOfMemory = OutOfMemory

-- All of the input is the text of `key`.
abbrev pub IsKeyText : (left rest : Option (List ℕ)) → (key : List ℕ) → Type 0
IsKeyText left rest key = (text : List ℕ) × IsWhole 1024 left rest text × (key_in text ≡ Ok key)

-- The input is too long for the text of a key, or could not be read, or memory ran out. Or all of the input is no text
-- of a key.
abbrev pub IsNoKeyText : (left rest : Option (List ℕ)) → ToolFault → Type 0
IsNoKeyText left rest fault =
    StopsWhole 1024 (Key Digits) left rest fault
    ⊎ ((fault ≡ OutOfMemory)
    ⊎ ((text : List ℕ) × (bad : KeyFault) × IsWhole 1024 left rest text × (key_in text ≡ Err bad) × (fault ≡ key_fault bad)))

-- The input is the text of a key, and `MakesKey` holds: its file was made, or could not be made. Or the input is no
-- text of a key, and nothing was written.
abbrev pub ReadsKey : Option (List ℕ) → Option (List ℕ) → Option (List ℕ) → Option (List ℕ) → Result Bool ToolFault → Type 0
ReadsKey left rest before after result =
    (IsErrAnd result (IsNoKeyText left rest) × (after ≡ before))
    ⊎ ((key : List ℕ) × IsKeyText left rest key × MakesKey before after result)

-- The command `key` has this result for a deed. The input goes from `left` to `rest`, and the output from `before` to
-- `after`. Only the deed `Read` reads the input.
abbrev pub RunsKey : KeyDeed → Option (List ℕ) → Option (List ℕ) → Option (List ℕ) → Option (List ℕ) → Result Bool ToolFault →
    Type 0
RunsKey deeds.Make left rest before after result = (rest ≡ left) × MakesKey before after result
RunsKey deeds.Show left rest before after result = (rest ≡ left) × ShowsKey before after result
RunsKey deeds.Read left rest before after result = ReadsKey left rest before after result
