-- What a night keeps beside its message files: a copy of the desk, and a sign of life (this profile's own).
use Rattle.std.specs.Prelude.{◌≡◌, ◌⊎◌, ℕ, suc, Bool, false, if◌then◌else◌, List, Option, Some, Result, Ok, Err}
use Rattle.ill_record.specs.Sides.{SidesOf}
use Rattle.ill_record.specs.RecordsV2.{sides_encoding}
use Rattle.ill_text.specs.declared.fault.ToolFault.{ToolFault}
use Rattle.ill_night.specs.CopyOver.{Replaces}
use Rattle.ill_night.specs.declared.copy.Copied.TheVariants.{Done}

-- The state of a backup: the bytes of the copy, if there is one, and the number of signs of life. `keeps_copy` is true
-- if a copy is wanted, and `keeps_sign` if signs of life are. `is_correct` is true if the backup does as it answers.
pub record BackupState : Type 0 where
  pub copied : Option (List ℕ)
  pub signs : ℕ
  pub keeps_copy : Bool
  pub keeps_sign : Bool
  pub is_correct : Bool

-- Returns true if a backup does as it answers.
abbrev pub is_correct_backup : BackupState → Bool
is_correct_backup state = state.is_correct

-- `new` wants a copy if `old` does, and a sign of life if `old` does, and not else.
pub record IsSameWish (old new : BackupState) : Type 0 where
  pub copy : new.keeps_copy ≡ old.keeps_copy
  pub sign : new.keeps_sign ≡ old.keeps_sign

-- No copy is wanted, or the copy has the record of `own`.
abbrev pub HasCopy : SidesOf → BackupState → Type 0
HasCopy own state = (state.keeps_copy ≡ false) ⊎ (state.copied ≡ Some (sides_encoding own))

-- The bytes of the copy are as before, or they are the record of `own`. In the second case `own` extends the copy
-- before, if there was one.
abbrev pub MayCopy : SidesOf → Option (List ℕ) → Option (List ℕ) → Type 0
MayCopy own before after = (after ≡ before) ⊎ (Replaces own before Done × (after ≡ Some (sides_encoding own)))

-- If the answer is Ok, no copy is wanted in `new`, or it has the record of `own`.
abbrev pub HasCopyIfDone : {A : Type 0} → SidesOf → Result A ToolFault → BackupState → Type 0
HasCopyIfDone own (Ok done) new = HasCopy own new
HasCopyIfDone own (Err fault) new = Unit {0}

-- A call copies a desk that holds `own`, from the state `old` to `new`. If it is done, the copy has the record of
-- `own`, or no copy is wanted. If it failed, the copy may be new or as before. All else stays.
pub record CopiesDesk {A : Type 0} (own : SidesOf) (old : BackupState) (answer : Result A ToolFault) (new : BackupState)
    : Type 0 where
  pub may : MayCopy own old.copied new.copied
  pub has : HasCopyIfDone own answer new
  pub signs : new.signs ≡ old.signs
  pub wish : IsSameWish old new

-- Returns the number of signs of life after one more, if it is wanted.
abbrev pub signs_after : BackupState → ℕ
signs_after old = if old.keeps_sign then suc old.signs else old.signs

-- If a sign of life is done, `signs` is the number after it (`signs_after`). If it failed, `signs` is that number or
-- the number before.
abbrev pub HasSigned : {A : Type 0} → BackupState → Result A ToolFault → ℕ → Type 0
HasSigned old (Ok done) signs = signs ≡ signs_after old
HasSigned old (Err fault) signs = (signs ≡ old.signs) ⊎ (signs ≡ signs_after old)

-- A call gives a sign of life, if one is wanted (`HasSigned`). The copy stays, and what is wanted stays.
pub record Signs {A : Type 0} (old : BackupState) (answer : Result A ToolFault) (new : BackupState) : Type 0 where
  pub signs : HasSigned old answer new.signs
  pub copied : new.copied ≡ old.copied
  pub wish : IsSameWish old new
