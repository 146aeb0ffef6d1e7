-- Defines transaction ids.
use Rattle.std.specs.Prelude.{ℕ, List, Result, Ok}
use Rattle.ill_values.specs.declared.fault.TextFault.{TextFault}
use Rattle.ill_values.specs.Text.{qualifier_check, IsQualifier, ◌>>=◌}

-- A transaction id, in this profile's own form: a transaction group qualifier and a transaction qualifier.
pub record Qualifiers : Type 0 where
  pub group : List ℕ
  pub transaction : List ℕ

-- Both parts of `id` are qualifiers.
pub record AreQualifiers (id : Qualifiers) : Type 0 where
  pub group : IsQualifier id.group
  pub transaction : IsQualifier id.transaction

-- Returns the id with these qualifiers, or the first fault. `group` is tested before `transaction`.
abbrev pub txn_id_of : List ℕ → List ℕ → Result Qualifiers TextFault
txn_id_of group transaction =
    qualifier_check group >>= λ _. qualifier_check transaction >>= λ _.
    Ok (record { group = group; transaction = transaction })
