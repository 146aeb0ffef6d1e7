-- A desk of many transactions gives the answers that a desk of the model gives.
use Rattle.std.proofs.Common.{rules, length, ◌≡◌, Some, List, [], ℕ, Result, Ok, Err, refl, sym, ap, subst, ◌∙◌}
use Rattle.ill_values.specs.declared.apdu.Apdu.{Apdu}
use Rattle.ill_der.specs.declared.fault.DerFault.{DerFault}
use Rattle.ill_core.specs.declared.taking.Taking.{Taking}
use Rattle.ill_saved.specs.declared.fault.DeskFault.{DeskFault}
use Rattle.ill_saved.specs.declared.fault.DeskFault.TheVariants as faults
use Rattle.ill_saved.specs.Desk.{DeskTakes}
use Rattle.ill_saved.specs.ManySides.{DeskContents, desk_takes, many_sides}
use Rattle.ill_der.specs.declared.fault.DerFault.TheVariants.{OutOfMemory}
use Rattle.ill_der.specs.ShortForm.{Decodes}
use Rattle.ill_words.specs.declared.outcome.Outcome.{Outcome}
use Rattle.ill_words.specs.declared.outcome.Outcome.TheVariants.{Forged, Garbled}
use Rattle.ill_world.specs.Desks.{DeskParty, desk_hears}
use Rattle.ill_world.specs.DeskRefinement.{CanBeSeen}
use Rattle.ill_world.proofs.Messages.{whole_reads, part_reads}
use Rattle.ill_world.proofs.Desks.{receives_role}

-- If bytes are exactly one APDU, their answer is the answer to this APDU.
pub takes_one : (old new : DeskContents) (read : Result (Apdu × List ℕ) DerFault) (a : Apdu) (answer : Result Taking DeskFault)
    → read ≡ Ok (a, []) → DeskTakes many_sides old read answer new → DeskTakes many_sides old (Ok (a, [])) answer new
takes_one old new read a answer e takes = subst (λ r. DeskTakes many_sides old r answer new) e takes

-- A desk that takes an APDU keeps its role.
kept_role : (old new : DeskContents) (a : Apdu) (answer : Result Taking DeskFault) → desk_takes old a ≡ (answer, new)
    → new.role ≡ old.role
kept_role old new a answer is =
    let p : DeskParty = record { live = old; committed = record { role = old.role; sides = [] }; sent = [] } in
    sym (ap (λ (r : Result Taking DeskFault × DeskContents). r.1.role) is) ∙ (receives_role old.role p (Some a) (refl, refl)).0

-- A desk that takes one APDU, or has no memory for it, keeps its role.
pub takes_role : (old new : DeskContents) (a : Apdu) (answer : Result Taking DeskFault)
    → DeskTakes many_sides old (Ok (a, [])) answer new → new.role ≡ old.role
takes_role old new a (Ok taking) is = kept_role old new a (Ok taking) is
takes_role old new a (Err faults.OutOfMemory) is = ap (λ (live : DeskContents). live.role) is
takes_role old new a (Err fault) is = kept_role old new a (Err fault) is.0

-- The faults of exactly one APDU satisfy `CanBeSeen`.
pub take_faults : (old new : DeskContents) (a : Apdu) (fault : DeskFault)
    → DeskTakes many_sides old (Ok (a, [])) (Err fault) new → CanBeSeen fault
take_faults old new a faults.OutOfMemory takes = tt
take_faults old new a fault takes = takes.1

-- ---- noise

-- If the bytes are exactly one APDU, the outcome of noise is Forged. Else it is Garbled.
abbrev pub NoiseSeenAs : List ℕ → Outcome → Result (Apdu × ℕ) DerFault → Type 0
NoiseSeenAs bytes outcome (Ok (a, size)) =
    (size ≡ length bytes → outcome ≡ Forged) × ((size ≡ length bytes → ⊥) → outcome ≡ Garbled)
NoiseSeenAs bytes outcome (Err OutOfMemory) = Unit {0}
NoiseSeenAs bytes outcome (Err fault) = outcome ≡ Garbled

-- Noise that begins with a shorter APDU is Garbled.
heard_part : (bytes : List ℕ) (read : Result (Apdu × List ℕ) DerFault) (a : Apdu) (size : ℕ)
    → Decodes bytes read (Ok (a, size)) → (size ≡ length bytes → ⊥) → desk_hears read ≡ Garbled
heard_part bytes read a size decodes part = let found = part_reads bytes read a size decodes part in ap desk_hears found.2

-- The outcome of noise satisfies `NoiseSeenAs` of the decoded APDU.
pub heard_as : (bytes : List ℕ) (read : Result (Apdu × List ℕ) DerFault) (answer : Result (Apdu × ℕ) DerFault)
    → Decodes bytes read answer → NoiseSeenAs bytes (desk_hears read) answer
heard_as bytes read (Ok (a, size)) decodes =
    (λ whole. ap desk_hears (whole_reads bytes read a size decodes whole), λ part. heard_part bytes read a size decodes part)
heard_as bytes read (Err OutOfMemory) decodes = tt
heard_as bytes (Err none) (Err fault) decodes = refl
heard_as bytes (Ok found) (Err fault) decodes = search (rules, decodes)
