-- The handling of APDUs, one after another. Each APDU relates a state before, a result and a state after.
use Rattle.std.specs.Prelude.{◌≡◌, ℕ, List, [], ◌∷◌, ◌++◌, Option, Result, Ok, Err}
use Rattle.ill_values.specs.declared.apdu.Apdu.{Apdu}
use Rattle.ill_der.specs.declared.fault.DerFault.{DerFault}
use Rattle.ill_der.specs.Feed.{Begins, FeedState, Feeds, fault_of}

-- The type of a relation for one APDU: of the state before, the APDU, the result, and the state after.
abbrev pub Handles : Type 0 → Type 0 → Type 1
Handles S F = S → Apdu → Result (Unit {0}) F → S → Type 0

-- Handling the APDUs with success, one after another, leads from `before` to `after`.
abbrev pub Handled : {S F : Type 0} → Handles S F → S → List Apdu → S → Type 0
Handled handles before [] after = after ≡ before
Handled {S = S} handles before (apdu ∷ apdus) after =
    (next : S) × handles before apdu (Ok tt) next × Handled handles next apdus after

-- `bytes` begins with APDUs that were handled, and with a next one whose handling failed with `fault`.
abbrev pub FailsIn : {S F : Type 0} → Handles S F → List ℕ → S → F → S → Type 0
FailsIn {S = S} handles bytes before fault after =
    (apdus : List Apdu) × (apdu : Apdu) × (rest : List ℕ) × (state : S)
    × Begins bytes (apdus ++ apdu ∷ []) rest × Handled handles before apdus state
    × handles state apdu (Err fault) after

-- The feed is open, and handling failed at an APDU of its held bytes followed by `piece`.
abbrev pub FailsAt : {S F : Type 0} → Handles S F → FeedState → List ℕ → S → F → S → Type 0
FailsAt handles (Ok held) piece before fault after = FailsIn handles (held ++ piece) before fault after
FailsAt handles (Err closed) piece before fault after = ⊥

-- `piece` was pushed and its APDUs were handled. This led from the feed `old` and the state `before` to the feed
-- `new` and the state `after`. If handling failed, the feed is unchanged.
abbrev pub HandlesEach : {S F : Type 0} → Handles S F → FeedState × S → List ℕ → Result (Option DerFault) F →
    FeedState × S → Type 0
HandlesEach handles (old, before) piece (Ok fault) (new, after) =
    (fault ≡ fault_of new)
    × ((apdus : List Apdu) × Feeds old piece apdus new × Handled handles before apdus after)
HandlesEach handles (old, before) piece (Err fault) (new, after) =
    (new ≡ old) × FailsAt handles old piece before fault after
