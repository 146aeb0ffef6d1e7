-- These definitions state the changes that an event may make, and the outcomes that it may have.
use Rattle.std.specs.Prelude.{◌≡◌, ℕ, Bool, true, false, Some}
use Rattle.ill_values.specs.declared.apdu.Apdu.{Apdu}
use Rattle.ill_core.specs.declared.refusal.Refusal.{Refusal}
use Rattle.ill_core.specs.declared.refusal.Refusal.TheVariants.{WrongRole, OutOfMemory}
use Rattle.ill_core.specs.declared.taking.Taking.TheVariants.{Taken}
use Rattle.ill_record.specs.declared.role.Role.{Role}
use Rattle.ill_words.specs.declared.outcome.Outcome.{Outcome}
use Rattle.ill_words.specs.declared.outcome.Outcome.TheVariants.{Done, Saved, Faulted, Sent, Answered, Refused, Restarted}
use Rattle.ill_world.specs.World.{Party, Parties, party, sent_message}

-- A party has changed in its committed side at most.
pub record OnlyCommits (old new : Party) : Type 0 where
  pub live : new.live ≡ old.live
  pub released : new.released ≡ old.released
  pub sent : new.sent ≡ old.sent

-- Both parties have changed in their committed sides at most.
abbrev pub OnlyCommittedChanges : Parties → Parties → Type 0
OnlyCommittedChanges old new = OnlyCommits old.requester new.requester × OnlyCommits old.responder new.responder

-- The outcome allows the change from `old` to `new`. Done, Saved, Sent, Restarted and Answered Taken allow any change.
-- After a failed save `Committed` holds of `old` and `new`. Each other outcome allows no change.
abbrev pub MayChange : {P : Type 0} → (P → P → Type 0) → Outcome → P → P → Type 0
MayChange Committed Done old new = Unit {0}
MayChange Committed Saved old new = Unit {0}
MayChange Committed Sent old new = Unit {0}
MayChange Committed Restarted old new = Unit {0}
MayChange Committed (Answered Taken) old new = Unit {0}
MayChange Committed Faulted old new = Committed old new
MayChange Committed other old new = new ≡ old

-- Each message that either party had sent is still in its `sent`, under its number.
abbrev pub KeepsSent : Parties → Parties → Type 0
KeepsSent old new =
    (who : Role) (n : ℕ) (a : Apdu) → sent_message (party old who).sent n ≡ Some a →
    sent_message (party new who).sent n ≡ Some a

-- Returns true if a refusal can be an outcome. Only WrongRole and OutOfMemory cannot.
abbrev pub can_refuse : Refusal → Bool
can_refuse WrongRole = false
can_refuse OutOfMemory = false
can_refuse other = true

-- Returns true if an event can have this outcome. Only the refusals WrongRole and OutOfMemory cannot be one.
abbrev pub can_be_seen : Outcome → Bool
can_be_seen (Refused refusal) = can_refuse refusal
can_be_seen other = true
