-- These are changes that no event may make, and an outcome that none may have. Each case has its own fault. By the laws
-- the definitions of changes exclude them all.
use Rattle.std.specs.Prelude.{◌≡◌, ℕ, Some}
use Rattle.ill_values.specs.declared.apdu.Apdu.{Apdu}
use Rattle.ill_core.specs.declared.state.State.{State}
use Rattle.ill_core.specs.declared.refusal.Refusal.{Refusal}
use Rattle.ill_core.specs.declared.refusal.Refusal.TheVariants.{WrongRole, OutOfMemory}
use Rattle.ill_core.specs.declared.taking.Taking.TheVariants.{Repeat, Stale, Conflict}
use Rattle.ill_record.specs.declared.role.Role.{Role}
use Rattle.ill_words.specs.declared.outcome.Outcome.{Outcome}
use Rattle.ill_words.specs.declared.outcome.Outcome.TheVariants.{Faulted, Answered, Refused, NoSuchMessage, NotSaved, NotSent}
use Rattle.ill_words.specs.declared.outcome.Outcome.TheVariants.{Garbled, Forged}
use Rattle.ill_world.specs.World.{Party, Parties, party, sent_message}

-- With this outcome an event has done nothing.
pub data DoesNothing : Outcome → Type 0 where
  repeat : DoesNothing (Answered Repeat)
  stale : DoesNothing (Answered Stale)
  conflict : (state : State) → DoesNothing (Answered (Conflict state))
  refusal : (given : Refusal) → DoesNothing (Refused given)
  no_such_message : DoesNothing NoSuchMessage
  not_saved : DoesNothing NotSaved
  not_sent : DoesNothing NotSent
  garbled : DoesNothing Garbled
  forged : DoesNothing Forged

-- A party has changed in more than its committed side.
pub data ChangesMore (old new : Party) : Type 0 where
  live : (new.live ≡ old.live → ⊥) → ChangesMore old new
  released : (new.released ≡ old.released → ⊥) → ChangesMore old new
  sent : (new.sent ≡ old.sent → ⊥) → ChangesMore old new

-- The event with this outcome has changed too much. It did nothing, and the world has changed. Or its save failed, and
-- more than a committed side has changed.
pub data ChangesTooMuch (old new : Parties) : Outcome → Type 0 where
  by_nothing : (outcome : Outcome) → DoesNothing outcome → (new ≡ old → ⊥) → ChangesTooMuch old new outcome
  by_a_fault : (who : Role) → ChangesMore (party old who) (party new who) → ChangesTooMuch old new Faulted

-- A message that `who` had sent is not in its `sent` under its number.
pub data LosesSent (old new : Parties) : Type 0 where
  lost : (who : Role) (n : ℕ) (a : Apdu) → sent_message (party old who).sent n ≡ Some a →
      (sent_message (party new who).sent n ≡ Some a → ⊥) → LosesSent old new

-- The outcome is a refusal that no event may have.
pub data IsUnseen : Outcome → Type 0 where
  wrong_role : IsUnseen (Refused WrongRole)
  no_memory : IsUnseen (Refused OutOfMemory)
