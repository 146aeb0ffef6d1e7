-- The definitions of changes exclude each case of `BadChanges`.
use Rattle.std.proofs.Common.{◌≡◌, true, sym}
use Rattle.std.proofs.lemmas.Bool.{true≢false}
use Rattle.ill_record.specs.declared.role.Role.TheVariants as who
use Rattle.ill_words.specs.declared.outcome.Outcome.{Outcome}
use Rattle.ill_world.specs.World.{Party, Parties}
use Rattle.ill_world.specs.Changes.{OnlyCommits, OnlyCommittedChanges, MayChange, KeepsSent, can_be_seen}
use Rattle.ill_world.specs.BadChanges.{DoesNothing, ChangesMore, ChangesTooMuch, LosesSent, IsUnseen, repeat, stale, conflict}
use Rattle.ill_world.specs.BadChanges.{refusal, no_such_message, not_saved, not_sent, garbled, forged, live, released, sent}
use Rattle.ill_world.specs.BadChanges.{by_nothing, by_a_fault, lost, wrong_role, no_memory}

-- If `OnlyCommits` holds from `old` to `new`, `ChangesMore` does not.
no_more : (old new : Party) → ChangesMore old new → OnlyCommits old new → ⊥
no_more old new (live other) commits = other commits.live
no_more old new (released other) commits = other commits.released
no_more old new (sent other) commits = other commits.sent

-- An outcome that does nothing allows no change.
still_same : (outcome : Outcome) (old new : Parties) → DoesNothing outcome → MayChange OnlyCommittedChanges outcome old new
    → new ≡ old
still_same _ old new repeat same = same
still_same _ old new stale same = same
still_same _ old new (conflict state) same = same
still_same _ old new (refusal given) same = same
still_same _ old new no_such_message same = same
still_same _ old new not_saved same = same
still_same _ old new not_sent same = same
still_same _ old new garbled same = same
still_same _ old new forged same = same

-- No outcome allows a change of `ChangesTooMuch`.
pub none_too_much : (outcome : Outcome) (old new : Parties) → ChangesTooMuch old new outcome
    → MayChange OnlyCommittedChanges outcome old new → ⊥
none_too_much _ old new (by_nothing outcome nothing changed) may = changed (still_same outcome old new nothing may)
none_too_much _ old new (by_a_fault who.Requester more) may = no_more old.requester new.requester more may.0
none_too_much _ old new (by_a_fault who.Responder more) may = no_more old.responder new.responder more may.1

-- If `KeepsSent` holds, no sent message is lost.
pub none_lost : (old new : Parties) → LosesSent old new → KeepsSent old new → ⊥
none_lost old new (lost of n a was gone) keeps = gone (keeps of n a was)

-- If `can_be_seen` holds of an outcome, it is neither of the refusals of `IsUnseen`.
pub none_unseen : (outcome : Outcome) → IsUnseen outcome → can_be_seen outcome ≡ true → ⊥
none_unseen _ wrong_role seen = true≢false (sym seen)
none_unseen _ no_memory seen = true≢false (sym seen)
