-- The message files of a night that want a person. Some are quarantined or wait for the next run. Others have a
-- conflict that no loss, delay or repeat of message files explains.
use Rattle.std.specs.Prelude.{ℕ, Bool, true, false, List, Option, None, Some, is_some, option_map, Result, Ok, Err}
use Rattle.std.specs.List.{list_any}
use Rattle.ill_values.specs.declared.apdu.Apdu.{Apdu}
use Rattle.ill_values.specs.Body.{Body}
use Rattle.ill_values.specs.declared.apdu.BodyWith.TheVariants as bodies
use Rattle.ill_core.specs.declared.taking.Taking.TheVariants.{Conflict}
use Rattle.ill_record.specs.declared.role.Role.{Role}
use Rattle.ill_record.specs.declared.role.Role.TheVariants.{Requester, Responder}
use Rattle.ill_words.specs.declared.outcome.Outcome.TheVariants.{Answered}
use Rattle.ill_words.specs.declared.outcome.DeskOutcome.TheVariants.{Plain}
use Rattle.ill_night.specs.declared.verdict.MessageFile.{MessageFile}
use Rattle.ill_night.specs.declared.verdict.Unfit.{Unfit}
use Rattle.ill_night.specs.declared.verdict.Verdict.{Verdict}
use Rattle.ill_night.specs.declared.verdict.Verdict.TheVariants.{Done, Quarantined, Deferred}
use Rattle.ill_night.specs.declared.verdict.Delay.{Delay}
use Rattle.ill_night.specs.declared.verdict.Delay.TheVariants as delays
use Rattle.ill_night.specs.declared.person.Matter.{Matter}
use Rattle.ill_night.specs.declared.person.Matter.TheVariants as matters
use Rattle.ill_night.specs.MessageFiles.{message_in}

-- Returns true for a message whose conflict only a fault explains. All messages are sent again, in their
-- order, so neither loss nor delay brings these into conflict.
abbrev pub is_never_in_conflict : Role → Body → Bool
is_never_in_conflict Requester (bodies.Shipped due) = true
is_never_in_conflict Requester (bodies.CancelReply answered is_yes) = true
is_never_in_conflict Requester (bodies.RenewAnswer answered due) = true
is_never_in_conflict Requester bodies.Expired = true
is_never_in_conflict Requester bodies.CheckedIn = true
is_never_in_conflict Responder bodies.Received = true
is_never_in_conflict Responder bodies.Returned = true
is_never_in_conflict role other = false

-- ---- the matter of a message file

-- Returns the matter of a conflict if the Bool is true, else none.
abbrev pub conflict_matter : Bool → Option Matter
conflict_matter true = Some matters.Conflict
conflict_matter false = None

-- Returns the matter of a message in conflict, if it should never be in conflict.
abbrev pub conflict_of : Role → Result Apdu Unfit → Option Matter
conflict_of role (Ok a) = conflict_matter (is_never_in_conflict role a.body)
conflict_of role (Err unfit) = None

-- Returns the matter of a message file whose message is in conflict, if it should never be in conflict.
abbrev pub conflict_in : Role → Option (List ℕ) → Option Matter
conflict_in role None = None
conflict_in role (Some bytes) = conflict_of role (message_in bytes)

-- Returns the matter of a message file that waits.
abbrev pub delay_matter : Delay → Matter
delay_matter delays.NotRead = matters.NotRead
delay_matter delays.Record = matters.Record
delay_matter delays.NoSuchTransaction = matters.NoSuchTransaction
delay_matter delays.DeskFull = matters.DeskFull

-- Returns the matter of a message file with this verdict, if it wants a person. `role` is the role of the desk.
abbrev pub matter_of : Role → MessageFile → Verdict → Option Matter
matter_of role message_file (Quarantined unfit) = Some matters.Quarantined
matter_of role message_file (Deferred delay) = Some (delay_matter delay)
matter_of role message_file (Done (Plain (Answered (Conflict state)))) =
    conflict_in role (option_map (λ bytes. bytes.items) message_file.bytes)
matter_of role message_file (Done outcome) = None

-- Returns true if a message file of the night wants a person.
abbrev pub wants_person : Role → List (MessageFile × Verdict) → Bool
wants_person role message_files = list_any (λ message_file. is_some (matter_of role message_file.0 message_file.1)) message_files
