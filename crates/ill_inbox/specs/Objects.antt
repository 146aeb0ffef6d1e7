-- The lines of a night, or its objects of JSON. An object has the fields of the line (this profile's own).
use Rattle.std.specs.Prelude.{ℕ, List, [], ◌∷◌, ◌++◌, codes}
use Rattle.std.specs.Fmt.{decimal}
use Rattle.ill_values.specs.TxnId.{Qualifiers}
use Rattle.ill_values.specs.declared.apdu.Apdu.{Apdu}
use Rattle.ill_core.specs.State.{state_name}
use Rattle.ill_core.specs.Verbs.{deed_verb, verb_name}
use Rattle.ill_saved.specs.declared.shown.Shown.{Shown}
use Rattle.ill_saved.specs.Holdings.{Effects}
use Rattle.ill_words.specs.declared.outcome.DeskOutcome.{DeskOutcome}
use Rattle.ill_words.specs.Outcome.{desk_outcome_word}
use Rattle.ill_text.specs.declared.form.Form.{Form}
use Rattle.ill_text.specs.declared.form.Form.TheVariants.{Lines, Json}
use Rattle.ill_text.specs.Json.{Field, day, optional, quoted}
use Rattle.ill_text.specs.ApduObject.{apdu_fields, object_line}
use Rattle.ill_desk.specs.Telling.{long, once_saved, shown_at}
use Rattle.ill_inbox.specs.declared.due.Due.{Due}
use Rattle.ill_inbox.specs.declared.tally.Tally.{Tally}
use Rattle.ill_night.specs.declared.verdict.Verdict.{Verdict}
use Rattle.ill_night.specs.declared.verdict.Verdict.TheVariants.{Done, Quarantined, Deferred}
use Rattle.ill_inbox.specs.Lines.{deed_line, sent_line, tally_line}
use Rattle.ill_night.specs.Lines.{delay_text, unfit_text, verdict_line}

-- ---- fields

-- Returns the fields of a side: its state, its due date, and the counts of its messages.
abbrev pub shown_fields : Shown → List Field
shown_fields now =
    (codes "state", quoted (state_name now.state)) ∷ (codes "due", optional day now.due)
    ∷ (codes "released", decimal now.released) ∷ (codes "issued", decimal now.issued) ∷ []

-- Returns the fields of an outcome, and of the side after it.
abbrev pub outcome_fields : DeskOutcome → Shown → List Field
outcome_fields outcome now =
    (codes "kind", quoted (codes "message")) ∷ (codes "outcome", quoted (desk_outcome_word outcome)) ∷ shown_fields now

-- Returns the fields of a message with this outcome, and of the side after it.
abbrev pub message_fields : Apdu → DeskOutcome → Shown → List Field
message_fields a outcome now = outcome_fields outcome now ++ apdu_fields a

-- Returns the fields of the message file `name`, which is quarantined or waits. `word` says which, and `reason` why.
abbrev pub stays_fields : (name word reason : List ℕ) → List Field
stays_fields name word reason =
    (codes "kind", quoted (codes "mail")) ∷ (codes "name", quoted name) ∷ (codes "verdict", quoted word)
    ∷ (codes "reason", quoted reason) ∷ []

-- Returns the object of the message file `name`. A message file that is done has none.
abbrev pub verdict_object : (name : List ℕ) → Verdict → List ℕ
verdict_object name (Done outcome) = []
verdict_object name (Quarantined unfit) = object_line (stays_fields name (codes "aside") (unfit_text unfit))
verdict_object name (Deferred delay) = object_line (stays_fields name (codes "left") (delay_text delay))

-- Returns the fields of the counts of message files. `waiting` message files had no room in this run.
abbrev pub tally_fields : Tally → (waiting : ℕ) → List Field
tally_fields tally waiting =
    (codes "kind", quoted (codes "mails")) ∷ (codes "taken", decimal tally.taken) ∷ (codes "repeat", decimal tally.repeat)
    ∷ (codes "stale", decimal tally.stale) ∷ (codes "conflict", decimal tally.conflict)
    ∷ (codes "unknown", decimal tally.unknown) ∷ (codes "aside", decimal tally.quarantined) ∷ (codes "left", decimal tally.left)
    ∷ (codes "waiting", decimal waiting) ∷ []

-- Returns the fields of the deed `due`, which was done, and of the side after it.
abbrev pub deed_fields : Due → Shown → List Field
deed_fields due now =
    (codes "kind", quoted (codes "deed")) ∷ (codes "verb", quoted (verb_name (deed_verb due.deed)))
    ∷ (codes "group", quoted due.txn.group) ∷ (codes "transaction", quoted due.txn.transaction) ∷ shown_fields now

-- Returns the fields of the number of messages that were sent.
abbrev pub sent_fields : (count : ℕ) → List Field
sent_fields count = (codes "kind", quoted (codes "sent")) ∷ (codes "messages", decimal count) ∷ []

-- ---- lines or objects

-- Returns the text of a message with this outcome, and of the side after it. Its lines are as by `take --long`.
abbrev pub printed_message : Form → Apdu → DeskOutcome → Shown → List ℕ
printed_message Lines a outcome now = long a outcome now
printed_message Json a outcome now = object_line (message_fields a outcome now)

-- Returns the text of the message file `name`. A message file that is done has none.
abbrev pub printed_verdict : Form → (name : List ℕ) → Verdict → List ℕ
printed_verdict Lines name verdict = verdict_line name verdict
printed_verdict Json name verdict = verdict_object name verdict

-- Returns the text of all counts. `waiting` message files had no room in this run.
abbrev pub printed_tally : Form → Tally → (waiting : ℕ) → List ℕ
printed_tally Lines tally waiting = tally_line tally waiting
printed_tally Json tally waiting = object_line (tally_fields tally waiting)

-- Returns the text of the deed `due`, which was done at the desk `live`. It has the state of the side once all is
-- saved.
abbrev pub printed_deed : {L : Type 0} → Form → Effects L Qualifiers → L → Due → List ℕ
printed_deed Lines effects live due = deed_line effects live due
printed_deed Json effects live due = object_line (deed_fields due (once_saved (shown_at effects due.txn live)))

-- Returns the text of the number of messages that were sent.
abbrev pub printed_sent : Form → (count : ℕ) → List ℕ
printed_sent Lines count = sent_line count
printed_sent Json count = object_line (sent_fields count)
