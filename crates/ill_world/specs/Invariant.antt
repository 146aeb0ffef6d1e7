-- The invariant holds in every world, and makes each safe. Each record keeps its own rules. Each of its claims on the
-- other side has a message that the other side has sent as evidence. No part of the invariant compares the two sides'
-- records.
use Rattle.std.specs.Prelude.{◌≡◌, ℕ, ◌≤◌, true, List, length, Option, Some}
use Rattle.ill_values.specs.TxnId.{Qualifiers}
use Rattle.ill_values.specs.declared.apdu.Apdu.{Apdu}
use Rattle.ill_core.specs.Issued.{message}
use Rattle.ill_core.specs.Requester.{RequesterRecord}
use Rattle.ill_core.specs.RequesterRules.{RequesterRules}
use Rattle.ill_core.specs.Responder.{ResponderRecord}
use Rattle.ill_core.specs.ResponderRules.{ResponderRules}
use Rattle.ill_core.specs.RequesterEvidence as requester
use Rattle.ill_core.specs.RequesterEvidence.{KeepsDue}
use Rattle.ill_core.specs.RequesterNotices.{Notice, Reflects, Attests}
use Rattle.ill_core.specs.ResponderEvidence as responder
use Rattle.ill_core.specs.ResponderEvidence.{Question, asks}
use Rattle.ill_core.specs.ResponderNotices.{WasAsked, HasAnsweredLast, RecallFits, ShipsBeforeRecall, GrantsRise, OverdueFits}
use Rattle.ill_core.specs.ResponderNotices.{GrantsBeforeOverdue}
use Rattle.ill_record.specs.declared.side.Side.{Side}
use Rattle.ill_record.specs.declared.side.Side.TheVariants as sides
use Rattle.ill_record.specs.Side.{issued_of, due_date_of, IsPrefix}
use Rattle.ill_world.specs.World.{Party, Parties, sent_message}

-- ---- one record, and the messages of the other side

-- `sent` has `a` under some number.
abbrev pub WasSent : List (Option Apdu) → Apdu → Type 0
WasSent sent a = (n : ℕ) × (sent_message sent n ≡ Some a)

-- For each fact that a requester's record claims, the responder has sent a message that is evidence of it.
abbrev pub RequesterKnows : RequesterRecord → List (Option Apdu) → Type 0
RequesterKnows x sent =
    (fact : requester.Fact) → requester.Claims x fact → (a : Apdu) × WasSent sent a × requester.IsEvidence a.body fact

-- For each fact that a responder's record claims, the requester has sent a message that is evidence of it.
abbrev pub ResponderKnows : ResponderRecord → List (Option Apdu) → Type 0
ResponderKnows y sent =
    (fact : responder.Fact) → responder.Claims y fact → (a : Apdu) × WasSent sent a × responder.IsEvidence a.number a.body fact

-- For each notice that a requester's record reflects, the responder has sent a message that attests it.
abbrev pub RequesterNotes : RequesterRecord → List (Option Apdu) → Type 0
RequesterNotes x sent =
    (notice : Notice) → Reflects x notice → (a : Apdu) × WasSent sent a × Attests a.number a.body notice

-- If a responder was asked a question under a number, the requester has sent this question with this number.
abbrev pub ResponderWasAsked : ResponderRecord → List (Option Apdu) → Type 0
ResponderWasAsked y sent =
    (question : Question) (number : ℕ) → WasAsked question y number →
    (a : Apdu) × WasSent sent a × (asks question a.body ≡ true) × (a.number ≡ number)

-- A requester's record is of `txn`, satisfies its rules, and has issued at most 255 messages. It replies to no
-- conditions twice (`replies`). The messages in `sent` are evidence of its claims (`knows`), and attest the notices
-- that it reflects (`notices`). Only the law on rounds needs the notices.
pub record RequesterInvariant (txn : Qualifiers) (x : RequesterRecord) (sent : List (Option Apdu)) : Type 0 where
  pub same_txn : x.txn ≡ txn
  pub rules : RequesterRules x
  pub replies : requester.AnswersOnce x
  pub knows : RequesterKnows x sent
  pub notices : RequesterNotes x sent
  pub few : length x.issued ≤ 255

-- A responder's record is of `txn`, satisfies its rules, and has issued at most 255 messages. It ends the request at
-- most once (`ends`), and answers no question twice (`cancels`, `renewals`). The messages in `sent` are evidence of its
-- claims (`knows`). The other parts serve the law on rounds. The requester has sent each question under the number that
-- the record has of it (`asked`), and the last question has its answer or waits for it (`answered`). A Recall fits its
-- state (`recall`) and follows the Shipped (`ships_first`). Later grants have later dates (`grants`). An Overdue fits
-- its state and its date (`overdue`), and follows the grant of that date (`grants_first`).
pub record ResponderInvariant (txn : Qualifiers) (y : ResponderRecord) (sent : List (Option Apdu)) : Type 0 where
  pub same_txn : y.txn ≡ txn
  pub rules : ResponderRules y
  pub ends : responder.EndsOnce y
  pub cancels : responder.AnswersOnce responder.MayCancel y
  pub renewals : responder.AnswersOnce responder.MayRenew y
  pub knows : ResponderKnows y sent
  pub asked : ResponderWasAsked y sent
  pub answered : (question : Question) → HasAnsweredLast question y
  pub recall : RecallFits y
  pub ships_first : ShipsBeforeRecall y.issued
  pub grants : GrantsRise y.issued
  pub overdue : OverdueFits y
  pub grants_first : GrantsBeforeOverdue y.issued
  pub few : length y.issued ≤ 255

-- The side is a requester's, and its record satisfies `RequesterInvariant` with `sent`.
abbrev pub RequesterSideInvariant : Qualifiers → Side → List (Option Apdu) → Type 0
RequesterSideInvariant txn (sides.Requester x) sent = RequesterInvariant txn x sent
RequesterSideInvariant txn (sides.Responder y) sent = ⊥

-- The side is a responder's, and its record satisfies `ResponderInvariant` with `sent`.
abbrev pub ResponderSideInvariant : Qualifiers → Side → List (Option Apdu) → Type 0
ResponderSideInvariant txn (sides.Requester x) sent = ⊥
ResponderSideInvariant txn (sides.Responder y) sent = ResponderInvariant txn y sent

-- ---- a party, and the messages that it has sent

-- Each sent message is committed, and only committed messages are released. The committed list is a prefix of the live
-- one. `p.sent` has a place for each number.
pub record SendsSaved (p : Party) : Type 0 where
  pub committed : (n : ℕ) (a : Apdu) → sent_message p.sent n ≡ Some a → message (issued_of p.committed) n ≡ Some a
  pub prefix : IsPrefix (issued_of p.committed) (issued_of p.live)
  pub released : p.released ≤ length (issued_of p.committed)
  pub places : length p.sent ≡ 255

-- A party sends only messages that are committed. `K` holds of its live and its committed side with `partner_sent`, the
-- messages that the other party has sent.
pub record PartyInvariant (K : Side → List (Option Apdu) → Type 0) (p : Party) (partner_sent : List (Option Apdu)) : Type 0 where
  pub saved : SendsSaved p
  pub live : K p.live partner_sent
  pub committed : K p.committed partner_sent

-- ---- a world

-- Both parties of `w` satisfy `PartyInvariant` for `txn`. The requester's live due date is not earlier than its
-- committed one.
pub record Invariant (txn : Qualifiers) (w : Parties) : Type 0 where
  pub requester : PartyInvariant (RequesterSideInvariant txn) w.requester w.responder.sent
  pub responder : PartyInvariant (ResponderSideInvariant txn) w.responder w.requester.sent
  pub due : KeepsDue (due_date_of w.requester.committed) (due_date_of w.requester.live)
