-- Proves that the objects of a night are objects of JSON. Their fields are read (`FieldReads`), and their labels
-- differ.
use Rattle.std.proofs.Common.{◌≡◌, ℕ, ◌<◌, ◌^◌, true, List, ◌++◌, Option, Some, None, refl, arith, codes}
use Rattle.std.proofs.Common.{decimal}
use Rattle.std.proofs.Common.{IsUtf8, IfSome}
use Rattle.ill_values.specs.Apdu.{IsApdu}
use Rattle.ill_values.specs.Body.{Body}
use Rattle.ill_values.specs.TxnId.{AreQualifiers, Qualifiers}
use Rattle.ill_values.specs.declared.apdu.Apdu.{Apdu}
use Rattle.ill_values.specs.declared.apdu.BodyWith.TheVariants.{IllRequest, IllAnswer, ConditionalReply, Cancel, CancelReply}
use Rattle.ill_values.specs.declared.apdu.BodyWith.TheVariants.{Shipped, Received, Recall, Returned, CheckedIn, Overdue, Renew}
use Rattle.ill_values.specs.declared.apdu.BodyWith.TheVariants.{RenewAnswer, Expired}
use Rattle.ill_core.specs.Verbs.{deed_verb}
use Rattle.ill_core.specs.declared.responder.Deed.{Deed}
use Rattle.ill_core.specs.declared.refusal.Refusal.{Refusal}
use Rattle.ill_core.specs.declared.refusal.Refusal.TheVariants as refusals
use Rattle.ill_core.specs.Words.{refusal_name}
use Rattle.ill_core.specs.declared.taking.Taking.TheVariants as takings
use Rattle.ill_der.specs.Faults.{place_of}
use Rattle.ill_der.specs.declared.fault.DerFault.{DerFault}
use Rattle.ill_der.specs.declared.fault.DerFault.TheVariants as ders
use Rattle.ill_record.specs.Ranges.{Each}
use Rattle.ill_saved.specs.declared.shown.Shown.{Shown}
use Rattle.ill_text.specs.ApduObject.{apdu_fields, body_fields, head_fields, object_line}
use Rattle.ill_text.specs.declared.form.Form.TheVariants as forms
use Rattle.ill_words.specs.Outcome.{desk_outcome_word}
use Rattle.ill_words.specs.declared.outcome.Outcome.TheVariants as outcomes
use Rattle.ill_words.specs.declared.outcome.DeskOutcome.{DeskOutcome}
use Rattle.ill_words.specs.declared.outcome.DeskOutcome.TheVariants as seen
use Rattle.ill_night.specs.Lines.{delay_text, der_word, place_text, unfit_text}
use Rattle.ill_inbox.specs.Objects.{deed_fields, message_fields, outcome_fields, sent_fields, shown_fields, stays_fields}
use Rattle.ill_inbox.specs.Objects.{tally_fields, printed_message}
use Rattle.ill_inbox.specs.declared.tally.Tally.{Tally}
use Rattle.ill_night.specs.declared.verdict.Delay.{Delay}
use Rattle.ill_night.specs.declared.verdict.Delay.TheVariants as delays
use Rattle.ill_night.specs.declared.verdict.Unfit.{Unfit}
use Rattle.ill_night.specs.declared.verdict.Unfit.TheVariants as unfits
use Rattle.ill_json.specs.Lines.{AreFew, HasNearPlace, IsStanding}
use Rattle.ill_json.specs.Objects.{IsObjectLine}
use Rattle.ill_json.proofs.Fields.{field_reads, number_value, optional_day_value, text_value}
use Rattle.ill_json.proofs.Labels.{are_apart, labels}
use Rattle.ill_json.proofs.LineLemmas.{line_is}
use Rattle.ill_json.proofs.Names.{state_printable, verb_printable}
use Rattle.ill_json.proofs.Shown.{IsShown, are_printable, printable_shown, shown-append, shown-nil}
use Rattle.ill_json.proofs.Sides.{apdu_reads, each_append, name_value}
use Rattle.ill_values.proofs.Texts.{qualifier_utf8}
use Rattle.ill_json.proofs.Values.{FieldReads, number_reads}

-- ---- words

-- The name of a refusal is printable.
refusal_printable : (refusal : Refusal) → are_printable (refusal_name refusal) ≡ true
refusal_printable refusals.OtherTransaction = refl
refusal_printable refusals.WrongRole = refl
refusal_printable (refusals.NotNow state) = refl
refusal_printable refusals.DateEarlier = refl
refusal_printable refusals.DateNotLater = refl
refusal_printable refusals.NotDue = refl
refusal_printable refusals.NotExpired = refl
refusal_printable refusals.NumbersUsed = refl
refusal_printable refusals.OutOfMemory = refl

-- The word of an outcome is printable.
outcome_printable : (outcome : DeskOutcome) → are_printable (desk_outcome_word outcome) ≡ true
outcome_printable (seen.Plain outcomes.Done) = refl
outcome_printable (seen.Plain outcomes.Saved) = refl
outcome_printable (seen.Plain outcomes.Faulted) = refl
outcome_printable (seen.Plain outcomes.Sent) = refl
outcome_printable (seen.Plain (outcomes.Answered takings.Taken)) = refl
outcome_printable (seen.Plain (outcomes.Answered takings.Repeat)) = refl
outcome_printable (seen.Plain (outcomes.Answered takings.Stale)) = refl
outcome_printable (seen.Plain (outcomes.Answered (takings.Conflict state))) = refl
outcome_printable (seen.Plain (outcomes.Refused refusal)) = refusal_printable refusal
outcome_printable (seen.Plain outcomes.NoSuchMessage) = refl
outcome_printable (seen.Plain outcomes.NotSaved) = refl
outcome_printable (seen.Plain outcomes.NotSent) = refl
outcome_printable (seen.Plain outcomes.Garbled) = refl
outcome_printable (seen.Plain outcomes.Forged) = refl
outcome_printable (seen.Plain outcomes.Restarted) = refl
outcome_printable seen.NoSuchTransaction = refl
outcome_printable seen.DeskFull = refl

-- The word of a fault in bytes is printable.
fault_printable : (fault : DerFault) → are_printable (der_word fault) ≡ true
fault_printable (ders.Short at) = refl
fault_printable (ders.Tag at) = refl
fault_printable (ders.Length at) = refl
fault_printable (ders.Field at) = refl
fault_printable ders.OutOfMemory = refl

-- If the place of a fault has 32 bits, its text is shown. The text is empty if there is no place.
place_shown : (place : Option ℕ) → IfSome place (λ at. at < 2 ^ 32) → IsShown (place_text place)
place_shown None near = shown-nil
place_shown (Some at) near =
    shown-append (codes " at ") _ (printable_shown (codes " at ") refl) (number_reads 0 at (omega (arith, near))).shown

-- The reason why no desk will ever take a message file is UTF-8.
unfit_utf8 : (unfit : Unfit) → HasNearPlace unfit → IsUtf8 (unfit_text unfit)
unfit_utf8 (unfits.NoMessage fault) near =
    (shown-append (der_word fault) _ (printable_shown _ (fault_printable fault)) (place_shown (place_of fault) near)).utf8
unfit_utf8 unfits.TooLong near = (printable_shown (codes "too-long") refl).utf8
unfit_utf8 unfits.Trailing near = (printable_shown (codes "trailing") refl).utf8
unfit_utf8 unfits.NotSealed near = (printable_shown (codes "not-sealed") refl).utf8
unfit_utf8 (unfits.Refused refusal) near = (printable_shown _ (refusal_printable refusal)).utf8

-- The reason why a message file waits is UTF-8.
delay_utf8 : (delay : Delay) → IsUtf8 (delay_text delay)
delay_utf8 delays.NotRead = (printable_shown (codes "not-read") refl).utf8
delay_utf8 delays.Record = (printable_shown (codes "record") refl).utf8
delay_utf8 delays.NoSuchTransaction = (printable_shown _ (outcome_printable seen.NoSuchTransaction)).utf8
delay_utf8 delays.DeskFull = (printable_shown _ (outcome_printable seen.DeskFull)).utf8

-- ---- fields

-- The fields of a side are read.
shown_reads : (now : Shown) → IsStanding now → Each (FieldReads 2) (shown_fields now)
unfolding Each
shown_reads now is = (
  field_reads 2 _ _ refl (name_value 2 _ (state_printable now.state)),
  (
    field_reads 2 _ _ refl (optional_day_value 2 now.due),
    (
      field_reads 2 _ _ refl (number_value 2 now.released (omega (arith, is.released))),
      (field_reads 2 _ _ refl (number_value 2 now.issued (omega (arith, is.issued))), tt),
    ),
  ),
)

-- The fields of an outcome are read.
outcome_reads : (outcome : DeskOutcome) (now : Shown) → IsStanding now → Each (FieldReads 2) (outcome_fields outcome now)
unfolding Each
outcome_reads outcome now is = (
  field_reads 2 _ _ refl (name_value 2 (codes "message") refl),
  (field_reads 2 _ _ refl (name_value 2 _ (outcome_printable outcome)), shown_reads now is),
)

-- The labels of a message with an outcome differ, for each of its bodies.
message_apart : (a : Apdu) (outcome : DeskOutcome) (now : Shown) (body : Body)
    → are_apart (labels (outcome_fields outcome now ++ (head_fields a ++ body_fields body))) ≡ true
message_apart a outcome now (IllRequest None item) = refl
message_apart a outcome now (IllRequest (Some d) item) = refl
message_apart a outcome now (IllAnswer answer) = refl
message_apart a outcome now (ConditionalReply answers holds) = refl
message_apart a outcome now Cancel = refl
message_apart a outcome now (CancelReply answers holds) = refl
message_apart a outcome now (Shipped due) = refl
message_apart a outcome now Received = refl
message_apart a outcome now Recall = refl
message_apart a outcome now Returned = refl
message_apart a outcome now CheckedIn = refl
message_apart a outcome now (Overdue due) = refl
message_apart a outcome now (Renew None) = refl
message_apart a outcome now (Renew (Some d)) = refl
message_apart a outcome now (RenewAnswer answers None) = refl
message_apart a outcome now (RenewAnswer answers (Some d)) = refl
message_apart a outcome now Expired = refl

-- The fields of a message file that stays are read.
stays_reads : (name word reason : List ℕ) → IsUtf8 name → are_printable word ≡ true → IsUtf8 reason
    → Each (FieldReads 2) (stays_fields name word reason)
unfolding Each
stays_reads name word reason named plain printed = (
  field_reads 2 _ _ refl (name_value 2 (codes "mail") refl),
  (
    field_reads 2 _ _ refl (text_value 2 name named),
    (
      field_reads 2 _ _ refl (name_value 2 word plain),
      (field_reads 2 _ _ refl (text_value 2 reason printed), tt),
    ),
  ),
)

-- ---- lines

-- The object of a message with an outcome is an object line.
pub message_is : (a : Apdu) (outcome : DeskOutcome) (now : Shown) → IsApdu a → IsStanding now
    → IsObjectLine (printed_message forms.Json a outcome now) (message_fields a outcome now)
message_is a outcome now is standing =
    line_is (message_fields a outcome now)
    (each_append (FieldReads 2) (outcome_fields outcome now) (apdu_fields a) (outcome_reads outcome now standing)
    (apdu_reads 2 a is)) (message_apart a outcome now a.body)

-- The object of a message file that is quarantined is an object line.
pub quarantined_is : (name : List ℕ) (unfit : Unfit) → IsUtf8 name → HasNearPlace unfit
    → IsObjectLine (object_line (stays_fields name (codes "aside") (unfit_text unfit)))
    (stays_fields name (codes "aside") (unfit_text unfit))
quarantined_is name unfit named near =
    line_is (stays_fields name (codes "aside") (unfit_text unfit))
    (stays_reads name (codes "aside") (unfit_text unfit) named refl (unfit_utf8 unfit near)) refl

-- The object of a message file that waits is an object line.
pub left_is : (name : List ℕ) (delay : Delay) → IsUtf8 name
    → IsObjectLine (object_line (stays_fields name (codes "left") (delay_text delay)))
    (stays_fields name (codes "left") (delay_text delay))
left_is name delay named =
    line_is (stays_fields name (codes "left") (delay_text delay))
    (stays_reads name (codes "left") (delay_text delay) named refl (delay_utf8 delay)) refl

-- If a count has 64 bits, its field is read.
count_reads : (label : List ℕ) (n : ℕ) → are_printable label ≡ true → n < 2 ^ 64 → FieldReads 2 (label, decimal n)
count_reads label n plain small = field_reads 2 label _ plain (number_value 2 n small)

-- The object of the counts is an object line.
pub tally_is : (tally : Tally) (waiting : ℕ) → AreFew tally waiting
    → IsObjectLine (object_line (tally_fields tally waiting)) (tally_fields tally waiting)
unfolding Each
tally_is tally waiting few = line_is (tally_fields tally waiting) (
  field_reads 2 _ _ refl (name_value 2 (codes "mails") refl),
  (
    count_reads (codes "taken") tally.taken refl few.taken,
    (
      count_reads (codes "repeat") tally.repeat refl few.repeat,
      (
        count_reads (codes "stale") tally.stale refl few.stale,
        (
          count_reads (codes "conflict") tally.conflict refl few.conflict,
          (
            count_reads (codes "unknown") tally.unknown refl few.unknown,
            (
              count_reads (codes "aside") tally.quarantined refl few.quarantined,
              (
                count_reads (codes "left") tally.left refl few.left,
                (count_reads (codes "waiting") waiting refl few.waiting, tt),
              ),
            ),
          ),
        ),
      ),
    ),
  ),
) refl

-- The object of a deed is an object line.
pub deed_is : (txn : Qualifiers) (deed : Deed) (now : Shown) → AreQualifiers txn → IsStanding now
    → IsObjectLine (object_line (deed_fields (record { txn = txn; deed = deed }) now))
    (deed_fields (record { txn = txn; deed = deed }) now)
unfolding Each
deed_is txn deed now is standing = line_is (deed_fields (record { txn = txn; deed = deed }) now) (
  field_reads 2 _ _ refl (name_value 2 (codes "deed") refl),
  (
    field_reads 2 _ _ refl (name_value 2 _ (verb_printable (deed_verb deed))),
    (
      field_reads 2 _ _ refl (text_value 2 txn.group (qualifier_utf8 txn.group is.group)),
      (
        field_reads 2 _ _ refl (text_value 2 txn.transaction (qualifier_utf8 txn.transaction is.transaction)),
        shown_reads now standing,
      ),
    ),
  ),
) refl

-- The object of what was sent is an object line.
pub sent_is : (count : ℕ) → count < 2 ^ 64 → IsObjectLine (object_line (sent_fields count)) (sent_fields count)
unfolding Each
sent_is count small = line_is (sent_fields count) (
  field_reads 2 _ _ refl (name_value 2 (codes "sent") refl),
  (count_reads (codes "messages") count refl small, tt),
) refl
