-- Proves that the fields of APDUs and of sides are read as members (`FieldReads`). The labels of each object differ.
use Rattle.std.proofs.Common.{◌≡◌, ℕ, suc, ◌≤◌, ◌-◌, Bool, true, false, List, [], ◌∷◌, ◌++◌, map, length, Option, Some, None}
use Rattle.std.proofs.Common.{is_some, refl, sym, subst, arith, append-nil, IsUtf8, codes, decimal, IfSome}
use Rattle.std.specs.Prelude.{nat_le}
use Rattle.std.specs.List.{slice_get}
use Rattle.std.proofs.lemmas.List.{map-append}
use Rattle.std.proofs.lemmas.List.Sums.{count_by-le-length}
use Rattle.ill_values.specs.Day.{Date}
use Rattle.ill_values.specs.TxnId.{AreQualifiers}
use Rattle.ill_values.specs.declared.apdu.Apdu.{Apdu}
use Rattle.ill_values.specs.Body.{Body}
use Rattle.ill_values.specs.declared.apdu.BodyWith.TheVariants.{IllRequest, IllAnswer, ConditionalReply, Cancel, CancelReply}
use Rattle.ill_values.specs.declared.apdu.BodyWith.TheVariants.{Shipped, Received, Recall, Returned, CheckedIn, Overdue, Renew}
use Rattle.ill_values.specs.declared.apdu.BodyWith.TheVariants.{RenewAnswer, Expired}
use Rattle.ill_values.specs.Apdu.{IsApdu, IsBody, IsNumber}
use Rattle.ill_values.specs.Types.{type_of}
use Rattle.ill_values.proofs.Texts.{item_utf8, qualifier_utf8}
use Rattle.ill_work.specs.declared.work.Work.{Work}
use Rattle.ill_core.specs.declared.verb.Verb.{Verb}
use Rattle.ill_core.specs.Requester.{is_received_by, is_declined}
use Rattle.ill_core.specs.ResponderActions.{expiry_of}
use Rattle.ill_core.specs.Verbs.{verb_name}
use Rattle.ill_record.specs.declared.side.Side.{Side}
use Rattle.ill_record.specs.declared.side.Side.TheVariants as sides
use Rattle.ill_record.specs.Ranges.{Each, IsInRange, IsSide}
use Rattle.ill_record.specs.Side.{role_of, issued_of, txn_of, state_of, due_date_of}
use Rattle.ill_record.specs.SideVerbs.{turn_of}
use Rattle.ill_record.specs.Sides.{most_sides}
use Rattle.ill_words.specs.Possible.{possible_on, request_of, item_in, item_asked}
use Rattle.ill_text.specs.ApduObject.{head_fields, optional_date_fields, body_fields, apdu_fields, line_fields}
use Rattle.ill_text.specs.Json.{flag, optional, quoted}
use Rattle.ill_list.specs.declared.wanted.Wanted.{Wanted}
use Rattle.ill_list.specs.List.{counts_of, is_to_do}
use Rattle.ill_beside.specs.Notes.{note_fields}
use Rattle.ill_show.specs.Objects.{leaves_fields, loan_fields, message_object, messages_fields}
use Rattle.ill_list.specs.ListObjects.{counts_fields}
use Rattle.ill_rows.specs.Heading.{file_fields}
use Rattle.ill_show.specs.Objects.{names_of}
use Rattle.ill_show.specs.Objects.{came_fields, status_fields, taken_fields, turn_fields}
use Rattle.ill_list.specs.ListObjects.{row_fields}
use Rattle.ill_show.specs.Status.{mark, marks_of}
use Rattle.ill_news.specs.News.{printed_fields}
use Rattle.ill_show.specs.ItemLine.{item_of}
use Rattle.ill_beside.specs.Since.{AnnexRead, since_fields}
use Rattle.ill_json.specs.Lines.{fields_of_counts, fields_of_loan, fields_of_message, fields_of_news, fields_of_row}
use Rattle.ill_json.proofs.Labels.{labels, are_apart, apart_after, apart_before}
use Rattle.ill_json.proofs.Names.{type_printable, result_printable, state_printable, turn_printable, verb_printable}
use Rattle.ill_json.proofs.Names.{work_printable}
use Rattle.ill_json.proofs.Names.{role_printable}
use Rattle.ill_json.proofs.Shown.{are_printable, printable_shown}
use Rattle.ill_json.proofs.Values.{HasValue, FieldReads, object_reads}
use Rattle.ill_json.proofs.Fields.{text_value, number_value, flag_value, optional_value, day_value, optional_day_value}
use Rattle.ill_json.proofs.Fields.{array_value}
use Rattle.ill_json.proofs.Fields.{words_value, field_reads}

-- ---- lists

-- If `P` holds of each item of both lists, it holds of each of their join.
pub each_append : {X : Type 0} (P : X → Type 0) (xs more : List X) → Each P xs → Each P more → Each P (xs ++ more)
unfolding Each
each_append P [] more each others = others
each_append P (x ∷ xs) more each others = (each.0, each_append P xs more each.1 others)

-- ---- parts

-- A name of printing characters has a value.
pub name_value : (most : ℕ) (name : List ℕ) → are_printable name ≡ true → HasValue most (quoted name)
name_value most name plain = text_value most name (printable_shown name plain).utf8

-- The number of a message has a value.
pub message_number : (most n : ℕ) → IsNumber n → HasValue most (decimal n)
message_number most n is = number_value most n (omega (arith, is))

-- The number of a message that may be missing has a value.
optional_number : (most : ℕ) (found : Option ℕ) → IfSome found IsNumber → HasValue most (optional decimal found)
optional_number most None is = optional_value most decimal None tt
optional_number most (Some n) is = message_number most n is

-- ---- APDUs

-- The label `kind`, the labels of an APDU and that of `leaves` differ, for each of its bodies.
body_apart : (released : ℕ) (a : Apdu) (body : Body)
    → are_apart (codes "kind" ∷ labels ((head_fields a ++ body_fields body) ++ leaves_fields (Some released) a)) ≡ true
body_apart released a (IllRequest None item) = refl
body_apart released a (IllRequest (Some d) item) = refl
body_apart released a (IllAnswer answer) = refl
body_apart released a (ConditionalReply answers holds) = refl
body_apart released a Cancel = refl
body_apart released a (CancelReply answers holds) = refl
body_apart released a (Shipped due) = refl
body_apart released a Received = refl
body_apart released a Recall = refl
body_apart released a Returned = refl
body_apart released a CheckedIn = refl
body_apart released a (Overdue due) = refl
body_apart released a (Renew None) = refl
body_apart released a (Renew (Some d)) = refl
body_apart released a (RenewAnswer answers None) = refl
body_apart released a (RenewAnswer answers (Some d)) = refl
body_apart released a Expired = refl

-- The labels in the line of an APDU differ.
pub line_apart : (a : Apdu) → are_apart (labels (line_fields a)) ≡ true
line_apart a =
    apart_before (labels (line_fields a)) (labels (leaves_fields (Some 0) a))
    (subst (λ texts. are_apart texts ≡ true) (map-append (λ field. field.0) (line_fields a) (leaves_fields (Some 0) a))
    (body_apart 0 a a.body))

-- The labels of an APDU differ.
apdu_apart : (a : Apdu) → are_apart (labels (apdu_fields a)) ≡ true
apdu_apart a = apart_after (codes "kind") (labels (apdu_fields a)) (line_apart a)

-- The labels of a message differ.
pub message_apart : (released : Option ℕ) (a : Apdu) → are_apart (labels (fields_of_message released a)) ≡ true
message_apart None a = subst (λ fields. are_apart (labels fields) ≡ true) (sym (append-nil (apdu_fields a))) (apdu_apart a)
message_apart (Some released) a =
    apart_after (codes "kind") (labels (fields_of_message (Some released) a)) (body_apart released a a.body)

module _ (most : ℕ) where
  -- The fields of a day that may be missing are read.
  date_reads : (found : Option Date) → Each (FieldReads most) (optional_date_fields found)
  unfolding Each
  date_reads None = tt
  date_reads (Some d) = (field_reads most _ _ refl (day_value most d), tt)

  -- The fields of a reply are read.
  reply_reads : (answers : ℕ) (holds : Bool) → IsNumber answers
      → FieldReads most (codes "answers", decimal answers) × FieldReads most (codes "reply", flag holds)
  reply_reads answers holds is =
      (field_reads most _ _ refl (message_number most answers is), field_reads most _ _ refl (flag_value most holds))

  -- The fields of a body are read.
  body_reads : (body : Body) → IsBody body → Each (FieldReads most) (body_fields body)
  unfolding Each
  body_reads (IllRequest expiry item) is =
      each_append (FieldReads most) (optional_date_fields expiry) _ (date_reads expiry)
      (field_reads most _ _ refl (text_value most item (item_utf8 item is.1)), tt)
  body_reads (IllAnswer answer) is = (field_reads most _ _ refl (name_value most _ (result_printable answer)), tt)
  body_reads (ConditionalReply answers holds) is = let both = reply_reads answers holds is in (both.0, (both.1, tt))
  body_reads Cancel is = tt
  body_reads (CancelReply answers holds) is = let both = reply_reads answers holds is in (both.0, (both.1, tt))
  body_reads (Shipped due) is = (field_reads most _ _ refl (day_value most due), tt)
  body_reads Received is = tt
  body_reads Recall is = tt
  body_reads Returned is = tt
  body_reads CheckedIn is = tt
  body_reads (Overdue due) is = (field_reads most _ _ refl (day_value most due), tt)
  body_reads (Renew wished) is = date_reads wished
  body_reads (RenewAnswer answers granted) is =
      let both = reply_reads answers (is_some granted) is.0 in (both.0, (both.1, date_reads granted))
  body_reads Expired is = tt

  -- The fields of an APDU are read.
  pub apdu_reads : (a : Apdu) → IsApdu a → Each (FieldReads most) (apdu_fields a)
  unfolding Each
  apdu_reads a is = (
    field_reads most _ _ refl (name_value most _ (type_printable (type_of a.body))),
    (
      field_reads most _ _ refl (text_value most a.txn.group (qualifier_utf8 a.txn.group is.txn.group)),
      (
        field_reads most _ _ refl (text_value most a.txn.transaction (qualifier_utf8 a.txn.transaction is.txn.transaction)),
        (field_reads most _ _ refl (message_number most a.number is.number), body_reads a.body is.body),
      ),
    ),
  )

  -- The fields in the line of an APDU are read.
  pub line_reads : (a : Apdu) → IsApdu a → Each (FieldReads most) (line_fields a)
  unfolding Each
  line_reads a is = (field_reads most _ _ refl (name_value most (codes "message") refl), apdu_reads a is)

  -- The field `leaves` is read.
  leaves_reads : (released : Option ℕ) (a : Apdu) → Each (FieldReads most) (leaves_fields released a)
  unfolding Each
  leaves_reads None a = tt
  leaves_reads (Some released) a = (field_reads most _ _ refl (flag_value most (nat_le a.number released)), tt)

  -- The fields of a message are read.
  pub message_reads : (released : Option ℕ) (a : Apdu) → IsApdu a → Each (FieldReads most) (fields_of_message released a)
  message_reads released a is = each_append (FieldReads most) (apdu_fields a) _ (apdu_reads a is) (leaves_reads released a)

  -- The object of a message has a value.
  pub message_value : (released : Option ℕ) (a : Apdu) → IsApdu a → HasValue (suc most) (message_object released a)
  message_value released a is = record {
    value = _;
    reads = object_reads most (fields_of_message released a) (message_reads released a is) (message_apart released a);
  }

  -- The object of each message has a value.
  pub messages_values : (released : Option ℕ) (apdus : List Apdu) → Each IsApdu apdus
      → Each (λ a. HasValue (suc most) (message_object released a)) apdus
  unfolding Each
  messages_values released [] each = tt
  messages_values released (a ∷ apdus) each = (message_value released a each.0, messages_values released apdus each.1)

-- ---- sides

-- If a side is in range, its qualifiers are.
txn_is : (side : Side) → IsInRange side → AreQualifiers (txn_of side)
txn_is (sides.Requester x) is = is.parts.txn
txn_is (sides.Responder y) is = is.parts.txn

-- If each item of a list has a property, so has the first one, if there is one.
first_has : {X : Type 0} (P : X → Type 0) (xs : List X) → Each P xs → IfSome (slice_get xs 0) P
unfolding Each
first_has P [] each = tt
first_has P (x ∷ xs) each = each.0

-- The request of a side is in range, if there is one.
request_is : (side : Side) → IsInRange side → IfSome (request_of side) IsApdu
request_is (sides.Requester x) is = first_has IsApdu x.issued is.issued
request_is (sides.Responder y) is = is.parts.request

-- The item of a body is UTF-8, if there is one.
item_in_utf8 : (body : Body) → IsBody body → IfSome (item_in body) IsUtf8
item_in_utf8 (IllRequest expiry item) is = item_utf8 item is.1
item_in_utf8 (IllAnswer answer) is = tt
item_in_utf8 (ConditionalReply answers holds) is = tt
item_in_utf8 Cancel is = tt
item_in_utf8 (CancelReply answers holds) is = tt
item_in_utf8 (Shipped due) is = tt
item_in_utf8 Received is = tt
item_in_utf8 Recall is = tt
item_in_utf8 Returned is = tt
item_in_utf8 CheckedIn is = tt
item_in_utf8 (Overdue due) is = tt
item_in_utf8 (Renew wished) is = tt
item_in_utf8 (RenewAnswer answers granted) is = tt
item_in_utf8 Expired is = tt

-- The item that a request asks for is UTF-8, if there is one.
item_asked_utf8 : (request : Option Apdu) → IfSome request IsApdu → IfSome (item_asked request) IsUtf8
item_asked_utf8 None is = tt
item_asked_utf8 (Some a) is = item_in_utf8 a.body is.body

-- A text of UTF-8 that may be missing has a value.
pub optional_text : (most : ℕ) (found : Option (List ℕ)) → IfSome found IsUtf8 → HasValue most (optional quoted found)
optional_text most None u = optional_value most quoted None tt
optional_text most (Some text) u = text_value most text u

-- The item of a side has a value, or is missing.
item_value : (most : ℕ) (side : Side) → IsInRange side → HasValue most (optional quoted (item_asked (request_of side)))
item_value most side is =
    optional_text most (item_asked (request_of side)) (item_asked_utf8 (request_of side) (request_is side is))

-- A mark that may be missing is UTF-8.
mark_utf8 : (holds : Bool) (word : List ℕ) → IsUtf8 word → Each IsUtf8 (mark holds word)
unfolding Each
mark_utf8 true word u = (u, tt)
mark_utf8 false word u = tt

-- The marks of a side are UTF-8.
marks_utf8 : (side : Side) → Each IsUtf8 (marks_of side)
marks_utf8 (sides.Requester x) =
    each_append IsUtf8 (mark (is_received_by x) (codes "received") ++ mark x.checked_in (codes "checked-in"))
    (mark (is_declined x) (codes "declined"))
    (each_append IsUtf8 (mark (is_received_by x) (codes "received")) (mark x.checked_in (codes "checked-in"))
    (mark_utf8 _ _ (printable_shown _ refl).utf8) (mark_utf8 _ _ (printable_shown _ refl).utf8))
    (mark_utf8 _ _ (printable_shown _ refl).utf8)
marks_utf8 (sides.Responder y) = mark_utf8 y.received _ (printable_shown _ refl).utf8

-- The names of verbs are UTF-8.
verbs_utf8 : (verbs : List Verb) → Each IsUtf8 (map verb_name verbs)
unfolding Each
verbs_utf8 [] = tt
verbs_utf8 (verb ∷ verbs) = ((printable_shown _ (verb_printable verb)).utf8, verbs_utf8 verbs)

-- The fields of `status` are read.
pub status_reads : (side : Side) (released : ℕ) → IsInRange side → released ≤ 255
    → Each (FieldReads 2) (status_fields side released)
unfolding Each
status_reads side released is few = (
  field_reads 2 _ _ refl (name_value 2 (codes "loan") refl),
  (
    field_reads 2 _ _ refl (name_value 2 _ (role_printable (role_of side))),
    (
      field_reads 2 _ _ refl (text_value 2 (txn_of side).group (qualifier_utf8 _ (txn_is side is).group)),
      (
        field_reads 2 _ _ refl (text_value 2 (txn_of side).transaction (qualifier_utf8 _ (txn_is side is).transaction)),
        (
          field_reads 2 _ _ refl (name_value 2 _ (state_printable (state_of side))),
          (
            field_reads 2 _ _ refl (optional_day_value 2 (due_date_of side)),
            (
              field_reads 2 _ _ refl (number_value 2 released (omega arith)),
              (
                field_reads 2 _ _ refl (number_value 2 (length (issued_of side)) (omega (arith, is.few))),
                (field_reads 2 _ _ refl (words_value 1 (marks_of side) (marks_utf8 side)), tt),
              ),
            ),
          ),
        ),
      ),
    ),
  ),
)

-- The fields of the next action are read.
turn_reads : (side : Side) → IsInRange side → Each (FieldReads 2) (turn_fields side (names_of None side))
unfolding Each
turn_reads side is = (
  field_reads 2 _ _ refl (name_value 2 _ (turn_printable (turn_of side))),
  (
    field_reads 2 _ _ refl (words_value 1 (names_of None side) (verbs_utf8 (possible_on None side))),
    (
      field_reads 2 _ _ refl (item_value 2 side is),
      (field_reads 2 _ _ refl (optional_day_value 2 (expiry_of (request_of side))), tt),
    ),
  ),
)

-- The fields of the numbers that came are read.
taken_reads : (side : Side) → IsInRange side → Each (FieldReads 2) (taken_fields side)
unfolding Each
taken_reads (sides.Requester x) is = (field_reads 2 _ _ refl (optional_number 2 x.held is.parts.held), tt)
taken_reads (sides.Responder y) is = (
  field_reads 2 _ _ refl (optional_number 2 y.accepted is.parts.accepted),
  (
    field_reads 2 _ _ refl (optional_number 2 y.last_cancel is.parts.last_cancel),
    (field_reads 2 _ _ refl (optional_number 2 y.last_renew is.parts.last_renew), tt),
  ),
)

-- A field of messages is read.
messages_reads : (label : List ℕ) (released : Option ℕ) (apdus : List Apdu) → are_printable label ≡ true → Each IsApdu apdus
    → Each (FieldReads 2) (messages_fields label released apdus)
unfolding Each
messages_reads label released apdus plain each =
    (field_reads 2 label _ plain (array_value 1 (message_object released) apdus (messages_values 0 released apdus each)), tt)

-- The field of the messages that came is read.
pub came_reads : (apdus : List Apdu) → Each IsApdu apdus → Each (FieldReads 2) (came_fields apdus)
came_reads apdus each = messages_reads (codes "came") None apdus refl each

-- The fields of `loan` are read.
pub loan_reads : (side : Side) (released : ℕ) → IsInRange side → released ≤ 255 → Each (FieldReads 2) (loan_fields side released)
loan_reads side released is few =
    each_append (FieldReads 2) (status_fields side released ++ turn_fields side (names_of None side) ++ taken_fields side) _
    (each_append (FieldReads 2) (status_fields side released ++ turn_fields side (names_of None side)) _
    (each_append (FieldReads 2) (status_fields side released) _ (status_reads side released is few) (turn_reads side is))
    (taken_reads side is))
    (messages_reads (codes "messages") (Some released) (issued_of side) refl is.issued)

-- The labels of `loan` differ.
pub loan_apart : (words : Option (List ℕ)) (diary : List (List ℕ)) (side : Side) (released : ℕ) (came : List Apdu)
    → are_apart (labels (fields_of_loan words diary (record { side = side; released = released }) came)) ≡ true
loan_apart words diary (sides.Requester x) released came = refl
loan_apart words diary (sides.Responder y) released came = refl

-- ---- the lines of `list` and `news`

-- The labels of the line of a loan differ.
pub row_apart : (file : Option (List ℕ)) (annex : AnnexRead) (today : Option Date) (work : Work) (side : Side)
    → are_apart (labels (fields_of_row file annex today work side)) ≡ true
row_apart None annex today work side = refl
row_apart (Some path) annex today work side = refl

-- The labels of the line of the counts differ.
pub counts_apart : (file : Option (List ℕ)) (wanted : Wanted) (held : List Side)
    → are_apart (labels (fields_of_counts file wanted held)) ≡ true
counts_apart None wanted held = refl
counts_apart (Some path) wanted held = refl

-- The field of a note is read.
pub note_reads : (words : Option (List ℕ)) → IfSome words IsUtf8 → Each (FieldReads 2) (note_fields words)
unfolding Each
note_reads None utf8 = (field_reads 2 _ _ refl (optional_value 2 quoted None tt), tt)
note_reads (Some words) utf8 = (field_reads 2 _ _ refl (text_value 2 words utf8), tt)

-- The field of the day since which a loan stands as it does is read.
pub since_reads : (since : Option Date) → Each (FieldReads 2) (since_fields since)
unfolding Each
since_reads since = (field_reads 2 _ _ refl (optional_day_value 2 since), tt)

-- The field of a path is read.
pub file_reads : (file : Option (List ℕ)) → IfSome file IsUtf8 → Each (FieldReads 2) (file_fields file)
unfolding Each
file_reads None u = tt
file_reads (Some path) u = (field_reads 2 _ _ refl (text_value 2 path u), tt)

-- The fields of a listed loan are read.
pub row_reads : (today : Option Date) (work : Work) (side : Side) → IsInRange side
    → Each (FieldReads 2) (row_fields work side (names_of today side))
unfolding Each
row_reads today work side is = (
  field_reads 2 _ _ refl (name_value 2 _ refl),
  (
    field_reads 2 _ _ refl (name_value 2 _ (work_printable work)),
    (
      field_reads 2 _ _ refl (name_value 2 _ (state_printable (state_of side))),
      (
        field_reads 2 _ _ refl (optional_day_value 2 (due_date_of side)),
        (
          field_reads 2 _ _ refl (text_value 2 (txn_of side).group (qualifier_utf8 _ (txn_is side is).group)),
          (
            field_reads 2 _ _ refl (text_value 2 (txn_of side).transaction (qualifier_utf8 _ (txn_is side is).transaction)),
            (
              field_reads 2 _ _ refl (words_value 1 (names_of today side) (verbs_utf8 (possible_on today side))),
              (field_reads 2 _ _ refl (item_value 2 side is), tt),
            ),
          ),
        ),
      ),
    ),
  ),
)

-- The labels of the line of a message that came differ.
pub news_apart : (file : Option (List ℕ)) (sides : List Side) (a : Apdu)
    → are_apart (labels (fields_of_news file sides a)) ≡ true
news_apart None sides a = refl
news_apart (Some path) sides a = refl

-- The text of the item of a loan has a value, also if there is no loan.
item_of_value : (most : ℕ) (side : Option Side) → IfSome side IsSide → HasValue most (optional quoted (item_of side))
item_of_value most None is = optional_value most quoted None tt
item_of_value most (Some side) is = item_value most side is.1

-- The fields of a message that came are read.
pub printed_reads : (side : Option Side) (words : List ℕ) (a : Apdu) → IfSome side IsSide → IsUtf8 words → IsApdu a
    → Each (FieldReads 2) (printed_fields side words a)
unfolding Each
printed_reads side words a found utf8 is = (
  field_reads 2 _ _ refl (name_value 2 _ refl),
  (
    field_reads 2 _ _ refl (text_value 2 a.txn.group (qualifier_utf8 a.txn.group is.txn.group)),
    (
      field_reads 2 _ _ refl (text_value 2 a.txn.transaction (qualifier_utf8 a.txn.transaction is.txn.transaction)),
      (
        field_reads 2 _ _ refl (message_number 2 a.number is.number),
        (
          field_reads 2 _ _ refl (text_value 2 words utf8),
          (field_reads 2 _ _ refl (item_of_value 2 side found), tt),
        ),
      ),
    ),
  ),
)

-- The fields of the counts are read.
pub counts_reads : (wanted : Wanted) (held : List Side) → length held ≤ most_sides
    → Each (FieldReads 2) (counts_fields (counts_of wanted held))
unfolding Each
counts_reads wanted held few = (
  field_reads 2 _ _ refl (name_value 2 _ refl),
  (
    field_reads 2 _ _ refl (number_value 2 (length held) (omega arith)),
    (
      field_reads 2 _ _ refl (number_value 2 (counts_of wanted held).open_loans (omega arith)),
      (
        field_reads 2 _ _ refl (number_value 2 (counts_of wanted held).to_do
            (omega (arith, count_by-le-length (is_to_do wanted) held))),
        (field_reads 2 _ _ refl (number_value 2 (most_sides - length held) (omega arith)), tt),
      ),
    ),
  ),
)
