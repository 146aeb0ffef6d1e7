-- The places of messages in a record.
use Rattle.std.proofs.Common.{arith, ◌≡◌, ℕ, ◌+◌, ◌-◌, ◌≤◌, List, [], ◌∷◌, ◌++◌, length, map, take, drop, Result, Ok, Err, Some}
use Rattle.std.proofs.Common.{refl, ap, sym, subst, inl, inr, ◌∙◌, length-append, append_assoc, append-nil}
use Rattle.std.specs.List.{All}
use Rattle.std.proofs.lemmas.List.{map-append, take_at, drop_at, drop-drop, take-append-le, drop-append-le, length-drop, map_push}
use Rattle.std.proofs.lemmas.List.Elements.{All-head, All-tail, All-push, All-weaker}
use Rattle.ill_values.specs.declared.apdu.Apdu.{Apdu}
use Rattle.ill_der.specs.ShortForm.{encoding}
use Rattle.ill_saved.specs.declared.committed_record.Place.{Place}
use Rattle.ill_record.specs.declared.role.Role.TheVariants as roles
use Rattle.ill_record.specs.declared.side.Side.{Side}
use Rattle.ill_record.specs.declared.side.Side.TheVariants as sides
use Rattle.ill_record.specs.Layout.{encode_all, apdu, ill_request, mark, marked, counted, optional_number}
use Rattle.ill_record.specs.Records.{due_octets, heading, requester_states, responder_states, requester_rest, responder_rest}
use Rattle.ill_record.specs.Records.{encode_start, record_encoding}
use Rattle.ill_record.specs.declared.side.Standing.{Standing}
use Rattle.ill_record.specs.Side.{issued_of, standing_of}
use Rattle.ill_saved.specs.CommittedBytes.{CommittedBytes, no_committed_record, IsCommittedRecord, HoldsReleased, piece_at}
use Rattle.ill_saved.specs.CommittedBytes.{IsWithin}
use Rattle.ill_saved.specs.CommittedBytes.{EndsWith}
use Rattle.std.specs.Prelude.{IfOk}
use Rattle.ill_record.specs.Ranges.{Each, IsSide}
use Rattle.ill_values.specs.Apdu.{IsApdu}
use Rattle.ill_record.proofs.Lists.{encode_none, encode_more, encode_both, each_both}

-- At a place within `prefix`, `prefix` and `prefix ++ more` have equal bytes.
piece_of_prefix : (prefix more : List ℕ) (place : Place) → IsWithin (length prefix) place
    → piece_at (prefix ++ more) place ≡ piece_at prefix place
piece_of_prefix prefix more place within =
    let start : place.start ≤ length prefix = omega (arith, within) in
    let size : place.size ≤ length (drop place.start prefix) = omega (arith, within, length-drop place.start prefix) in
    ap (take place.size) (drop-append-le place.start prefix more start)
    ∙ take-append-le place.size (drop place.start prefix) more size

-- At places within `prefix`, `prefix` and `prefix ++ more` have equal bytes.
pieces_of_prefix : (prefix more : List ℕ) (places : List Place) → All (IsWithin (length prefix)) places
    → map (piece_at (prefix ++ more)) places ≡ map (piece_at prefix) places
pieces_of_prefix prefix more [] within = refl
pieces_of_prefix prefix more (place ∷ places) within =
    let first = piece_of_prefix prefix more place (All-head (IsWithin (length prefix)) place places within) in
    let others = pieces_of_prefix prefix more places (All-tail (IsWithin (length prefix)) place places within) in
    cc

-- Each message before offset `end` has its place in `whole`. The encodings of the messages in `left` follow. `all` are
-- the encodings of all messages.
pub record ArePlaced (whole : List ℕ) (end : ℕ) (places : List Place) (left : List Apdu) (all : List (List ℕ)) : Type 0 where
  pub rest : drop end whole ≡ encode_all encoding left
  pub reached : end ≤ length whole
  pub within : All (IsWithin (length whole)) places
  pub pieces : map (piece_at whole) places ++ map encoding left ≡ all

-- If messages have their places in `messages`, they have them with the encodings of other messages after it.
pub first_placed : (messages : List ℕ) (pieces : List (List ℕ)) (places : List Place) (apdus : List Apdu) (end : ℕ)
    → end ≡ length messages → All (IsWithin (length messages)) places
    → map (piece_at messages) places ≡ pieces
    → ArePlaced (messages ++ encode_all encoding apdus) end places apdus (pieces ++ map encoding apdus)
first_placed messages pieces places apdus end e within are =
    let longer : length (messages ++ encode_all encoding apdus) ≡ length messages + length (encode_all encoding apdus) =
    length-append messages (encode_all encoding apdus) in
    record {
      rest = drop_at messages (encode_all encoding apdus) end (sym e);
      reached = omega (arith, e, longer);
      within = All-weaker (IsWithin (length messages)) (IsWithin (length (messages ++ encode_all encoding apdus)))
          (λ place is. omega (arith, is, longer)) places within;
      pieces = ap (λ pieces. pieces ++ map encoding apdus)
          (pieces_of_prefix messages (encode_all encoding apdus) places within ∙ are);
    }

-- If the next message `a` gets the place at `end`, all messages up to its end have their places.
pub next_placed : (whole : List ℕ) (end : ℕ) (places : List Place) (a : Apdu) (left : List Apdu) (all : List (List ℕ))
    → ArePlaced whole end places (a ∷ left) all
    → ArePlaced whole (end + length (encoding a)) (places ++ record { start = end; size = length (encoding a) } ∷ []) left all
next_placed whole end places a left all placed =
    let rest : drop end whole ≡ encoding a ++ encode_all encoding left = placed.rest ∙ encode_more encoding a left in
    let long : length whole - end ≡ length (encoding a) + length (encode_all encoding left) =
    sym (length-drop end whole) ∙ (ap length rest ∙ length-append (encoding a) (encode_all encoding left)) in
    let piece : piece_at whole (record { start = end; size = length (encoding a) }) ≡ encoding a =
    ap (take (length (encoding a))) rest ∙ take_at (encoding a) (encode_all encoding left) (length (encoding a)) refl in
    let reached : end + length (encoding a) ≤ length whole = omega (arith, long, placed.reached) in
    record {
      rest = sym (drop-drop (length (encoding a)) end whole)
          ∙ (ap (drop (length (encoding a))) rest ∙ drop_at (encoding a) (encode_all encoding left) (length (encoding a)) refl);
      reached = reached;
      within = All-push (IsWithin (length whole)) places (record { start = end; size = length (encoding a) }) placed.within
          reached;
      pieces = ap (λ pieces. pieces ++ map encoding left)
          (map_push (piece_at whole) places (record { start = end; size = length (encoding a) }))
          ∙ (append_assoc (map (piece_at whole) places) (piece_at whole (record { start = end; size = length (encoding a) }) ∷ [])
          (map encoding left)
          ∙ (ap (λ piece. map (piece_at whole) places ++ piece ∷ map encoding left) piece ∙ placed.pieces));
    }

-- The bytes from offset `first` on are the messages, and each message has its place.
pub record ArePlacedIn (bytes : List ℕ) (first : ℕ) (whole : List ℕ) (places : List Place) (all : List (List ℕ)) : Type 0 where
  pub after : first ≤ length bytes
  pub messages : drop first bytes ≡ whole
  pub within : All (IsWithin (length (drop first bytes))) places
  pub pieces : map (piece_at (drop first bytes)) places ≡ all

-- If all messages have their places in `whole`, they have them in bytes that end with `whole`.
pub all_placed : (bytes whole : List ℕ) (first end : ℕ) (places : List Place) (left : List Apdu) (all : List (List ℕ))
    → left ≡ [] → ArePlaced whole end places left all → EndsWith whole bytes
    → first ≡ length bytes - end → ArePlacedIn bytes first whole places all
all_placed bytes whole first end places left all none placed ends e =
    let rest : drop end whole ≡ [] = placed.rest ∙ (ap (encode_all encoding) none ∙ encode_none encoding) in
    let reached : end ≡ length whole = omega (arith, placed.reached, sym (length-drop end whole) ∙ ap length rest) in
    let after : length ends.0 ≡ first = omega (arith, e, reached, ap length ends.1 ∙ length-append ends.0 whole) in
    let messages : drop first bytes ≡ whole = ap (drop first) ends.1 ∙ drop_at ends.0 whole first after in
    let pieces : map (piece_at whole) places ≡ all =
    sym (append-nil (map (piece_at whole) places))
    ∙ (ap (λ apdus. map (piece_at whole) places ++ map encoding apdus) (sym none) ∙ placed.pieces) in
    record {
      after = omega (arith, e);
      messages = messages;
      within = subst (λ part. All (IsWithin (length part)) places) (sym messages) placed.within;
      pieces = subst (λ part. map (piece_at part) places ≡ all) (sym messages) pieces;
    }

-- ---- the messages as the last part of a record

-- If `bytes` ends with `end`, `prefix ++ bytes` ends with `end`.
ends_after : (prefix end bytes : List ℕ) → EndsWith end bytes → EndsWith end (prefix ++ bytes)
ends_after prefix end bytes ends = (prefix ++ ends.0, ap (λ t. prefix ++ t) ends.1 ∙ sym (append_assoc prefix ends.0 end))

-- A counted list of APDUs ends with their encodings.
ends_counted : (apdus : List Apdu) → EndsWith (encode_all encoding apdus) ((counted apdu).encode apdus)
ends_counted apdus = (length apdus ∷ [], refl)

-- The record of a side ends with the encodings of its issued messages. `head` is the state and the qualifiers, and
-- `rest` the fields after them. `due` is the record from the due date on, and `request` the record from the request
-- on.
pub ends_with_messages : (side : Side) → EndsWith (encode_all encoding (issued_of side)) (record_encoding side)
unfolding record_encoding
ends_with_messages (sides.Requester x) =
    let messages = encode_all encoding x.issued in
    let due = (due_octets x.due) ++ (counted apdu).encode x.issued in
    let rest = requester_rest.encode (x.held, (x.checked_in, (x.due, x.issued))) in
    let head = (heading requester_states).encode (x.state, (x.txn.group, x.txn.transaction)) in
    let after_due : EndsWith messages due =
    ends_after (due_octets x.due) messages ((counted apdu).encode x.issued) (ends_counted x.issued) in
    let after_held : EndsWith messages rest =
    ends_after (optional_number.encode x.held ++ mark.encode x.checked_in) messages due after_due in
    ends_after (encode_start roles.Requester) messages (head ++ rest) (ends_after head messages rest after_held)
ends_with_messages (sides.Responder y) =
    let messages = encode_all encoding y.issued in
    let request = (marked ill_request).encode y.request ++ (counted apdu).encode y.issued in
    let rest = responder_rest.encode (y.accepted, (y.last_cancel, (y.last_renew, (y.received, (y.request, y.issued))))) in
    let head = (heading responder_states).encode (y.state, (y.txn.group, y.txn.transaction)) in
    let after_request : EndsWith messages request =
    ends_after ((marked ill_request).encode y.request) messages ((counted apdu).encode y.issued) (ends_counted y.issued) in
    let after_numbers : EndsWith messages rest =
    ends_after (optional_number.encode y.accepted
    ++ (optional_number.encode y.last_cancel ++ (optional_number.encode y.last_renew ++ mark.encode y.received))) messages
    request after_request in
    ends_after (encode_start roles.Responder) messages (head ++ rest) (ends_after head messages rest after_numbers)

-- ---- a side that begins with the messages of the committed record

-- The messages of the committed record, followed by `others`, are the issued messages of a side.
pub record Continues (committed_record : CommittedBytes) (issued others : List Apdu) : Type 0 where
  pub messages : committed_record.messages ++ encode_all encoding others ≡ encode_all encoding issued
  pub pieces : committed_record.pieces ++ map encoding others ≡ map encoding issued
  pub range : Each IsApdu others → Each IsApdu issued

-- If `committed_record` is that of `side`, its messages followed by `more` are those of `side` followed by `more`.
continues_prefix : (committed_record : CommittedBytes) (side : Side) (more : List Apdu) → IsCommittedRecord committed_record side
    → Continues committed_record (issued_of side ++ more) more
continues_prefix committed_record side more is = record {
  messages = ap (λ (k : CommittedBytes). k.messages ++ encode_all encoding more) is.1
      ∙ sym (encode_both encoding (issued_of side) more);
  pieces = ap (λ (k : CommittedBytes). k.pieces ++ map encoding more) is.1 ∙ sym (map-append encoding (issued_of side) more);
  range = λ others. each_both IsApdu (issued_of side) more is.0.1.issued others;
}

-- If there is no committed record, `others` are all messages.
continues_none : (committed_record : CommittedBytes) (issued : List Apdu) → committed_record ≡ no_committed_record
    → Continues committed_record issued issued
continues_none committed_record issued none = record {
  messages = ap (λ (k : CommittedBytes). k.messages ++ encode_all encoding issued) none;
  pieces = ap (λ (k : CommittedBytes). k.pieces ++ map encoding issued) none;
  range = λ all. all;
}

-- The messages of the committed record, followed by the messages that are not released, are those of the live side.
pub committed_continues : (committed_record : CommittedBytes) (live : Side) (released : ℕ) (others : List Apdu)
    → HoldsReleased committed_record live released
    → others ≡ drop released (issued_of live) → Continues committed_record (issued_of live) others
committed_continues committed_record live released others (inl none) e =
    subst (λ more. Continues committed_record (issued_of live) more) (sym (e ∙ ap (λ n. drop n (issued_of live)) none.1))
    (continues_none committed_record (issued_of live) none.0)
committed_continues committed_record live released others (inr (side, is, of)) e =
    let same : others ≡ of.prefix.0 =
    e ∙ (ap (drop released) of.prefix.1 ∙ drop_at (issued_of side) of.prefix.0 released (sym of.all)) in
    subst (λ more. Continues committed_record (issued_of live) more) (sym same)
    (subst (λ issued. Continues committed_record issued of.prefix.0) (sym of.prefix.1)
    (continues_prefix committed_record side of.prefix.0 is))

-- Let the encodings of `others` be added to `committed_record`, with the standing and the record of `side`.
-- Then the result is the committed record of `side`.
pub next_committed : {E : Type 0} (result : Result CommittedBytes E) (committed_record : CommittedBytes) (side : Side)
    (standing : Standing)
    (others : List Apdu) (bytes : List ℕ)
    → Continues committed_record (issued_of side) others → IsSide side
    → standing ≡ standing_of side → bytes ≡ record_encoding side
    → IfOk result (λ next. next ≡ record {
      standing = Some standing;
      bytes = bytes;
      messages = committed_record.messages ++ encode_all encoding others;
      pieces = committed_record.pieces ++ map encoding others;
    })
    → IfOk result (λ next. IsCommittedRecord next side)
next_committed (Ok next) committed_record side standing others bytes more is stands encoded e =
    let messages = more.messages in
    let pieces = more.pieces in
    (is, cc)
next_committed (Err fault) committed_record side standing others bytes more is stands encoded e = tt
