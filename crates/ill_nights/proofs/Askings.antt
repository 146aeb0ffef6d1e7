-- Proves which loans ask in a night: those that are over, and of which a message file came.
use Rattle.std.proofs.Common.{◌≡◌, ℕ, Bool, true, false, not, ◌||◌, cond, if◌then◌else◌, List, [], ◌∷◌, ◌++◌, length, nat_lt}
use Rattle.std.proofs.Common.{Option}
use Rattle.std.proofs.Common.{Some, None, option_map, Result, Ok, Err, refl, sym, ap, ◌∙◌, subst, true≢false, append_assoc}
use Rattle.std.specs.Prelude.{filter, flat_map}
use Rattle.std.specs.List.{AllByRecursion, list_any, zip}
use Rattle.std.proofs.lemmas.Grind.{flat_map-append}
use Rattle.std.proofs.lemmas.List.Elements.{filter-append}
use Rattle.std.proofs.lemmas.List.Folds.{list_any-append}
use Rattle.ill_values.specs.TxnId.{Qualifiers}
use Rattle.ill_values.specs.declared.apdu.Apdu.{Apdu}
use Rattle.ill_values.specs.Apdu.{IsApdu}
use Rattle.ill_der.specs.declared.fault.DerFault.{DerFault}
use Rattle.ill_der.specs.Feed.{FeedState, Leaves}
use Rattle.ill_der.specs.Laws.{BeginsWithOne, IsBytes}
use Rattle.ill_der.specs.ShortForm.{apdu_at, header_at, outer_at, encoding}
use Rattle.ill_der.proofs.FeedLemmas.{all_join}
use Rattle.ill_core.specs.Issued.{is_none, is_same_txn}
use Rattle.ill_record.specs.declared.role.Role.TheVariants as who
use Rattle.ill_record.specs.declared.side.Side.{Side}
use Rattle.ill_record.specs.Ranges.{Each}
use Rattle.ill_record.specs.Side.{idle_side}
use Rattle.ill_record.specs.Sides.{side_with}
use Rattle.ill_saved.specs.ManySides.{DeskContents, found_or, held_for, sides_held}
use Rattle.ill_record.proofs.Finding.{apart_back, same_is, same_self}
use Rattle.ill_saved.proofs.Contents.{side_of_held}
use Rattle.ill_text.specs.Input.{AreIn}
use Rattle.ill_words.specs.Sending.{is_over}
use Rattle.ill_night.specs.declared.verdict.MessageFile.{MessageFile}
use Rattle.ill_night.specs.declared.verdict.Unfit.{Unfit}
use Rattle.ill_night.specs.declared.verdict.Unfit.TheVariants as unfits
use Rattle.ill_night.specs.declared.verdict.Verdict.{Verdict}
use Rattle.ill_night.specs.declared.verdict.Verdict.TheVariants.{Quarantined, Done, Deferred}
use Rattle.ill_night.specs.MessageFiles.{message_in, one_message}
use Rattle.ill_night.specs.Outbox.{asked_by, asking_bytes, asking_bytes_if_read, asking_bytes_of_message_file, is_asked}
use Rattle.ill_night.specs.Outbox.{is_held_over}
use Rattle.ill_runs.specs.MessageFile.{message_if, message_if_read, message_of}
use Rattle.ill_nights.specs.Messages.{messages_for}
use Rattle.ill_nights.specs.Nights.{AreBytes, AreDone, IsBytesOf, IsDone, messages_of}

-- ---- the message of a message file

-- This law is assumed: bytes begin with the one message that `apdu_at` finds, or with none.
abbrev pub PrefixOrFault : Type 0
PrefixOrFault = (bytes : List ℕ) → IsBytes bytes → BeginsWithOne bytes (apdu_at bytes)

-- This law is assumed: the encoding of a message is read as this message, whatever bytes follow.
abbrev pub ReadsAgain : Type 0
ReadsAgain = (apdu : Apdu) (rest : List ℕ) → IsApdu apdu → apdu_at (encoding apdu ++ rest) ≡ Ok (apdu, rest)

-- If bytes are just one message, they are read as it, with nothing after it.
one_found : (a : Apdu) (result : Result (Apdu × List ℕ) DerFault) → one_message result ≡ Ok a → result ≡ Ok (a, [])
one_found a (Ok (b, [])) is = let same : b ≡ a = cc in ap (λ (c : Apdu). Ok (c, [])) same
one_found a (Ok (b, byte ∷ rest)) is = absurd cc
one_found a (Err fault) is = absurd cc

-- If a message file is just one message, its bytes are read as it, with nothing after it.
message_file_found : (a : Apdu) (is_long : Bool) (result : Result (Apdu × List ℕ) DerFault)
    → (if is_long then Err unfits.TooLong else one_message result) ≡ Ok a → result ≡ Ok (a, [])
message_file_found a true result is = absurd cc
message_file_found a false result is = one_found a result is

-- The bytes of a message file that is just one message are the encoding of the message.
message_file_encodes : PrefixOrFault → (bytes : List ℕ) (a : Apdu) → IsBytes bytes → message_in bytes ≡ Ok a
    → IsApdu a × (bytes ≡ encoding a ++ [])
message_file_encodes prefix bytes a are is =
    (subst (BeginsWithOne bytes) (message_file_found a (nat_lt 359 (length bytes)) (apdu_at bytes) is) (prefix bytes are)).0

-- ---- one reading

-- Premise: the encodings of `asking`, and then `rest`, are the encodings of `apdus`. If no message begins `rest`, both
-- lists are equal.
one_reading : ReadsAgain → (apdus asking : List Apdu) (rest : List ℕ) (new : FeedState) → AllByRecursion IsApdu apdus
    → AllByRecursion IsApdu asking → flat_map encoding apdus ≡ flat_map encoding asking ++ rest → Leaves rest new
    → asking ≡ apdus
unfolding apdu_at outer_at header_at
one_reading again [] [] rest new all encoded parts leaves = refl
one_reading again [] (b ∷ asking) rest new all encoded parts leaves =
    absurd (never b (flat_map encoding asking) rest encoded.0 parts)
  where
    -- Without bytes there is no message `b`.
    never : (b : Apdu) (more rest : List ℕ) → IsApdu b → [] ≡ (encoding b ++ more) ++ rest → ⊥
    never b more rest is parts =
        let read : apdu_at [] ≡ Ok (b, more ++ rest) =
        ap apdu_at (parts ∙ append_assoc (encoding b) more rest) ∙ again b (more ++ rest) is in
        absurd cc
one_reading again (a ∷ apdus) [] rest new all encoded parts leaves =
    absurd (never new leaves (ap apdu_at (sym parts) ∙ again a (flat_map encoding apdus) all.0))
  where
    -- In `rest` no message is left.
    never : (new : FeedState) → Leaves rest new → apdu_at rest ≡ Ok (a, flat_map encoding apdus) → ⊥
    never (Ok held) leaves read = absurd cc
    never (Err fault) leaves read = absurd cc
one_reading again (a ∷ apdus) (b ∷ asking) rest new all encoded parts leaves =
    let first = again a (flat_map encoding apdus) all.0 in
    let second = again b (flat_map encoding asking ++ rest) encoded.0 in
    let read : ◌≡◌ {A = Result (Apdu × List ℕ) DerFault} (Ok (a, flat_map encoding apdus))
    (Ok (b, flat_map encoding asking ++ rest)) =
    sym first ∙ ap apdu_at (parts ∙ append_assoc (encoding b) (flat_map encoding asking) rest) ∙ second in
    let pairs : ◌≡◌ {A = Apdu × List ℕ} (a, flat_map encoding apdus) (b, flat_map encoding asking ++ rest) = cc in
    let same : a ≡ b = ap (λ (pair : Apdu × List ℕ). pair.0) pairs in
    let more : flat_map encoding apdus ≡ flat_map encoding asking ++ rest = ap (λ (pair : Apdu × List ℕ). pair.1) pairs in
    ap (λ (c : Apdu). c ∷ asking) (sym same)
    ∙ ap (λ apdus. a ∷ apdus) (one_reading again apdus asking rest new all.1 encoded.1 more leaves)

-- ---- the message files that ask

module _ (live : DeskContents) where
  -- Returns true if the loan of a message is held at the desk and is over.
  abbrev of_over : Apdu → Bool
  of_over a = is_held_over (side_with a.txn (sides_held live).sides)

  -- Returns the messages of a message file that ask. If the desk has not done with the message file, none does.
  abbrev asks_of : MessageFile → Verdict → List Apdu
  asks_of message_file (Done outcome) = filter of_over (message_of message_file)
  asks_of message_file verdict = []

  -- Returns the messages of all message files that ask.
  abbrev asks_all : List MessageFile → List Verdict → List Apdu
  asks_all message_files verdicts = flat_map (λ message_file. asks_of message_file.0 message_file.1) (zip message_files verdicts)

  -- `bytes` are the encodings of `apdus`, which are in range.
  abbrev Encode : List ℕ → List Apdu → Type 0
  Encode bytes apdus = (bytes ≡ flat_map encoding apdus) × AllByRecursion IsApdu apdus

  module _ (prefix : PrefixOrFault) where
    -- The bytes of a message file that ask are the encoding of its message, if the message asks. If not, they are none.
    found_encodes : (bytes : List ℕ) (found : Result Apdu Unfit) → IsBytes bytes → message_in bytes ≡ found
        → Encode (asking_bytes live bytes found) (filter of_over (message_if found))
    found_encodes bytes (Err unfit) are is = (refl, tt)
    found_encodes bytes (Ok a) are is = go (of_over a)
      where
        -- If the loan of the message is over, its bytes ask; if not, none do.
        go : (over : Bool) → Encode (if over then bytes else []) (cond over (a ∷ []) [])
        go true = let encodes = message_file_encodes prefix bytes a are is in (encodes.1, (encodes.0, tt))
        go false = (refl, tt)

    -- If a message file could be read, its bytes that ask are the encoding of its message, if the message asks. If it
    -- could not be read, no bytes ask.
    read_encodes : (bytes : Option (List ℕ)) → IsBytesOf bytes
        → Encode (asking_bytes_if_read live bytes) (filter of_over (message_if_read bytes))
    read_encodes None are = (refl, tt)
    read_encodes (Some bytes) are = found_encodes bytes (message_in bytes) are refl

    -- The bytes of a message file that ask, by its verdict, are the encoding of its message, if the message asks.
    message_file_encodes_asks : (message_file : MessageFile) (verdict : Verdict)
        → IsBytesOf (option_map (λ bytes. bytes.items) message_file.bytes)
        → Encode (asking_bytes_of_message_file live message_file verdict) (asks_of message_file verdict)
    message_file_encodes_asks message_file (Done outcome) are =
        read_encodes (option_map (λ bytes. bytes.items) message_file.bytes) are
    message_file_encodes_asks message_file (Quarantined unfit) are = (refl, tt)
    message_file_encodes_asks message_file (Deferred delay) are = (refl, tt)

    -- The bytes of all message files that ask are the encodings of the messages that ask.
    all_encode : (message_files : List MessageFile) (verdicts : List Verdict) → AreBytes message_files
        → Encode (asked_by live (zip message_files verdicts)) (asks_all message_files verdicts)
    unfolding Each
    all_encode [] verdicts are = (refl, tt)
    all_encode (message_file ∷ message_files) [] are = (refl, tt)
    all_encode (message_file ∷ message_files) (verdict ∷ verdicts) are =
        let first = message_file_encodes_asks message_file verdict are.0 in
        let more = all_encode message_files verdicts are.1 in (
          ap (λ bytes. bytes ++ asked_by live (zip message_files verdicts)) first.0
              ∙ ap (λ bytes. flat_map encoding (asks_of message_file verdict) ++ bytes) more.0
              ∙ sym (flat_map-append encoding (asks_of message_file verdict) (asks_all message_files verdicts)),
          all_join (asks_of message_file verdict) (asks_all message_files verdicts) first.1 more.1,
        )

  -- ---- the transactions that ask

  -- Premise: each message of `txn` is of a loan that is held at the desk and is over (`over`).
  module _ (txn : Qualifiers) (over : (a : Apdu) → is_same_txn txn a.txn ≡ true → of_over a ≡ true) where
    -- Returns true if the message is of `txn`.
    abbrev is_its : Apdu → Bool
    is_its a = is_same_txn a.txn txn

    -- If the test `is_same_txn txn a.txn` is `same`, so is the test `is_its a`.
    its : (a : Apdu) (same : Bool) → is_same_txn txn a.txn ≡ same → is_its a ≡ same
    its a true is = subst (λ t. is_same_txn t txn ≡ true) (same_is txn a.txn is) (same_self txn)
    its a false is = apart_back txn a.txn is

    -- `apdus` have no message of `txn` whose loan is over just if they have no message of `txn`.
    done_ask : (apdus : List Apdu) → not (list_any is_its (filter of_over apdus)) ≡ is_none (messages_for txn apdus)
    done_ask [] = refl
    done_ask (a ∷ apdus) = go (done_ask apdus) (is_same_txn txn a.txn) refl
      where
        -- The further messages whose loans are over.
        others : List Apdu
        others = filter of_over apdus

        -- A message of another transaction is not counted.
        kept : (keeps : Bool) → is_its a ≡ false → list_any is_its (cond keeps (a ∷ others) others) ≡ list_any is_its others
        kept true none = ap (λ own. own || list_any is_its others) none
        kept false none = refl

        -- The first message is of `txn`, or the others decide.
        go : not (list_any is_its others) ≡ is_none (messages_for txn apdus) → (same : Bool) → is_same_txn txn a.txn ≡ same
            → not (list_any is_its (cond (of_over a) (a ∷ others) others))
            ≡ is_none (cond same (a ∷ messages_for txn apdus) (messages_for txn apdus))
        go further true is =
            ap (λ keeps. not (list_any is_its (cond keeps (a ∷ others) others))) (over a is)
            ∙ ap (λ own. not (own || list_any is_its others)) (its a true is)
        go further false is = ap not (kept (of_over a) (its a false is)) ∙ further

    -- If nothing may be in a list, it is empty.
    nothing_in : (apdus : List Apdu) → Each (λ a. ⊥) apdus → true ≡ is_none apdus
    unfolding Each
    nothing_in [] none = refl
    nothing_in (a ∷ apdus) none = absurd none.0

    -- A message file has no message of `txn` that asks just if it has no message of `txn`. Premise: the desk has done
    -- with the message file if it has one.
    message_file_asks : (message_file : MessageFile) (verdict : Verdict)
        → Each (λ a. IsDone verdict) (messages_for txn (message_of message_file))
        → not (list_any is_its (asks_of message_file verdict)) ≡ is_none (messages_for txn (message_of message_file))
    message_file_asks message_file (Done outcome) done = done_ask (message_of message_file)
    message_file_asks message_file (Quarantined unfit) done = nothing_in (messages_for txn (message_of message_file)) done
    message_file_asks message_file (Deferred delay) done = nothing_in (messages_for txn (message_of message_file)) done

    -- The join of two lists is empty just if both lists are empty.
    both_none : (apdus more : List Apdu) → is_none (apdus ++ more) ≡ not (not (is_none apdus) || not (is_none more))
    both_none [] [] = refl
    both_none [] (a ∷ more) = refl
    both_none (a ∷ apdus) more = refl

    -- Two negations leave a truth value.
    twice : (b : Bool) → not (not b) ≡ b
    twice true = refl
    twice false = refl

    -- Without a verdict no message asks.
    none_left : (message_files : List MessageFile) → not (list_any is_its (asks_all message_files [])) ≡ true
    none_left [] = refl
    none_left (message_file ∷ message_files) = refl

    -- Message files have no message of `txn` that asks just if they have no message of `txn`. Premise: the desk has
    -- done with each message file that has one.
    message_files_ask : (message_files : List MessageFile) (verdicts : List Verdict) → AreDone txn message_files verdicts
        → not (list_any is_its (asks_all message_files verdicts)) ≡ is_none (messages_for txn (messages_of message_files))
    message_files_ask [] verdicts done = refl
    message_files_ask (message_file ∷ message_files) verdicts done = go (message_files_ask message_files) verdicts done
      where
        -- The messages of `txn` in all message files are those of the first, and then those of the others.
        parts : messages_for txn (messages_of (message_file ∷ message_files))
            ≡ messages_for txn (message_of message_file) ++ messages_for txn (messages_of message_files)
        parts = filter-append (λ (a : Apdu). is_same_txn txn a.txn) (message_of message_file) (messages_of message_files)

        -- A message file without a verdict has no message of `txn` (`done`).
        go : ((verdicts : List Verdict) → AreDone txn message_files verdicts
            → not (list_any is_its (asks_all message_files verdicts)) ≡ is_none (messages_for txn (messages_of message_files)))
            → (verdicts : List Verdict) → AreDone txn (message_file ∷ message_files) verdicts
            → not (list_any is_its (asks_all (message_file ∷ message_files) verdicts))
            ≡ is_none (messages_for txn (messages_of (message_file ∷ message_files)))
        go further [] done =
            sym (none_left message_files) ∙ further [] done.1
            ∙ ap (λ apdus. is_none (apdus ++ messages_for txn (messages_of message_files))) (sym done.0) ∙ ap is_none (sym parts)
        go further (verdict ∷ verdicts) done =
            ap not (list_any-append is_its (asks_of message_file verdict) (asks_all message_files verdicts)
            ∙ ap (λ b. b || list_any is_its (asks_all message_files verdicts))
            (sym (twice (list_any is_its (asks_of message_file verdict)))
            ∙ ap not (message_file_asks message_file verdict done.0))
            ∙ ap (λ b. not (is_none (messages_for txn (message_of message_file))) || b)
            (sym (twice (list_any is_its (asks_all message_files verdicts))) ∙ ap not (further verdicts done.1)))
            ∙ sym (both_none (messages_for txn (message_of message_file)) (messages_for txn (messages_of message_files)))
            ∙ ap is_none (sym parts)

-- If the loan of `txn` is over at a responder's desk, each message of `txn` is of a loan that is held there and over.
held_over : (live : DeskContents) → live.role ≡ who.Responder → (txn : Qualifiers) → is_over (held_for txn live).side ≡ true
    → (a : Apdu) → is_same_txn txn a.txn ≡ true → of_over live a ≡ true
held_over live role txn over a same =
    subst (λ t. is_held_over (side_with t (sides_held live).sides) ≡ true) (same_is txn a.txn same)
    (go (side_with txn (sides_held live).sides) refl)
  where
    -- The side that the desk shows for `txn` is over.
    shown : (found : Option Side) → side_with txn (sides_held live).sides ≡ found
        → is_over (found_or (idle_side live.role txn) found) ≡ true
    shown found is = ap (λ f. is_over (found_or (idle_side live.role txn) f)) (sym is) ∙ ap is_over (side_of_held txn live) ∙ over

    -- A responder's idle side is not over, so the desk holds one.
    go : (found : Option Side) → side_with txn (sides_held live).sides ≡ found → is_held_over found ≡ true
    go (Some side) is = shown (Some side) is
    go None is = absurd (true≢false (sym (ap (λ r. is_over (idle_side r txn)) (sym role) ∙ shown None is)))

-- At a responder's desk a message of `txn` asks just if the message files have one. Premises: the loan of `txn` is over
-- there, and each message file with a message of `txn` is done with. `asking` are the messages that ask.
pub asks_right : PrefixOrFault → ReadsAgain → (live : DeskContents) → live.role ≡ who.Responder → (txn : Qualifiers)
    (message_files : List MessageFile) (verdicts : List Verdict) (asking : List Apdu) → AreBytes message_files
    → AreDone txn message_files verdicts
    → AreIn (asked_by live (zip message_files verdicts)) asking → is_over (held_for txn live).side ≡ true
    → not (is_asked asking txn) ≡ is_none (messages_for txn (messages_of message_files))
asks_right prefix again live role txn message_files verdicts asking are done came over =
    let encodes = all_encode live prefix message_files verdicts are in
    let same : asking ≡ asks_all live message_files verdicts =
    one_reading again (asks_all live message_files verdicts) asking came.1.0 came.0 encodes.1 came.1.1.encoded
    (sym encodes.0 ∙ came.1.1.parts) came.1.2 in
    ap (λ apdus. not (is_asked apdus txn)) same
    ∙ message_files_ask live txn (held_over live role txn over) message_files verdicts done
