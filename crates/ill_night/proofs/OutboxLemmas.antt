-- Proves what a folder or a stream has after the command `outbox`, and which message files ask for an answer.
use Rattle.std.proofs.Common.{◌≡◌, ℕ, zero, suc, ◌++◌, List, [], ◌∷◌, map, take, drop, Option, Some, None, Result, Ok, Err, refl}
use Rattle.std.proofs.Common.{ap, sym, subst, ◌∙◌, append_assoc}
use Rattle.std.specs.Prelude.{slice_get}
use Rattle.std.specs.List.{zip, fold}
use Rattle.std.specs.Io.KnownBytes.{Appends}
use Rattle.std.proofs.lemmas.List.{take-map, append-nil}
use Rattle.ill_saved.specs.Holdings.{DeskEntry}
use Rattle.ill_saved.specs.ManySides.{DeskContents}
use Rattle.ill_record.proofs.Finding.{some_is}
use Rattle.ill_text.specs.declared.fault.ToolFault.{ToolFault}
use Rattle.ill_night.specs.declared.verdict.MessageFile.{MessageFile}
use Rattle.ill_night.specs.declared.verdict.Verdict.{Verdict}
use Rattle.ill_text.specs.Output.{WritesPrefix}
use Rattle.ill_night.specs.declared.outbox.Leaving.{Leaving}
use Rattle.ill_night.specs.Outbox.{Letter, PutsAll, RunsOutbox, StreamsOutbox, after_all, after_one, asked_by, asking_bytes_at}
use Rattle.ill_night.specs.Outbox.{issue_of}
use Rattle.ill_night.specs.Outbox.{letter_of, letters_of, stream_of}

-- Putting the message files of `leaving` into an outlet equals putting the message file of each message in turn.
pub each_put : {M : Type 0} (after : M → Letter → M) (leaving : List Leaving) (there : Option M)
    → after_all after (map letter_of (map issue_of leaving)) there
    ≡ fold (λ there message. after_one after there (letter_of (issue_of message))) there leaving
each_put after [] there = refl
each_put after (message ∷ leaving) there = each_put after leaving (after_one after there (letter_of (issue_of message)))

-- The first `size` message files are the message files of the first `size` messages.
pub first_message_files : (size : ℕ) (leaving : List Leaving)
    → take size (map letter_of (map issue_of leaving)) ≡ map letter_of (map issue_of (take size leaving))
first_message_files size leaving =
    take-map letter_of size (map issue_of leaving) ∙ ap (map letter_of) (take-map issue_of size leaving)

-- ---- a stream

-- A stream that began with `start` has `start`, and then the bytes of the message files.
streamed : (start : List ℕ) (letters : List Letter)
    → after_all (λ there letter. there ++ letter.bytes) letters (Some start) ≡ Some (start ++ stream_of letters)
streamed start [] = ap Some (sym (append-nil start))
streamed start (letter ∷ letters) =
    streamed (start ++ letter.bytes) letters ∙ ap Some (append_assoc start letter.bytes (stream_of letters))

-- If a stream was empty, its bytes are the bytes of the message files that were put on the stream.
stream_has : (letters : List Letter) (start bytes : List ℕ) → start ≡ []
    → Some bytes ≡ after_all (λ there letter. there ++ letter.bytes) letters (Some start) → bytes ≡ stream_of letters
stream_has letters start bytes empty put =
    some_is _ _ (put ∙ ap (λ start. after_all (λ there letter. there ++ letter.bytes) letters (Some start)) empty
    ∙ streamed [] letters)

-- If message files are put on an empty stream (`start`), and its bytes (`gathered`) are written, `StreamsOutbox` holds.
pub stream_written : (asking : List ℕ) (held : List DeskEntry) (start bytes gathered : List ℕ) (count : ℕ)
    (before after : Option (List ℕ)) (result : Result (Unit {0}) ToolFault)
    → start ≡ [] → gathered ≡ bytes
    → RunsOutbox (PutsAll (λ there letter. there ++ letter.bytes)) asking held (Some start) (Some bytes) (Ok count)
    → WritesPrefix before after gathered result → StreamsOutbox asking held before after result
stream_written asking held start bytes gathered count before after (Ok done) empty same (a, are, (counted, put)) written =
    (a, are, subst (λ text. Appends before after text) (same ∙ stream_has (letters_of a held) start bytes empty put) written)
stream_written asking held start bytes gathered count before after (Err fault) empty same (a, are, (counted, put))
    (failed, (size, written)) =
    subst (λ fault. StreamsOutbox asking held before after (Err fault)) (sym failed) (
      a,
      are,
      (
        size,
        subst (λ text. Appends before after (take size text))
            (same ∙ stream_has (letters_of a held) start bytes empty put) written,
      ),
    )

-- ---- the messages that ask
-- A message asks if its loan at this desk is over. The next outbox answers it.

-- Pairing a list with an empty list gives no pairs.
zip_nothing : {A B : Type 0} (items : List A) → zip {X = B} items [] ≡ []
zip_nothing [] = refl
zip_nothing (item ∷ items) = refl

-- A message file without a verdict does not ask, so it adds no bytes.
message_file_without_verdict_is_silent : (live : DeskContents) (message_file : Option MessageFile) (rest : List ℕ)
    → asking_bytes_at live message_file None ++ rest ≡ rest
message_file_without_verdict_is_silent live None rest = refl
message_file_without_verdict_is_silent live (Some message_file) rest = refl

-- The bytes that ask from `place` on are those of the message file at `place`, and then those of the later message
-- files.
pub asking_split_at : (live : DeskContents) (message_files : List MessageFile) (verdicts : List Verdict) (place : ℕ)
    → asking_bytes_at live (slice_get message_files place) (slice_get verdicts place)
    ++ asked_by live (zip (drop (suc place) message_files) (drop (suc place) verdicts))
    ≡ asked_by live (zip (drop place message_files) (drop place verdicts))
asking_split_at live [] verdicts zero = refl
asking_split_at live [] verdicts (suc place) = refl
asking_split_at live (message_file ∷ message_files) [] zero = ap (asked_by live) (zip_nothing message_files)
asking_split_at live (message_file ∷ message_files) [] (suc place) =
    message_file_without_verdict_is_silent live (slice_get message_files place)
    (asked_by live (zip (drop (suc place) message_files) []))
    ∙ ap (asked_by live) (zip_nothing (drop (suc place) message_files) ∙ sym (zip_nothing (drop place message_files)))
asking_split_at live (message_file ∷ message_files) (verdict ∷ verdicts) zero = refl
asking_split_at live (message_file ∷ message_files) (verdict ∷ verdicts) (suc place) =
    asking_split_at live message_files verdicts place
