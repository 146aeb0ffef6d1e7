-- Proves what an outlet has after the messages of a desk have left in sealed letters.
use Rattle.std.proofs.Common.{◌≡◌, ◌⊎◌, inl, inr, ℕ, suc, List, [], ◌∷◌, ◌++◌, map, take, Option, None, Some, Result, Ok, Err}
use Rattle.std.proofs.Common.{refl, sym, ap, subst, ◌∙◌, append_assoc}
use Rattle.std.specs.List.{fold}
use Rattle.std.proofs.lemmas.List.{append-nil}
use Rattle.ill_values.specs.declared.apdu.Apdu.{Apdu}
use Rattle.ill_saved.specs.Holdings.{DeskEntry}
use Rattle.ill_record.proofs.Finding.{some_is}
use Rattle.ill_text.specs.declared.fault.ToolFault.{ToolFault}
use Rattle.ill_night.specs.Outbox.{Letter, PutsAll, RunsOutbox, after_all, after_one, letters_of}
use Rattle.ill_room.specs.declared.sealed.SealedLetter.{SealedLetter}
use Rattle.ill_room.specs.Sealed.{PutsLetters, PutsWith, Sealing, message_file_of, sealed_message_file, sealed_message_files}
use Rattle.ill_room.specs.Sealed.{texts_of}

-- Putting letters into an outlet equals putting each letter in turn.
pub each_letter_put : {M : Type 0} (after : M → Letter → M) (letters : List SealedLetter) (there : Option M)
    → after_all after (map message_file_of letters) there
    ≡ fold (λ there letter. after_one after there (message_file_of letter)) there letters
each_letter_put after [] there = refl
each_letter_put after (letter ∷ letters) there = each_letter_put after letters (after_one after there (message_file_of letter))

-- If `letters` are put one after another, and `start` was gathered before, `start` and then their bytes are gathered.
gathered_from : (start : List (List ℕ)) (letters : List Letter)
    → after_all (λ there letter. there ++ letter.bytes ∷ []) letters (Some start)
    ≡ Some (start ++ map (λ letter. letter.bytes) letters)
gathered_from start [] = ap Some (sym (append-nil start))
gathered_from start (letter ∷ letters) =
    gathered_from (start ++ letter.bytes ∷ []) letters
    ∙ ap Some (append_assoc start (letter.bytes ∷ []) (map (λ letter. letter.bytes) letters))

-- If nothing was gathered before (`start`), and `letters` were put, the gathered `messages` are the bytes of `letters`.
gathered_are : (letters : List Letter) (start messages : List (List ℕ)) → start ≡ []
    → Some messages ≡ after_all (λ there letter. there ++ letter.bytes ∷ []) letters (Some start)
    → messages ≡ map (λ letter. letter.bytes) letters
gathered_are letters start messages empty put =
    some_is _ _ (put
    ∙ ap (λ start. after_all (λ there letter. there ++ letter.bytes ∷ []) letters (Some start)) empty
    ∙ gathered_from [] letters)

-- If `messages` were gathered from `letters`, and `sealed` are the sealed letters of `messages`, they are the
-- `sealed_message_files` of `letters`.
sealed_are : (sealing : Sealing) (letters sealed : List Letter) (start messages : List (List ℕ)) → start ≡ []
    → Some messages ≡ after_all (λ there letter. there ++ letter.bytes ∷ []) letters (Some start)
    → sealed ≡ map (sealed_message_file sealing) (texts_of messages) → sealed ≡ sealed_message_files sealing letters
sealed_are sealing letters sealed start messages empty put are =
    are ∙ ap (λ messages. map (sealed_message_file sealing) (texts_of messages)) (gathered_are letters start messages empty put)

-- If the messages were gathered, sealed and put, the command has put its messages in sealed letters.
pub sealed_put : {M : Type 0} (after : M → Letter → M) (sealing : Sealing) (asking : List ℕ) (held : List DeskEntry)
    (start messages : List (List ℕ)) (sealed : List Letter) (count : ℕ) (old new : Option M) (done : Unit {0}) → start ≡ []
    → RunsOutbox (PutsAll (λ there letter. there ++ letter.bytes ∷ [])) asking held (Some start) (Some messages) (Ok count)
    → sealed ≡ map (sealed_message_file sealing) (texts_of messages) → PutsLetters {A = Unit {0}} after sealed old new (Ok done)
    → RunsOutbox (PutsWith after (Some sealing)) asking held old new (Ok count)
sealed_put after sealing asking held start messages sealed count old new done empty (a, read, (counted, put)) are puts = (
  a,
  read,
  (
    counted,
    puts ∙ ap (λ letters. after_all after letters old)
        (sealed_are sealing (letters_of a held) sealed start messages empty put are),
  ),
)

-- Let the messages be gathered and sealed. If a letter could not be put, the command has put the letters before it.
pub sealed_failed : {M : Type 0} (after : M → Letter → M) (sealing : Sealing) (asking : List ℕ) (held : List DeskEntry)
    (start messages : List (List ℕ)) (sealed : List Letter) (count : ℕ) (old new : Option M) (fault : ToolFault) → start ≡ []
    → RunsOutbox (PutsAll (λ there letter. there ++ letter.bytes ∷ [])) asking held (Some start) (Some messages) (Ok count)
    → sealed ≡ map (sealed_message_file sealing) (texts_of messages) → PutsLetters {A = Unit {0}} after sealed old new (Err fault)
    → RunsOutbox (PutsWith after (Some sealing)) asking held old new (Err fault)
sealed_failed after sealing asking held start messages sealed count old new fault empty (a, read, (counted, put)) are
    (is_fault, (size, puts)) =
    inr (
      a,
      read,
      (
        is_fault,
        (
          size,
          puts ∙ ap (λ letters. after_all after (take size letters) old)
              (sealed_are sealing (letters_of a held) sealed start messages empty put are),
        ),
      ),
    )
