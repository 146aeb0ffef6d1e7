-- The messages that leave a desk, in sealed letters (this profile's own).
use Rattle.std.specs.Prelude.{◌≡◌, ℕ, ◌-◌, nat_lt, if◌then◌else◌, List, [], ◌∷◌, ◌++◌, length, take, map, fold, codes}
use Rattle.std.specs.Prelude.{Option, None, Some, Result, Ok, Err}
use Rattle.sha2.specs.Sha256.{sha256}
use Rattle.hex.specs.Hex.{encode_lower}
use Rattle.ill_seal.specs.declared.sender.Sender.{Sender}
use Rattle.ill_seal.specs.Letter.{sealed}
use Rattle.ill_text.specs.declared.fault.ToolFault.{ToolFault}
use Rattle.ill_text.specs.Fault.{IsFileFault}
use Rattle.ill_night.specs.Outbox.{Letter, PutsAs, after_all}
use Rattle.ill_room.specs.declared.sealed.Seal.{Seal}
use Rattle.ill_room.specs.declared.sealed.Texts.{Texts}
use Rattle.ill_room.specs.declared.sealed.SealedLetter.{SealedLetter}

-- ---- the texts of letters

-- The texts of letters: those to which nothing is added, and the last one.
pub record Filling : Type 0 where
  pub full : List (List ℕ)
  pub last : List ℕ

-- Returns the texts without any message.
abbrev pub no_texts : Filling
no_texts = record { full = []; last = [] }

-- Returns the texts after one more message. If the last text would then have more than 1,048,576 bytes, the message
-- begins the next text.
abbrev pub with_message : Filling → List ℕ → Filling
with_message old message =
    if nat_lt (1048576 - length old.last) (length message)
    then record { full = old.full ++ old.last ∷ []; last = message }
    else record { full = old.full; last = old.last ++ message }

-- Returns a list with the text, or an empty list if the text is empty.
abbrev pub if_any : List ℕ → List (List ℕ)
if_any [] = []
if_any (byte ∷ bytes) = (byte ∷ bytes) ∷ []

-- Returns all texts, one after another. The last one is left out if it is empty.
abbrev pub all_texts : Filling → List (List ℕ)
all_texts texts = texts.full ++ if_any texts.last

-- Returns the texts that have these messages, one after another.
abbrev pub texts_of : List (List ℕ) → List (List ℕ)
texts_of messages = all_texts (fold with_message no_texts messages)

-- ---- the letters

-- The key and the sender of letters.
pub record Sealing : Type 0 where
  pub key : List ℕ
  pub sender : Sender

-- Returns the name of the file of a letter: `letter-` and the first 32 hexadecimal digits of the letter's digest. Equal
-- letters have one name. Letters that differ have names that differ, as long as no digests collide.
abbrev pub letter_name : List ℕ → List ℕ
letter_name letter = codes "letter-" ++ take 32 (encode_lower (sha256 letter))

-- Returns the message file that has the letter with this text.
abbrev pub sealed_message_file : Sealing → List ℕ → Letter
sealed_message_file sealing text = record {
  name = letter_name (sealed sealing.key sealing.sender text);
  bytes = sealed sealing.key sealing.sender text;
}

-- Returns the message files that have the letters of these messages.
abbrev pub sealed_message_files : Sealing → List Letter → List Letter
sealed_message_files sealing letters = map (sealed_message_file sealing) (texts_of (map (λ letter. letter.bytes) letters))

-- Returns the message files in which messages leave: in sealed letters if there is a key, else each in a message file
-- of its own.
abbrev pub form_of : Option Sealing → List Letter → List Letter
form_of None letters = letters
form_of (Some sealing) letters = sealed_message_files sealing letters

-- The messages of `letters` were put into the outlet, in sealed letters if there is a key. Or a prefix of these message
-- files was, and the next one failed. If the call is done, its result is the number of messages.
abbrev pub PutsWith : {M : Type 0} → (M → Letter → M) → Option Sealing → List Letter → Option M → Option M →
    Result ℕ ToolFault → Type 0
PutsWith after sealing letters old new result = PutsAs after (form_of sealing) letters old new result

-- The letters were put into the outlet. Or a prefix of them was, and the next one failed.
abbrev pub PutsLetters : {M A : Type 0} → (M → Letter → M) → List Letter → Option M → Option M → Result A ToolFault → Type 0
PutsLetters after letters old new (Ok done) = new ≡ after_all after letters old
PutsLetters after letters old new (Err fault) =
    IsFileFault fault × ((size : ℕ) × (new ≡ after_all after (take size letters) old))

-- ---- the values of the code

-- Returns the model of a seal.
abbrev pub sealing_of : Seal → Sealing
sealing_of seal = record { key = seal.key.now; sender = seal.sender }

-- Returns the model of texts.
abbrev pub filling_of : Texts → Filling
filling_of texts = record { full = map (λ text. text.items) texts.full.items; last = texts.last.items }

-- Returns the model of a letter.
abbrev pub message_file_of : SealedLetter → Letter
message_file_of letter = record { name = letter.name.items; bytes = letter.bytes.items }
