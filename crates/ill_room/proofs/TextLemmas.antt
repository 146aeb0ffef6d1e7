-- Proves that the texts of letters have all messages.
use Rattle.std.proofs.Common.{◌≡◌, ℕ, ◌-◌, Bool, true, false, List, [], ◌∷◌, ◌++◌, length, refl, sym, ap, ◌∙◌, append_assoc}
use Rattle.std.specs.Prelude.{nat_lt, if◌then◌else◌}
use Rattle.std.specs.List.{concat, fold}
use Rattle.std.proofs.lemmas.List.{append-nil}
use Rattle.std.proofs.lemmas.List.Folds.{concat-append}
use Rattle.ill_room.specs.Sealed.{Filling, all_texts, if_any, no_texts, texts_of, with_message}

-- Returns all bytes of the texts.
abbrev bytes_of : Filling → List ℕ
bytes_of texts = concat texts.full ++ texts.last

-- The bytes of a list with one text are that text.
alone : (text : List ℕ) → concat (text ∷ []) ≡ text
alone text = append-nil text

-- `if_any` keeps the bytes of `text`, for it leaves out only a text without bytes.
if_any_is : (text : List ℕ) → concat (if_any text) ≡ text
if_any_is [] = refl
if_any_is (byte ∷ bytes) = alone (byte ∷ bytes)

-- The texts of `all_texts`, one after another, are the bytes of `texts`.
all_are : (texts : Filling) → concat (all_texts texts) ≡ bytes_of texts
all_are texts =
    concat-append texts.full (if_any texts.last) ∙ ap (λ bytes. concat texts.full ++ bytes) (if_any_is texts.last)

-- After one more `message` the bytes are those before, and then `message`, whether it begins a text or not (`begins`).
step : (begins : Bool) (texts : Filling) (message : List ℕ)
    → bytes_of (if begins then record { full = texts.full ++ texts.last ∷ []; last = message }
    else record { full = texts.full; last = texts.last ++ message })
    ≡ bytes_of texts ++ message
step true texts message =
    ap (λ bytes. bytes ++ message)
    (concat-append texts.full (texts.last ∷ []) ∙ ap (λ bytes. concat texts.full ++ bytes) (alone texts.last))
step false texts message = sym (append_assoc (concat texts.full) texts.last message)

-- After further messages the bytes are those before, and then the messages.
all_follow : (messages : List (List ℕ)) (texts : Filling)
    → bytes_of (fold with_message texts messages) ≡ bytes_of texts ++ concat messages
all_follow [] texts = sym (append-nil (bytes_of texts))
all_follow (message ∷ messages) texts =
    all_follow messages (with_message texts message)
    ∙ ap (λ bytes. bytes ++ concat messages)
    (step (nat_lt (1048576 - length texts.last) (length message)) texts message)
    ∙ append_assoc (bytes_of texts) message (concat messages)

-- The texts of letters, one after another, are `messages`, one after another.
pub texts_have_all : (messages : List (List ℕ)) → concat (texts_of messages) ≡ concat messages
texts_have_all messages = all_are (fold with_message no_texts messages) ∙ all_follow messages no_texts
