-- These definitions give the meaning of a word, a wish and a deed. Scripts and command lines have these words. They are
-- this profile's own. A definition of an optional value returns `None` for words without such a meaning.
use Rattle.std.specs.Prelude.{ℕ, ◌+◌, ◌-◌, ◌*◌, ◌&&◌, fold, nat_le, Bool, true, false, if◌then◌else◌, ◌==◌, List, [], ◌∷◌, ◌++◌}
use Rattle.std.specs.Prelude.{length, flat_map, bytes_eq, codes, Option, Some, None, option_map}
use Rattle.std.specs.List.{list_all}
use Rattle.std.specs.Result.{result_ok}
use Rattle.std.specs.Char.{is_ascii_digit}
use Rattle.hex.specs.Hex.{decode_of}
use Rattle.ill_values.specs.Day.{Date, read_date, day_after}
use Rattle.ill_values.specs.Text.{item_of}
use Rattle.ill_values.specs.Results.{result_named}
use Rattle.ill_core.specs.declared.requester.Wish.{Wish}
use Rattle.ill_core.specs.declared.requester.Wish.TheVariants.{Request, Cancel, Reply, Receive, Renew, Return}
use Rattle.ill_core.specs.declared.responder.Deed.{Deed}
use Rattle.ill_core.specs.declared.responder.Deed.TheVariants.{Answer, CancelReply, Ship, RenewAnswer, Overdue, Recall, CheckIn}
use Rattle.ill_core.specs.declared.responder.Deed.TheVariants.{Expire}
use Rattle.ill_record.specs.declared.role.Role.{Role}
use Rattle.ill_record.specs.declared.role.Role.TheVariants.{Requester, Responder}

infixl 10 ◌>>=◌
-- Returns `next` of the value on the left, or `None` if there is no value.
abbrev pub ◌>>=◌ : {A B : Type 0} → Option A → (A → Option B) → Option B
Some value >>= next = next value
None >>= next = None

-- ---- one word

-- Returns the value beside `word` in a table, if the table has `word`.
abbrev pub named : {A : Type 0} → List (List ℕ × A) → List ℕ → Option A
named [] word = None
named ((name, value) ∷ more) word = if bytes_eq word name then Some value else named more word

-- Returns true for `yes`, and false for `no`.
abbrev pub yes_of : List ℕ → Option Bool
yes_of = named ((codes "yes", true) ∷ (codes "no", false) ∷ [])

-- Returns the role that a word names.
abbrev pub who_named : List ℕ → Option Role
who_named = named ((codes "requester", Requester) ∷ (codes "responder", Responder) ∷ [])

-- Returns true for `new` and false for `old`: the record that the store has after a failed save.
abbrev pub committed_named : List ℕ → Option Bool
committed_named = named ((codes "new", true) ∷ (codes "old", false) ∷ [])

-- Returns the day of a word of eight digits.
abbrev pub day_of : List ℕ → Option Date
day_of word = result_ok (read_date word)

-- Returns true if `word` is one to `most` decimal digits.
abbrev pub is_numeral : ℕ → List ℕ → Bool
is_numeral most word = nat_le 1 (length word) && nat_le (length word) most && list_all is_ascii_digit word

-- Returns the value of decimal digits.
abbrev pub decimal_value : List ℕ → ℕ
decimal_value digits = fold (λ n digit. 10 * n + (digit - 0x30)) 0 digits

-- Returns the day that is the number of `digits` days after `from`, if the calendar has this day. The number has one to
-- five decimal digits.
abbrev pub days_after : Date → List ℕ → Option Date
days_after from digits =
    if is_numeral 5 digits then result_ok (day_after (decimal_value digits) from) else None

-- Returns the due day of a word. It is a day or, if `from` is given, a plus sign and a number of days after it.
abbrev pub due_of : Option Date → List ℕ → Option Date
due_of None word = day_of word
due_of (Some from) [] = day_of []
due_of (Some from) (byte ∷ digits) = if byte == 0x2B then days_after from digits else day_of (byte ∷ digits)

-- Returns the day of a word, or no day for the word `none`.
abbrev pub optional_day_of : List ℕ → Option (Option Date)
optional_day_of word = if bytes_eq word (codes "none") then Some None else option_map Some (day_of word)

-- Returns true if `n` can be the number of a message: 1 to 255.
abbrev pub is_number : ℕ → Bool
is_number n = nat_le 1 n && nat_le n 255

-- Returns the number of a message, 1 to 255. The word has one to three digits, with or without leading zeros.
abbrev pub number_of : List ℕ → Option ℕ
number_of word = if is_numeral 3 word && is_number (decimal_value word) then Some (decimal_value word) else None

-- Returns the bytes that hexadecimal digits encode, two for each byte. The word `none` encodes no bytes.
abbrev pub bytes_of : List ℕ → Option (List ℕ)
bytes_of word = if bytes_eq word (codes "none") then Some [] else result_ok (decode_of word)

-- ---- a requester's wish

-- Returns the wish of a single word.
abbrev pub bare_wish_of : List ℕ → Option Wish
bare_wish_of =
    named ((codes "cancel", Cancel) ∷ (codes "receive", Receive) ∷ (codes "return", Return) ∷ [])

-- Returns the wish of a verb and one more word, if they say one.
abbrev pub wish_with : List ℕ → List ℕ → Option Wish
wish_with verb word =
    if bytes_eq verb (codes "reply") then option_map Reply (yes_of word)
    else if bytes_eq verb (codes "renew") then option_map Renew (optional_day_of word)
    else None

-- Returns `first`, followed by each word of `more` with a space before it.
abbrev pub spaced : List ℕ → List (List ℕ) → List ℕ
spaced first more = first ++ flat_map (λ word. 0x20 ∷ word) more

-- Returns a Request for the item of `text`, with the expiry date `expiry`, or without one.
abbrev pub request_of : List ℕ → List ℕ → Option Wish
request_of expiry text = do
  day ← optional_day_of expiry
  item ← result_ok (item_of text)
  Some (Request day item)

-- Returns the wish of these words, if they say one.
unfoldable pub wish_of : List (List ℕ) → Option Wish
wish_of [] = None
wish_of (verb ∷ []) = bare_wish_of verb
wish_of (verb ∷ word ∷ []) = wish_with verb word
wish_of (verb ∷ expiry ∷ first ∷ more) =
    if bytes_eq verb (codes "request") then request_of expiry (spaced first more) else None

-- ---- a responder's deed

-- Returns the deed of a single word.
abbrev pub bare_deed_of : List ℕ → Option Deed
bare_deed_of = named (
    (codes "overdue", Overdue)
    ∷ (codes "recall", Recall)
    ∷ (codes "check-in", CheckIn)
    ∷ (codes "expire", Expire)
    ∷ [])

-- Returns a Renew-Answer no for the word `no`.
abbrev pub refusal_of : List ℕ → Option Deed
refusal_of = named ((codes "no", RenewAnswer None) ∷ [])

-- Returns the deed of a verb and one more word. A due day may be counted from `from`.
unfoldable pub deed_with : Option Date → List ℕ → List ℕ → Option Deed
deed_with from verb word =
    if bytes_eq verb (codes "answer") then option_map Answer (result_named word)
    else if bytes_eq verb (codes "cancel-reply") then option_map CancelReply (yes_of word)
    else if bytes_eq verb (codes "ship") then option_map Ship (due_of from word)
    else if bytes_eq verb (codes "renew-answer") then refusal_of word
    else None

-- Returns a Renew-Answer yes with the date `due`, if `verb` and `word` are `renew-answer yes`. The date may be counted
-- from `from`.
unfoldable pub grant_with : Option Date → List ℕ → List ℕ → List ℕ → Option Deed
grant_with from verb word due =
    if bytes_eq verb (codes "renew-answer") && bytes_eq word (codes "yes")
    then option_map (λ day. RenewAnswer (Some day)) (due_of from due)
    else None

-- Returns the deed of these words, if they say one. A due day may be counted from `from`.
unfoldable pub deed_of : Option Date → List (List ℕ) → Option Deed
deed_of from (verb ∷ []) = bare_deed_of verb
deed_of from (verb ∷ word ∷ []) = deed_with from verb word
deed_of from (verb ∷ word ∷ due ∷ []) = grant_with from verb word due
deed_of from words = None
