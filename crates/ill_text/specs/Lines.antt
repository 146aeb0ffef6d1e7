-- The lines in the output of the commands.
use Rattle.std.specs.Prelude.{ℕ, Bool, true, false, List, [], ◌∷◌, ◌++◌, Option, Some, None, codes}
use Rattle.std.specs.Fmt.{decimal}
use Rattle.ill_values.specs.declared.apdu.Apdu.{Apdu}
use Rattle.ill_values.specs.Body.{Body}
use Rattle.ill_values.specs.declared.apdu.BodyWith.TheVariants.{IllRequest, IllAnswer, ConditionalReply, Cancel, CancelReply}
use Rattle.ill_values.specs.declared.apdu.BodyWith.TheVariants.{Shipped, Received, Recall, Returned, CheckedIn, Overdue, Renew}
use Rattle.ill_values.specs.declared.apdu.BodyWith.TheVariants.{RenewAnswer, Expired}
use Rattle.ill_values.specs.Day.{Date, date_text}
use Rattle.ill_values.specs.Results.{result_name}
use Rattle.ill_values.specs.Types.{type_name}
use Rattle.ill_text.specs.Escape.{escaped}

-- Returns a line: a label, a space, a value and a line feed.
unfoldable pub line : List ℕ → List ℕ → List ℕ
line label value = label ++ 32 ∷ value ++ 10 ∷ []

-- Returns the word of a reply: yes or no.
abbrev pub reply_word : Bool → List ℕ
reply_word true = codes "yes"
reply_word false = codes "no"

-- Returns the line of a number, with this label.
abbrev pub number_line : List ℕ → ℕ → List ℕ
number_line label n = line label (decimal n)

-- Returns the line of a date.
abbrev pub date_line : Date → List ℕ
date_line d = line (codes "date") (date_text d)

-- Returns the line of a date, if there is one.
abbrev pub optional_date_line : Option Date → List ℕ
optional_date_line None = []
optional_date_line (Some d) = date_line d

-- Returns the lines of a reply: the number of the answered message, and yes or no.
abbrev pub reply_lines : ℕ → Bool → List ℕ
reply_lines answers is_yes =
    number_line (codes "answers") answers ++ line (codes "reply") (reply_word is_yes)

-- Returns the lines of a Renew-Answer: yes and its new due date, or no if it has none.
abbrev pub grant_lines : ℕ → Option Date → List ℕ
grant_lines answers None = reply_lines answers false
grant_lines answers (Some d) = reply_lines answers true ++ date_line d

-- Returns the lines of the fields that only APDUs of this type have.
abbrev pub field_lines : Body → List ℕ
field_lines (IllRequest expiry item) = optional_date_line expiry ++ line (codes "item") item
field_lines (IllAnswer result) = line (codes "result") (result_name result)
field_lines (ConditionalReply answers is_yes) = reply_lines answers is_yes
field_lines Cancel = []
field_lines (CancelReply answers is_yes) = reply_lines answers is_yes
field_lines (Shipped due) = date_line due
field_lines Received = []
field_lines Recall = []
field_lines Returned = []
field_lines CheckedIn = []
field_lines (Overdue due) = date_line due
field_lines (Renew wished) = optional_date_line wished
field_lines (RenewAnswer answers granted) = grant_lines answers granted
field_lines Expired = []

-- Returns the lines of a transaction id.
abbrev pub id_lines : List ℕ → List ℕ → List ℕ
id_lines group transaction = line (codes "group") group ++ line (codes "transaction") transaction

-- Returns the lines of each APDU: its type, its transaction and its number.
abbrev pub head_lines : Apdu → List ℕ
head_lines apdu =
    line (codes "apdu") (type_name apdu.body)
    ++ (id_lines apdu.txn.group apdu.txn.transaction ++ number_line (codes "number") apdu.number)

-- Returns the lines of an APDU.
unfoldable pub lines_of : Apdu → List ℕ
lines_of apdu = head_lines apdu ++ field_lines apdu.body

-- Returns the lines of `field_lines`, with the item escaped for a screen.
abbrev pub shown_fields : Body → List ℕ
shown_fields (IllRequest expiry item) = optional_date_line expiry ++ line (codes "item") (escaped item)
shown_fields other = field_lines other

-- Returns the lines of an APDU, with the item escaped for a screen.
unfoldable pub shown_lines : Apdu → List ℕ
shown_lines apdu = head_lines apdu ++ shown_fields apdu.body

-- Returns the line of the number of APDUs.
abbrev pub count_line : ℕ → List ℕ
count_line n = line (decimal n) (codes "apdus")
