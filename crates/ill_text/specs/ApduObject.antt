-- The JSON object of an APDU.
use Rattle.std.specs.Prelude.{ℕ, Bool, List, [], ◌∷◌, ◌++◌, codes, Option, None, Some, is_some}
use Rattle.std.specs.Fmt.{decimal}
use Rattle.ill_values.specs.Day.{Date}
use Rattle.ill_values.specs.declared.apdu.Apdu.{Apdu}
use Rattle.ill_values.specs.Body.{Body}
use Rattle.ill_values.specs.declared.apdu.BodyWith.TheVariants.{IllRequest, IllAnswer, ConditionalReply, Cancel, CancelReply}
use Rattle.ill_values.specs.declared.apdu.BodyWith.TheVariants.{Shipped, Received, Recall, Returned, CheckedIn, Overdue, Renew}
use Rattle.ill_values.specs.declared.apdu.BodyWith.TheVariants.{RenewAnswer, Expired}
use Rattle.ill_values.specs.Results.{result_name}
use Rattle.ill_values.specs.Types.{type_name}
use Rattle.ill_text.specs.declared.form.Form.{Form}
use Rattle.ill_text.specs.declared.form.Form.TheVariants.{Lines, Json}
use Rattle.ill_text.specs.Json.{Field, day, flag, object, quoted}
use Rattle.ill_text.specs.Lines.{lines_of}

-- Returns an object with these fields, and a line feed.
abbrev pub object_line : List Field → List ℕ
object_line fields = object fields ++ codes "\n"

-- Returns the fields of each APDU: its type, its transaction and its number.
abbrev pub head_fields : Apdu → List Field
head_fields a =
    (codes "apdu", quoted (type_name a.body)) ∷ (codes "group", quoted a.txn.group)
    ∷ (codes "transaction", quoted a.txn.transaction) ∷ (codes "number", decimal a.number) ∷ []

-- Returns the field `date` of a day.
abbrev pub date_field : Date → Field
date_field d = (codes "date", day d)

-- Returns the fields of a reply: the number of the answered message, and yes or no.
abbrev pub reply_fields : ℕ → Bool → List Field
reply_fields answers is_yes = (codes "answers", decimal answers) ∷ (codes "reply", flag is_yes) ∷ []

-- Returns the field `date`, if there is a day.
abbrev pub optional_date_fields : Option Date → List Field
optional_date_fields None = []
optional_date_fields (Some d) = date_field d ∷ []

-- Returns the fields that only APDUs of this type have.
abbrev pub body_fields : Body → List Field
body_fields (IllRequest expiry item) = optional_date_fields expiry ++ (codes "item", quoted item) ∷ []
body_fields (IllAnswer result) = (codes "result", quoted (result_name result)) ∷ []
body_fields (ConditionalReply answers is_yes) = reply_fields answers is_yes
body_fields Cancel = []
body_fields (CancelReply answers is_yes) = reply_fields answers is_yes
body_fields (Shipped due) = date_field due ∷ []
body_fields Received = []
body_fields Recall = []
body_fields Returned = []
body_fields CheckedIn = []
body_fields (Overdue due) = date_field due ∷ []
body_fields (Renew wished) = optional_date_fields wished
body_fields (RenewAnswer answers granted) = reply_fields answers (is_some granted) ++ optional_date_fields granted
body_fields Expired = []

-- Returns all fields of an APDU.
abbrev pub apdu_fields : Apdu → List Field
apdu_fields a = head_fields a ++ body_fields a.body

-- Returns the fields in the line of an APDU: that it is a message, and all its fields.
abbrev pub line_fields : Apdu → List Field
line_fields a = (codes "kind", quoted (codes "message")) ∷ apdu_fields a

-- Returns the text of an APDU in a form: its lines (`lines_of`), or its object on one line.
abbrev pub apdu_text : Form → Apdu → List ℕ
apdu_text Lines a = lines_of a
apdu_text Json a = object_line (line_fields a)
