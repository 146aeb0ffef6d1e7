-- The command `news`: what came to a desk and was taken, in the order in which it came.
use Rattle.std.specs.Prelude.{ℕ, ◌-◌, max, Bool, not, ◌&&◌, ◌==◌, if◌then◌else◌, false, List, [], ◌∷◌, ◌++◌, length, drop}
use Rattle.std.specs.Prelude.{fold, codes, Option, None, Some}
use Rattle.std.specs.List.{flat_map, list_any}
use Rattle.std.specs.Fmt.{decimal}
use Rattle.ill_values.specs.Body.{Body}
use Rattle.ill_values.specs.declared.apdu.Apdu.{Apdu}
use Rattle.ill_core.specs.Issued.{is_same_txn}
use Rattle.ill_record.specs.declared.side.Side.{Side}
use Rattle.ill_record.specs.Sides.{side_with}
use Rattle.ill_text.specs.declared.form.Form.{Form}
use Rattle.ill_text.specs.declared.form.Form.TheVariants.{Lines, Json}
use Rattle.ill_text.specs.ApduObject.{object_line}
use Rattle.ill_text.specs.Json.{Field, optional, quoted}
use Rattle.ill_news.specs.declared.news.NewsColumns.{NewsColumns}
use Rattle.ill_beside.specs.Heard.{is_heard}
use Rattle.ill_rows.specs.Cells.{cell, column, title_text}
use Rattle.ill_rows.specs.Heading.{file_printed, heading}
use Rattle.ill_show.specs.ItemLine.{item_of}
use Rattle.ill_beside.specs.NewsWords.{news_words, printed_words}
use Rattle.ill_rows.specs.Heading.{file_fields}

-- ---- the news

-- Returns true if the record of the side, if there is one, shows that the message was taken.
abbrev pub heard_by : Option Side → Apdu → Bool
heard_by None a = false
heard_by (Some side) a = is_heard side a

-- Returns true if the side of the message's transaction in `sides` has taken the message.
abbrev pub heard_at : List Side → Apdu → Bool
heard_at sides a = heard_by (side_with a.txn sides) a

-- Returns true if `a` and `b` have one transaction and one number.
abbrev pub is_same : Apdu → Apdu → Bool
is_same a b = is_same_txn a.txn b.txn && a.number == b.number

-- Returns true if `a` is among `news`.
abbrev pub is_printed : List Apdu → Apdu → Bool
is_printed news a = list_any (λ b. is_same b a) news

-- Returns `news`, and `a` at its end if its side has taken it and `news` lacks it.
abbrev pub with_news : List Side → List Apdu → Apdu → List Apdu
with_news sides news a = if heard_at sides a && not (is_printed news a) then news ++ a ∷ [] else news

-- Returns the messages in `came` that the sides have taken, each once, in their order.
abbrev pub news_of : List Side → List Apdu → List Apdu
news_of sides came = fold (with_news sides) [] came

-- Returns the last `count` messages of `news`, or all of them.
abbrev pub last_of : Option ℕ → List Apdu → List Apdu
last_of None news = news
last_of (Some count) news = drop (length news - count) news

-- ---- the words of a message

-- Returns the words of a message with this body. If there is a side of its loan, a refused renewal has the due date
-- of its record.
abbrev pub words_by : Option Side → Body → List ℕ
words_by None body = news_words None body
words_by (Some side) body = printed_words side body

-- Returns the words of the message `a`. Those of a refused renewal have the due date of the record in `sides`, if
-- there is one.
abbrev pub words_at : List Side → Apdu → List ℕ
words_at sides a = words_by (side_with a.txn sides) a.body

-- ---- lines

-- Returns columns without a width.
abbrev pub no_columns : NewsColumns
no_columns = record { group = 0; transaction = 0; words = 0 }

-- Returns `columns`, each made as wide as the text of the message in it at least.
abbrev pub widened : List Side → NewsColumns → Apdu → NewsColumns
widened sides columns a = record {
  group = max columns.group (length (column a.txn.group));
  transaction = max columns.transaction (length (column a.txn.transaction));
  words = max columns.words (length (words_at sides a));
}

-- Returns the columns of the lines: each is as wide as its longest text.
abbrev pub columns_of : List Side → List Apdu → NewsColumns
columns_of sides shown = fold (widened sides) no_columns shown

-- Returns the columns that name a message: its transaction and its number.
unfoldable pub named : NewsColumns → Apdu → List ℕ
named columns a =
    codes "  " ++ cell columns.group (column a.txn.group) ++ cell columns.transaction (column a.txn.transaction)
    ++ cell 3 (decimal a.number)

-- Returns the line of a message: its name, its words and the item of its loan.
abbrev pub news_row : List Side → NewsColumns → Apdu → List ℕ
news_row sides columns a =
    named columns a ++ cell columns.words (words_at sides a) ++ title_text (item_of (side_with a.txn sides)) ++ codes "\n"

-- Returns the line that counts the news, and those of them that are shown.
abbrev pub news_counts : (all shown : ℕ) → List ℕ
news_counts all shown = codes "messages " ++ decimal all ++ codes ", shown " ++ decimal shown ++ codes "\n"

-- Returns the lines of the `shown` messages of `news`, and of the counts.
abbrev pub news_lines : List Side → (news shown : List Apdu) → List ℕ
news_lines sides news shown =
    flat_map (news_row sides (columns_of sides shown)) shown ++ news_counts (length news) (length shown)

-- ---- objects

-- Returns the fields of a message with these words, in the loan of a side.
abbrev pub printed_fields : Option Side → (words : List ℕ) → Apdu → List Field
printed_fields side words a =
    (codes "kind", quoted (codes "news")) ∷ (codes "group", quoted a.txn.group)
    ∷ (codes "transaction", quoted a.txn.transaction) ∷ (codes "number", decimal a.number)
    ∷ (codes "words", quoted words) ∷ (codes "item", optional quoted (item_of side)) ∷ []

-- Returns the fields of a message, with its words and the item of its loan.
abbrev pub news_fields : List Side → Apdu → List Field
news_fields sides a = printed_fields (side_with a.txn sides) (words_at sides a) a

-- Returns the object of a message, with the path of the desk, if it is given.
abbrev pub news_object : Option (List ℕ) → List Side → Apdu → List ℕ
news_object file sides a = object_line (news_fields sides a ++ file_fields file)

-- Returns the objects of the `shown` messages.
abbrev pub news_objects : Option (List ℕ) → List Side → List Apdu → List ℕ
news_objects file sides shown = flat_map (news_object file sides) shown

-- ---- a desk

-- Returns the text of a desk with `news`, of which the last `last` are shown. Without `last` all are shown. If
-- `is_headed` is true, it has the path of the desk.
abbrev pub news_desk : Form → (is_headed : Bool) → (last : Option ℕ) → (path : List ℕ) → List Side → List Apdu → List ℕ
news_desk Lines is_headed last path sides news = heading is_headed path ++ news_lines sides news (last_of last news)
news_desk Json is_headed last path sides news = news_objects (file_printed is_headed path) sides (last_of last news)
