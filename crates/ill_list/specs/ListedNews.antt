-- The news of a loan in `list`: the words of each message, on lines below its own or in its object.
use Rattle.std.specs.Prelude.{ℕ, Bool, false, List, [], ◌∷◌, ◌++◌, codes, Option, None, Some}
use Rattle.std.specs.List.{flat_map, list_any}
use Rattle.std.specs.Fmt.{decimal}
use Rattle.ill_values.specs.declared.apdu.Apdu.{Apdu}
use Rattle.ill_core.specs.Issued.{is_same_txn}
use Rattle.ill_record.specs.declared.side.Side.{Side}
use Rattle.ill_record.specs.Side.{txn_of}
use Rattle.ill_text.specs.Json.{Field, array, object, optional, quoted}
use Rattle.ill_beside.specs.Kept.{kept_of}
use Rattle.ill_beside.specs.NewsWords.{printed_words}

-- ---- the news of a loan, in lines

-- Returns true if one of `news` is of the loan of a side, and news are printed.
abbrev pub has_news : (news : Option (List Apdu)) → Side → Bool
has_news None side = false
has_news (Some news) side = list_any (λ a. is_same_txn a.txn (txn_of side)) news

-- Returns the line of a message in the loan of a side.
abbrev pub news_line : Side → Apdu → List ℕ
news_line side a = codes "    news " ++ (printed_words side a.body ++ codes "\n")

-- Returns the lines of those of `news` that are of the loan of a side, if news are printed.
abbrev pub listed_news : (news : Option (List Apdu)) → Side → List ℕ
listed_news None side = []
listed_news (Some news) side = flat_map (news_line side) (kept_of (txn_of side) news)

-- ---- the news of a loan, in objects

-- Returns the fields of a message in the loan of a side: its number and its words.
abbrev pub heard_fields : Side → Apdu → List Field
heard_fields side a = (codes "number", decimal a.number) ∷ (codes "words", quoted (printed_words side a.body)) ∷ []

-- Returns the object of a message in the loan of a side.
abbrev pub heard_object : Side → Apdu → List ℕ
heard_object side a = object (heard_fields side a)

-- Returns an array of the objects of the messages `kept`, in the loan of a side.
abbrev pub heard_array : Side → List Apdu → List ℕ
heard_array side kept = array (heard_object side) kept

-- Returns the text of the news of a loan: an array of those of `news` that are its own, or `null` if none are printed.
abbrev pub news_value : (news : Option (List Apdu)) → Side → List ℕ
news_value news side = optional (λ printed. heard_array side (kept_of (txn_of side) printed)) news

-- Returns the field of the news of a loan.
abbrev pub listed_news_fields : (news : Option (List Apdu)) → Side → List Field
listed_news_fields news side = (codes "news", news_value news side) ∷ []
