-- The list of a morning: a line for each loan that wants a hand, or to which something came since a day.
use Rattle.std.specs.Prelude.{ℕ, max, Bool, ◌&&◌, if◌then◌else◌, List, [], ◌++◌, length, fold, codes, Option, Some, None, is_some}
use Rattle.ill_values.specs.declared.apdu.Apdu.{Apdu}
use Rattle.ill_record.specs.declared.side.Side.{Side}
use Rattle.ill_record.specs.Side.{txn_of}
use Rattle.ill_words.specs.Possible.{request_of, item_asked}
use Rattle.ill_list.specs.declared.morning.MorningColumns.{MorningColumns}
use Rattle.ill_list.specs.declared.wanted.Wanted.{Wanted}
use Rattle.ill_rows.specs.Cells.{cell, title_text}
use Rattle.ill_list.specs.List.{columns_of, due_cell, is_mine, is_to_do, name_cells}
use Rattle.ill_beside.specs.Kept.{kept_of}
use Rattle.ill_beside.specs.NewsWords.{printed_words}

-- Returns true if a list is one of a morning: of what wants a hand, and of what came since a day.
abbrev pub is_morning : Wanted → Bool
is_morning wanted = is_mine wanted.which && is_some wanted.since

-- ---- the news of a loan

-- Returns what stands before further words: nothing at the beginning, and else a semicolon and a space.
abbrev pub break_after : List ℕ → List ℕ
break_after [] = []
break_after text = codes "; "

-- Returns `text`, and after it the words of the message `a` in the loan of a side.
abbrev pub with_words : Side → (text : List ℕ) → Apdu → List ℕ
with_words side text a = text ++ (break_after text ++ printed_words side a.body)

-- Returns the words of messages in the loan of a side, one after another.
abbrev pub words_of : Side → List Apdu → List ℕ
words_of side kept = fold (with_words side) [] kept

-- Returns the words of those of `news` that are of the loan of a side. Without news the text is empty.
abbrev pub news_text : (news : Option (List Apdu)) → Side → List ℕ
news_text None side = []
news_text (Some news) side = words_of side (kept_of (txn_of side) news)

-- Returns a text of the news of a loan, or a dash if it is empty.
abbrev pub text_or_dash : List ℕ → List ℕ
text_or_dash [] = codes "-"
text_or_dash text = text

-- ---- the line of a loan

-- Returns the length of the longest text that `text` gives of one of the loans.
abbrev pub widest : (Side → List ℕ) → List Side → ℕ
widest text sides = fold (λ width side. max width (length (text side))) 0 sides

-- Returns the columns of a morning's list: each is as wide as its longest text.
abbrev pub morning_columns : Wanted → (news : Option (List Apdu)) → List Side → MorningColumns
morning_columns wanted news listed = record {
  row = columns_of wanted listed;
  news = widest (λ side. text_or_dash (news_text news side)) listed;
}

-- Returns the beginning of the line of a loan: its due date if it wants a hand, and else the word that it has news
-- alone.
abbrev pub due_or_news : Wanted → Side → List ℕ
due_or_news wanted side = if is_to_do wanted side then codes "  " ++ due_cell side else cell 10 (codes "news:")

-- Returns the line of a loan: its beginning and its name, its news and its title.
unfoldable pub morning_row : MorningColumns → (news : Option (List Apdu)) → Wanted → Side → List ℕ
morning_row columns news wanted side =
    due_or_news wanted side ++ name_cells columns.row wanted.today side
    ++ cell columns.news (text_or_dash (news_text news side)) ++ title_text (item_asked (request_of side)) ++ codes "\n"
