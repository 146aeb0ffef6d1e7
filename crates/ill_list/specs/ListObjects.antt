-- The objects that `list` writes with `--json`: their fields, in the order of the output.
use Rattle.std.specs.Prelude.{ℕ, List, [], ◌∷◌, ◌++◌, codes, Option}
use Rattle.std.specs.Fmt.{decimal}
use Rattle.ill_values.specs.Day.{Date}
use Rattle.ill_core.specs.State.{state_name}
use Rattle.ill_record.specs.declared.side.Side.{Side}
use Rattle.ill_record.specs.Side.{txn_of, state_of, due_date_of}
use Rattle.ill_list.specs.declared.counts.Counts.{Counts}
use Rattle.ill_text.specs.Json.{Field, array, day, optional, quoted}
use Rattle.ill_work.specs.declared.work.Work.{Work}
use Rattle.ill_work.specs.Work.{work_words}
use Rattle.ill_words.specs.Possible.{request_of, item_asked}
use Rattle.ill_text.specs.ApduObject.{object_line}
use Rattle.ill_list.specs.ListedNews.{listed_news_fields}
use Rattle.ill_rows.specs.Heading.{file_fields}
use Rattle.ill_show.specs.Objects.{names_of}
use Rattle.ill_beside.specs.Notes.{note_fields, note_of}
use Rattle.ill_beside.specs.Since.{AnnexRead, since_fields, since_of}

-- Returns the field that says that a line is of a loan, and the field of its work.
abbrev pub kind_fields : Work → List Field
kind_fields work = (codes "kind", quoted (codes "loan")) ∷ (codes "work", quoted (work_words work)) ∷ []

-- Returns the fields that say how a loan stands: its state, due date, qualifiers and item, and the actions `names`.
abbrev pub listed_fields : Side → List (List ℕ) → List Field
listed_fields side names =
    (codes "state", quoted (state_name (state_of side)))
    ∷ (codes "due", optional day (due_date_of side)) ∷ (codes "group", quoted (txn_of side).group)
    ∷ (codes "transaction", quoted (txn_of side).transaction) ∷ (codes "now", array quoted names)
    ∷ (codes "item", optional quoted (item_asked (request_of side))) ∷ []

-- Returns the fields of a listed loan with this work and the actions `names`.
abbrev pub row_fields : Work → Side → List (List ℕ) → List Field
row_fields work side names = kind_fields work ++ listed_fields side names

-- Returns the fields of a listed loan with this work and its note, with the actions of the day `today`.
abbrev pub noted_fields : (notes : List (List ℕ)) → Option Date → Work → Side → List Field
noted_fields notes today work side = row_fields work side (names_of today side) ++ note_fields (note_of notes (txn_of side))

-- Returns the fields of `noted_fields`, and the field of the day since which the loan stands as it does.
abbrev pub dated_fields : AnnexRead → Option Date → Work → Side → List Field
dated_fields annex today work side = noted_fields annex.notes today work side ++ since_fields (since_of annex side)

-- Returns the fields of `dated_fields`, and the field of the news of the loan.
abbrev pub full_row_fields : AnnexRead → Option Date → Work → Side → List Field
full_row_fields annex today work side = dated_fields annex today work side ++ listed_news_fields annex.news side

-- Returns the object of a listed loan with this work, with the actions of the day `today`. It has the fields of
-- `full_row_fields` and the path `file` of the desk, if there is one.
unfoldable pub row_object : Option (List ℕ) → AnnexRead → Option Date → Work → Side → List ℕ
row_object file annex today work side = object_line (full_row_fields annex today work side ++ file_fields file)

-- Returns the fields of the counts of a desk.
abbrev pub counts_fields : Counts → List Field
counts_fields counts =
    (codes "kind", quoted (codes "counts")) ∷ (codes "loans", decimal counts.loans)
    ∷ (codes "open", decimal counts.open_loans) ∷ (codes "todo", decimal counts.to_do)
    ∷ (codes "room", decimal counts.room) ∷ []

-- Returns the object of the counts of a desk, with the path `file` of the desk, if there is one.
abbrev pub counts_object : Option (List ℕ) → Counts → List ℕ
counts_object file counts = object_line (counts_fields counts ++ file_fields file)
