-- The texts of `list`, in lines or in objects of JSON.
use Rattle.std.specs.Prelude.{ℕ, Bool, if◌then◌else◌, List, [], ◌∷◌, ◌++◌, length, filter, Option}
use Rattle.std.specs.Prelude.{option_map, codes}
use Rattle.std.specs.List.{flat_map}
use Rattle.std.specs.Fmt.{decimal}
use Rattle.ill_record.specs.declared.side.Side.{Side}
use Rattle.ill_record.specs.Side.{txn_of}
use Rattle.ill_text.specs.declared.form.Form.{Form}
use Rattle.ill_text.specs.declared.form.Form.TheVariants.{Lines, Json}
use Rattle.ill_list.specs.declared.wanted.Wanted.{Wanted}
use Rattle.ill_list.specs.declared.counts.Counts.{Counts}
use Rattle.ill_list.specs.declared.row.Columns.{Columns}
use Rattle.ill_list.specs.declared.list.Rows.{Rows}
use Rattle.ill_list.specs.declared.morning.MorningColumns.{MorningColumns}
use Rattle.ill_list.specs.declared.list.Rows.TheVariants as rows
use Rattle.ill_words.specs.Waiting.{most_urgent_first}
use Rattle.ill_work.specs.declared.work.Work.{Work}
use Rattle.ill_work.specs.Work.{all_work, wants_a_hand, work_words}
use Rattle.ill_list.specs.List.{columns_of, row, has_work, listed_of, counts_of, counts_line}
use Rattle.ill_list.specs.ListObjects.{row_object, counts_object}
use Rattle.ill_list.specs.Seeking.{Seeking, found_of}
use Rattle.ill_list.specs.ListedNews.{listed_news}
use Rattle.ill_rows.specs.Heading.{file_printed, heading}
use Rattle.ill_list.specs.Morning.{is_morning, morning_columns, morning_row}
use Rattle.ill_beside.specs.Notes.{listed_note, note_of}
use Rattle.ill_beside.specs.Since.{AnnexRead, annex_of, since_line, since_of}

-- ---- the lines and the objects of the loans with one kind of work

-- Returns the heading of a kind of work with `count` listed loans.
abbrev pub work_heading : Work → ℕ → List ℕ
work_heading work count = work_words work ++ (codes " (" ++ (decimal count ++ codes "):\n"))

-- Returns the line of the note of a loan, if the list has notes and there is one.
abbrev pub note_shown : (notes : List (List ℕ)) → Wanted → Side → List ℕ
note_shown notes wanted side = if wanted.has_notes then listed_note (note_of notes (txn_of side)) else []

-- Returns the line of a loan, and the line of its note below it.
abbrev pub noted_row : Columns → (notes : List (List ℕ)) → Wanted → Side → List ℕ
noted_row columns notes wanted side = row columns wanted.today side ++ note_shown notes wanted side

-- Returns the line of the day since which a loan stands as it does, if the list has such lines and the day is known.
abbrev pub since_shown : AnnexRead → Wanted → Side → List ℕ
since_shown annex wanted side = if wanted.has_since then since_line (since_of annex side) else []

-- Returns the line of a loan, and those of its note and its day below it.
abbrev pub dated_row : Columns → AnnexRead → Wanted → Side → List ℕ
dated_row columns annex wanted side = noted_row columns annex.notes wanted side ++ since_shown annex wanted side

-- Returns the line of a loan, those of its note and its day below it, and then those of its news.
abbrev pub printed_row : Columns → AnnexRead → Wanted → Side → List ℕ
printed_row columns annex wanted side = dated_row columns annex wanted side ++ listed_news annex.news side

-- Returns the lines of the loans with this work: a heading, and those of each. Without a loan there is no line.
abbrev pub work_lines : Columns → AnnexRead → Wanted → Work → List Side → List ℕ
work_lines columns annex wanted work [] = []
work_lines columns annex wanted work (first ∷ others) =
    work_heading work (length (first ∷ others)) ++ flat_map (printed_row columns annex wanted) (first ∷ others)

-- Returns the line of a loan in a morning's list, and those of its note and its day below it.
abbrev pub printed_morning : MorningColumns → AnnexRead → Wanted → Side → List ℕ
printed_morning columns annex wanted side =
    morning_row columns annex.news wanted side ++ (note_shown annex.notes wanted side ++ since_shown annex wanted side)

-- Returns the heading of a kind of work with `count` loans in a morning's list: none if that work wants no hand.
abbrev pub morning_heading : Work → ℕ → List ℕ
morning_heading work count = if wants_a_hand work then work_heading work count else []

-- Returns the lines of the loans with this work in a morning's list: a heading, and those of each. Without a loan there
-- is no line.
abbrev pub morning_lines : MorningColumns → AnnexRead → Wanted → Work → List Side → List ℕ
morning_lines columns annex wanted work [] = []
morning_lines columns annex wanted work (first ∷ others) =
    morning_heading work (length (first ∷ others)) ++ flat_map (printed_morning columns annex wanted) (first ∷ others)

-- Returns the objects of the loans with this work.
abbrev pub work_objects : Option (List ℕ) → AnnexRead → Wanted → Work → List Side → List ℕ
work_objects file annex wanted work sides = flat_map (row_object file annex wanted.today work) sides

-- ---- the loans of a desk, kind by kind, and the counts

-- Returns what `text` gives of those of the listed loans that have this work, in their order.
abbrev pub section : (Wanted → Work → List Side → List ℕ) → Wanted → List Side → Work → List ℕ
section text wanted listed work = text wanted work (filter (has_work wanted work) listed)

-- Returns what `text` gives of the listed loans, kind by kind, the most pressing work first.
abbrev pub sections : (Wanted → Work → List Side → List ℕ) → Wanted → List Side → List ℕ
sections text wanted listed = flat_map (section text wanted listed) all_work

-- Returns the loans of `sides` that are listed, and have the words that are sought.
abbrev pub chosen_of : Wanted → Seeking → List Side → List Side
chosen_of wanted seeking sides = found_of seeking (listed_of wanted seeking.annex.news sides)

-- Returns what `text` gives of the chosen loans, and then what `counts_text` gives of the counts of all loans. Loans
-- with one kind of work are in the order of `sides`.
abbrev pub listed : (Wanted → Work → List Side → List ℕ) → (Counts → List ℕ) → Wanted → Seeking → List Side → List ℕ
listed text counts_text wanted seeking sides =
    sections text wanted (chosen_of wanted seeking sides) ++ counts_text (counts_of wanted sides)

-- Returns the function that gives the text of the loans with one kind of work, in the form `rows`.
abbrev pub work_text : Rows → Wanted → Work → List Side → List ℕ
work_text (rows.Lines lines) = work_lines lines.columns (annex_of lines.annex.now)
work_text (rows.Morning lines) = morning_lines lines.columns (annex_of lines.annex.now)
work_text (rows.Objects objects) = work_objects (option_map (λ path. path.now) objects.file) (annex_of objects.annex.now)

-- Returns the counts as a line or an object, by the form `rows`.
abbrev pub counts_text : Rows → Counts → List ℕ
counts_text (rows.Lines lines) = counts_line
counts_text (rows.Morning lines) = counts_line
counts_text (rows.Objects objects) = counts_object (option_map (λ path. path.now) objects.file)

-- Returns the function that writes the lines of the `chosen` loans with one kind of work. Its columns are wide enough
-- for all chosen loans.
abbrev pub lines_text : Wanted → AnnexRead → (chosen : List Side) → (Wanted → Work → List Side → List ℕ)
lines_text wanted annex chosen =
    if is_morning wanted then morning_lines (morning_columns wanted annex.news chosen) annex
    else work_lines (columns_of wanted chosen) annex

-- Returns the lines of a list of `sides`. Loans with one kind of work are in the order of `sides`.
abbrev pub ordered_lines : Wanted → Seeking → List Side → List ℕ
ordered_lines wanted seeking sides =
    listed (lines_text wanted seeking.annex (chosen_of wanted seeking sides)) counts_line wanted seeking sides

-- Returns the lines of a desk. Loans with one kind of work are in the order of their deadlines.
abbrev pub list_lines : Wanted → Seeking → List Side → List ℕ
list_lines wanted seeking sides = ordered_lines wanted seeking (most_urgent_first sides)

-- Returns the objects of a desk, in the order of `list_lines`.
abbrev pub list_objects : Option (List ℕ) → Wanted → Seeking → List Side → List ℕ
list_objects file wanted seeking sides =
    listed (work_objects file (seeking.annex)) (counts_object file) wanted seeking (most_urgent_first sides)

-- ---- a desk with its path

-- Returns the text of a listed desk in this form. If `is_headed` is true, it has the path of the desk.
abbrev pub listed_desk : Form → Bool → Wanted → Seeking → List ℕ → List Side → List ℕ
listed_desk Lines is_headed wanted seeking path sides = heading is_headed path ++ list_lines wanted seeking sides
listed_desk Json is_headed wanted seeking path sides = list_objects (file_printed is_headed path) wanted seeking sides
