-- Proves that a list without days does not depend on a diary.
use Rattle.std.proofs.Common.{◌≡◌, ℕ, Bool, true, false, cond, List, [], ◌∷◌, ◌++◌, length, Option, refl, sym, ap, ap₂, ◌∙◌}
use Rattle.std.specs.Prelude.{filter, find, if◌then◌else◌}
use Rattle.std.specs.List.{flat_map}
use Rattle.ill_list.specs.declared.row.Columns.{Columns}
use Rattle.ill_list.specs.declared.wanted.Wanted.{Wanted}
use Rattle.ill_list.specs.ListedNews.{listed_news}
use Rattle.ill_list.specs.List.{columns_of, counts_line, counts_of, has_work}
use Rattle.ill_list.specs.Listing.{chosen_of, lines_text, list_lines, listed_desk, morning_heading, morning_lines}
use Rattle.ill_rows.specs.Heading.{heading}
use Rattle.ill_list.specs.Listing.{note_shown, noted_row, section, since_shown, printed_morning, printed_row, work_heading}
use Rattle.ill_list.specs.Listing.{work_lines}
use Rattle.ill_list.specs.Morning.{is_morning, morning_columns, morning_row}
use Rattle.ill_list.specs.declared.morning.MorningColumns.{MorningColumns}
use Rattle.ill_beside.specs.Since.{AnnexRead, notes_alone, since_line, since_of}
use Rattle.ill_text.specs.declared.form.Form.TheVariants.{Lines}
use Rattle.ill_record.specs.declared.side.Side.{Side}
use Rattle.ill_words.specs.Waiting.{most_urgent_first}
use Rattle.ill_work.specs.declared.work.Work.{Work}
use Rattle.ill_work.specs.Work.{all_work}

-- If `one` and `other` give equal texts of each item, they give equal texts of all `items`.
same_texts : {X : Type 0} (one other : X → List ℕ) (items : List X) → ((item : X) → one item ≡ other item)
    → flat_map one items ≡ flat_map other items
same_texts one other [] same = refl
same_texts one other (item ∷ items) same = ap₂ (λ first rest. first ++ rest) (same item) (same_texts one other items same)

-- The list has no lines of days (`off`). The notes alone are `notes_alone annex`: it has the news that are printed, but
-- no diary and no messages that came.
module _ (wanted : Wanted) (off : wanted.has_since ≡ false) where
  -- A loan has no line of its day.
  no_day : (annex : AnnexRead) (side : Side) → since_shown annex wanted side ≡ []
  no_day annex side = ap (λ (b : Bool). if b then since_line (since_of annex side) else []) off

  -- The lines of a loan are those by the notes alone.
  row_stays : (columns : Columns) (annex : AnnexRead) (side : Side)
      → printed_row columns annex wanted side ≡ printed_row columns (notes_alone annex) wanted side
  row_stays columns annex side =
      ap (λ (day : List ℕ). (noted_row columns annex.notes wanted side ++ day) ++ listed_news annex.news side)
      (no_day annex side ∙ sym (no_day (notes_alone annex) side))

  -- The lines of a kind of work are those by the notes alone.
  work_stays : (columns : Columns) (annex : AnnexRead) (work : Work) (sides : List Side)
      → work_lines columns annex wanted work sides ≡ work_lines columns (notes_alone annex) wanted work sides
  work_stays columns annex work [] = refl
  work_stays columns annex work (first ∷ others) =
      ap (λ (rows : List ℕ). work_heading work (length (first ∷ others)) ++ rows)
      (same_texts (printed_row columns annex wanted) (printed_row columns (notes_alone annex) wanted) (first ∷ others)
      (row_stays columns annex))

  -- The lines of a loan in a morning's list are those by the notes alone.
  morning_row_stays : (columns : MorningColumns) (annex : AnnexRead) (side : Side)
      → printed_morning columns annex wanted side ≡ printed_morning columns (notes_alone annex) wanted side
  morning_row_stays columns annex side =
      ap (λ (day : List ℕ). morning_row columns annex.news wanted side ++ (note_shown annex.notes wanted side ++ day))
      (no_day annex side ∙ sym (no_day (notes_alone annex) side))

  -- The lines of a kind of work in a morning's list are those by the notes alone.
  morning_stays : (columns : MorningColumns) (annex : AnnexRead) (work : Work) (sides : List Side)
      → morning_lines columns annex wanted work sides ≡ morning_lines columns (notes_alone annex) wanted work sides
  morning_stays columns annex work [] = refl
  morning_stays columns annex work (first ∷ others) =
      ap (λ (rows : List ℕ). morning_heading work (length (first ∷ others)) ++ rows)
      (same_texts (printed_morning columns annex wanted) (printed_morning columns (notes_alone annex) wanted) (first ∷ others)
      (morning_row_stays columns annex))

  -- The lines of a kind of work are those by the notes alone, in a morning's list and in any other.
  text_stays : (annex : AnnexRead) (chosen : List Side) (work : Work) (sides : List Side)
      → lines_text wanted annex chosen wanted work sides ≡ lines_text wanted (notes_alone annex) chosen wanted work sides
  text_stays annex chosen work sides = go (is_morning wanted)
    where
      -- `morning` is true if the list is one of a morning.
      go : (morning : Bool)
          → cond morning (morning_lines (morning_columns wanted annex.news chosen) annex)
          (work_lines (columns_of wanted chosen) annex) wanted work sides
          ≡ cond morning (morning_lines (morning_columns wanted annex.news chosen) (notes_alone annex))
          (work_lines (columns_of wanted chosen) (notes_alone annex)) wanted work sides
      go true = morning_stays (morning_columns wanted annex.news chosen) annex work sides
      go false = work_stays (columns_of wanted chosen) annex work sides

  -- The lines of a list are those by the notes alone.
  list_stays : (find : Option (List ℕ)) (annex : AnnexRead) (sides : List Side)
      → list_lines wanted (record { find = find; annex = annex }) sides
      ≡ list_lines wanted (record { find = find; annex = notes_alone annex }) sides
  list_stays find annex sides =
      let ordered = most_urgent_first sides in
      let chosen = chosen_of wanted (record { find = find; annex = annex }) ordered in
      ap (λ (text : List ℕ). text ++ counts_line (counts_of wanted ordered))
      (same_texts (section (lines_text wanted annex chosen) wanted chosen)
      (section (lines_text wanted (notes_alone annex) chosen) wanted chosen) all_work
      (λ work. text_stays annex chosen work (filter (has_work wanted work) chosen)))

-- If a list has no lines of days, the lines of a desk are those by the notes alone (`notes_alone`).
pub no_list_depends : (is_headed : Bool) (wanted : Wanted) (find : Option (List ℕ)) (annex : AnnexRead) (path : List ℕ)
    (sides : List Side) → wanted.has_since ≡ false
    → listed_desk Lines is_headed wanted (record { find = find; annex = annex }) path sides
    ≡ listed_desk Lines is_headed wanted (record { find = find; annex = notes_alone annex }) path sides
no_list_depends is_headed wanted find annex path sides off =
    ap (λ (text : List ℕ). heading is_headed path ++ text) (list_stays wanted off find annex sides)
