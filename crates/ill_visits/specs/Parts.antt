-- The page of several desks: a part about each.
use Rattle.std.specs.Prelude.{◌≡◌, ℕ, Bool, true, List, ◌++◌, Option, map, Result, Ok, Err}
use Rattle.std.specs.List.{flat_map}
use Rattle.ill_values.specs.Day.{Date}
use Rattle.ill_record.specs.declared.side.Side.{Side}
use Rattle.ill_text.specs.declared.fault.ToolFault.{ToolFault}
use Rattle.ill_text.specs.Visits.{gravest_of}
use Rattle.ill_beside.specs.Since.{AnnexRead}
use Rattle.ill_news.specs.PrintedNews.{news_since}
use Rattle.ill_report.specs.Report.{desk_text, page_end, page_head, report_of, unread_text}

-- A part of a page: the path of a desk, and the sides of the desk with its annex. If the desk cannot be read, the part
-- has the fault and its text instead.
abbrev pub Part : Type 0
Part = List ℕ × Result (List Side × AnnexRead) (ToolFault × List ℕ)

-- Returns `annex`, the annex of a desk with `sides`, with the news since the day `since`. Without a day it has none.
abbrev pub with_news : Option Date → List Side → AnnexRead → AnnexRead
with_news since sides annex = record {
  notes = annex.notes;
  diary = annex.diary;
  came = annex.came;
  news = news_since since annex sides;
}

-- Returns the text of a part. If a day `since` is given, its loans have their news since that day.
abbrev pub part_text : Date → (since : Option Date) → Part → List ℕ
part_text today since (file, Ok (sides, annex)) = desk_text (report_of today) file sides (with_news since sides annex)
part_text today since (file, Err (fault, words)) = unread_text file words

-- Returns true if the desk of a part was read, else its fault.
abbrev pub part_answer : Part → Result Bool ToolFault
part_answer (file, Ok loans) = Ok true
part_answer (file, Err (fault, words)) = Err fault

-- Returns the gravest of the faults in `parts`, or true if each desk was read.
abbrev pub gravest_part : List Part → Result Bool ToolFault
gravest_part parts = gravest_of (map part_answer parts)

-- Returns the page of the day with `parts`. If a day `since` is given, their loans have their news since that day.
abbrev pub report_page : Date → (since : Option Date) → List Part → List ℕ
report_page today since parts = page_head today ++ flat_map (part_text today since) parts ++ page_end

-- The page `after` is `before`, and then a part about the desk in `file`. `answer` is true, or the fault in this part.
abbrev pub AddsPart : Date → (since : Option Date) → List ℕ → List ℕ → List ℕ → Result Bool ToolFault → Type 0
AddsPart today since file before after answer =
    (part : Part) × (part.0 ≡ file) × (after ≡ before ++ part_text today since part) × (answer ≡ part_answer part)

-- The page `after` is `before`, and then a part for each of `files`. `answer` is the gravest of their faults.
abbrev pub AddsParts : Date → (since : Option Date) → List (List ℕ) → List ℕ → List ℕ → Result Bool ToolFault → Type 0
AddsParts today since files before after answer =
    (parts : List Part) × (map (λ part. part.0) parts ≡ files) × (after ≡ before ++ flat_map (part_text today since) parts)
    × (answer ≡ gravest_part parts)
