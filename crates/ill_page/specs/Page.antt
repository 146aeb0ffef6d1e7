-- The page of a loan, the page of figures, and a page with a notice. Texts that people wrote go into them by
-- `html_text` and `html_escaped`.
use Rattle.std.specs.Prelude.{ℕ, List, [], ◌++◌, codes, length, ◌==◌, if◌then◌else◌, Option, Some, None}
use Rattle.ill_values.specs.Day.{Date}
use Rattle.ill_record.specs.declared.side.Side.{Side}
use Rattle.ill_record.specs.Side.{txn_of}
use Rattle.ill_text.specs.Html.{html_escaped, html_text}
use Rattle.ill_words.specs.Possible.{possible_on, request_of, item_asked}
use Rattle.ill_beside.specs.StateWords.{state_words}
use Rattle.ill_report.specs.Link.{PlaceShown, place_text}
use Rattle.ill_report.specs.Report.{page_head_with}
use Rattle.ill_page.specs.declared.page.LoanShown.{LoanShown}
use Rattle.ill_page.specs.declared.parts.TheConstants.{ALERT, ALERT_END, COUNTED_END, END, KNOWN_END, LOAN, SLIP, STATE, STYLE}
use Rattle.ill_page.specs.declared.words.TheConstants.{ALL, COUNTED, KNOWN, POSSIBLE, SLIP_END}
use Rattle.ill_page.specs.Forms.{forms_text, note_text}

-- A loan that is shown: the day, the text for its desk, the side of this library, its stamp, and the lines of all that
-- is known of it.
pub record LoanSeen : Type 0 where
  pub today : Date
  pub desk : List ℕ
  pub side : Side
  pub stamp : List ℕ
  pub lines : List ℕ

-- Returns what a `LoanShown` of the code holds.
abbrev pub loan_seen : LoanShown → LoanSeen
loan_seen shown = record {
  today = shown.today;
  desk = shown.desk.now;
  side = shown.side.now;
  stamp = shown.stamp.now;
  lines = shown.lines.now;
}

-- ---- what all pages have

-- Returns a notice for the reader, if there is one.
abbrev pub notice_text : List ℕ → List ℕ
notice_text notice = if length notice == 0 then [] else ALERT.now ++ (html_text notice ++ ALERT_END.now)

-- Returns the beginning of a page: its head, the link to the page of all loans, and `notice`.
unfoldable pub begun_text : Date → (notice : List ℕ) → List ℕ
begun_text today notice = page_head_with STYLE.now today ++ (ALL.now ++ notice_text notice)

-- Returns the page with a notice alone.
unfoldable pub notice_page : Date → (notice : List ℕ) → List ℕ
notice_page today notice = begun_text today notice ++ END.now

-- ---- the page of a loan

-- Returns the title of a loan, or a dash if it has none.
abbrev pub title_text : Option (List ℕ) → List ℕ
title_text (Some title) = html_text title
title_text None = codes "-"

-- Returns the loan on a page: its desk and its transaction.
abbrev pub place_of : LoanSeen → PlaceShown
place_of seen = record { desk = seen.desk; txn = txn_of seen.side }

-- Returns a form for each action that may be done on the day of the page.
abbrev pub possible_text : LoanSeen → List ℕ
possible_text seen =
    forms_text (record { place = place_of seen; stamp = seen.stamp; today = seen.today })
    (possible_on (Some seen.today) seen.side)

-- Returns the link to the slip of a loan.
unfoldable pub slip_text : PlaceShown → List ℕ
slip_text place = SLIP.now ++ (html_escaped (place_text place) ++ SLIP_END.now)

-- Returns all that may be done now: the forms of actions and of a note, and the way to the slip.
unfoldable pub ways_text : LoanSeen → List ℕ
ways_text seen = possible_text seen ++ (note_text (place_of seen) ++ slip_text (place_of seen))

-- Returns the lines of all that is known of a loan.
unfoldable pub lines_text : (lines : List ℕ) → List ℕ
lines_text lines = KNOWN.now ++ (html_escaped lines ++ KNOWN_END.now)

-- Returns what the page of a loan has below its title: its state in words, the forms, and all that is known of it.
unfoldable pub known_text : LoanSeen → List ℕ
known_text seen =
    STATE.now ++ (state_words seen.side ++ (POSSIBLE.now ++ (ways_text seen ++ lines_text seen.lines)))

-- Returns the page of a loan: its title, its state, the forms, and all that is known of it.
unfoldable pub loan_page : LoanSeen → (notice : List ℕ) → List ℕ
loan_page seen notice =
    begun_text seen.today notice
    ++ (LOAN.now ++ (title_text (item_asked (request_of seen.side)) ++ (known_text seen ++ END.now)))

-- ---- the page of figures

-- Returns the page with the lines of figures, and `notice` before them. If `notice` is empty, the page has no notice.
unfoldable pub figures_page : Date → (notice lines : List ℕ) → List ℕ
figures_page today notice lines =
    begun_text today notice ++ (COUNTED.now ++ (html_escaped lines ++ (COUNTED_END.now ++ END.now)))
