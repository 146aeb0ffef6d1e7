-- The command `report`: a page of HTML of the loans of desks. Texts that people wrote go into it by
-- `html_text`: the file, the item, the note and both qualifiers. All else is a constant of this program, a name, a
-- number or a date.
use Rattle.std.specs.Prelude.{ℕ, ◌-◌, Bool, ◌==◌, if◌then◌else◌, List, [], ◌++◌, length, filter, count_by, codes}
use Rattle.std.specs.Prelude.{Option, Some, None, option_map}
use Rattle.std.specs.List.{flat_map}
use Rattle.std.specs.Fmt.{decimal}
use Rattle.ill_values.specs.Day.{Date, iso_text}
use Rattle.ill_values.specs.declared.apdu.Apdu.{Apdu}
use Rattle.ill_core.specs.declared.verb.Verb.{Verb}
use Rattle.ill_core.specs.Verbs.{verb_name}
use Rattle.ill_core.specs.ResponderActions.{expiry_of}
use Rattle.ill_record.specs.declared.side.Side.{Side}
use Rattle.ill_record.specs.Side.{txn_of, due_date_of}
use Rattle.ill_record.specs.Sides.{most_sides}
use Rattle.ill_text.specs.Html.{html_escaped, html_text}
use Rattle.ill_words.specs.Possible.{possible_on, request_of, item_asked}
use Rattle.ill_words.specs.Waiting.{most_urgent_first}
use Rattle.ill_work.specs.declared.work.Work.{Work}
use Rattle.ill_work.specs.declared.work.Work.TheVariants.{Over}
use Rattle.ill_work.specs.Order.{count_of, has_work}
use Rattle.ill_work.specs.Table.{kind_of_work}
use Rattle.ill_work.specs.Work.{all_work, wants_a_hand, work_words}
use Rattle.ill_report.specs.declared.report_parts.Field.{Field}
use Rattle.ill_report.specs.declared.report_parts.Field.TheVariants as fields
use Rattle.ill_report.specs.declared.report_parts.TheConstants.{PAGE, STYLE_END, DESKS, END, DESK, TO_DO, OPEN}
use Rattle.ill_report.specs.declared.report_parts.TheConstants.{LOANS, ROOM, COUNTS_END}
use Rattle.ill_report.specs.declared.report_parts.TheConstants.{DESK_END, TASK, HEADING, COUNT, TABLE, ROW, TABLE_END, UNREAD}
use Rattle.ill_report.specs.declared.report_parts.TheConstants.{NEWS, NEWS_END, UNREAD_END, TIME_END, NOTE, NOTE_END, SINCE}
use Rattle.ill_rows.specs.declared.soon.TheConstants.{SOON}
use Rattle.ill_report.specs.declared.report.PageView.{PageView}
use Rattle.ill_rows.specs.Finding.{is_found}
use Rattle.ill_report.specs.Link.{linked_text}
use Rattle.ill_rows.specs.Cells.{title_text}
use Rattle.ill_beside.specs.Kept.{kept_of}
use Rattle.ill_beside.specs.NewsWords.{printed_words}
use Rattle.ill_beside.specs.Notes.{note_of}
use Rattle.ill_beside.specs.Since.{AnnexRead, since_of}
use Rattle.ill_beside.specs.StateWords.{state_words}

-- The view of a page: its day `today`, and the words that are sought in its loans, if any are (`find`). If its rows
-- have links, `linked` is the text that names the desk in them.
pub record PageShown : Type 0 where
  pub today : Date
  pub find : Option (List ℕ)
  pub linked : Option (List ℕ)

-- Returns what a `PageView` of the code holds.
abbrev pub page_shown : PageView → PageShown
page_shown view = record {
  today = view.today;
  find = option_map (λ words. words.now) view.find;
  linked = option_map (λ desk. desk.now) view.linked;
}

-- Returns the page of a report on this day: no words are sought, and no row has a link.
abbrev pub report_of : Date → PageShown
report_of today = record { today = today; find = None; linked = None }

-- ---- the row of a loan

-- Returns the words of a deadline: the due date, or else the expiry date of the request, if there is one.
abbrev pub deadline_text : Option Date → Option Date → List ℕ
deadline_text (Some due) expiry = codes "due <time>" ++ (iso_text due ++ TIME_END.now)
deadline_text None (Some expiry) = codes "expires <time>" ++ (iso_text expiry ++ TIME_END.now)
deadline_text None None = []

-- Returns the text of an action that this library may do: the name of its verb.
abbrev pub action_text : Verb → List ℕ
action_text verb = codes "<code>" ++ (verb_name verb ++ codes "</code> ")

-- Returns the text of the note on a loan, if there is one.
abbrev pub noted_text : Option (List ℕ) → List ℕ
noted_text None = []
noted_text (Some words) = NOTE.now ++ (html_text words ++ NOTE_END.now)

-- Returns the text of the day since which a loan stands as it does, if the day is known.
abbrev pub since_text : Option Date → List ℕ
since_text None = []
since_text (Some day) = SINCE.now ++ (iso_text day ++ TIME_END.now) ++ NOTE_END.now

-- Returns the text of a message in the news of a loan.
unfoldable pub news_mark : Side → Apdu → List ℕ
news_mark side a = NEWS.now ++ (html_text (printed_words side a.body) ++ NEWS_END.now)

-- Returns the texts of those of `news` that are of the loan of a side, if news are printed.
abbrev pub news_marks : (news : Option (List Apdu)) → Side → List ℕ
news_marks None side = []
news_marks (Some news) side = flat_map (news_mark side) (kept_of (txn_of side) news)

-- Returns the value of a field of a loan.
abbrev pub value_text : PageShown → AnnexRead → Side → Field → List ℕ
value_text page annex side fields.Title =
    linked_text page.linked (txn_of side) (html_escaped (title_text (item_asked (request_of side))))
    ++ noted_text (note_of annex.notes (txn_of side))
value_text page annex side fields.Group = html_text (txn_of side).group
value_text page annex side fields.Transaction = html_text (txn_of side).transaction
value_text page annex side fields.State =
    state_words side ++ (since_text (since_of annex side) ++ news_marks annex.news side)
value_text page annex side fields.Deadline = deadline_text (due_date_of side) (expiry_of (request_of side))
value_text page annex side fields.Actions = flat_map action_text (possible_on (Some page.today) side)

-- Returns the text of the page before a field.
abbrev pub before : Field → List ℕ
before fields.Title = codes "<tr><th scope=\"row\" dir=\"auto\">"
before fields.Group = codes "<td><bdi>"
before fields.Transaction = codes "<bdi>"
before other = codes "<td>"

-- Returns the text of the page after a field.
abbrev pub after : Field → List ℕ
after fields.Title = codes "</th>"
after fields.Group = codes "</bdi> "
after fields.Transaction = codes "</bdi></td>"
after fields.Actions = codes "</td></tr>\n"
after other = codes "</td>"

-- Returns a field of a loan, between the texts before and after it.
abbrev pub field_text : PageShown → AnnexRead → Side → Field → List ℕ
field_text page annex side field = before field ++ (value_text page annex side field ++ after field)

-- Returns the row of a loan: its fields, one after another.
abbrev pub row_text : PageShown → AnnexRead → Side → List ℕ
row_text page annex side = flat_map (field_text page annex side) ROW

-- ---- the loans of a desk

-- Returns `words`, and then a number.
unfoldable pub counted : List ℕ → ℕ → List ℕ
counted words count = words ++ decimal count

-- Returns true if the work with a loan wants a hand on the day `today`.
abbrev pub is_to_do : Date → Side → Bool
is_to_do today side = wants_a_hand (kind_of_work today SOON side)

-- Returns the counts of a desk on the day `today`. They are of loans that want a hand, open loans, all loans, and the
-- room for further ones.
unfoldable pub counts_text : Date → List Side → List ℕ
counts_text today sides =
    counted TO_DO.now (count_by (is_to_do today) sides)
    ++ (counted OPEN.now (length sides - count_of today SOON Over sides)
    ++ (counted LOANS.now (length sides)
    ++ (counted ROOM.now (most_sides - length sides) ++ COUNTS_END.now)))

-- Returns the text before the words of a kind of work. It marks work that wants a hand.
abbrev pub heading : Work → List ℕ
heading work = if wants_a_hand work then TASK.now else HEADING.now

-- Returns the rows of the loans with this work.
abbrev pub rows_text : PageShown → AnnexRead → Work → List Side → List ℕ
rows_text page annex work sides = flat_map (row_text page annex) (filter (has_work page.today SOON work) sides)

-- Returns the words for this work, the number of its loans, and the head of their table.
unfoldable pub table_head : Work → ℕ → List ℕ
table_head work count = heading work ++ (work_words work ++ (counted COUNT.now count ++ TABLE.now))

-- Returns the table of the loans with this work: its head, and a row for each.
unfoldable pub table_text : PageShown → AnnexRead → List Side → Work → List ℕ
table_text page annex sides work =
    table_head work (count_of page.today SOON work sides) ++ (rows_text page annex work sides ++ TABLE_END.now)

-- Returns the table of the loans with this work, or nothing if there is no such loan.
abbrev pub work_text : PageShown → AnnexRead → List Side → Work → List ℕ
work_text page annex sides work =
    if count_of page.today SOON work sides == 0 then [] else table_text page annex sides work

-- Returns a table for each kind of work that one of the loans has, the most pressing first.
abbrev pub works_text : PageShown → AnnexRead → List Side → List ℕ
works_text page annex sides = flat_map (work_text page annex sides) all_work

-- Returns the loans of a desk: the counts of all, and tables of those that have the words that are sought.
unfoldable pub loans_text : PageShown → AnnexRead → List Side → List ℕ
loans_text page annex sides =
    counts_text page.today sides ++ works_text page annex (filter (is_found page.find annex.notes) sides)

-- Returns the part of a page about a desk: its file, and its loans with what the annex tells of them. In each table the
-- most urgent loan is first.
unfoldable pub desk_text : PageShown → (file : List ℕ) → List Side → AnnexRead → List ℕ
desk_text page file sides annex =
    DESK.now ++ (html_text file ++ (loans_text page annex (most_urgent_first sides) ++ DESK_END.now))

-- ---- a desk that cannot be read, and the head and the end of a page

-- Returns the part of a page about a desk that cannot be read: its file, and the text of the fault.
unfoldable pub unread_text : List ℕ → List ℕ → List ℕ
unread_text file words = DESK.now ++ (html_text file ++ (UNREAD.now ++ (html_text words ++ UNREAD_END.now)))

-- Returns the text before the desks of a page of this day. `style` has further rules of its style.
unfoldable pub page_head_with : (style : List ℕ) → Date → List ℕ
page_head_with style today = PAGE.now ++ (style ++ (STYLE_END.now ++ (iso_text today ++ DESKS.now)))

-- Returns the text before the desks of a report of this day.
abbrev pub page_head : Date → List ℕ
page_head today = page_head_with [] today

-- The text that ends a page.
abbrev pub page_end : List ℕ
page_end = END.now
