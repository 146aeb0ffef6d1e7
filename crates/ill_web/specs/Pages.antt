-- The replies with pages. Nothing is known of the content of a desk's file, so the sides of a desk are any.
use Rattle.std.specs.Prelude.{◌≡◌, ◌⊎◌, ℕ, Bool, true, false, List, [], ◌++◌, map, length, find, ◌==◌, bytes_eq, Vec}
use Rattle.std.specs.Prelude.{Option, Some, None, Result, Ok, Err, IsErrAnd}
use Rattle.std.specs.declared.alloc.Global.{Global}
use Rattle.std.specs.List.{flat_map}
use Rattle.ill_values.specs.Day.{Date}
use Rattle.ill_values.specs.TxnId.{Qualifiers}
use Rattle.ill_saved.specs.declared.fault.DeskFault.TheVariants.{NoSuchTransaction}
use Rattle.ill_record.specs.declared.role.Role.{Role}
use Rattle.ill_record.specs.declared.side.Side.{Side}
use Rattle.ill_saved.specs.ManySides.{DeskContents, found_by, txn_held, sides_held}
use Rattle.ill_record.specs.Sides.{side_with}
use Rattle.ill_text.specs.declared.fault.ToolFault.{ToolFault}
use Rattle.ill_text.specs.declared.fault.ToolFault.TheVariants as tools
use Rattle.ill_text.specs.Fault.{IsOpenFault}
use Rattle.ill_show.specs.Loan.{FilesBeside, RunsLoan}
use Rattle.ill_show.specs.declared.loan.LoanForm.TheVariants.{Lines}
use Rattle.ill_beside.specs.Since.{AnnexRead}
use Rattle.ill_report.specs.declared.link.Place.{Place}
use Rattle.ill_news.specs.PrintedNews.{news_since}
use Rattle.ill_report.specs.Report.{unread_text}
use Rattle.ill_visits.specs.Visits.{CountsPaths}
use Rattle.ill_commands.specs.AtFile.{SlipAtFile}
use Rattle.ill_place.specs.Place.{file_at}
use Rattle.ill_figures.specs.Days.{span_between}
use Rattle.ill_figures.specs.declared.days.Span.{Span}
use Rattle.ill_browser.specs.Wanted.{LoanAsked}
use Rattle.ill_post.specs.Stamp.{stamp_of}
use Rattle.ill_page.specs.declared.reply.Status.TheVariants.{Good}
use Rattle.ill_page.specs.Desks.{desk_part, desks_begin, desks_end}
use Rattle.ill_page.specs.Page.{figures_page, loan_page, notice_page}
use Rattle.ill_page.specs.Reply.{page_reply}
use Rattle.ill_page.specs.declared.words.TheConstants.{UNCOUNTED}
use Rattle.ill_web.specs.declared.trouble.Trouble.{Trouble}
use Rattle.ill_web.specs.declared.trouble.Trouble.TheVariants as troubles
use Rattle.ill_web.specs.Troubles.{Telling, no_memory}

-- ---- what goes wrong

-- Returns the result of a function of the code that makes a reply, with the bytes of the reply.
abbrev pub said : Result (Vec ℕ Global) Trouble → Result (List ℕ) Trouble
said (Ok reply) = Ok reply.items
said (Err trouble) = Err trouble

-- The result is `wanted`. Or memory ran out.
abbrev pub Gives : {A : Type 0} → (wanted : A) → Result A Trouble → Type 0
Gives wanted (Ok value) = value ≡ wanted
Gives wanted (Err trouble) = trouble ≡ no_memory

-- A desk, or a file beside it, could not be opened, locked or read. Or memory ran out.
abbrev pub IsUnread : Trouble → Type 0
IsUnread (troubles.Desk fault) = IsOpenFault fault
IsUnread other = ⊥

-- Returns the loan at a place.
abbrev pub asked_at : Place → LoanAsked
asked_at place = record { desk = place.desk.now; txn = place.txn.now }

-- Returns the path of the desk that a text names, if it is one of `files`.
abbrev pub file_named : (files : List (List ℕ)) → (desk : List ℕ) → Option (List ℕ)
file_named files desk = find (λ file. bytes_eq file desk) files

-- If the text `desk` names one of `files`, the result is as `Answers` says. Else it is the trouble `NoDesk`.
abbrev pub AtDesk : (files : List (List ℕ)) → (desk : List ℕ) → (Result (List ℕ) Trouble → Type 0) → Result (List ℕ) Trouble →
    Type 0
AtDesk files desk Answers result =
    ((file_named files desk ≡ Some desk) × Answers result)
    ⊎ ((file_named files desk ≡ None) × (result ≡ Err troubles.NoDesk))

-- ---- the page of the desks

-- What is read of the desk in a file: its role, its sides and its annex, or the words for its fault.
abbrev pub DeskRead : Type 0
DeskRead = List ℕ × Result (Role × List Side × AnnexRead) (List ℕ)

-- Returns the path of the desk that was read.
abbrev pub file_of : DeskRead → List ℕ
file_of desk = desk.0

-- Returns the annex with the news of the day: what came today, by the diary.
abbrev pub with_news : Date → List Side → AnnexRead → AnnexRead
with_news today sides annex = record {
  notes = annex.notes;
  diary = annex.diary;
  came = annex.came;
  news = news_since (Some today) annex sides;
}

-- Returns the part of a page about the sides of a desk, with this annex.
abbrev pub sides_part : Date → (find : Option (List ℕ)) → (file : List ℕ) → Role → List Side → AnnexRead → List ℕ
sides_part today find file role sides annex =
    desk_part (record { today = today; find = find; file = file; role = role; sides = sides; annex = annex })

-- Returns the part of a page about a desk, with what came today. If the desk was not read, the part has the words for
-- its fault.
abbrev pub part_of : Date → (find : Option (List ℕ)) → DeskRead → List ℕ
part_of today find (file, Ok (role, sides, annex)) = sides_part today find file role sides (with_news today sides annex)
part_of today find (file, Err words) = unread_text file words

-- The page grew from `old` to `new` by a part about the desk in `file`.
abbrev pub AddsDesk : Date → (find : Option (List ℕ)) → (file old new : List ℕ) → Type 0
AddsDesk today find file old new = (desk : DeskRead) × (file_of desk ≡ file) × (new ≡ old ++ part_of today find desk)

-- The page grew from `old` to `new` by a part about each desk in `files`, in their order.
abbrev pub AddsDesks : Date → (find : Option (List ℕ)) → (files : List (List ℕ)) → (old new : List ℕ) → Type 0
AddsDesks today find files old new =
    (desks : List DeskRead) × (map file_of desks ≡ files) × (new ≡ old ++ flat_map (part_of today find) desks)

-- Returns the page of the desks that were read.
abbrev pub desks_page : Date → (find : Option (List ℕ)) → List DeskRead → List ℕ
desks_page today find desks = (desks_begin today find ++ flat_map (part_of today find) desks) ++ desks_end

-- The reply shows the desks in `files`, or the loans there that have the words `find`. Or memory ran out.
abbrev pub ShowsDesks : Date → (files : List (List ℕ)) → (find : Option (List ℕ)) → Result (List ℕ) Trouble → Type 0
ShowsDesks today files find (Ok reply) =
    (desks : List DeskRead) × (map file_of desks ≡ files) × (reply ≡ page_reply Good (desks_page today find desks))
ShowsDesks today files find (Err trouble) = trouble ≡ no_memory

-- ---- the page of a loan

-- Returns the page of the loan of `side` at the desk in `file`, with these lines.
abbrev pub page_of : Date → (file : List ℕ) → Side → (lines : List ℕ) → (notice : List ℕ) → List ℕ
page_of today file side lines notice =
    loan_page (record { today = today; desk = file; side = side; stamp = stamp_of (Some side); lines = lines }) notice

-- The lines are those of all that is known of a loan, as `ill loan` writes them.
abbrev pub AreLines : Qualifiers → DeskContents → (lines : List ℕ) → Type 0
AreLines txn live lines =
    (beside : FilesBeside) × RunsLoan Lines beside (found_by txn_held txn live.held) (Some []) (Some lines) (Ok tt)

-- The loan is one that a desk does not hold, and the reply has the notice of `told` alone. If `is_silent`, there is no
-- notice, and the result is the fault `NoSuchTransaction`.
abbrev pub TellsNone : (is_silent : Bool) → Date → Telling → Result (List ℕ) Trouble → Type 0
TellsNone true today told result = result ≡ Err (troubles.Desk (tools.Desk NoSuchTransaction))
TellsNone false today told result = Gives (page_reply told.status (notice_page today told.notice)) result

-- The reply shows the loan of `side`, which is one of a desk that holds `live`. It has the forms of what may be done on
-- the day, and the lines of all that is known of the loan. Or a file beside the desk could not be read.
abbrev pub ShowsSide : Date → Telling → LoanAsked → Side → DeskContents → Result (List ℕ) Trouble → Type 0
ShowsSide today told loan side live (Ok reply) =
    (lines : List ℕ) × AreLines loan.txn live lines
    × (reply ≡ page_reply told.status (page_of today loan.desk side lines told.notice))
ShowsSide today told loan side live (Err trouble) = IsUnread trouble

-- If the loan has a side at a desk that holds `live`, the reply shows it. Else the reply is as `TellsNone` says.
abbrev pub ShowsIfHeld : Option Side → Date → Telling → LoanAsked → DeskContents → Result (List ℕ) Trouble → Type 0
ShowsIfHeld (Some side) today told loan live result = ShowsSide today told loan side live result
ShowsIfHeld None today told loan live result = TellsNone (length told.notice == 0) today told result

-- The reply shows a loan of a desk that holds `live`, with the status and the notice of `told`.
abbrev pub ShowsHeld : Date → Telling → LoanAsked → DeskContents → Result (List ℕ) Trouble → Type 0
ShowsHeld today told loan live result =
    ShowsIfHeld (side_with loan.txn (sides_held live).sides) today told loan live result

-- The reply shows a loan of the desk that was opened, with the status and the notice of `told`. Or the desk could not
-- be opened.
abbrev pub ShowsLoan : Date → Telling → LoanAsked → Result (List ℕ) Trouble → Type 0
ShowsLoan today told loan result =
    IsErrAnd result IsUnread ⊎ ((live : DeskContents) × ShowsHeld today told loan live result)

-- ---- slips and figures

-- Returns the reply with the page that a command wrote, or its fault.
abbrev pub page_written : (page : List ℕ) → Result Bool ToolFault → Result (List ℕ) Trouble
page_written page (Ok is_success) = Ok (page_reply Good page)
page_written page (Err fault) = Err (troubles.Desk fault)

-- The reply has the slip of a loan, as `ill slip` writes it. Or the result is the fault of that command.
abbrev pub ShowsSlip : LoanAsked → Result (List ℕ) Trouble → Type 0
ShowsSlip loan result =
    (page : List ℕ) × (answer : Result Bool ToolFault) × SlipAtFile (file_at loan.desk) loan.txn (Some []) (Some page) answer
    × ((result ≡ page_written page answer) ⊎ (result ≡ Err no_memory))

-- Returns what is told beside figures whose command ended with `answer`. It is nothing if each desk was read.
abbrev pub uncounted : Result Bool ToolFault → List ℕ
uncounted (Ok is_success) = []
uncounted (Err fault) = UNCOUNTED.now

-- The reply has the figures of the desks in `files` in the span, as `ill figures` writes them. A desk that cannot be
-- read has no figures, and a notice says so. Without a span the result is the trouble `NoSpan`.
abbrev pub ShowsSpan : Date → (files : List (List ℕ)) → Option Span → Result (List ℕ) Trouble → Type 0
ShowsSpan today files None result = result ≡ Err troubles.NoSpan
ShowsSpan today files (Some span) (Ok reply) =
    (lines : List ℕ) × (answer : Result Bool ToolFault)
    × CountsPaths (record { span = span; is_csv = false }) files (Some []) (Some lines) answer
    × (reply ≡ page_reply Good (figures_page today (uncounted answer) lines))
ShowsSpan today files (Some span) (Err trouble) = trouble ≡ no_memory

-- The reply has the figures of the desks in `files` of the days from one to another, if the second is not before the
-- first.
abbrev pub ShowsFigures : Date → (files : List (List ℕ)) → (from to : Date) → Result (List ℕ) Trouble → Type 0
ShowsFigures today files from to result = ShowsSpan today files (span_between from to) result
