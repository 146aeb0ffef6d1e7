-- The troubles for which a request does not get what it asks for, and what a reader is told of each.
use Rattle.std.specs.Prelude.{ℕ, List}
use Rattle.ill_values.specs.Day.{Date}
use Rattle.ill_saved.specs.declared.fault.DeskFault.TheVariants.{NoSuchTransaction, Store}
use Rattle.ill_text.specs.declared.fault.ToolFault.{ToolFault}
use Rattle.ill_text.specs.declared.fault.ToolFault.TheVariants as tools
use Rattle.ill_browser.specs.declared.fault.VisitFault.{VisitFault}
use Rattle.ill_browser.specs.declared.fault.VisitFault.TheVariants as visits
use Rattle.ill_page.specs.declared.reply.Status.{Status}
use Rattle.ill_page.specs.declared.reply.Status.TheVariants as statuses
use Rattle.ill_page.specs.declared.words.TheConstants.{NO_PAGE, METHOD, FOREIGN, NO_USER, NO_FORM, NO_LENGTH, TOO_LONG}
use Rattle.ill_page.specs.declared.words.TheConstants.{CUT, FIELDS, NO_DESK, NO_NAME, NO_SPAN, NO_NOTE, OTHER_GROUP}
use Rattle.ill_page.specs.declared.words.TheConstants.{NO_LOAN, BUSY, NO_DESK_FILE, OUT_OF_MEMORY}
use Rattle.ill_page.specs.Page.{notice_page}
use Rattle.ill_page.specs.Reply.{page_reply}
use Rattle.ill_web.specs.declared.told.Told.{Told}
use Rattle.ill_web.specs.declared.trouble.Trouble.{Trouble}
use Rattle.ill_web.specs.declared.trouble.Trouble.TheVariants as troubles

-- What a reply tells a reader beside a page: its status, and a notice, which may be empty.
pub record Telling : Type 0 where
  pub status : Status
  pub notice : List ℕ

-- Returns what a `Told` of the code holds.
abbrev pub telling : Told → Telling
telling told = record { status = told.status; notice = told.notice.now }

-- Returns what is told with this status and this notice.
abbrev pub tells : Status → List ℕ → Telling
tells status notice = record { status = status; notice = notice }

-- Returns what is told of a request that was refused.
abbrev pub refused : VisitFault → Telling
refused visits.NoPage = tells statuses.NoPage NO_PAGE.now
refused visits.Method = tells statuses.Method METHOD.now
refused visits.Foreign = tells statuses.Foreign FOREIGN.now
refused visits.NoUser = tells statuses.Foreign NO_USER.now
refused visits.NoForm = tells statuses.NoForm NO_FORM.now
refused visits.NoLength = tells statuses.NoLength NO_LENGTH.now
refused visits.TooLong = tells statuses.TooLong TOO_LONG.now
refused visits.Cut = tells statuses.Bad CUT.now
refused visits.Fields = tells statuses.Bad FIELDS.now
refused visits.OutOfMemory = tells statuses.Failed OUT_OF_MEMORY.now

-- Returns what is told if a command at a desk failed with this fault.
abbrev pub failed : ToolFault → Telling
failed (tools.Desk NoSuchTransaction) = tells statuses.NoPage NO_LOAN.now
failed (tools.Desk (Store fault)) = tells statuses.Busy BUSY.now
failed tools.OutOfMemory = tells statuses.Failed OUT_OF_MEMORY.now
failed other = tells statuses.Failed NO_DESK_FILE.now

-- The trouble of a request for which memory ran out.
abbrev pub no_memory : Trouble
no_memory = troubles.Desk tools.OutOfMemory

-- Returns what a reader is told of a trouble.
abbrev pub trouble_told : Trouble → Telling
trouble_told (troubles.Refused fault) = refused fault
trouble_told (troubles.Desk fault) = failed fault
trouble_told troubles.NoDesk = tells statuses.NoPage NO_DESK.now
trouble_told troubles.NoName = tells statuses.Foreign NO_NAME.now
trouble_told troubles.NoNote = tells statuses.Bad NO_NOTE.now
trouble_told troubles.OtherGroup = tells statuses.Bad OTHER_GROUP.now
trouble_told troubles.NoSpan = tells statuses.Bad NO_SPAN.now

-- Returns the reply that tells a trouble: its status, and a page with its notice.
abbrev pub trouble_reply : Date → Trouble → List ℕ
trouble_reply today trouble = page_reply (trouble_told trouble).status (notice_page today (trouble_told trouble).notice)
