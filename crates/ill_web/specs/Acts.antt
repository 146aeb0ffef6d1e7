-- What a form does: an act at one desk, under the lock of its file, or a note beside it.
use Rattle.std.specs.Prelude.{◌≡◌, ◌⊎◌, ℕ, Bool, true, false, List, [], ◌++◌, Option, Some, None, Result, Ok, Err}
use Rattle.std.specs.Prelude.{IsErrAnd}
use Rattle.std.specs.Prelude.{length, ◌==◌, ◌||◌}
use Rattle.ill_values.specs.Day.{Date}
use Rattle.ill_saved.specs.declared.fault.DeskFault.{DeskFault}
use Rattle.ill_record.specs.declared.role.Role.{Role}
use Rattle.ill_text.specs.Diary.{Stamped, is_name}
use Rattle.ill_text.specs.Fault.{desk_fault}
use Rattle.ill_text.specs.declared.fault.ToolFault.{ToolFault}
use Rattle.ill_beside.specs.Notes.{is_note}
use Rattle.ill_commands.specs.Note.{NotesAtFile}
use Rattle.ill_place.specs.Place.{file_at}
use Rattle.ill_browser.specs.Wanted.{LoanAsked}
use Rattle.ill_report.specs.Link.{PlaceShown}
use Rattle.ill_post.specs.declared.answer.Posted.{Posted}
use Rattle.ill_post.specs.declared.answer.Posted.TheVariants as posteds
use Rattle.ill_post.specs.Post.{AnswersPost, DeskState, FormShown}
use Rattle.ill_page.specs.declared.reply.Status.{Status}
use Rattle.ill_page.specs.declared.reply.Status.TheVariants as statuses
use Rattle.ill_page.specs.declared.words.TheConstants.{NOTHING_DONE, FAULT_END, NO_ACTION, CHANGED}
use Rattle.ill_page.specs.Reply.{seen_reply}
use Rattle.ill_web.specs.declared.trouble.Trouble.{Trouble}
use Rattle.ill_web.specs.declared.trouble.Trouble.TheVariants as troubles
use Rattle.ill_web.specs.Actions.{action_of}
use Rattle.ill_web.specs.Entries.{Entered, EntersTurn, form_line}
use Rattle.ill_web.specs.Troubles.{Telling, no_memory}
use Rattle.ill_web.specs.Pages.{AtDesk, Gives, IsUnread, ShowsLoan}

-- ---- a form

-- A form that was sent: its loan and desk, the stamp that the loan had on the page, and the words of its fields.
pub record SentForm : Type 0 where
  pub loan : LoanAsked
  pub stamp : List ℕ
  pub words : List (List ℕ)

-- Returns the form, as a desk of this role understands it on the day `today`.
abbrev pub form_of : Date → Role → SentForm → FormShown
form_of today role sent =
    record { txn = sent.loan.txn; stamp = sent.stamp; action = action_of role today sent.words }

-- A turn of a form at the desk in a file, under the lock of the file: the desk before it and after it, what came of the
-- form, and what was entered in the diary.
pub record Turn : Type 0 where
  pub file : List ℕ
  pub old : DeskState
  pub new : DeskState
  pub came : Result Posted DeskFault
  pub entered : Entered

-- Returns what came of a form, or the fault of its desk.
abbrev pub of_post : Result Posted DeskFault → Result Posted Trouble
of_post (Ok posted) = Ok posted
of_post (Err fault) = Err (troubles.Desk (desk_fault fault))

-- The form was answered at a desk, exactly as `AnswersPost` says, and `answer` is what came of it. Its `line` was
-- entered beside a file as `EntersTurn` says.
abbrev pub PostsAt : (beside line : List ℕ) → FormShown → DeskState → Result Posted Trouble → DeskState → Type 0
PostsAt beside line form old answer new =
    (came : Result Posted DeskFault) × (entered : Entered) × AnswersPost form old came new
    × EntersTurn came beside line entered × (answer ≡ of_post came)

-- The form was answered at its desk, on the day of the stamp. Its line in the diary has this stamp.
abbrev pub AnswersSent : Stamped → SentForm → DeskState → Result Posted Trouble → DeskState → Type 0
AnswersSent stamp sent old answer new =
    PostsAt sent.loan.desk (form_line stamp (form_of stamp.day old.live.role sent) old.live)
    (form_of stamp.day old.live.role sent) old answer new

-- ---- what is told of it

-- Returns the status of the reply to a form that was not done.
abbrev pub status_of : Posted → Status
status_of posteds.NoAction = statuses.Bad
status_of other = statuses.Conflict

-- The notice says that nothing was done, and has the words of some fault.
abbrev pub IsRefusal : (notice : List ℕ) → Type 0
IsRefusal notice = (words : List ℕ) × (notice ≡ NOTHING_DONE.now ++ (words ++ FAULT_END.now))

-- The notice says why a form was not done.
abbrev pub IsNotice : Posted → (notice : List ℕ) → Type 0
IsNotice (posteds.Refused fault) notice = IsRefusal notice
IsNotice posteds.NoAction notice = notice ≡ NO_ACTION.now
IsNotice other notice = notice ≡ CHANGED.now

-- The reply shows the loan as it is now, and says why a form was not done.
abbrev pub TellsWhy : Date → LoanAsked → Posted → Result (List ℕ) Trouble → Type 0
TellsWhy today loan posted result =
    (notice : List ℕ) × IsNotice posted notice
    × ShowsLoan today (record { status = status_of posted; notice = notice }) loan result

-- Returns the loan, as the URL of its page names it.
abbrev pub place_of : LoanAsked → PlaceShown
place_of loan = record { desk = loan.desk; txn = loan.txn }

-- If the form was done, the reply leads to the page of the loan. Else the reply shows the loan, and says why the form
-- was not done. Or memory ran out.
abbrev pub TellsPosted : Date → LoanAsked → Posted → Result (List ℕ) Trouble → Type 0
TellsPosted today loan posteds.Done result = Gives (seen_reply (place_of loan)) result
TellsPosted today loan posted result = TellsWhy today loan posted result ⊎ (result ≡ Err no_memory)

-- The reply tells what came of a form, or the fault of its desk.
abbrev pub TellsAnswer : Date → LoanAsked → Result Posted Trouble → Result (List ℕ) Trouble → Type 0
TellsAnswer today loan (Ok posted) result = TellsPosted today loan posted result
TellsAnswer today loan (Err trouble) result = result ≡ Err trouble

-- ---- an act

-- A form was refused before its turn: no diary can name its user, or the desk takes loans of another group. Or the desk
-- could not be opened or locked.
abbrev pub IsEarly : Trouble → Type 0
IsEarly troubles.NoName = Unit {0}
IsEarly troubles.OtherGroup = Unit {0}
IsEarly trouble = IsUnread trouble

-- The turn is that of the form `sent`. It is at the desk that the form names, and the form is answered at this desk as
-- `AnswersPost` says. What is entered beside the desk is the line of the form with this stamp, as `EntersPost` says.
abbrev pub IsTurnOf : Stamped → SentForm → Turn → Type 0
IsTurnOf stamp sent turn =
    (turn.file ≡ sent.loan.desk)
    × AnswersPost (form_of stamp.day turn.old.live.role sent) turn.old turn.came turn.new
    × EntersTurn turn.came sent.loan.desk (form_line stamp (form_of stamp.day turn.old.live.role sent) turn.old.live)
    turn.entered

-- The form had its turn, and the reply tells what came of it.
abbrev pub HasTurn : Stamped → SentForm → Turn → Result (List ℕ) Trouble → Type 0
HasTurn stamp sent turn result = IsTurnOf stamp sent turn × TellsAnswer stamp.day sent.loan (of_post turn.came) result

-- The form had `turn`. Or it was refused before, and had no turn.
abbrev pub ActsIn : Stamped → SentForm → Option Turn → Result (List ℕ) Trouble → Type 0
ActsIn stamp sent (Some turn) result = HasTurn stamp sent turn result
ActsIn stamp sent None result = IsErrAnd result IsEarly

-- Returns true if a diary can name the user, or nobody is named.
abbrev pub may_act : (user : List ℕ) → Bool
may_act user = length user == 0 || is_name user

-- If `may_act`, the form acts as `ActsIn` says. Else it has no turn, and the trouble is `NoName`.
abbrev pub ActsIf : (may_act : Bool) → Stamped → SentForm → Option Turn → Result (List ℕ) Trouble → Type 0
ActsIf true stamp sent turn result = ActsIn stamp sent turn result
ActsIf false stamp sent turn result = (turn ≡ None) × (result ≡ Err troubles.NoName)

-- ---- a note

-- Returns the reply to a note that was kept, or the fault.
abbrev pub note_told : LoanAsked → Result Bool ToolFault → Result (List ℕ) Trouble
note_told loan (Ok is_success) = Ok (seen_reply (place_of loan))
note_told loan (Err fault) = Err (troubles.Desk fault)

-- A note on a loan was kept, as `ill note` keeps it, and the reply leads to the page of the loan. Or the result is the
-- fault of that command.
abbrev pub KeepsNote : LoanAsked → (note : List ℕ) → Result (List ℕ) Trouble → Type 0
KeepsNote loan note result =
    (output : Option (List ℕ)) × (answer : Result Bool ToolFault)
    × NotesAtFile (file_at loan.desk) loan.txn note (Some []) output answer
    × ((result ≡ note_told loan answer) ⊎ (result ≡ Err no_memory))

-- If `is_note`, the note is kept as `KeepsNote` says. Else the trouble is `NoNote`.
abbrev pub NotesIf : (is_note : Bool) → LoanAsked → (note : List ℕ) → Result (List ℕ) Trouble → Type 0
NotesIf true loan note result = KeepsNote loan note result
NotesIf false loan note result = result ≡ Err troubles.NoNote

-- If the text `note` is a note, it is kept as `KeepsNote` says. Else the trouble is `NoNote`.
abbrev pub Notes : LoanAsked → (note : List ℕ) → Result (List ℕ) Trouble → Type 0
Notes loan note result = NotesIf (is_note note) loan note result
