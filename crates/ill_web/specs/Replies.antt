-- What a request is answered: its reply, and the turn of its form at a desk, if it had one.
use Rattle.std.specs.Prelude.{◌≡◌, ◌⊎◌, ℕ, List, [], map, take, string_bytes, Option, Some, None, Result, Ok, Err, Vec}
use Rattle.std.specs.Io.KnownBytes.{Appends, Consumes}
use Rattle.std.specs.declared.alloc.Global.{Global}
use Rattle.ill_values.specs.Day.{Date}
use Rattle.ill_browser.specs.declared.fault.VisitFault.{VisitFault}
use Rattle.ill_browser.specs.declared.wanted.Wanted.{Wanted}
use Rattle.ill_browser.specs.Visit.{RulesShown, VisitShown, body_size}
use Rattle.ill_browser.specs.Wanted.{Answers, Asked, Desks, Loan, Slip, Figures, Act, Note, asked_of, wanted_of}
use Rattle.ill_commands.specs.Streams.{Streams}
use Rattle.ill_files.specs.Folders.{AreFoundAt}
use Rattle.ill_page.specs.declared.reply.Status.TheVariants.{Good}
use Rattle.ill_web.specs.declared.operator.Operator.{Operator}
use Rattle.ill_web.specs.declared.house.House.{House}
use Rattle.ill_web.specs.declared.serve.TheConstants.{NO_MEMORY}
use Rattle.ill_web.specs.declared.trouble.Trouble.{Trouble}
use Rattle.ill_web.specs.declared.trouble.Trouble.TheVariants as troubles
use Rattle.ill_web.specs.Acts.{ActsIf, IsTurnOf, Notes, SentForm, Turn, may_act}
use Rattle.ill_web.specs.Entries.{stamp_on}
use Rattle.ill_web.specs.Pages.{AtDesk, ShowsDesks, ShowsFigures, ShowsLoan, ShowsSlip, file_named}
use Rattle.ill_web.specs.Troubles.{no_memory, tells, trouble_reply}

-- What answers a request: the day, the user, and the paths of the desks.
pub record HouseShown : Type 0 where
  pub today : Date
  pub user : List ℕ
  pub files : List (List ℕ)

-- Returns what a `House` of the code holds.
abbrev pub house_shown : {T : Type 0} → House T → HouseShown
house_shown house = record {
  today = house.operator.now.today;
  user = house.user.now;
  files = map (λ file. string_bytes file) house.files.now;
}

-- Returns the rules of the operator for all requests.
abbrev pub rules_of : Operator → RulesShown
rules_of operator = record { origin = operator.origin.now; is_open = operator.is_open }

-- ---- what is asked for

-- If the text for the desk is the path of a desk, the form acts as `ActsIf` says. Else it has no turn, and the trouble
-- is `NoDesk`.
abbrev pub ActsHere : HouseShown → SentForm → Option Turn → Result (List ℕ) Trouble → Type 0
ActsHere house sent turn result =
    ((file_named house.files sent.loan.desk ≡ Some sent.loan.desk)
    × ActsIf (may_act house.user) (stamp_on house.today house.user) sent turn result)
    ⊎ ((file_named house.files sent.loan.desk ≡ None) × (turn ≡ None) × (result ≡ Err troubles.NoDesk))

-- What was asked for was answered. Only an act has a turn at a desk.
abbrev pub AnswersAt : HouseShown → Asked → Option Turn → Result (List ℕ) Trouble → Type 0
AnswersAt house (Desks find) turn result = (turn ≡ None) × ShowsDesks house.today house.files find result
AnswersAt house (Loan loan) turn result =
    (turn ≡ None) × AtDesk house.files loan.desk (ShowsLoan house.today (tells Good []) loan) result
AnswersAt house (Slip loan) turn result = (turn ≡ None) × AtDesk house.files loan.desk (ShowsSlip loan) result
AnswersAt house (Figures from to) turn result = (turn ≡ None) × ShowsFigures house.today house.files from to result
AnswersAt house (Act loan stamp words) turn result =
    ActsHere house (record { loan = loan; stamp = stamp; words = words }) turn result
AnswersAt house (Note loan note) turn result = (turn ≡ None) × AtDesk house.files loan.desk (Notes loan note) result

-- ---- a request

-- What was asked for was answered at desks that are found at the operator's paths. Or the request was refused. Or
-- memory ran out before the desks were found.
abbrev pub Follows : Operator → (user : List ℕ) → Result Wanted VisitFault → Option Turn → Result (List ℕ) Trouble → Type 0
Follows operator user (Err refusal) turn result = (turn ≡ None) × (result ≡ Err (troubles.Refused refusal))
Follows operator user (Ok wanted) turn result =
    ((turn ≡ None) × (result ≡ Err no_memory))
    ⊎ ((files : List (List ℕ)) × AreFoundAt (map (λ path. path.now) operator.paths.items) files
    × AnswersAt (record { today = operator.today; user = user; files = files }) (asked_of wanted) turn result)

-- The request was read, and answered. `left` has the bytes of the input before, and `rest` those after.
abbrev pub AnswersRequest : Operator → VisitShown → (left rest : Option (List ℕ)) → Option Turn → Result (List ℕ) Trouble → Type 0
AnswersRequest operator v left rest turn result =
    (wanted : Result Wanted VisitFault)
    × Answers (body_size (rules_of operator) v) (wanted_of (rules_of operator) v) left rest wanted
    × Follows operator v.user wanted turn result

-- ---- the reply

-- Returns the reply in a result. If the result is a trouble, it returns the reply that tells the trouble.
abbrev pub reply_of : Date → Result (List ℕ) Trouble → List ℕ
reply_of today (Ok reply) = reply
reply_of today (Err trouble) = trouble_reply today trouble

-- Returns the bytes that are sent. If memory ran out for a reply, they say so.
abbrev pub sent_of : {F : Type 0} → Result (Vec ℕ Global) F → List ℕ
sent_of (Ok reply) = reply.items
sent_of (Err fault) = NO_MEMORY.now

-- The reply is that of `result`. Or memory ran out for it, and the reply is `NO_MEMORY`.
abbrev pub IsReply : Date → Result (List ℕ) Trouble → (reply : List ℕ) → Type 0
IsReply today result reply = (reply ≡ reply_of today result) ⊎ (reply ≡ NO_MEMORY.now)

-- The request was answered with `reply`. If it had a turn at a desk, this was `turn`.
abbrev pub Replies : Operator → VisitShown → (left rest : Option (List ℕ)) → Option Turn → (reply : List ℕ) → Type 0
Replies operator v left rest turn reply =
    (result : Result (List ℕ) Trouble) × AnswersRequest operator v left rest turn result
    × IsReply operator.today result reply

-- The output grew by all of `reply`, and the exit status is 0. Or it grew by a prefix of it, and the status is 3.
abbrev pub Sends : (reply : List ℕ) → (before : Option (List ℕ)) → (status : ℕ) → (after : Option (List ℕ)) → Type 0
Sends reply before status after =
    ((status ≡ 0) × Appends before after reply)
    ⊎ ((status ≡ 3) × ((size : ℕ) × Appends before after (take size reply)))

-- The request was read from the input, and its reply was sent to the output.
abbrev pub Serves : Operator → VisitShown → Streams → (status : ℕ) → Streams → Type 0
Serves operator v old status new =
    (turn : Option Turn) × (reply : List ℕ) × Replies operator v old.unread new.unread turn reply
    × Sends reply old.written status new.written

-- ---- what a turn is

-- The input began with a form that has this turn. The turn has the day of the operator, and the name of the user.
abbrev pub TakesTurn : Operator → VisitShown → (left rest : Option (List ℕ)) → Turn → Type 0
TakesTurn operator v left rest turn =
    (body : List ℕ) × (sent : SentForm) × Consumes left rest body
    × (wanted_of (rules_of operator) v body ≡ Ok (Act sent.loan sent.stamp sent.words))
    × IsTurnOf (stamp_on operator.today v.user) sent turn
