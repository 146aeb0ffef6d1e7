-- Two libraries between their commands: the files of their desks, and the messages that have left them. Each command of
-- one leads from such a state to the next.
use Rattle.std.specs.Prelude.{◌≡◌, ◌⊎◌, ℕ, Bool, List, [], ◌∷◌, ◌++◌, Option, Some, Result, Ok}
use Rattle.ill_values.specs.TxnId.{Qualifiers}
use Rattle.ill_values.specs.declared.apdu.Apdu.{Apdu}
use Rattle.ill_record.specs.declared.role.Role.{Role}
use Rattle.ill_record.specs.declared.role.Role.TheVariants.{Requester, Responder}
use Rattle.ill_record.specs.declared.side.Action.{Action}
use Rattle.ill_core.specs.Issued.{message}
use Rattle.ill_record.specs.Side.{issued_of, other}
use Rattle.ill_record.specs.Sides.{SidesOf}
use Rattle.ill_record.specs.Ranges.{Each}
use Rattle.ill_record.specs.RecordsV2.{records_at, sides_encoding}
use Rattle.ill_saved.specs.ManySides.{DeskContents, many_sides, side_for}
use Rattle.ill_text.specs.declared.fault.ToolFault.{ToolFault}
use Rattle.ill_text.specs.declared.form.Form.{Form}
use Rattle.ill_desk.specs.Performing.{HeldAndCommitted, CommandState}
use Rattle.ill_desk.specs.Act.{RunsAct}
use Rattle.ill_desk.specs.Take.{RunsTaking}
use Rattle.ill_desk.specs.Telling.{Wording}
use Rattle.ill_exchange.specs.Nights.{AskedNight, Night, TakesMessageFiles, ExchangesAt}
use Rattle.ill_world.specs.World.{TwoOf, party}
use Rattle.ill_world.specs.Safety.{EndsAlike, WasShipped, WasGranted}
use Rattle.ill_world.specs.declared.event.DeskEvent.{DeskEvent}
use Rattle.ill_world.specs.Desks.{DeskParty, DeskParties, first_desks, desks_run}
use Rattle.ill_runs.specs.Events.{HappenAt}
use Rattle.ill_runs.specs.MessageFile.{IsOneOf, WasSent, IsReleased, IsOutbox, Bring, messages_taken, message_files_taken}
use Rattle.ill_runs.specs.MessageFile.{message_files_of, Leaves}

-- ---- libraries

-- A library between two commands: the record in the file of its desk, and the messages that have left it.
pub record Library : Type 0 where
  pub file : List ℕ
  pub left : List Apdu

-- Two libraries, a requester and a responder.
abbrev pub Libraries : Type 0
Libraries = TwoOf Library

-- Returns the library of the role `who` after `ill new`: its desk holds no side, and no message has left.
abbrev pub first_library : Role → Library
first_library who = record { file = sides_encoding (record { role = who; sides = [] }); left = [] }

-- Both libraries have just begun their desks.
abbrev pub first_libraries : Libraries
first_libraries = record { requester = first_library Requester; responder = first_library Responder }

-- ---- one command

-- `desk` has started from the record `file`.
abbrev pub StartsFrom : List ℕ → HeldAndCommitted DeskContents → Type 0
StartsFrom file desk = (many_sides.read file ≡ Ok desk.live) × (desk.committed ≡ Some (Some file))

-- A command leads from the library `before` to `after`. Its desk started from the file of `before`, and `Runs` relates
-- the states of the command, and the messages that left. The file of `after` is what its store has at the end.
pub record IsCommand (Runs : CommandState DeskContents → List Apdu → CommandState DeskContents → Type 0)
    (before after : Library) : Type 0 where
  pub old : CommandState DeskContents
  pub new : CommandState DeskContents
  pub leaving : List Apdu
  pub starts : StartsFrom before.file old.desk
  pub runs : Runs old leaving new
  pub committed : new.desk.committed ≡ Some (Some after.file)
  pub left : after.left ≡ before.left ++ leaving

-- The command `act`. No message leaves.
abbrev pub Acts : CommandState DeskContents → List Apdu → CommandState DeskContents → Type 0
Acts old leaving new =
    (txn : Qualifiers) × (action : Option Action) × (result : Result Bool ToolFault)
    × RunsAct many_sides txn action old result new × (leaving ≡ [])

-- The command `take`: the desk takes the messages of its input, which are among `others`. No message leaves.
abbrev pub Takes : List Apdu → CommandState DeskContents → List Apdu → CommandState DeskContents → Type 0
Takes others old leaving new =
    (is_kept : Bool) × (printed : Wording) × (result : Result Bool ToolFault)
    × (taken : RunsTaking is_kept printed many_sides old result new)
    × Each (IsOneOf others) (messages_taken {printed = printed} taken)
    × (leaving ≡ [])

-- The command `inbox`: the desk takes message files, whose messages are among `others`. No message leaves.
abbrev pub TakesMessageFile : List Apdu → CommandState DeskContents → List Apdu → CommandState DeskContents → Type 0
TakesMessageFile others old leaving new =
    (form : Form) × (result : Result Night ToolFault) × (taken : TakesMessageFiles form old result new)
    × Bring (IsOneOf others) (message_files_taken taken)
    × (leaving ≡ [])

-- The commands `outbox` and `send`: the messages of an outbox leave, or some that may be sent. The desk stays as it is.
abbrev pub Sends : CommandState DeskContents → List Apdu → CommandState DeskContents → Type 0
Sends old leaving new =
    (new.desk ≡ old.desk) × (IsOutbox old.desk.live leaving ⊎ Each (IsReleased old.desk.live) leaving)

-- The command `exchange`: a night, to which message files come whose messages are among `others`.
abbrev pub Exchanges : List Apdu → CommandState DeskContents → List Apdu → CommandState DeskContents → Type 0
Exchanges others old leaving new =
    (asked : AskedNight) × (result : Result Bool ToolFault) × (night : ExchangesAt asked old result new)
    × Bring (IsOneOf others) (message_files_of asked night) × Leaves asked night leaving

-- One command leads from the library `before` to `after`. `others` have left the other library: any of them may come,
-- once or often, early or late. A command that is stopped before its first save is the last case. One that is stopped
-- later counts as a shorter one: of fewer messages, or a night without its deeds or its last letters.
abbrev pub Commands : List Apdu → Library → Library → Type 0
Commands others before after =
    IsCommand Acts before after ⊎ IsCommand (Takes others) before after
    ⊎ IsCommand (TakesMessageFile others) before after ⊎ IsCommand Sends before after
    ⊎ IsCommand (Exchanges others) before after ⊎ (after ≡ before)

-- One of the two libraries performs a command. The other one stays as it is.
abbrev pub Happens : Libraries → Libraries → Type 0
Happens before after =
    (who : Role) × Commands (party before (other who)).left (party before who) (party after who)
    × (party after (other who) ≡ party before (other who))

-- Commands lead from `now` to the first of `later`, and from each of these to the next one.
unfoldable pub IsHistory : Libraries → List Libraries → Type 0
IsHistory now [] = Unit {0}
IsHistory now (next ∷ later) = Happens now next × IsHistory next later

-- Returns the libraries after a history.
unfoldable pub libraries_after : Libraries → List Libraries → Libraries
libraries_after now [] = now
libraries_after now (next ∷ later) = libraries_after next later

-- ---- libraries and the desks of the model

-- The library is the model's desk `p` between two commands. Its file has the committed sides of `p`, and `p` has sent
-- each message that has left.
pub record IsAt (library : Library) (p : DeskParty) : Type 0 where
  pub file : records_at library.file ≡ Ok p.committed
  pub left : Each (WasSent p.sent) library.left

-- Both libraries are the desks of `w`.
pub record AreAt (libraries : Libraries) (w : DeskParties) : Type 0 where
  pub requester : IsAt libraries.requester w.requester
  pub responder : IsAt libraries.responder w.responder

-- Some events of the model lead from its first desks to desks that are `libraries`.
abbrev pub IsRunAt : Libraries → Type 0
IsRunAt libraries = (events : List DeskEvent) × AreAt libraries (desks_run first_desks events)

-- Some events at the desk of `who` lead from the desks `w` to desks of which one is the library `after`.
pub record LeadsTo (who : Role) (w : DeskParties) (after : Library) : Type 0 where
  pub events : List DeskEvent
  pub here : HappenAt who events
  pub at : IsAt after (party (desks_run w events) who)

-- ---- safety

-- In each transaction the side of `responder` does not contradict that of `requester`. If the requester's is CANCELLED
-- or NOT-SUPPLIED, the responder's is. If it is SHIPPED or later, the responder has shipped. Its due date was granted.
abbrev pub FaceEachOther : SidesOf → SidesOf → Type 0
FaceEachOther requester responder =
    (txn : Qualifiers) → EndsAlike (side_for txn requester) (side_for txn responder)
    × WasShipped (side_for txn requester) (side_for txn responder)
    × WasGranted (side_for txn requester) (side_for txn responder)

-- The files of both desks can be read, and their sides face each other in each transaction.
abbrev pub AreSafe : Libraries → Type 0
AreSafe libraries =
    (requester responder : SidesOf) × (records_at libraries.requester.file ≡ Ok requester)
    × (records_at libraries.responder.file ≡ Ok responder) × FaceEachOther requester responder

-- ---- what has left

-- One of these sides has issued the message `a`, in some transaction and under some number.
abbrev pub IsMessageOf : SidesOf → Apdu → Type 0
IsMessageOf held a = (txn : Qualifiers) × (n : ℕ) × (message (issued_of (side_for txn held)) n ≡ Some a)

-- The file of the library can be read, and has each message that has left it.
abbrev pub HasAllThatLeft : Library → Type 0
HasAllThatLeft library =
    (held : SidesOf) × (records_at library.file ≡ Ok held) × Each (IsMessageOf held) library.left
