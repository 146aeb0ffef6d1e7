-- The room of a desk's message files: where the message files of a run are, and the messages that ask. These came for
-- loans that are over, and the next outbox answers them (this profile's own).
use Rattle.std.specs.Prelude.{◌≡◌, ◌⊎◌, ℕ, Bool, true, List, slice_get, Option, None, Some, option_map, Result, Ok, Err}
use Rattle.ill_text.specs.declared.fault.ToolFault.{ToolFault}
use Rattle.ill_night.specs.declared.verdict.Verdict.{Verdict}
use Rattle.ill_night.specs.declared.verdict.Verdict.TheVariants as verdicts
use Rattle.ill_room.specs.declared.room.Place.{Place}
use Rattle.ill_room.specs.declared.room.Place.TheVariants.{Waiting, Claimed, Quarantined, Gone}

-- The state of a room: the place of each message file of the run, in their order, and the messages that ask, one after
-- another. `is_correct` is true if the room does as it answers.
pub record RoomState : Type 0 where
  pub places : List Place
  pub asked : List ℕ
  pub is_correct : Bool

-- Returns the place of a message file, by its number in the run.
abbrev pub place_of : RoomState → ℕ → Option Place
place_of state number = slice_get state.places number

-- ---- calls

-- A call leads from `old` to `new`, with this answer. If `is_correct` holds of `old`, it does as `does` says. The call
-- does not change `is_correct`.
pub record Answers {S A : Type 0} (is_correct : S → Bool) (does : S → A → S → Type 0) (old : S) (answer : A) (new : S)
    : Type 0 where
  pub done : is_correct old ≡ true → does old answer new
  pub correct : is_correct new ≡ is_correct old

-- Returns true if a room is correct.
abbrev pub is_correct_room : RoomState → Bool
is_correct_room state = state.is_correct

-- Returns the place of a message file after it was to be moved to the place `to`. Only a claimed message file moves.
abbrev pub moved : Place → Place → Place
moved to Claimed = to
moved to other = other

-- Returns the place of a message file of the run after it was to be moved to the place `to`, if there is such a message
-- file.
abbrev pub moved_at : Place → Option Place → Option Place
moved_at to place = option_map (moved to) place

-- A message file stays at its place `before`, or moves to `to`.
abbrev pub MayMove : Place → Option Place → Option Place → Type 0
MayMove to before after = (after ≡ before) ⊎ (after ≡ moved_at to before)

-- A call moves a message file to the place `to`. If it failed, the message file moves there or stays.
abbrev pub MovesPlace : {A : Type 0} → Place → Option Place → Result A ToolFault → Option Place → Type 0
MovesPlace to before (Ok done) after = after ≡ moved_at to before
MovesPlace to before (Err fault) after = MayMove to before after

-- Each other message file than `number` stays at its place, and the messages that ask stay.
pub record IsElseSame (number : ℕ) (old new : RoomState) : Type 0 where
  pub others : (other : ℕ) → (other ≡ number → ⊥) → place_of new other ≡ place_of old other
  pub asked : new.asked ≡ old.asked

-- A call moves `number` to the place `to`. If it failed, the message file moves there or stays. All else stays.
pub record Moves {A : Type 0} (to : Place) (number : ℕ) (old : RoomState) (answer : Result A ToolFault) (new : RoomState)
    : Type 0 where
  pub here : MovesPlace to (place_of old number) answer (place_of new number)
  pub else_same : IsElseSame number old new

-- A call gives `number` back to its folder. It stays claimed if another message file of its name has come there.
-- All else stays.
pub record GivesBack {A : Type 0} (number : ℕ) (old : RoomState) (answer : A) (new : RoomState) : Type 0 where
  pub here : MayMove Waiting (place_of old number) (place_of new number)
  pub else_same : IsElseSame number old new

-- A call keeps `asked` as the messages that ask, in place of `before`, and `after` are kept in the end. If it failed,
-- `after` is `before` or `asked`.
abbrev pub KeepsBytes : {A : Type 0} → List ℕ → List ℕ → Result A ToolFault → List ℕ → Type 0
KeepsBytes asked before (Ok done) after = after ≡ asked
KeepsBytes asked before (Err fault) after = (after ≡ before) ⊎ (after ≡ asked)

-- A call keeps `asked`, messages that ask. Each message file stays at its place.
pub record Keeps {A : Type 0} (asked : List ℕ) (old : RoomState) (answer : Result A ToolFault) (new : RoomState)
    : Type 0 where
  pub here : KeepsBytes asked old.asked answer new.asked
  pub places : new.places ≡ old.places

-- ---- settling

-- Returns the place to which a verdict brings the file of a claimed message file. A done message file is removed.
abbrev pub place_for : Verdict → Place
place_for (verdicts.Done outcome) = Gone
place_for (verdicts.Quarantined unfit) = Quarantined
place_for (verdicts.Deferred delay) = Waiting

-- The file of a message file with this verdict was settled, or it stays. Without a verdict it stays.
abbrev pub MaySettle : Option Verdict → Option Place → Option Place → Type 0
MaySettle None before after = after ≡ before
MaySettle (Some verdict) before after = MayMove (place_for verdict) before after

-- The file of a message file with this verdict was settled. If the message file is to wait, it may stay claimed, for
-- the next run. Without a verdict the message file stays at its place.
abbrev pub IsSettled : Option Verdict → Option Place → Option Place → Type 0
IsSettled (Some (verdicts.Deferred delay)) before after = MayMove Waiting before after
IsSettled (Some verdict) before after = after ≡ moved_at (place_for verdict) before
IsSettled None before after = after ≡ before

-- The files of message files with these verdicts were settled, or stay. The messages that ask stay.
pub record Settles (all : List Verdict) (old new : RoomState) : Type 0 where
  pub each : (number : ℕ) → MaySettle (slice_get all number) (place_of old number) (place_of new number)
  pub asked : new.asked ≡ old.asked

-- The file of each message file was settled by its verdict in `all`. A message file without a verdict stays at its
-- place.
abbrev pub AreSettled : List Verdict → RoomState → RoomState → Type 0
AreSettled all old new = (number : ℕ)
    → IsSettled (slice_get all number) (place_of old number) (place_of new number)

-- A call settles the files of message files with these verdicts. If it is done, each is settled. If it failed, each is
-- settled or stays.
abbrev pub SettlesAs : {A : Type 0} → List Verdict → RoomState → Result A ToolFault → RoomState → Type 0
SettlesAs all old (Ok done) new = Settles all old new × AreSettled all old new
SettlesAs all old (Err fault) new = Settles all old new

-- A call settles the file of one message file by its verdict.
abbrev pub SettlesOne : {A : Type 0} → ℕ → Verdict → RoomState → Result A ToolFault → RoomState → Type 0
SettlesOne number (verdicts.Done outcome) = Moves Gone number
SettlesOne number (verdicts.Quarantined unfit) = Moves Quarantined number
SettlesOne number (verdicts.Deferred delay) = GivesBack number

-- A call settles the file of one message file by its verdict, if it has one. Else it changes nothing.
abbrev pub SettlesAt : {A : Type 0} → ℕ → Option Verdict → RoomState → Result A ToolFault → RoomState → Type 0
SettlesAt number None old answer new = new ≡ old
SettlesAt number (Some verdict) old answer new = SettlesOne number verdict old answer new

-- A call settles the files of message files with these verdicts. If it answers true, each is settled. If it answers
-- false or failed, each is settled or stays.
abbrev pub SettlesEach : List Verdict → RoomState → Result Bool ToolFault → RoomState → Type 0
SettlesEach all old (Ok true) new = Settles all old new × AreSettled all old new
SettlesEach all old answer new = Settles all old new

-- ---- the end of a run

-- No message file has moved, or the messages that ask are `asked`.
abbrev pub KeepsFirst : List ℕ → RoomState → RoomState → Type 0
KeepsFirst asked old new = ((number : ℕ) → place_of new number ≡ place_of old number) ⊎ (new.asked ≡ asked)

-- If a call is done, the messages that ask are `asked`, and the file of each message file is settled.
abbrev pub EndsRunIf : {A : Type 0} → List ℕ → List Verdict → RoomState → Result A ToolFault → RoomState → Type 0
EndsRunIf asked all old (Ok done) new = (new.asked ≡ asked) × AreSettled all old new
EndsRunIf asked all old (Err fault) new = Unit {0}

-- A call ends a run with these verdicts. It keeps `asked`, the messages that ask, before it settles the files of
-- message files.
pub record EndsRun {A : Type 0} (asked : List ℕ) (all : List Verdict) (old : RoomState) (answer : Result A ToolFault)
    (new : RoomState) : Type 0 where
  pub each : (number : ℕ) → MaySettle (slice_get all number) (place_of old number) (place_of new number)
  -- The messages that ask are those of before, or `asked`, even if the call failed.
  pub asked_stay : (new.asked ≡ old.asked) ⊎ (new.asked ≡ asked)
  pub asked_first : KeepsFirst asked old new
  pub done : EndsRunIf asked all old answer new
