-- A loan ends if its libraries act towards its end, and a night follows each act. This is this profile's own.
use Rattle.std.specs.Prelude.{◌≡◌, ◌⊎◌, ℕ, zero, suc, ◌+◌, ◌≤◌, Bool, true, false, not, length, Result, Ok, Err}
use Rattle.ill_values.specs.Day.{Date}
use Rattle.ill_values.specs.Bodies.{is_final}
use Rattle.ill_core.specs.declared.state.State.{State}
use Rattle.ill_core.specs.declared.state.State.TheVariants as states
use Rattle.ill_core.specs.declared.refusal.Refusal.{Refusal}
use Rattle.ill_core.specs.declared.refusal.Refusal.TheVariants.{NumbersUsed}
use Rattle.ill_core.specs.declared.requester.Wish.{Wish}
use Rattle.ill_core.specs.declared.requester.Wish.TheVariants as wishes
use Rattle.ill_core.specs.declared.responder.Deed.{Deed}
use Rattle.ill_core.specs.declared.responder.Deed.TheVariants as deeds
use Rattle.ill_core.specs.Requester.{RequesterRecord, is_received_by}
use Rattle.ill_record.specs.declared.side.Side.{Side}
use Rattle.ill_record.specs.declared.side.Side.TheVariants as sides
use Rattle.ill_record.specs.Side.{issued_of}
use Rattle.ill_world.specs.declared.event.Event.{Event}
use Rattle.ill_world.specs.declared.event.Event.TheVariants as events
use Rattle.ill_words.specs.declared.outcome.Outcome.TheVariants.{Done}
use Rattle.ill_world.specs.World.{Parties, happens, run_of}
use Rattle.ill_world.specs.Night.{night_of, AreAtRest}

-- ---- acts towards the end

-- Returns true if the wish leads towards the end of a loan. A Cancel, a Reply yes and a Renew do not.
abbrev pub is_wish_to_end : Wish → Bool
is_wish_to_end (wishes.Request expiry item) = true
is_wish_to_end wishes.Cancel = false
is_wish_to_end (wishes.Reply is_yes) = not is_yes
is_wish_to_end wishes.Receive = true
is_wish_to_end (wishes.Renew wished) = false
is_wish_to_end wishes.Return = true

-- Returns true if the deed leads towards the end of a loan. It ends the request, answers a Renew or checks the item in.
abbrev pub is_deed_to_end : Deed → Bool
is_deed_to_end (deeds.Answer answer) = is_final answer
is_deed_to_end (deeds.CancelReply is_yes) = is_yes
is_deed_to_end (deeds.Ship due) = true
is_deed_to_end (deeds.RenewAnswer granted) = true
is_deed_to_end deeds.Overdue = false
is_deed_to_end deeds.Recall = false
is_deed_to_end deeds.CheckIn = true
is_deed_to_end deeds.Expire = true

-- Returns true if the event is an act towards the end of a loan.
abbrev pub is_act_to_end : Event → Bool
is_act_to_end (events.Wish wish) = is_wish_to_end wish
is_act_to_end (events.Deed deed today) = is_deed_to_end deed
is_act_to_end other = false

-- ---- how far a loan is from its end

-- Returns the number of acts to the end in RECALL. The Bool says that the item was received. Then two acts are left,
-- return and check in. If not, three are left, since receive comes first.
abbrev pub recalled_acts : Bool → ℕ
recalled_acts true = 2
recalled_acts false = 3

-- Returns the number of acts to the end in RETURNED. The Bool is the requester's checked-in mark. With the mark no act
-- is left, and else one, a check-in.
abbrev pub returned_acts : Bool → ℕ
returned_acts true = 0
returned_acts false = 1

-- Returns the greatest number of acts to the end in a requester's state. `received` says that it issued a Received,
-- `checked_in` that it has the checked-in mark.
abbrev pub acts_to_end_in : State → Bool → Bool → ℕ
acts_to_end_in states.Idle received checked_in = 5
acts_to_end_in states.Pending received checked_in = 4
acts_to_end_in states.Conditional received checked_in = 4
acts_to_end_in states.CancelPending received checked_in = 4
acts_to_end_in states.Shipped received checked_in = 3
acts_to_end_in states.NotReceivedOverdue received checked_in = 3
acts_to_end_in states.RenewPending received checked_in = 3
acts_to_end_in states.RenewOverdue received checked_in = 3
acts_to_end_in states.Received received checked_in = 2
acts_to_end_in states.Overdue received checked_in = 2
acts_to_end_in states.Recall received checked_in = recalled_acts received
acts_to_end_in states.Returned received checked_in = returned_acts checked_in
acts_to_end_in other received checked_in = 0

-- Returns the greatest number of acts towards the end that the loan of a requester can take.
abbrev pub acts_to_end : RequesterRecord → ℕ
acts_to_end x = acts_to_end_in x.state (is_received_by x) x.checked_in

-- Returns the greatest number of acts to the end of a requester's side. Returns 0 for a responder's side.
abbrev pub side_acts_to_end : Side → ℕ
side_acts_to_end (sides.Requester x) = acts_to_end x
side_acts_to_end (sides.Responder y) = 0

-- Returns the greatest number of acts towards the end that the loan can take. It is that of the requester's live side.
abbrev pub acts_left : Parties → ℕ
acts_left w = side_acts_to_end w.requester.live

-- ---- days

-- Returns the world after an event, and a night after it.
abbrev pub after_day : Parties → Event → Parties
after_day w event = let acted = (happens w event).1 in run_of acted (night_of acted)

-- `CanEnd days w`: the loan can be ended from `w` in at most `days` days. Until both sides are at rest, each day has an
-- act towards the end. The act is done on whatever date `today` is, and a night follows the act.
unfoldable pub CanEnd : ℕ → Parties → Type 0
CanEnd zero w = AreAtRest w
CanEnd (suc days) w = AreAtRest w ⊎ ((act : Date → Event) × ((today : Date) → (is_act_to_end (act today) ≡ true) ×
    ((happens w (act today)).0 ≡ Done) × CanEnd days (after_day w (act today))))

-- ---- numbers

-- The side can issue `count` further messages.
abbrev pub HasNumbers : ℕ → Side → Type 0
HasNumbers count side = count + length (issued_of side) ≤ 255

-- Returns the refusal of an action by a side that has no number left. The argument is the answer of the table to the
-- action. If it is a refusal, this refusal is returned, and else `NumbersUsed`.
abbrev pub last_refusal : {T : Type 0} → Result T Refusal → Refusal
last_refusal (Ok transition) = NumbersUsed
last_refusal (Err refusal) = refusal
