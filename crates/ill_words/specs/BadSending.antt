-- Wrong answers on the end of a loan, and on the sides that send in a night.
use Rattle.std.specs.Prelude.{◌≡◌, Bool, true, false, [], ◌∷◌}
use Rattle.ill_core.specs.declared.state.State.TheVariants as states
use Rattle.ill_core.specs.State.{is_among}
use Rattle.ill_core.specs.Requester.{RequesterRecord}
use Rattle.ill_core.specs.Responder.{ResponderRecord}
use Rattle.ill_record.specs.declared.side.Side.{Side}
use Rattle.ill_record.specs.declared.side.Side.TheVariants as sides
use Rattle.ill_record.specs.Side.{state_of}
use Rattle.ill_record.specs.SideVerbs.{verbs_of}
use Rattle.ill_words.specs.Sending.{is_over}

-- The Bool is a wrong answer of `is_over` for this side.
pub data MisjudgesEnd : Side → Bool → Type 0 where
  -- By the state of its record, the loan has ended without an item, or the item was checked in. But the answer says
  -- that the loan is not over.
  ended : (side : Side) →
      is_among (states.Cancelled ∷ states.NotSupplied ∷ states.CheckedIn ∷ []) (state_of side) ≡ true →
      MisjudgesEnd side false
  -- The requester returned the item, and its record says that the item is back. But the answer says that the loan is
  -- not over.
  marked : (x : RequesterRecord) → x.state ≡ states.Returned → x.checked_in ≡ true →
      MisjudgesEnd (sides.Requester x) false
  -- The requester returned the item, and its record does not say that the item is back. But the answer says that the
  -- loan is over.
  unmarked : (x : RequesterRecord) → x.state ≡ states.Returned → x.checked_in ≡ false →
      MisjudgesEnd (sides.Requester x) true
  -- The loan has not begun, or waits for an answer or the item. But the answer says that it is over.
  unsettled : (side : Side) →
      is_among (states.Idle ∷ states.Conditional ∷ states.CancelPending ∷ states.Recall ∷ []) (state_of side) ≡ true →
      MisjudgesEnd side true
  -- The side may act. But the answer says that the loan is over.
  may_act : (side : Side) → (verbs_of side ≡ [] → ⊥) → MisjudgesEnd side true

-- The Bool is a wrong answer of `wants_sending` for this side. `was_asked` is true if a message of the loan came in
-- this night.
pub data MisjudgesSending (was_asked : Bool) : Side → Bool → Type 0 where
  -- The loan is over for the requester. But the answer says that it sends its messages.
  over_requester_sends : (x : RequesterRecord) → is_over (sides.Requester x) ≡ true →
      MisjudgesSending was_asked (sides.Requester x) true
  -- The loan is over for the responder, and it was not asked. But the answer says that it sends its messages.
  unasked_sends : (y : ResponderRecord) → is_over (sides.Responder y) ≡ true → was_asked ≡ false →
      MisjudgesSending was_asked (sides.Responder y) true
  -- The responder was asked. But the answer says that it sends nothing.
  asked_is_silent : (y : ResponderRecord) → was_asked ≡ true → MisjudgesSending was_asked (sides.Responder y) false
  -- The loan is not over for the side. But the answer says that it sends nothing.
  open_is_silent : (side : Side) → is_over side ≡ false → MisjudgesSending was_asked side false
