-- These are wrong answers of `is_act_to_end`. By the laws the definition excludes them all.
use Rattle.std.specs.Prelude.{◌≡◌, ℕ, Bool, true, false, List, Option}
use Rattle.ill_values.specs.Day.{Date}
use Rattle.ill_values.specs.Bodies.{is_final}
use Rattle.ill_values.specs.declared.apdu.AnswerResult.{AnswerResult}
use Rattle.ill_core.specs.declared.requester.Wish.TheVariants as wishes
use Rattle.ill_core.specs.declared.responder.Deed.TheVariants as deeds
use Rattle.ill_record.specs.declared.role.Role.{Role}
use Rattle.ill_world.specs.declared.event.Event.{Event}
use Rattle.ill_world.specs.declared.event.Event.TheVariants.{Wish, Deed, Save, SaveFault, Send, Deliver, Noise, Restart}

-- The Bool is a wrong answer of `is_act_to_end` for this event.
pub data MisjudgesAct : Event → Bool → Type 0 where
  -- The wish asks for the item, declines its conditions, receives it or returns it. But the answer is no.
  asks : (expiry : Option Date) (item : List ℕ) → MisjudgesAct (Wish (wishes.Request expiry item)) false
  declines : MisjudgesAct (Wish (wishes.Reply false)) false
  receives : MisjudgesAct (Wish wishes.Receive) false
  returns : MisjudgesAct (Wish wishes.Return) false
  -- The deed ends the request, answers a Renew, or checks the item in. But the answer is no.
  answers : (answer : AnswerResult) (today : Date) → is_final answer ≡ true →
      MisjudgesAct (Deed (deeds.Answer answer) today) false
  cancels : (today : Date) → MisjudgesAct (Deed (deeds.CancelReply true) today) false
  ships : (due today : Date) → MisjudgesAct (Deed (deeds.Ship due) today) false
  expires : (today : Date) → MisjudgesAct (Deed deeds.Expire today) false
  answers_renew : (granted : Option Date) (today : Date) → MisjudgesAct (Deed (deeds.RenewAnswer granted) today) false
  checks_in : (today : Date) → MisjudgesAct (Deed deeds.CheckIn today) false
  -- The wish keeps the loan open. But the answer is yes.
  asks_to_cancel : MisjudgesAct (Wish wishes.Cancel) true
  accepts : MisjudgesAct (Wish (wishes.Reply true)) true
  renews : (wished : Option Date) → MisjudgesAct (Wish (wishes.Renew wished)) true
  -- The deed keeps the loan open. But the answer is yes.
  goes_on : (answer : AnswerResult) (today : Date) → is_final answer ≡ false →
      MisjudgesAct (Deed (deeds.Answer answer) today) true
  keeps_request : (today : Date) → MisjudgesAct (Deed (deeds.CancelReply false) today) true
  reminds : (today : Date) → MisjudgesAct (Deed deeds.Overdue today) true
  recalls : (today : Date) → MisjudgesAct (Deed deeds.Recall today) true
  -- The event is no action. But the answer is yes.
  saves : (who : Role) → MisjudgesAct (Save who) true
  fails : (who : Role) (committed : Bool) → MisjudgesAct (SaveFault who committed) true
  sends : (who : Role) (n : ℕ) → MisjudgesAct (Send who n) true
  delivers : (who : Role) (n : ℕ) → MisjudgesAct (Deliver who n) true
  hears : (who : Role) (bytes : List ℕ) → MisjudgesAct (Noise who bytes) true
  restarts : (who : Role) → MisjudgesAct (Restart who) true
