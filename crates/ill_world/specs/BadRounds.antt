-- These are worlds that no round may leave, and worlds in which a message of a round is needed. In the latter a whole
-- round brings both sides to convergence. A round without the message does not.
use Rattle.std.specs.Prelude.{◌≡◌, ◌-◌, List, [], ◌∷◌, ◌++◌, length, None, codes}
use Rattle.ill_values.specs.Day.{Date}
use Rattle.ill_values.specs.TxnId.{Qualifiers}
use Rattle.ill_values.specs.declared.apdu.AnswerResult.TheVariants.{Unfilled}
use Rattle.ill_core.specs.declared.requester.Wish.TheVariants as wishes
use Rattle.ill_core.specs.declared.responder.Deed.TheVariants as deeds
use Rattle.ill_core.specs.Requester.{RequesterRecord}
use Rattle.ill_core.specs.Responder.{ResponderRecord}
use Rattle.ill_record.specs.declared.side.Side.TheVariants as sides
use Rattle.ill_record.specs.Side.{issued_of}
use Rattle.ill_record.specs.declared.role.Role.{Role}
use Rattle.ill_record.specs.declared.role.Role.TheVariants.{Requester, Responder}
use Rattle.ill_world.specs.declared.event.Event.{Event}
use Rattle.ill_world.specs.declared.event.Event.TheVariants.{Wish, Deed, Save, Send, Deliver}
use Rattle.ill_world.specs.World.{Parties, first_world, party, run_of}
use Rattle.ill_world.specs.Round.{sends_and_delivers, half_of}

-- ---- worlds that are amiss

-- A live side of `w` has the role of the other one, or `P` holds of the two live records.
pub data IsAmiss (P : RequesterRecord → ResponderRecord → Type 0) (w : Parties) : Type 0 where
  no_requester : (y : ResponderRecord) → w.requester.live ≡ sides.Responder y → IsAmiss P w
  no_responder : (x : RequesterRecord) → w.responder.live ≡ sides.Requester x → IsAmiss P w
  both : (x : RequesterRecord) (y : ResponderRecord) → w.requester.live ≡ sides.Requester x →
      w.responder.live ≡ sides.Responder y → P x y → IsAmiss P w

-- ---- a round that is cut short

-- Returns the half of a round of `who` without its last message.
abbrev pub cut_half : Role → Parties → List Event
cut_half who w = Save who ∷ sends_and_delivers who 1 (length (issued_of (party w who).live) - 1)

-- Returns a round without the last message of the given party.
abbrev pub cut_round : Role → Parties → List Event
cut_round Requester w = cut_half Requester w ++ half_of Responder (run_of w (cut_half Requester w))
cut_round Responder w = half_of Requester w ++ cut_half Responder (run_of w (half_of Requester w))

-- Returns the half of a round of `who` without its first message.
abbrev pub late_half : Role → Parties → List Event
late_half who w = Save who ∷ sends_and_delivers who 2 (length (issued_of (party w who).live) - 1)

-- Returns a round without the first message of the given party.
abbrev pub late_round : Role → Parties → List Event
late_round Requester w = late_half Requester w ++ half_of Responder (run_of w (late_half Requester w))
late_round Responder w = half_of Requester w ++ late_half Responder (run_of w (half_of Requester w))

-- ---- worlds in which the message is needed

-- The worlds are of this transaction.
abbrev pub named_loan : Qualifiers
named_loan = record { group = codes "North-2025"; transaction = codes "17" }

-- The requester asks for an item.
abbrev pub request : List Event
request = Wish (wishes.Request None (codes "A History of Maps")) ∷ []

-- The request reaches the responder.
abbrev pub arrival : List Event
arrival = Save Requester ∷ Send Requester 1 ∷ Deliver Responder 1 ∷ []

-- The responder decides on this day.
abbrev pub first_day : Date
first_day = record { year = 2025; month = 3; day = 1 }

-- The request reaches the responder, which answers that it cannot supply the item.
abbrev pub refusal : List Event
refusal = arrival ++ Deed (deeds.Answer Unfilled) first_day ∷ []

-- Returns events that end with an issued message of `who`. It has not reached the other party.
abbrev pub until_unheard : Role → List Event
until_unheard Requester = request
until_unheard Responder = request ++ refusal

-- Returns the world after these events, in which the last message of `who` has not reached the other party.
abbrev pub last_unheard : Role → Parties
last_unheard who = run_of (first_world named_loan) (until_unheard who)

-- Returns events that end with two issued messages of `who`. The requester asks, and then cancels. The responder ships,
-- and then recalls the item. Neither message has reached the other party.
abbrev pub until_two_unheard : Role → List Event
until_two_unheard Requester = request ++ Wish wishes.Cancel ∷ []
until_two_unheard Responder = request ++ arrival ++ Deed (deeds.Ship first_day) first_day ∷ Deed deeds.Recall first_day ∷ []

-- Returns the world after these events, in which two messages of `who` have not reached the other party.
abbrev pub two_unheard : Role → Parties
two_unheard who = run_of (first_world named_loan) (until_two_unheard who)
