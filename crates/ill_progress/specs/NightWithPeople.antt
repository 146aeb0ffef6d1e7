-- A night in which people act. Between its halves the responder's library does deeds, saves, and its machine may
-- restart. It is this profile's own.
use Rattle.std.specs.Prelude.{◌≡◌, ℕ, Bool, true, false, List, [], ◌∷◌, ◌++◌, Some}
use Rattle.ill_values.specs.declared.apdu.Apdu.{Apdu}
use Rattle.ill_core.specs.Issued.{message}
use Rattle.ill_core.specs.Requester.{RequesterRecord}
use Rattle.ill_core.specs.Responder.{ResponderRecord}
use Rattle.ill_core.specs.ResponderDeliveries.{takes}
use Rattle.ill_record.specs.declared.role.Role.TheVariants.{Requester, Responder}
use Rattle.ill_words.specs.Sending.{wants_sending}
use Rattle.ill_world.specs.declared.event.Event.{Event}
use Rattle.ill_world.specs.declared.event.Event.TheVariants.{Deed, Save, SaveFault, Send, Noise, Restart}
use Rattle.ill_world.specs.World.{Parties, run_of}
use Rattle.ill_world.specs.Agreement.{Facing}
use Rattle.ill_world.specs.Night.{asks, half_if, asking_half, night_of}

-- ---- what the responder has heard

-- No message that the requester has issued would change the responder's record now.
abbrev pub HasHeard : RequesterRecord → ResponderRecord → Type 0
HasHeard x y = (n : ℕ) (a : Apdu) → message x.issued n ≡ Some a → (takes y a).1 ≡ y

-- The responder's live record has heard all messages of the requester's.
abbrev pub ResponderHasHeard : Parties → Type 0
ResponderHasHeard w = Facing HasHeard w.requester.live w.responder.live

-- ---- people at the responder's library

-- Returns true if the event is one at the responder's library, and no delivery: a deed, a save that succeeds or fails,
-- a Send, noise, or a restart.
abbrev pub is_by_responder : Event → Bool
is_by_responder (Deed deed today) = true
is_by_responder (Save Responder) = true
is_by_responder (SaveFault Responder committed) = true
is_by_responder (Send Responder n) = true
is_by_responder (Noise Responder bytes) = true
is_by_responder (Restart Responder) = true
is_by_responder other = false

-- Returns the requester's half of a night, a save of the responder, and then `people`, the events at its library.
abbrev pub asked_and_worked : List Event → Parties → List Event
asked_and_worked people w = asking_half w ++ Save Responder ∷ people

-- Returns the responder's half of a night from `now` on, and then a save of the requester. `asked` says that the
-- requester asked in this night.
abbrev pub answering_half : Bool → Parties → List Event
answering_half asked now = half_if (wants_sending asked now.responder.live) Responder now ++ Save Requester ∷ []

-- Returns a night from `w` on, in which `people` act between its halves.
abbrev pub worked_night_of : List Event → Parties → List Event
worked_night_of people w =
    let before = asked_and_worked people w in
    before ++ answering_half (asks w.requester.live) (run_of w before)

-- The live sides of both are committed.
pub record AreCommitted (w : Parties) : Type 0 where
  pub requester : w.requester.committed ≡ w.requester.live
  pub responder : w.responder.committed ≡ w.responder.live

-- ---- nights that the responder begins

-- Returns two nights from `w` on that the responder begins: its half, the requester's, its half again, and the
-- requester's again. The two halves in the middle are a night that the requester begins. `asked` says that the
-- requester asked before the first half.
abbrev pub two_late_nights_of : Bool → Parties → List Event
two_late_nights_of asked w =
    let first = half_if (wants_sending asked w.responder.live) Responder w in
    let now = run_of w first in
    first ++ (night_of now ++ asking_half (run_of now (night_of now)))
