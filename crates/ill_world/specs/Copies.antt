-- A copy of a committed record may be put back if it has every message that its party has sent. No event of a script
-- puts a copy back. These definitions are this profile's own.
use Rattle.std.specs.Prelude.{◌≡◌, ℕ, List, [], ◌∷◌, ◌++◌, Some}
use Rattle.ill_values.specs.declared.apdu.Apdu.{Apdu}
use Rattle.ill_values.specs.declared.apdu.AnswerResult.TheVariants.{Unfilled}
use Rattle.ill_core.specs.declared.responder.Deed.TheVariants as deeds
use Rattle.ill_core.specs.Issued.{message}
use Rattle.ill_record.specs.declared.side.Side.{Side}
use Rattle.ill_record.specs.Side.{issued_of}
use Rattle.ill_record.specs.Sides.{SidesOf}
use Rattle.ill_record.specs.declared.role.Role.{Role}
use Rattle.ill_record.specs.declared.role.Role.TheVariants.{Requester, Responder}
use Rattle.ill_world.specs.declared.event.Event.{Event}
use Rattle.ill_world.specs.declared.event.Event.TheVariants.{Deed, Save, Send, Deliver}
use Rattle.ill_world.specs.World.{Party, Parties, party, with_party, sent_message, restarts, first_world, run_of}
use Rattle.ill_world.specs.Desks.{DeskParties, desk_restarts}
use Rattle.ill_world.specs.BadRounds.{named_loan, request, arrival, first_day}

-- Returns `w` after `copy` was put back at `who`. The copy is its committed side, with which it restarts.
abbrev pub puts_back : Role → Side → Parties → Parties
puts_back who copy w = with_party w who (restarts (record (party w who) { committed = copy }))

-- Returns two desks after `copy` was put back at desk `who`.
abbrev pub desk_puts_back : Role → SidesOf → DeskParties → DeskParties
desk_puts_back who copy w = with_party w who (desk_restarts (record (party w who) { committed = copy }))

-- The copy has each message that `p` has sent, under its number.
abbrev pub HasAllSent : Side → Party → Type 0
HasAllSent copy p = (n : ℕ) (a : Apdu) → sent_message p.sent n ≡ Some a → message (issued_of copy) n ≡ Some a

-- ---- a copy that is too old

-- The request reaches the responder, which saves it. A copy of its record is made now.
abbrev pub until_copy : List Event
until_copy = request ++ arrival ++ Save Responder ∷ []

-- The responder answers that it cannot supply the item, and this answer reaches the requester.
abbrev pub since_copy : List Event
since_copy = Deed (deeds.Answer Unfilled) first_day ∷ Save Responder ∷ Send Responder 1 ∷ Deliver Requester 1 ∷ []

-- Returns the world after the copy was put back, which lacks the answer.
abbrev pub older_copy_back : Parties
older_copy_back =
    let copied = run_of (first_world named_loan) until_copy in
    puts_back Responder copied.responder.committed (run_of copied since_copy)
