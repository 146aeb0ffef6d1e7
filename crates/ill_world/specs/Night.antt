-- A night is a round in which a side is silent if its loan is over. A responder is not silent if it was asked in this
-- night. The night is this profile's own.
use Rattle.std.specs.Prelude.{◌≡◌, ◌⊎◌, Bool, true, false, not, ◌&&◌, List, [], ◌∷◌, ◌++◌}
use Rattle.ill_core.specs.State.{is_among}
use Rattle.ill_core.specs.Issued.{is_none}
use Rattle.ill_core.specs.Requester.{RequesterRecord}
use Rattle.ill_core.specs.Responder.{ResponderRecord}
use Rattle.ill_record.specs.declared.side.Side.{Side}
use Rattle.ill_record.specs.declared.side.Side.TheVariants as sides
use Rattle.ill_record.specs.Side.{issued_of}
use Rattle.ill_record.specs.declared.role.Role.{Role}
use Rattle.ill_record.specs.declared.role.Role.TheVariants.{Requester, Responder}
use Rattle.ill_world.specs.declared.event.Event.{Event}
use Rattle.ill_world.specs.declared.event.Event.TheVariants.{Save}
use Rattle.ill_world.specs.World.{Parties, run_of}
use Rattle.ill_world.specs.Agreement.{Facing}
use Rattle.ill_world.specs.Round.{half_of, faced_in, AreConverged}
use Rattle.ill_words.specs.Sending.{is_over, wants_sending}

-- ---- the sides that send

-- Returns true if the requester sends its messages in this night, and has issued one.
abbrev pub asks : Side → Bool
asks requester = wants_sending false requester && not (is_none (issued_of requester))

-- ---- the events of a night

-- Returns the half of a round of `who` if the Bool is true. Else it returns the save of `who` alone.
abbrev pub half_if : Bool → Role → Parties → List Event
half_if true who w = half_of who w
half_if false who w = Save who ∷ []

-- Returns the requester's half of a night.
abbrev pub asking_half : Parties → List Event
asking_half w = half_if (wants_sending false w.requester.live) Requester w

-- Returns the requester's half of a night, and then the responder's. The responder was asked if the requester `asks`.
abbrev pub night_of : Parties → List Event
night_of w =
    let between = run_of w (asking_half w) in
    asking_half w ++ half_if (wants_sending (asks w.requester.live) between.responder.live) Responder between

-- ---- the two records after a night

-- The loan is over for both records, and their states face each other.
pub record AtRest (x : RequesterRecord) (y : ResponderRecord) : Type 0 where
  pub requester : is_over (sides.Requester x) ≡ true
  pub responder : is_over (sides.Responder y) ≡ true
  pub faced : is_among (faced_in x.state) y.state ≡ true

-- The live records of both sides are at rest.
abbrev pub AreAtRest : Parties → Type 0
AreAtRest w = Facing AtRest w.requester.live w.responder.live

-- The live records of both sides are converged, or at rest.
abbrev pub AreConvergedOrAtRest : Parties → Type 0
AreConvergedOrAtRest w = AreConverged w ⊎ AreAtRest w
