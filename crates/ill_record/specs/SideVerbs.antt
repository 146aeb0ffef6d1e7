-- The verbs of the actions that a side may take, and its turn (this profile's own).
use Rattle.std.specs.Prelude.{List}
use Rattle.ill_core.specs.declared.turn.Turn.{Turn}
use Rattle.ill_core.specs.declared.verb.Verb.{Verb}
use Rattle.ill_core.specs.Verbs.{wish_verb, deed_verb, requester_verbs, responder_verbs, requester_turn, responder_turn}
use Rattle.ill_record.specs.declared.side.Side.{Side}
use Rattle.ill_record.specs.declared.side.Side.TheVariants as sides
use Rattle.ill_record.specs.declared.side.Action.{Action}
use Rattle.ill_record.specs.declared.side.Action.TheVariants as actions

-- Returns the verb of the action.
abbrev pub verb_of : Action → Verb
verb_of (actions.Wish wish) = wish_verb wish
verb_of (actions.Deed deed today) = deed_verb deed

-- Returns the verbs of the actions that the side may perform in its state.
abbrev pub verbs_of : Side → List Verb
verbs_of (sides.Requester x) = requester_verbs x
verbs_of (sides.Responder y) = responder_verbs y

-- Returns the turn, as far as the side knows it.
abbrev pub turn_of : Side → Turn
turn_of (sides.Requester x) = requester_turn x
turn_of (sides.Responder y) = responder_turn y
