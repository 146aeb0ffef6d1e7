-- The messages of one transaction among those of a desk, and the sides to which messages and deeds lead.
use Rattle.std.specs.Prelude.{◌⊎◌, Bool, if◌then◌else◌, List, [], ◌∷◌, filter, fold, Result, Ok, Err}
use Rattle.ill_values.specs.Day.{Date}
use Rattle.ill_values.specs.TxnId.{Qualifiers}
use Rattle.ill_values.specs.declared.apdu.Apdu.{Apdu}
use Rattle.ill_core.specs.declared.refusal.Refusal.{Refusal}
use Rattle.ill_core.specs.declared.responder.Deed.{Deed}
use Rattle.ill_core.specs.Issued.{is_same_txn}
use Rattle.ill_record.specs.declared.side.Side.{Side}
use Rattle.ill_record.specs.declared.side.Action.TheVariants as actions
use Rattle.ill_record.specs.Side.{issued_of, acts, takes}
use Rattle.ill_words.specs.Sending.{wants_sending}
use Rattle.ill_world.specs.Agreement.{Facing}
use Rattle.ill_world.specs.Night.{AtRest}
use Rattle.ill_world.specs.Round.{HaveConverged}

-- Returns the messages of `apdus` that are of the transaction `txn`, in their order.
abbrev pub messages_for : Qualifiers → List Apdu → List Apdu
messages_for txn apdus = filter (λ a. is_same_txn txn a.txn) apdus

-- Returns the messages that `side` sends in a night: all that it has issued, or none. `was_asked` says that a message
-- of the loan came in this night.
abbrev pub sent_by : Bool → Side → List Apdu
sent_by was_asked side = if wants_sending was_asked side then issued_of side else []

-- Returns the side after it has taken `apdus`, one after another.
abbrev pub after_messages : Side → List Apdu → Side
after_messages side apdus = fold (λ side a. (takes side a).1) side apdus

-- Returns the side after a decision. If it was refused, the side is unchanged.
abbrev pub decided : Side → Result Side Refusal → Side
decided side (Ok new) = new
decided side (Err refusal) = side

-- Returns the side after deeds, one after another, each on its day.
unfoldable pub after_deeds_of : Side → List (Deed × Date) → Side
after_deeds_of side [] = side
after_deeds_of side (deed ∷ deeds) = after_deeds_of (decided side (acts side (actions.Deed deed.0 deed.1))) deeds

-- Two sides are converged or at rest.
abbrev pub ConvergedOrAtRest : Side → Side → Type 0
ConvergedOrAtRest requester responder = Facing HaveConverged requester responder ⊎ Facing AtRest requester responder
