-- Facts that the laws of nights use. Each is a law of ill_core or of ill_world.
use Rattle.std.specs.Prelude.{◌≡◌, ℕ, true, false, [], ◌∷◌}
use Rattle.ill_values.specs.TxnId.{Qualifiers}
use Rattle.ill_values.specs.Bodies.{is_requesters}
use Rattle.ill_values.specs.declared.apdu.Apdu.{Apdu}
use Rattle.ill_values.specs.Body.{Body}
use Rattle.ill_core.specs.declared.turn.Turn.TheVariants.{Over}
use Rattle.ill_core.specs.Issued.{is_same_txn}
use Rattle.ill_core.specs.Requester.{RequesterRecord}
use Rattle.ill_core.specs.RequesterDeliveries as requester_deliveries
use Rattle.ill_core.specs.Responder.{ResponderRecord}
use Rattle.ill_core.specs.ResponderDeliveries as responder_deliveries
use Rattle.ill_core.specs.ResponderNotices as records
use Rattle.ill_core.specs.Verbs.{requester_turn}
use Rattle.ill_record.specs.declared.role.Role.TheVariants.{Requester, Responder}
use Rattle.ill_words.specs.Sending.{is_over}
use Rattle.ill_world.specs.declared.event.Event.{Event}
use Rattle.ill_world.specs.declared.event.Event.TheVariants.{Save}
use Rattle.ill_world.specs.World.{Parties, happens, run_of}
use Rattle.ill_world.specs.Invariant.{Invariant}
use Rattle.ill_world.specs.Round.{round_of, AreConverged, CanAnswer}
use Rattle.ill_world.specs.Night.{night_of, AreAtRest, AreConvergedOrAtRest}

-- The facts of the tables and of worlds on which the laws of nights rest.
pub record NightFacts (txn : Qualifiers) : Type 0 where
  -- Each event keeps the invariant.
  pub after : (w : Parties) (event : Event) → Invariant txn w → Invariant txn (happens w event).1
  -- If the loan is over for the requester, both sides are at rest.
  pub rests : (w : Parties) → Invariant txn w → is_over w.requester.live ≡ true → AreAtRest w
  -- If the responder can answer a Conditional-Reply no, a round brings both sides to convergence.
  pub converged : (w : Parties) → Invariant txn w → CanAnswer w.responder.live → AreConverged (run_of w (round_of w))
  -- If the loan is open for the requester, a night is a round.
  pub rounds : (w : Parties) → Invariant txn w → is_over w.requester.live ≡ false → night_of w ≡ round_of w
  -- If the loan is over for the requester, a night is a save of each side.
  pub saves : (w : Parties) → Invariant txn w → is_over w.requester.live ≡ true
      → night_of w ≡ Save Requester ∷ Save Responder ∷ []
  -- If the responder can answer a Conditional-Reply no, a night brings both sides to convergence, or to rest.
  pub night : (w : Parties) → Invariant txn w → CanAnswer w.responder.live → AreConvergedOrAtRest (run_of w (night_of w))
  -- If the loan is over for the requester, no message changes its record.
  pub over_stays : (x : RequesterRecord) (a : Apdu) → requester_turn x ≡ Over → (requester_deliveries.takes x a).1 ≡ x
  -- A requester that takes a message issues none.
  pub requester_issues : (x : RequesterRecord) (a : Apdu) → (requester_deliveries.takes x a).1.issued ≡ x.issued
  -- A responder that takes a message keeps its transaction.
  pub responder_txn : (y : ResponderRecord) (a : Apdu) → (responder_deliveries.takes y a).1.txn ≡ y.txn
  -- If a responder takes a requester's message of its transaction, it has heard it then.
  pub responder_takes : (y : ResponderRecord) (a : Apdu) → is_same_txn a.txn y.txn ≡ true → is_requesters a.body ≡ true
      → records.has_heard (responder_deliveries.takes y a).1 a.number a.body ≡ true
  -- If a responder has heard a message, and takes one that does not reopen it, it still has heard it.
  pub responder_stays : (y : ResponderRecord) (a : Apdu) (number : ℕ) (body : Body) → records.reopens a.body body ≡ false
      → records.has_heard y number body ≡ true
      → records.has_heard (responder_deliveries.takes y a).1 number body ≡ true
