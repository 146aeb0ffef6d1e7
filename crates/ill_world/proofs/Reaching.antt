-- Each event of desks reaches the side that is held, or a side that it begins. If it may begin none, or there is no
-- room, its outcome is NoSuchTransaction or DeskFull.
use Rattle.std.proofs.Common.{◌≡◌, ℕ, nat_lt, length, Bool, true, false, not, if◌then◌else◌, Option, Some, None, Result, Ok, Err}
use Rattle.std.proofs.Common.{refl, sym, ap, ◌∙◌, subst}
use Rattle.ill_values.specs.TxnId.{Qualifiers}
use Rattle.ill_values.specs.declared.apdu.Apdu.{Apdu}
use Rattle.ill_core.specs.declared.refusal.Refusal.{Refusal}
use Rattle.ill_core.specs.declared.refusal.Refusal.TheVariants.{WrongRole}
use Rattle.ill_values.specs.Bodies.{is_ill_request}
use Rattle.ill_saved.specs.declared.fault.DeskFault.{DeskFault}
use Rattle.ill_saved.specs.declared.fault.DeskFault.TheVariants as faults
use Rattle.ill_record.specs.declared.role.Role.{Role}
use Rattle.ill_record.specs.declared.role.Role.TheVariants as who
use Rattle.ill_record.specs.declared.side.Side.{Side}
use Rattle.ill_record.specs.declared.side.Action.{Action}
use Rattle.ill_record.specs.declared.side.Action.TheVariants as actions
use Rattle.ill_record.specs.Side.{other, acts, takes, role_for, begins}
use Rattle.ill_record.specs.Sides.{is_same_role, most_sides}
use Rattle.ill_saved.specs.Holdings.{DeskEntry}
use Rattle.ill_saved.specs.ManySides.{DeskContents, found_by, txn_held, idle_held, held_or_begun, side_for_call}
use Rattle.ill_saved.specs.ManySides.{acted as acted_at, acts_reached, desk_acts, contents_after_message as took_at}
use Rattle.ill_saved.specs.ManySides.{takes_reached, is_own}
use Rattle.ill_world.specs.declared.event.DeskEvent.{DeskEvent}
use Rattle.ill_world.specs.declared.event.DeskEvent.TheVariants as events
use Rattle.ill_words.specs.declared.outcome.DeskOutcome.{DeskOutcome}
use Rattle.ill_world.specs.World.{party, sent_message}
use Rattle.ill_world.specs.Desks.{DeskParty, DeskParties, sent_for, fault_seen, desk_decides, desk_sends, taking_seen}
use Rattle.ill_world.specs.Desks.{desk_receives}
use Rattle.ill_world.specs.DeskSafety.{DesksInvariant}
use Rattle.ill_world.specs.DeskChanges.{IsPlain, Reaches, ReachesAt, ReachesSide}
use Rattle.ill_world.proofs.Outcomes.{responders_own, requesters_own}
use Rattle.ill_world.proofs.Projections.{may_act}
use Rattle.ill_world.proofs.Desks.{keeps_to}

-- If `seen` gives a plain outcome for each entry, and `fault_seen` for each fault, `Reaches` holds of its outcome.
reach : (seen : Result DeskEntry DeskFault → DeskOutcome) → ((held : DeskEntry) → IsPlain (seen (Ok held)))
    → ((fault : DeskFault) → seen (Err fault) ≡ fault_seen fault)
    → (may_begin has_room : Bool) (idle : DeskEntry) (found : Option DeskEntry)
    → Reaches may_begin has_room found (seen (held_or_begun may_begin has_room idle found))
reach seen plainly faulted may_begin has_room idle (Some held) = plainly held
reach seen plainly faulted true true idle None = plainly idle
reach seen plainly faulted true false idle None = faulted faults.DeskFull
reach seen plainly faulted false has_room idle None = faulted faults.NoSuchTransaction

-- A decision at a held side has a plain outcome.
decided_plainly : (p : DeskParty) (held : DeskEntry) (result : Result Side Refusal)
    → IsPlain (desk_decides p (acted_at p.live held result)).0
decided_plainly p held (Ok new) = tt
decided_plainly p held (Err refusal) = tt

-- `ReachesAt` holds of an action of the desk's own role.
decides_reaches : (p : DeskParty) (txn : Qualifiers) (action : Action)
    → is_same_role p.live.role (role_for action) ≡ true
    → ReachesAt (begins action) p txn (desk_decides p (desk_acts p.live txn action)).0
decides_reaches p txn action may =
    subst (λ b. ReachesAt (begins action) p txn
    (desk_decides p (if b then acts_reached p.live action (side_for_call p.live txn (begins action)) else
    Err (faults.Core WrongRole))).0) (sym may)
    (reach (λ found. (desk_decides p (acts_reached p.live action found)).0)
    (λ held. decided_plainly p held (acts held.side action)) (λ fault. refl) (begins action)
    (nat_lt (length p.live.held) most_sides)
    (idle_held p.live.role txn) (found_by txn_held txn p.live.held))

-- A Send reaches the side that is held, or has the outcome NoSuchTransaction.
sent_plainly : (p : DeskParty) (txn : Qualifiers) (n : ℕ) (found : Option DeskEntry)
    → Reaches false (nat_lt (length p.live.held) 1000) found (desk_sends p txn n found).0
sent_plainly p txn n (Some held) = tt
sent_plainly p txn n None = refl

-- A message that a held side takes has a plain outcome.
took_plainly : (live : DeskContents) (held : DeskEntry) (answer : Result _ Refusal) (new : Side)
    → IsPlain (taking_seen (took_at live held (answer, new)).0)
took_plainly live held (Ok _) new = tt
took_plainly live held (Err refusal) new = tt

-- `ReachesAt` holds of the delivery of a message of the other role.
takes_reaches : (p : DeskParty) (a : Apdu) → is_own p.live.role a.body ≡ false
    → ReachesAt (is_ill_request a.body) p a.txn (desk_receives p (Some a)).0
takes_reaches p a others =
    subst (λ b. ReachesAt (is_ill_request a.body) p a.txn
    (taking_seen (if b then (Err (faults.Core WrongRole), p.live) else
    takes_reached p.live a (side_for_call p.live a.txn (is_ill_request a.body))).0)) (sym others)
    (reach (λ found. taking_seen (takes_reached p.live a found).0)
    (λ held. took_plainly p.live held (takes held.side a).0 (takes held.side a).1) (λ fault. refl) (is_ill_request a.body)
    (nat_lt (length p.live.held) most_sides) (idle_held p.live.role a.txn) (found_by txn_held a.txn p.live.held))

-- A message that the other desk has sent is of a type that this role does not issue.
sent_by_other : (w : DeskParties) (role : Role) → DesksInvariant w → (txn : Qualifiers) (n : ℕ) (a : Apdu)
    → sent_message (sent_for txn (party w (other role)).sent) n ≡ Some a → is_own role a.body ≡ false
sent_by_other w who.Requester stands txn n a sent =
    let responder = (stands.each txn).responder in
    responders_own txn _ _ n a responder.committed (responder.saved.committed n a sent)
sent_by_other w who.Responder stands txn n a sent =
    let requester = (stands.each txn).requester in
    ap not (requesters_own txn _ _ n a requester.committed (requester.saved.committed n a sent))

-- `ReachesAt` holds of the delivery of a message that the other desk has sent.
delivers_reaches : (w : DeskParties) (role : Role) → DesksInvariant w
    → (txn : Qualifiers) (n : ℕ) (a : Apdu) (found : Option Apdu) → found ≡ Some a
    → sent_message (sent_for txn (party w (other role)).sent) n ≡ Some a
    → ReachesAt (is_ill_request a.body) (party w role) txn (desk_receives (party w role) found).0
delivers_reaches w role stands txn n a found is sent =
    let keeps = keeps_to w role stands in
    subst (λ o. ReachesAt (is_ill_request a.body) (party w role) txn (desk_receives (party w role) o).0) (sym is)
    (subst (λ t. ReachesAt (is_ill_request a.body) (party w role) t (desk_receives (party w role) (Some a)).0)
    (sym (keeps.txn_of_sent txn n a sent))
    (takes_reaches (party w role) a (ap (λ r. is_own r a.body) keeps.role_is ∙ sent_by_other w role stands txn n a sent)))

-- `ReachesSide` holds of each event at two desks that satisfy `DesksInvariant`.
pub reaches_side : (w : DeskParties) (event : DeskEvent) → DesksInvariant w → ReachesSide w event
reaches_side w (events.Wish txn wish) stands =
    decides_reaches w.requester txn (actions.Wish wish) (may_act w.requester who.Requester stands.requester.0)
reaches_side w (events.Deed txn deed today) stands =
    decides_reaches w.responder txn (actions.Deed deed today) (may_act w.responder who.Responder stands.responder.0)
reaches_side w (events.Send role txn n) stands =
    sent_plainly (party w role) txn n (found_by txn_held txn (party w role).live.held)
reaches_side w (events.Deliver role txn n) stands = λ a sent.
    delivers_reaches w role stands txn n a (sent_message (sent_for txn (party w (other role)).sent) n) sent sent
reaches_side w (events.Save role) stands = tt
reaches_side w (events.SaveFault role committed) stands = tt
reaches_side w (events.Noise role bytes) stands = tt
reaches_side w (events.Restart role) stands = tt
