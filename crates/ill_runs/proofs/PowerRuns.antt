-- Proves that a loss of power adds nothing to a run of two desks: each is a failed save with another end, and a
-- restart.
use Rattle.std.proofs.Common.{◌≡◌, ◌⊎◌, inl, inr, ℕ, Bool, true, false, nat_le, List, [], ◌∷◌, ◌++◌, length, Option, Some, None}
use Rattle.std.proofs.Common.{Result, Ok, Err, refl, sym, ap, ◌∙◌, subst, take_all, arith}
use Rattle.ill_values.specs.TxnId.{Qualifiers}
use Rattle.ill_values.specs.declared.apdu.Apdu.{Apdu}
use Rattle.ill_core.specs.Issued.{message}
use Rattle.ill_saved.specs.declared.fault.DeskFault.{DeskFault}
use Rattle.ill_record.specs.declared.role.Role.{Role}
use Rattle.ill_record.specs.declared.role.Role.TheVariants as who
use Rattle.ill_record.specs.declared.side.Action.TheVariants as actions
use Rattle.ill_record.specs.Side.{issued_of, other}
use Rattle.ill_record.specs.Sides.{SidesOf}
use Rattle.ill_saved.specs.Holdings.{DeskEntry}
use Rattle.ill_saved.specs.ManySides.{DeskContents, sides_held, found_by, txn_held, desk_acts}
use Rattle.ill_world.specs.declared.event.DeskEvent.{DeskEvent}
use Rattle.ill_world.specs.declared.event.DeskEvent.TheVariants as events
use Rattle.ill_world.specs.World.{party, with_party, who_of, run_by, sends_by, sent_message}
use Rattle.ill_world.specs.Desks.{DeskParty, DeskParties, Sending, plain, sent_for, with_sent_for, desk_decides, desk_sends}
use Rattle.ill_world.specs.Desks.{desk_receives, desk_saves, desk_restarts, desk_happens_to, desks_happen, desks_run, first_desk}
use Rattle.ill_world.specs.Desks.{first_desks, project}
use Rattle.ill_world.specs.DeskSafety.{DesksInvariant, IsSafeDeskRun}
use Rattle.ill_world.specs.Safety.{Safe}
use Rattle.ill_world.proofs.Desks.{EachStands, desks_stand_on}
use Rattle.ill_runs.specs.Power.{PoweredDesk, IsAmong, leaves_after, powered_after, started_from, PowerEvent, at_desks, loss}
use Rattle.ill_runs.specs.Power.{PoweredDesks, first_powered_desks, desks_of, power_happens, power_run, AllMayHappen}
use Rattle.ill_runs.specs.BadPower.{ForgetsSent}
use Rattle.ill_runs.proofs.LibraryLemmas.{after_event, run_join}

-- Returns desk `p` with other committed sides.
abbrev with_committed : DeskParty → SidesOf → DeskParty
with_committed p committed = record p { committed = committed }

-- These sides are committed at the desk, or a loss of power may leave them.
abbrev MayStand : PoweredDesk → SidesOf → Type 0
MayStand p sides = (sides ≡ p.desk.committed) ⊎ IsAmong sides p.leaves

-- ---- events that depend on no committed side

module _ (p : DeskParty) (committed : SidesOf) where
  -- If other sides were committed, a decision would lead to its desk with these sides.
  decides_so : (result : Result DeskContents DeskFault)
      → (desk_decides (with_committed p committed) result).1 ≡ with_committed (desk_decides p result).1 committed
  decides_so (Ok new) = refl
  decides_so (Err fault) = refl

  -- If other sides were committed, a message that leaves would lead to its desk with these sides.
  leaves_so : (txn : Qualifiers) (n : ℕ) (issued : Option Apdu) (is_released : Bool)
      → (sends_by (with_committed p committed) (λ a. record (with_committed p committed) { sent = with_sent_for txn p.sent n a })
      issued
      is_released).1
      ≡ with_committed (sends_by p (λ a. record p { sent = with_sent_for txn p.sent n a }) issued is_released).1 committed
  leaves_so txn n (Some a) true = refl
  leaves_so txn n (Some a) false = refl
  leaves_so txn n None is_released = refl

  -- If other sides were committed, a Send would lead to its desk with these sides.
  sends_so : (txn : Qualifiers) (n : ℕ) (found : Option DeskEntry)
      → (desk_sends (with_committed p committed) txn n found).1 ≡ with_committed (desk_sends p txn n found).1 committed
  sends_so txn n (Some held) = leaves_so txn n (message (issued_of held.side) n) (nat_le n held.released)
  sends_so txn n None = refl

  -- If other sides were committed, a delivery would lead to its desk with these sides.
  receives_so : (found : Option Apdu)
      → (desk_receives (with_committed p committed) found).1 ≡ with_committed (desk_receives p found).1 committed
  receives_so (Some a) = refl
  receives_so None = refl

-- ---- one event of one desk

-- Sides `before` may stand at `p`. If they are committed there, an event of `who` leads from `p` to `after` with the
-- committed sides `committed`.
record Foretold (who : Role) (sent : List Sending) (p after : PoweredDesk) (committed : SidesOf) : Type 0 where
  before : SidesOf
  stood : MayStand p before
  event : DeskEvent
  here : who_of (plain event) ≡ who
  leads : (desk_happens_to (with_committed p.desk before) sent event).1 ≡ with_committed after.desk committed

-- If one record alone may be left, and is committed, its sides are those that may stand.
stands_alone : (sides committed : SidesOf) → (sides ≡ committed) ⊎ IsAmong sides (committed ∷ []) → sides ≡ committed
unfolding IsAmong
stands_alone sides committed either = elim either [
  | inl same ↦ same
  | inr among ↦ elim among [ inl same ↦ same | inr none ↦ absurd none ]
]

module _ (who : Role) (sent : List Sending) (p : PoweredDesk) where
  -- Premises: an event depends on no committed side, and leaves what may be left. Then sides that may stand after it
  -- are foretold: they may stand before it.
  quiet_so : (event : DeskEvent) → who_of (plain event) ≡ who → leaves_after p.desk p.leaves event ≡ p.leaves
      → ((committed : SidesOf) → (desk_happens_to (with_committed p.desk committed) sent event).1
      ≡ with_committed (desk_happens_to p.desk sent event).1 committed)
      → (committed : SidesOf) → MayStand (powered_after p sent event) committed
      → Foretold who sent p (powered_after p sent event) committed
  quiet_so event here leaves so committed stands = record {
    before = committed;
    stood = elim stands [
      | inl same ↦ inl (same ∙ ap (λ (d : DeskParty). d.committed) (so p.desk.committed))
      | inr among ↦ inr (subst (IsAmong committed) leaves among)
    ];
    event = event;
    here = here;
    leads = so committed;
  }

  -- If the old record stands after a save that failed, the save committed nothing.
  old_so : (w : Role) (b : Bool) → w ≡ who → (committed : SidesOf) → MayStand p committed
      → Foretold who sent p (powered_after p sent (events.SaveFault w b)) committed
  old_so w true here committed stood =
      record { before = committed; stood = stood; event = events.SaveFault w false; here = here; leads = refl }
  old_so w false here committed stood =
      record { before = committed; stood = stood; event = events.SaveFault w false; here = here; leads = refl }

  -- If the new record stands after a save that failed, the save committed it.
  new_so : (w : Role) (b : Bool) → w ≡ who → (committed : SidesOf) → committed ≡ sides_held p.desk.live
      → Foretold who sent p (powered_after p sent (events.SaveFault w b)) committed
  new_so w true here committed same = record {
    before = p.desk.committed;
    stood = inl refl;
    event = events.SaveFault w true;
    here = here;
    leads = ap (with_committed p.desk) (sym same);
  }
  new_so w false here committed same = record {
    before = p.desk.committed;
    stood = inl refl;
    event = events.SaveFault w true;
    here = here;
    leads = ap (with_committed p.desk) (sym same);
  }

  -- After a save that failed the old record may stand, or the new one.
  fault_so : (w : Role) (b : Bool) → w ≡ who → (committed : SidesOf)
      → MayStand (powered_after p sent (events.SaveFault w b)) committed
      → Foretold who sent p (powered_after p sent (events.SaveFault w b)) committed
  unfolding IsAmong
  fault_so w true here committed stands = elim stands [
    | inl same ↦ new_so w true here committed same
    | inr among ↦ elim among [
      | inl same ↦ new_so w true here committed same
      | inr old ↦ old_so w true here committed (inr old)
    ]
  ]
  fault_so w false here committed stands = elim stands [
    | inl same ↦ old_so w false here committed (inl same)
    | inr among ↦ elim among [
      | inl same ↦ new_so w false here committed same
      | inr old ↦ old_so w false here committed (inr old)
    ]
  ]

  -- If `committed` may stand after `event`, it is foretold: some event leads there from sides that may stand before.
  foretold : (event : DeskEvent) → who_of (plain event) ≡ who → (committed : SidesOf)
      → MayStand (powered_after p sent event) committed → Foretold who sent p (powered_after p sent event) committed
  foretold (events.Wish txn wish) here committed stands =
      quiet_so (events.Wish txn wish) here refl
      (λ others. decides_so p.desk others (desk_acts p.desk.live txn (actions.Wish wish))) committed stands
  foretold (events.Deed txn deed today) here committed stands =
      quiet_so (events.Deed txn deed today) here refl
      (λ others. decides_so p.desk others (desk_acts p.desk.live txn (actions.Deed deed today))) committed stands
  foretold (events.Save w) here committed stands = record {
    before = p.desk.committed;
    stood = inl refl;
    event = events.Save w;
    here = here;
    leads = ap (with_committed (desk_saves p.desk)) (sym (stands_alone committed (sides_held p.desk.live) stands));
  }
  foretold (events.SaveFault w b) here committed stands = fault_so w b here committed stands
  foretold (events.Send w txn n) here committed stands =
      quiet_so (events.Send w txn n) here refl
      (λ others. sends_so p.desk others txn n (found_by txn_held txn p.desk.live.held)) committed stands
  foretold (events.Deliver w txn n) here committed stands =
      quiet_so (events.Deliver w txn n) here refl
      (λ others. receives_so p.desk others (sent_message (sent_for txn sent) n)) committed stands
  foretold (events.Noise w bytes) here committed stands =
      quiet_so (events.Noise w bytes) here refl (λ other_committed. refl) committed stands
  foretold (events.Restart w) here committed stands = record {
    before = p.desk.committed;
    stood = inl refl;
    event = events.Restart w;
    here = here;
    leads = ap (with_committed (desk_restarts p.desk)) (sym (stands_alone committed p.desk.committed stands));
  }

  -- A loss of power is a restart from what might stand before.
  lost_so : (left : SidesOf) → IsAmong left p.leaves → (committed : SidesOf) → MayStand (started_from p.desk left) committed
      → Foretold who sent p (started_from p.desk left) committed
  lost_so left among committed stands = record {
    before = left;
    stood = inr among;
    event = events.Restart who;
    here = refl;
    leads = ap (with_committed (started_from p.desk left).desk) (sym (stands_alone committed left stands));
  }

-- ---- two desks

-- Returns the two desks with these committed sides.
abbrev with_both : PoweredDesks → SidesOf → SidesOf → DeskParties
with_both w mine theirs =
    record { requester = with_committed w.requester.desk mine; responder = with_committed w.responder.desk theirs }

-- For all sides that may stand at both desks, some events lead to the desks with these committed sides.
abbrev Reached : PoweredDesks → Type 0
Reached w =
    (mine theirs : SidesOf) → MayStand w.requester mine → MayStand w.responder theirs →
    (alone : List DeskEvent) × (desks_run first_desks alone ≡ with_both w mine theirs)

-- If events lead to the desks `w`, and one more from there to `v`, all of them lead to `v`.
one_more : (alone : List DeskEvent) (event : DeskEvent) (w v : DeskParties) → desks_run first_desks alone ≡ w
    → (desks_happen w event).1 ≡ v → desks_run first_desks (alone ++ event ∷ []) ≡ v
unfolding run_by
one_more alone event w v run next =
    run_join first_desks alone (event ∷ []) ∙ ap (λ (x : DeskParties). (desks_happen x event).1) run ∙ next

-- If what may stand at a desk after an event is foretold, the desks after it are reached.
reached_on : (role : Role) (w : PoweredDesks) (p : PoweredDesk)
    → ((committed : SidesOf) → MayStand p committed → Foretold role (party w (other role)).desk.sent (party w role) p committed)
    → Reached w → Reached (with_party w role p)
reached_on who.Requester w p foresee reached mine theirs here there =
    let f = foresee mine here in
    let run = reached f.before theirs f.stood there in
    let from : DeskParties = with_both w f.before theirs in (
      run.0 ++ f.event ∷ [],
      one_more run.0 f.event from (with_both (with_party w who.Requester p) mine theirs) run.1
          (ap (λ role. after_event from role f.event) f.here ∙ ap (λ d. with_party from who.Requester d) f.leads),
    )
reached_on who.Responder w p foresee reached mine theirs here there =
    let f = foresee theirs there in
    let run = reached mine f.before here f.stood in
    let from : DeskParties = with_both w mine f.before in (
      run.0 ++ f.event ∷ [],
      one_more run.0 f.event from (with_both (with_party w who.Responder p) mine theirs) run.1
          (ap (λ role. after_event from role f.event) f.here ∙ ap (λ d. with_party from who.Responder d) f.leads),
    )

-- If some desks are reached, those after any events and losses of power are.
runs_reach : (w : PoweredDesks) (happened : List PowerEvent) → AllMayHappen w happened → Reached w
    → Reached (power_run w happened)
unfolding power_run AllMayHappen
runs_reach w [] may reached = reached
runs_reach w (at_desks event ∷ later) may reached =
    let role = who_of (plain event) in
    let sent = (party w (other role)).desk.sent in
    runs_reach (power_happens w (at_desks event)) later may.1
    (reached_on role w (powered_after (party w role) sent event) (foretold role sent (party w role) event refl) reached)
runs_reach w (loss role left ∷ later) may reached =
    let sent = (party w (other role)).desk.sent in
    runs_reach (power_happens w (loss role left)) later may.1
    (reached_on role w (started_from (party w role).desk left) (lost_so role sent (party w role) left may.0) reached)

-- The first desks are reached by an empty list of events: only their own sides may stand.
first_reached : Reached first_powered_desks
unfolding run_by
first_reached mine theirs here there =
    let first = stands_alone mine (first_desk who.Requester).committed here in
    let second = stands_alone theirs (first_desk who.Responder).committed there in (
      [],
      sym (ap (λ (m : SidesOf). with_both first_powered_desks m theirs) first
          ∙ ap (λ (t : SidesOf). with_both first_powered_desks (first_desk who.Requester).committed t) second),
    )

-- After any events and losses of power, some events alone lead to both desks.
pub powered_run_is_run : (happened : List PowerEvent) → AllMayHappen first_powered_desks happened
    → (alone : List DeskEvent) × (desks_run first_desks alone ≡ desks_of (power_run first_powered_desks happened))
powered_run_is_run happened may =
    let w = power_run first_powered_desks happened in
    runs_reach first_powered_desks happened may first_reached w.requester.desk.committed w.responder.desk.committed (inl refl)
    (inl refl)

-- ---- what holds of the desks

-- If each world of each run is safe, so are the desks to which a run leads.
pub safe_there : ((alone : List DeskEvent) → IsSafeDeskRun first_desks alone) → (w : DeskParties) (alone : List DeskEvent)
    → desks_run first_desks alone ≡ w → (txn : Qualifiers) → Safe (project txn w)
safe_there safe w alone is txn =
    subst (λ (v : DeskParties). Safe (project txn v))
    (ap (desks_run first_desks) (take_all (length alone) alone (omega arith)) ∙ is) (safe alone txn (length alone))

-- Two desks that satisfy their invariant have forgotten nothing that they have sent.
none_forgets : (w : DeskParties) → DesksInvariant w → ForgetsSent w → ⊥
none_forgets w stands (who.Requester, txn, n, a, was, lacks) =
    lacks ((stands.each txn).requester.saved.committed n a was)
none_forgets w stands (who.Responder, txn, n, a, was, lacks) =
    lacks ((stands.each txn).responder.saved.committed n a was)

-- The desks to which a run leads have forgotten nothing that they have sent.
pub run_forgets_none : EachStands → DesksInvariant first_desks → (w : DeskParties) (alone : List DeskEvent)
    → desks_run first_desks alone ≡ w → ForgetsSent w → ⊥
run_forgets_none stand first w alone is =
    none_forgets w (subst DesksInvariant is (desks_stand_on stand first_desks alone first))
