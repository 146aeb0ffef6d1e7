-- A copy that has every sent message may be put back. An older copy breaks safety.
use Rattle.std.proofs.Common.{arith, rules, ◌≡◌, List, Option, inl, inr, refl, sym, ap, subst}
use Rattle.ill_values.specs.TxnId.{Qualifiers}
use Rattle.ill_values.specs.declared.apdu.Apdu.{Apdu}
use Rattle.ill_core.specs.declared.state.State.TheVariants as states
use Rattle.ill_record.specs.declared.side.Side.{Side}
use Rattle.ill_record.specs.Side.{issued_of}
use Rattle.ill_record.specs.Sides.{SidesOf}
use Rattle.ill_saved.specs.ManySides.{side_for}
use Rattle.ill_record.specs.declared.role.Role.{Role}
use Rattle.ill_record.specs.declared.role.Role.TheVariants as who
use Rattle.ill_world.specs.declared.event.Event.{Event}
use Rattle.ill_world.specs.declared.event.DeskEvent.{DeskEvent}
use Rattle.ill_world.specs.World.{Party, Parties, party, restarts, run_of, run_by}
use Rattle.ill_world.specs.Safety.{Safe}
use Rattle.ill_world.specs.Invariant.{PartyInvariant, RequesterSideInvariant, ResponderSideInvariant, Invariant}
use Rattle.ill_world.specs.Desks.{DeskParties, desks_run, project, events_for}
use Rattle.ill_world.specs.DeskSafety.{DesksInvariant}
use Rattle.ill_world.specs.Copies.{puts_back, desk_puts_back, HasAllSent, older_copy_back}
use Rattle.ill_world.proofs.Changes.{After, saved_by, further_keeps_sent}
use Rattle.ill_world.proofs.Desks.{EachProjects, EachStands, run_projects}
use Rattle.ill_world.proofs.Projections.{restarts_seen}
use Rattle.ill_world.proofs.Runs.{run_stands}
use Rattle.ill_world.proofs.Sendings.{prefix_of_itself}
use Rattle.ill_world.proofs.Standings.{requester_more, responder_more}

-- If `K` holds of a copy that has every sent message, putting it back keeps `PartyInvariant`.
copy_stands : (K : Side → List (Option Apdu) → Type 0) (p : Party) (copy : Side) (partner_sent : List (Option Apdu))
    → HasAllSent copy p → K copy partner_sent → PartyInvariant K p partner_sent
    → PartyInvariant K (restarts (record p { committed = copy })) partner_sent
copy_stands K p copy partner_sent has holds stands = record {
  saved = record
      { committed = has; prefix = prefix_of_itself (issued_of copy); released = omega arith; places = stands.saved.places };
  live = holds;
  committed = holds;
}

-- The record that was committed last has each message that was sent.
pub last_has_all : (txn : Qualifiers) (w : Parties) (of : Role) → Invariant txn w
    → HasAllSent (party w of).committed (party w of)
last_has_all txn w of stands = (saved_by txn w of stands).committed

-- A copy of the committed record of `of` in `w` is put back after `more`. The invariant holds then, if the copy has
-- every message that `of` has sent.
pub back_stands : (txn : Qualifiers) → After txn → (w : Parties) (more : List Event) (of : Role) → Invariant txn w
    → HasAllSent (party w of).committed (party (run_of w more) of)
    → Invariant txn (puts_back of (party w of).committed (run_of w more))
back_stands txn after w more who.Requester stands has =
    let now = run_of w more in
    let later = run_stands txn after w more stands in
    let keeps = further_keeps_sent txn after w more stands in
    record {
      requester =
          copy_stands (RequesterSideInvariant txn) now.requester w.requester.committed now.responder.sent has
          (requester_more txn w.requester.committed w.responder.sent now.responder.sent
          (λ a was. (was.0, keeps who.Responder was.0 a was.1)) stands.requester.committed) later.requester;
      responder = later.responder;
      due = inr (inl refl);
    }
back_stands txn after w more who.Responder stands has =
    let now = run_of w more in
    let later = run_stands txn after w more stands in
    let keeps = further_keeps_sent txn after w more stands in
    record {
      requester = later.requester;
      responder =
          copy_stands (ResponderSideInvariant txn) now.responder w.responder.committed now.requester.sent has
          (responder_more txn w.responder.committed w.requester.sent now.requester.sent
          (λ a was. (was.0, keeps who.Requester was.0 a was.1)) stands.responder.committed) later.responder;
      due = later.due;
    }

-- ---- two desks

-- Two desks show the copy that was put back, in each transaction.
pub shows_copy : (txn : Qualifiers) (of : Role) (copy : SidesOf) (w : DeskParties)
    → project txn (desk_puts_back of copy w) ≡ puts_back of (side_for txn copy) (project txn w)
shows_copy txn who.Requester copy w =
    ap (λ p. record (project txn w) { requester = p }) (restarts_seen (record w.requester { committed = copy }) txn)
shows_copy txn who.Responder copy w =
    ap (λ p. record (project txn w) { responder = p }) (restarts_seen (record w.responder { committed = copy }) txn)

-- Returns the committed side of `txn` at desk `of`.
abbrev pub committed_at : Qualifiers → DeskParties → Role → Side
committed_at txn w of = side_for txn (party w of).committed

-- The projection to `txn` has the committed side of `txn` at desk `of` (`committed_at`).
shows_committed : (txn : Qualifiers) (w : DeskParties) (of : Role) → (party (project txn w) of).committed ≡ committed_at txn w of
shows_committed txn w who.Requester = refl
shows_committed txn w who.Responder = refl

-- A copy of what desk `of` is committed in `w` is put back after `more`. The invariant holds in `txn` then, if the copy
-- has every message that was sent in `txn`.
pub desk_back_stands : EachProjects → EachStands → (txn : Qualifiers) → After txn → (w : DeskParties) (more : List DeskEvent)
    (of : Role)
    → DesksInvariant w → HasAllSent (committed_at txn w of) (party (project txn (desks_run w more)) of)
    → Invariant txn (project txn (desk_puts_back of (party w of).committed (desks_run w more)))
desk_back_stands projects stand txn after w more of stands has =
    let v = project txn w in
    let events = events_for txn w more in
    let same = run_projects projects stand txn w more stands in
    let copy_is = shows_committed txn w of in
    let back : Invariant txn (puts_back of (party v of).committed (run_of v events)) =
    back_stands txn after v events of (stands.each txn)
    (subst (λ side. HasAllSent side (party (run_of v events) of)) (sym copy_is)
    (subst (λ u. HasAllSent (committed_at txn w of) (party u of)) same has)) in
    subst (Invariant txn) (sym (shows_copy txn of (party w of).committed (desks_run w more)))
    (subst (λ u. Invariant txn (puts_back of (committed_at txn w of) u)) (sym same)
    (subst (λ side. Invariant txn (puts_back of side (run_of v events))) copy_is back))

-- ---- an older copy

-- The state IN-PROCESS is not NOT-SUPPLIED.
in_process_still : states.InProcess ≡ states.NotSupplied → ⊥
in_process_still is = search rules

-- The world in which an older copy was put back is not safe. There the requester is in NOT-SUPPLIED, and the responder
-- in IN-PROCESS.
pub older_is_unsafe : Safe older_copy_back → ⊥
unfolding run_by
older_is_unsafe safe = in_process_still (safe.ends.live.1 refl)
