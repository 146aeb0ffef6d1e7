-- Proves that each history of two libraries is a run of the model, and that its libraries are safe.
use Rattle.std.proofs.Common.{◌≡◌, ℕ, List, [], ◌∷◌, ◌++◌, Some, refl, sym, subst, arith}
use Rattle.ill_values.specs.TxnId.{Qualifiers}
use Rattle.ill_values.specs.declared.apdu.Apdu.{Apdu}
use Rattle.ill_core.specs.Issued.{message}
use Rattle.ill_record.specs.declared.role.Role.{Role}
use Rattle.ill_record.specs.declared.role.Role.TheVariants as who
use Rattle.ill_record.specs.Side.{issued_of, other}
use Rattle.ill_record.specs.Sides.{SidesOf, are_apart}
use Rattle.ill_record.specs.Ranges.{Each}
use Rattle.ill_record.specs.RecordsV2.{AreSides}
use Rattle.ill_saved.specs.ManySides.{side_for}
use Rattle.ill_saved.proofs.Contents.{SidesReadAgain}
use Rattle.ill_world.specs.declared.event.DeskEvent.{DeskEvent}
use Rattle.ill_world.specs.World.{Parties, party, run_by, sent_message}
use Rattle.ill_world.specs.Desks.{DeskParties, Sending, sent_for, first_desk, first_desks, desks_happen, desks_run, project}
use Rattle.ill_world.specs.Changes.{KeepsSent}
use Rattle.ill_world.specs.Invariant.{Invariant}
use Rattle.ill_world.specs.Safety.{OfBoth, EndsAlike, WasShipped, WasGranted}
use Rattle.ill_world.specs.DeskSafety.{DesksInvariant}
use Rattle.ill_world.proofs.Desks.{EachStands, desks_stand_on}
use Rattle.ill_runs.specs.Libraries.{Libraries, first_library, first_libraries, Happens, IsHistory, libraries_after, IsAt, AreAt}
use Rattle.ill_runs.specs.MessageFile.{WasSent}
use Rattle.ill_runs.specs.Libraries.{IsRunAt, AreSafe, HasAllThatLeft, IsMessageOf}
use Rattle.ill_runs.proofs.LibraryLemmas.{events_there, run_join, command_leads}

-- ---- the first libraries

-- A desk without a side may be saved.
none_are_sides : (role : Role) → AreSides (record { role = role; sides = [] })
unfolding Each are_apart
none_are_sides role = record { held = refl; each = tt; few = omega arith }

-- A library whose desk was just begun is the first desk of the model.
first_at : SidesReadAgain → (role : Role) → IsAt (first_library role) (first_desk role)
unfolding Each
first_at again role = record { file = again (record { role = role; sides = [] }) (none_are_sides role); left = tt }

-- ---- one after another

-- If two libraries are the desks of `w`, each of them is the desk of its role.
pub each_is_at : (role : Role) (libraries : Libraries) (w : DeskParties) → AreAt libraries w
    → IsAt (party libraries role) (party w role)
each_is_at who.Requester libraries w at = at.requester
each_is_at who.Responder libraries w at = at.responder

-- If the library of `role` is its desk in `w`, and the other library the other desk, `AreAt` holds.
both_are_at : (role : Role) (libraries : Libraries) (w : DeskParties) → IsAt (party libraries role) (party w role)
    → IsAt (party libraries (other role)) (party w (other role)) → AreAt libraries w
both_are_at who.Requester libraries w here there = record { requester = here; responder = there }
both_are_at who.Responder libraries w here there = record { requester = there; responder = here }

-- Premises: each event keeps the invariant of two desks (`stand`). A message that was sent stays sent (`stay`).
module _ (stand : EachStands) (stay : (txn : Qualifiers) (w : DeskParties) (event : DeskEvent) → DesksInvariant w
    → KeepsSent (project txn w) (project txn (desks_happen w event).1)) where
  -- If one library performs a command, the events of the command lead to the desks of both.
  one_leads_both : (w : DeskParties) (before after : Libraries) → DesksInvariant w → AreAt before w → Happens before after
      → (events : List DeskEvent) × AreAt after (desks_run w events)
  one_leads_both w before after stands at happens =
      let role = happens.0 in
      let others = each_is_at (other role) before w at in
      let leads = command_leads stand stay role w stands (party before (other role)).left (party before role)
      (party after role) others.left (each_is_at role before w at) happens.1 in
      let there = (events_there role w leads.events leads.here).1 in
      let still : IsAt (party after (other role)) (party (desks_run w leads.events) (other role)) =
      subst (λ library. IsAt library (party (desks_run w leads.events) (other role))) (sym happens.2)
      (subst (IsAt (party before (other role))) (sym there) others) in
      (leads.events, both_are_at role after (desks_run w leads.events) leads.at still)

  -- A history leads from the desks of its first libraries to those of its last ones.
  pub history_leads : (w : DeskParties) (now : Libraries) (later : List Libraries) → DesksInvariant w → AreAt now w
      → IsHistory now later → (events : List DeskEvent) × AreAt (libraries_after now later) (desks_run w events)
  unfolding run_by IsHistory libraries_after
  history_leads w now [] stands at is = ([], at)
  history_leads w now (next ∷ later) stands at is =
      let one = one_leads_both w now next stands at is.0 in
      let more = history_leads (desks_run w one.0) next later (desks_stand_on stand w one.0 stands) one.1 is.1 in (
        one.0 ++ more.0,
        subst (AreAt (libraries_after next later)) (sym (run_join w one.0 more.0)) more.1,
      )

  -- A history from the first libraries is a run of the model.
  pub history_is_run : SidesReadAgain → DesksInvariant first_desks → (later : List Libraries) → IsHistory first_libraries later
      → IsRunAt (libraries_after first_libraries later)
  history_is_run again first later is =
      history_leads first_desks first_libraries later first
      (record { requester = first_at again who.Requester; responder = first_at again who.Responder }) is

-- ---- safety

-- If two desks satisfy their invariant, the libraries that are these desks are safe. Premises: the laws `ends`,
-- `shipped` and `granted` of two parties.
pub safe_at : ((txn : Qualifiers) (w : Parties) → Invariant txn w → OfBoth EndsAlike w)
    → ((txn : Qualifiers) (w : Parties) → Invariant txn w → OfBoth WasShipped w)
    → ((txn : Qualifiers) (w : Parties) → Invariant txn w → OfBoth WasGranted w)
    → (libraries : Libraries) (w : DeskParties) → DesksInvariant w → AreAt libraries w → AreSafe libraries
safe_at ends shipped granted libraries w stands at = (
  w.requester.committed,
  w.responder.committed,
  at.requester.file,
  at.responder.file,
  λ txn. (
    (ends txn (project txn w) (stands.each txn)).committed,
    (shipped txn (project txn w) (stands.each txn)).committed,
    (granted txn (project txn w) (stands.each txn)).committed,
  ),
)

-- ---- what has left

-- If each message that was sent is committed, each that has left is a message of the committed sides.
left_committed : (sent : List Sending) (committed : SidesOf)
    → ((txn : Qualifiers) (n : ℕ) (a : Apdu) → sent_message (sent_for txn sent) n ≡ Some a
    → message (issued_of (side_for txn committed)) n ≡ Some a) → (left : List Apdu) → Each (WasSent sent) left
    → Each (IsMessageOf committed) left
unfolding Each
left_committed sent committed commits [] each = tt
left_committed sent committed commits (a ∷ left) each =
    ((each.0.0, each.0.1, commits each.0.0 each.0.1 a each.0.2), left_committed sent committed commits left each.1)

-- If two libraries are desks that satisfy their invariant, the file of each has all that has left it.
pub has_all_left : (libraries : Libraries) (w : DeskParties) → DesksInvariant w → AreAt libraries w → (role : Role)
    → HasAllThatLeft (party libraries role)
has_all_left libraries w stands at who.Requester = (
  w.requester.committed,
  at.requester.file,
  left_committed w.requester.sent w.requester.committed (λ txn n a is. (stands.each txn).requester.saved.committed n a is)
      libraries.requester.left at.requester.left,
)
has_all_left libraries w stands at who.Responder = (
  w.responder.committed,
  at.responder.file,
  left_committed w.responder.sent w.responder.committed (λ txn n a is. (stands.each txn).responder.saved.committed n a is)
      libraries.responder.left at.responder.left,
)
