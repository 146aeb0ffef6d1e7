-- The definitions on two desks take the events of a transaction, and exclude the bad events.
use Rattle.std.proofs.Common.{rules, ◌≡◌, inl, inr, ℕ, Bool, true, false, if◌then◌else◌, List, [], ◌∷◌, ◌++◌, length, nat_lt}
use Rattle.std.proofs.Common.{Option, Some, None, refl, sym, ap, ◌∙◌, subst}
use Rattle.std.proofs.lemmas.Bool.{true≢false}
use Rattle.ill_values.specs.TxnId.{Qualifiers}
use Rattle.ill_values.specs.declared.apdu.Apdu.{Apdu}
use Rattle.ill_values.specs.Body.{Body}
use Rattle.ill_core.specs.declared.state.State.{State}
use Rattle.ill_core.specs.declared.state.State.TheVariants as states
use Rattle.ill_values.specs.Bodies.{is_end, is_ill_request, is_returned}
use Rattle.ill_core.specs.Issued.{is_same_txn}
use Rattle.ill_record.specs.declared.role.Role.{Role}
use Rattle.ill_record.specs.declared.role.Role.TheVariants as who
use Rattle.ill_record.specs.Side.{other}
use Rattle.ill_saved.specs.Holdings.{DeskEntry}
use Rattle.ill_saved.specs.ManySides.{found_by, txn_held, held_for}
use Rattle.ill_record.specs.declared.side.Side.{Side}
use Rattle.ill_record.proofs.Finding.{same_is, same_self}
use Rattle.ill_world.specs.declared.event.DeskEvent.{DeskEvent}
use Rattle.ill_world.specs.declared.event.DeskEvent.TheVariants as events
use Rattle.ill_words.specs.declared.outcome.Outcome.{Outcome}
use Rattle.ill_words.specs.declared.outcome.Outcome.TheVariants.{NotSent}
use Rattle.ill_words.specs.declared.outcome.DeskOutcome.{DeskOutcome}
use Rattle.ill_words.specs.declared.outcome.DeskOutcome.TheVariants.{Plain, NoSuchTransaction, DeskFull}
use Rattle.ill_world.specs.World.{Party, Parties, party, sent_message, run_by, run_of, happens, first_world}
use Rattle.ill_world.specs.Desks.{DeskParty, DeskParties, sent_for, desk_receives, plain, first_desks, desks_happen, desks_run}
use Rattle.ill_world.specs.Desks.{project, concerns, if_reached, is_event_of, events_for, IsSeenAs, Projects}
use Rattle.ill_world.specs.DeskScript.{IsInTxn}
use Rattle.ill_world.specs.Agreement.{settled_by}
use Rattle.ill_world.specs.DeskSafety.{IsRunOfEach, SettlesAt, ArrivesAt}
use Rattle.ill_world.specs.DeskChanges.{ProjectsTo, IsPlain, Reaches, ReachesAt, ReachesSide, DeskMayChange}
use Rattle.ill_world.specs.BadDesks.{Names, IsNotReached, MissesHeld, ChangesUnreached, EndsIn, shipped, cancelled, expired}
use Rattle.ill_world.specs.BadDesks.{desk_of, MayBegin, by_wish, by_deed, by_sending, by_delivery, MissesNew, begins_none}
use Rattle.ill_world.specs.BadDesks.{overfills, finds_one}
use Rattle.ill_world.specs.BadDesks.{misses_desk, Hides, hides_side, hides_release, hides_committed, hides_sent, IsMisseen}
use Rattle.ill_world.specs.BadDesks.{other_outcome, other_world, no_event}
use Rattle.ill_world.specs.BadDesks.{refused, IsUnheededAt, ArrivesInVainAt, end_in_vain, returned_in_vain}
use Rattle.ill_world.proofs.BadWorlds.{heeded, final_ends}
use Rattle.ill_world.proofs.Runs.{run_both, run_one}

-- ---- runs

-- If `more` is `first ++ rest`, this stays true if `own` puts `event` before `more` and before `first`. If `own` is
-- false, nothing is put before them.
pub joined : {X : Type 0} (own : Bool) (event : X) (first rest more : List X) → more ≡ first ++ rest
    → (if own then event ∷ more else more) ≡ (if own then event ∷ first else first) ++ rest
joined true event first rest more is = ap (λ l. event ∷ l) is
joined false event first rest more is = is

-- The events of a transaction have the order of the events of the desks.
pub events_in_order : (txn : Qualifiers) (w : DeskParties) (before after : List DeskEvent)
    → events_for txn w (before ++ after) ≡ events_for txn w before ++ events_for txn (desks_run w before) after
unfolding events_for run_by
events_in_order txn w [] after = refl
events_in_order txn w (event ∷ before) after =
    let next = (desks_happen w event).1 in
    joined (is_event_of txn w event) (plain event) (events_for txn next before) (events_for txn (desks_run next before) after)
    (events_for txn next (before ++ after)) (events_in_order txn next before after)

-- One more event leads a transaction on by its own events.
pub runs_go_on : (events : List DeskEvent) (event : DeskEvent) (txn : Qualifiers) → IsRunOfEach events
    → IsRunOfEach (events ++ event ∷ [])
    → let w = desks_run first_desks events in
    project txn (desks_happen w event).1 ≡ run_of (project txn w) (events_for txn w (event ∷ []))
runs_go_on events event txn before after =
    let w = desks_run first_desks events in
    let first = first_world txn in
    ap (project txn) (sym (run_both desks_happen first_desks events (event ∷ []) ∙ run_one desks_happen w event))
    ∙ after txn
    ∙ ap (run_of first) (events_in_order txn first_desks events (event ∷ []))
    ∙ run_both happens first (events_for txn first_desks events) (events_for txn w (event ∷ []))
    ∙ ap (λ v. run_of v (events_for txn w (event ∷ []))) (sym (before txn))

-- ---- the events of a transaction

-- The events of `txn` in a list of one event are this event if `is_event_of` is true, and else none.
pub one_event : (txn : Qualifiers) (w : DeskParties) (event : DeskEvent)
    → events_for txn w (event ∷ []) ≡ (if is_event_of txn w event then plain event ∷ [] else [])
unfolding events_for
one_event txn w event = refl

-- A save, a failed save and a restart of a desk are events of each transaction.
pub whole_events : (txn : Qualifiers) (w : DeskParties) (role : Role) (committed : Bool)
    → events_for txn w (events.Save role ∷ events.SaveFault role committed ∷ events.Restart role ∷ [])
    ≡ plain (events.Save role) ∷ plain (events.SaveFault role committed) ∷ plain (events.Restart role) ∷ []
unfolding events_for
whole_events txn w role committed = refl

-- The events of `txn` in a list of one event are this event if `own` is true, and else none. `own` is the value of
-- `is_event_of`.
is_one : (txn : Qualifiers) (w : DeskParties) (event : DeskEvent) (own : Bool) → is_event_of txn w event ≡ own
    → events_for txn w (event ∷ []) ≡ (if own then plain event ∷ [] else [])
is_one txn w event own is = one_event txn w event ∙ ap (λ b. if b then plain event ∷ [] else []) is

-- An event that names `txn` concerns `txn`.
names_own : (txn : Qualifiers) (event : DeskEvent) → Names txn event → concerns txn event ≡ true
names_own txn (events.Wish of wish) is = ap (is_same_txn txn) is ∙ same_self txn
names_own txn (events.Deed of deed today) is = ap (is_same_txn txn) is ∙ same_self txn
names_own txn (events.Send role of n) is = ap (is_same_txn txn) is ∙ same_self txn
names_own txn (events.Deliver role of n) is = ap (is_same_txn txn) is ∙ same_self txn
names_own txn event is = absurd is

-- If `of` is `another`, and `txn` is not, `txn` is not `of`.
apart_from : (txn another of : Qualifiers) → of ≡ another → (txn ≡ another → ⊥) → is_same_txn txn of ≡ false
apart_from txn another of is apart = go (is_same_txn txn of) refl
  where
    -- If `txn` were `of`, it would be `another`.
    go : (same : Bool) → is_same_txn txn of ≡ same → same ≡ false
    go true same = absurd (apart (same_is txn of same ∙ is))
    go false same = refl

-- An event that names another transaction does not concern `txn`.
names_another : (txn another : Qualifiers) (event : DeskEvent) → Names another event → (txn ≡ another → ⊥)
    → concerns txn event ≡ false
names_another txn another (events.Wish of wish) is apart = apart_from txn another of is apart
names_another txn another (events.Deed of deed today) is apart = apart_from txn another of is apart
names_another txn another (events.Send role of n) is apart = apart_from txn another of is apart
names_another txn another (events.Deliver role of n) is apart = apart_from txn another of is apart
names_another txn another event is apart = absurd is

-- An event that does not concern a transaction is none of its events, whatever its outcome.
never_reached : (outcome : DeskOutcome) → if_reached outcome false ≡ false
never_reached (Plain outcome) = refl
never_reached other = refl

-- An event that names `txn`, and reaches it, is an event of `txn`.
pub named_event : (txn : Qualifiers) (w : DeskParties) (event : DeskEvent) (outcome : Outcome) → Names txn event
    → (desks_happen w event).0 ≡ Plain outcome → events_for txn w (event ∷ []) ≡ plain event ∷ []
named_event txn w event outcome names seen =
    is_one txn w event true (ap (λ o. if_reached o (concerns txn event)) seen ∙ names_own txn event names)

-- An event that names another transaction is no event of `txn`.
pub other_event : (txn another : Qualifiers) (w : DeskParties) (event : DeskEvent) → Names another event
    → (txn ≡ another → ⊥) → events_for txn w (event ∷ []) ≡ []
other_event txn another w event names apart =
    is_one txn w event false (ap (if_reached (desks_happen w event).0) (names_another txn another event names apart)
    ∙ never_reached (desks_happen w event).0)

-- An event that does not reach its transaction is no event of `txn`.
pub unreached_event : (txn : Qualifiers) (w : DeskParties) (event : DeskEvent) → IsNotReached (desks_happen w event).0
    → events_for txn w (event ∷ []) ≡ []
unreached_event txn w event (inl seen) = is_one txn w event false (ap (λ o. if_reached o (concerns txn event)) seen)
unreached_event txn w event (inr seen) = is_one txn w event false (ap (λ o. if_reached o (concerns txn event)) seen)

-- Noise is no event of `txn`.
pub noise_event : (txn : Qualifiers) (w : DeskParties) (role : Role) (bytes : List ℕ)
    → events_for txn w (events.Noise role bytes ∷ []) ≡ []
noise_event txn w role bytes = is_one txn w (events.Noise role bytes) false refl

-- ---- deliveries

-- If `EndsIn body among` holds, `body` ends the request, and settles it in the states `among`.
ends_as : (body : Body) (among : List State) → EndsIn body among → (is_end body ≡ true) × (settled_by body ≡ among)
ends_as _ _ (shipped due) = (refl, refl)
ends_as _ _ (cancelled c) = (refl, refl)
ends_as _ _ expired = (refl, refl)
ends_as _ _ (refused answer final) = (final_ends answer final, refl)

-- If a message settles a side in the states `among`, `IsUnheededAt` does not hold of it.
heeded_at : (among : List State) (outcome : DeskOutcome) (side : Side) → IsUnheededAt among outcome side
    → SettlesAt among outcome side → ⊥
heeded_at among (Plain outcome) side unheeded settles = heeded among outcome side unheeded settles
heeded_at among NoSuchTransaction side unheeded settles = settles
heeded_at among DeskFull side unheeded settles = settles

-- If `ArrivesAt` holds of an event, no message arrives in vain by it.
pub none_in_vain_at : (w : DeskParties) (event : DeskEvent) → ArrivesInVainAt w event → ArrivesAt w event → ⊥
none_in_vain_at w _ (end_in_vain txn n a among sent ends unheeded) arrives =
    let after = desks_happen w (events.Deliver who.Requester txn n) in
    let side = (held_for txn after.1.requester.live).side in
    let is = ends_as a.body among ends in
    heeded_at among after.0 side unheeded (subst (λ l. SettlesAt l after.0 side) is.1 (arrives a sent is.0))
none_in_vain_at w _ (returned_in_vain txn n a sent is unheeded) arrives =
    let after = desks_happen w (events.Deliver who.Responder txn n) in
    heeded_at (states.Returned ∷ states.CheckedIn ∷ []) after.0 (held_for txn after.1.responder.live).side unheeded
    (arrives a sent (ap is_returned is))

-- ---- projections

-- A party to which a desk projects hides nothing of it.
pub none_hidden : (p : DeskParty) (txn : Qualifiers) (shown : Party) → Hides p txn shown → ProjectsTo p txn shown → ⊥
none_hidden p txn shown (hides_side held found other) shows = other (shows.live held found).0
none_hidden p txn shown (hides_release held found other) shows = other (shows.live held found).1
none_hidden p txn shown (hides_committed side found other) shows = other (shows.committed side found)
none_hidden p txn shown (hides_sent sending found other) shows = other (shows.sent sending found)

-- If `own` is true, and `IsSeenAs` holds, the outcome and the new value are the expected ones.
seen_there : {P : Type 0} (own : Bool) (expected : Outcome × P) (old new : P) (outcome : DeskOutcome) → own ≡ true
    → IsSeenAs own expected old outcome new → (outcome ≡ Plain expected.0) × (new ≡ expected.1)
seen_there true expected old new outcome is seen = seen
seen_there false expected old new outcome is seen = absurd (true≢false (sym is))

-- If `own` is false, and `IsSeenAs` holds, the new value is the old one.
unseen_there : {P : Type 0} (own : Bool) (expected : Outcome × P) (old new : P) (outcome : DeskOutcome) → own ≡ false
    → IsSeenAs own expected old outcome new → new ≡ old
unseen_there true expected old new outcome is seen = absurd (true≢false is)
unseen_there false expected old new outcome is seen = seen

-- If `Projects` holds of an event, it is not misseen.
pub none_misseen : (txn : Qualifiers) (w : DeskParties) (event : DeskEvent) → IsMisseen txn w event → Projects txn w event → ⊥
none_misseen txn w event (other_outcome own other) projects = other (seen_there (is_event_of txn w event) _ _ _ _ own projects).0
none_misseen txn w event (other_world own other) projects = other (seen_there (is_event_of txn w event) _ _ _ _ own projects).1
none_misseen txn w event (no_event own changed) projects = changed (unseen_there (is_event_of txn w event) _ _ _ _ own projects)

-- ---- scripts

-- An event that names another transaction is not in this one.
pub none_elsewhere : (txn another : Qualifiers) (event : DeskEvent) → Names another event → (txn ≡ another → ⊥)
    → IsInTxn txn event → ⊥
none_elsewhere txn another (events.Wish of wish) names apart is = apart (sym is ∙ names)
none_elsewhere txn another (events.Deed of deed today) names apart is = apart (sym is ∙ names)
none_elsewhere txn another (events.Send role of n) names apart is = apart (sym is ∙ names)
none_elsewhere txn another (events.Deliver role of n) names apart is = apart (sym is ∙ names)
none_elsewhere txn another event names apart is = absurd names

-- ---- events that reach a side, and changes

-- A plain outcome is neither NoSuchTransaction nor DeskFull.
not_plain : (outcome : DeskOutcome) → IsPlain outcome → IsNotReached outcome → ⊥
not_plain (Plain outcome) plainly (inl is) = search rules
not_plain (Plain outcome) plainly (inr is) = search rules
not_plain NoSuchTransaction plainly missed = plainly
not_plain DeskFull plainly missed = plainly

-- Desk `p` holds `txn`, and `ReachesAt` holds of an event of transaction `of`, which is `txn`. Then the event reaches
-- its side.
held_missed : (may_begin : Bool) (p : DeskParty) (txn of : Qualifiers) (held : DeskEntry) (outcome : DeskOutcome) → of ≡ txn
    → found_by txn_held txn p.live.held ≡ Some held → ReachesAt may_begin p of outcome → IsNotReached outcome → ⊥
held_missed may_begin p txn of held outcome is found reaches missed =
    not_plain outcome
    (subst (λ o. Reaches may_begin (nat_lt (length p.live.held) 1000) o outcome)
    (ap (λ t. found_by txn_held t p.live.held) is ∙ found) reaches) missed

-- If `ReachesSide` holds of an event, it does not miss a transaction that its desk holds.
pub none_missed : (w : DeskParties) (event : DeskEvent) → MissesHeld w event → ReachesSide w event → ⊥
none_missed w (events.Wish of wish) (txn, held, names, found, missed) reaches =
    held_missed _ w.requester txn of held _ names found reaches missed
none_missed w (events.Deed of deed today) (txn, held, names, found, missed) reaches =
    held_missed false w.responder txn of held _ names found reaches missed
none_missed w (events.Send role of n) (txn, held, names, found, missed) reaches =
    held_missed false (party w role) txn of held _ names found reaches missed
none_missed w (events.Deliver role of n) (txn, held, names, found, missed) reaches =
    go (sent_message (sent_for of (party w (other role)).sent) n) refl
  where
    -- If no message was sent, the outcome is NotSent. Otherwise the delivery of `a` reaches the held side.
    go : (sent : Option Apdu) → sent_message (sent_for of (party w (other role)).sent) n ≡ sent → ⊥
    go None e = not_plain (Plain NotSent) tt (subst IsNotReached (ap (λ o. (desk_receives (party w role) o).0) e) missed)
    go (Some a) e = held_missed (is_ill_request a.body) (party w role) txn of held _ names found (reaches a e) missed
none_missed w event (txn, held, names, found, missed) reaches = absurd names

-- If `ReachesSide` holds of an event that names `txn`, it reaches a side of `txn` as `MayBegin` says.
reaches_as : (w : DeskParties) (txn : Qualifiers) (may : Bool) (event : DeskEvent) → MayBegin w txn may event
    → ReachesSide w event → ReachesAt may (desk_of w event) txn (desks_happen w event).0
reaches_as w txn may _ (by_wish wish is) reaches =
    subst (λ b. ReachesAt b w.requester txn (desks_happen w (events.Wish txn wish)).0) is reaches
reaches_as w txn may _ (by_deed deed today is) reaches =
    subst (λ b. ReachesAt b w.responder txn (desks_happen w (events.Deed txn deed today)).0) (sym is) reaches
reaches_as w txn may _ (by_sending role n is) reaches =
    subst (λ b. ReachesAt b (party w role) txn (desks_happen w (events.Send role txn n)).0) (sym is) reaches
reaches_as w txn may _ (by_delivery role n a sent is) reaches =
    subst (λ b. ReachesAt b (party w role) txn (desks_happen w (events.Deliver role txn n)).0) is (reaches a sent)

-- If `ReachesSide` holds of an event that names no transaction, it is reached.
reaches_desk : (w : DeskParties) (event : DeskEvent) → ((txn : Qualifiers) → Names txn event → ⊥) → ReachesSide w event
    → IsPlain (desks_happen w event).0
reaches_desk w (events.Wish of wish) nameless reaches = absurd (nameless of refl)
reaches_desk w (events.Deed of deed today) nameless reaches = absurd (nameless of refl)
reaches_desk w (events.Send role of n) nameless reaches = absurd (nameless of refl)
reaches_desk w (events.Deliver role of n) nameless reaches = absurd (nameless of refl)
reaches_desk w event nameless reaches = reaches

-- If `ReachesSide` holds of an event, `MissesNew` does not.
pub none_missed_new : (w : DeskParties) (event : DeskEvent) → MissesNew w event → ReachesSide w event → ⊥
none_missed_new w event (begins_none txn may unheld room missed) reaches =
    let outcome = (desks_happen w event).0 in
    not_plain outcome (subst (λ r. Reaches true r None outcome) room
    (subst (λ found. Reaches true (nat_lt (length (desk_of w event).live.held) 1000) found outcome) unheld
    (reaches_as w txn true event may reaches))) missed
none_missed_new w event (overfills txn may unheld full other) reaches =
    let outcome = (desks_happen w event).0 in
    other (subst (λ r. Reaches true r None outcome) full
    (subst (λ found. Reaches true (nat_lt (length (desk_of w event).live.held) 1000) found outcome) unheld
    (reaches_as w txn true event may reaches)))
none_missed_new w event (finds_one txn may unheld other) reaches =
    let outcome = (desks_happen w event).0 in
    other (subst (λ found. Reaches false (nat_lt (length (desk_of w event).live.held) 1000) found outcome) unheld
    (reaches_as w txn false event may reaches))
none_missed_new w event (misses_desk nameless missed) reaches =
    not_plain (desks_happen w event).0 (reaches_desk w event nameless reaches) missed

-- If the outcome says that the event reaches no side, and `DeskMayChange` holds, the projection has not changed.
pub none_changed : (outcome : DeskOutcome) (old new : Parties) → ChangesUnreached outcome old new
    → DeskMayChange outcome old new → ⊥
none_changed (Plain outcome) old new (missed, changed) may = not_plain (Plain outcome) tt missed
none_changed NoSuchTransaction old new (missed, changed) may = changed may
none_changed DeskFull old new (missed, changed) may = changed may
