-- The first world satisfies the invariant, and each event keeps it.
use Rattle.std.proofs.Common.{rules, arith, ◌≡◌, replicate, ℕ, zero, suc, Bool, true, false, ◌||◌, ◌==◌, List, [], ◌∷◌, Option}
use Rattle.std.proofs.Common.{Some, None, is_some, Result, Ok, Err, refl, subst, inl}
use Rattle.std.specs.Prelude.{slice_get}
use Rattle.std.specs.Option.{option_flatten}
use Rattle.ill_values.specs.Day.{Date}
use Rattle.ill_values.specs.TxnId.{Qualifiers}
use Rattle.ill_values.specs.declared.apdu.Apdu.{Apdu}
use Rattle.ill_core.specs.declared.refusal.Refusal.{Refusal}
use Rattle.ill_core.specs.declared.requester.Wish.{Wish}
use Rattle.ill_core.specs.declared.responder.Deed.{Deed}
use Rattle.ill_core.specs.Issued.{are_numbered, message}
use Rattle.ill_core.specs.Numbers.{are_distinct}
use Rattle.ill_core.specs.Requester.{RequesterRecord, requester_of}
use Rattle.ill_core.specs.RequesterRules.{RequesterRules}
use Rattle.ill_core.specs.RequesterActions as requester_actions
use Rattle.ill_core.specs.RequesterDeliveries as requester_deliveries
use Rattle.ill_core.specs.RequesterEvidence as requester
use Rattle.ill_core.specs.RequesterNotices.{Notice, Recalled, Named, Answered, GrantedBefore, PastDue, Reflects}
use Rattle.ill_core.specs.ResponderRules.{ResponderRules}
use Rattle.ill_core.specs.Responder.{ResponderRecord, responder_of, rise_from, ships_first}
use Rattle.ill_core.specs.ResponderActions as responder_actions
use Rattle.ill_core.specs.ResponderDeliveries as responder_deliveries
use Rattle.ill_core.specs.ResponderEvidence as responder
use Rattle.ill_core.specs.ResponderEvidence.{Question, MayCancel, MayRenew}
use Rattle.ill_core.specs.ResponderNotices.{WasAsked, HasAnsweredLast}
use Rattle.ill_record.specs.declared.side.Side.{Side}
use Rattle.ill_record.specs.declared.side.Side.TheVariants as sides
use Rattle.ill_record.specs.declared.side.Action.{Action}
use Rattle.ill_record.specs.declared.side.Action.TheVariants as actions
use Rattle.ill_record.specs.Side.{done_by, acts, takes, issued_of, other}
use Rattle.ill_world.specs.World.{Parties, first_party, first_world, with_party, party, who_of, happens, happens_to, sent_message}
use Rattle.ill_record.specs.declared.role.Role.{Role}
use Rattle.ill_record.specs.declared.role.Role.TheVariants as who
use Rattle.ill_world.specs.declared.event.Event.{Event}
use Rattle.ill_world.specs.Invariant.{WasSent, RequesterInvariant, ResponderInvariant, RequesterSideInvariant}
use Rattle.ill_world.specs.Invariant.{ResponderSideInvariant, PartyInvariant, Invariant}
use Rattle.ill_world.proofs.DueDates.{TransitionsKeepDue, due_after}
use Rattle.ill_world.proofs.Sendings.{prefix_of_itself}
use Rattle.ill_world.proofs.Kept.{RowsGrow, Keeps, party_kept, more_sent, was_sent_still}
use Rattle.ill_core.specs.declared.state.State.{State}
use Rattle.ill_core.specs.declared.state.State.TheVariants.{Idle, CancelPending, Cancelled}
use Rattle.ill_core.specs.State.{is_among, place_of}
use Rattle.ill_core.specs.Rules.{implies}

-- If the Bool is true in CANCEL-PENDING and in CANCELLED, it is true in CANCEL-PENDING.
pub cancel_is_there : (state : State) (there : Bool)
    → implies (is_among (CancelPending ∷ Cancelled ∷ []) state) there ≡ true
    → implies (is_among (CancelPending ∷ []) state) there ≡ true
cancel_is_there state there = go (place_of CancelPending == place_of state) (place_of Cancelled == place_of state) there
  where
    -- `waits` tells if the state is CANCEL-PENDING, and `done` if it is CANCELLED.
    go : (waits done there : Bool) → implies (waits || (done || false)) there ≡ true → implies (waits || false) there ≡ true
    go true done there rule = rule
    go false done there rule = refl

-- If a responder waits to answer a question, it has the number of this question.
pub question_is_there : (y : ResponderRecord) → ResponderRules y → (question : Question)
    → implies (responder.is_question_open question y.state) (is_some (responder.last_asked question y)) ≡ true
question_is_there y rules MayCancel = cancel_is_there y.state (is_some y.last_cancel) rules.parts.cancel
question_is_there y rules MayRenew = rules.parts.renew

-- ---- before the first message

-- The idle record of a requester claims no fact.
requester_shows_nothing : (txn : Qualifiers) (fact : requester.Fact)
    → requester.Claims (requester_of txn Idle None false None []) fact → ⊥
requester_shows_nothing txn requester.Cancelled shows = search rules
requester_shows_nothing txn requester.Ended shows = search rules
requester_shows_nothing txn (requester.Granted due) shows = search rules
requester_shows_nothing txn (requester.Refused zero) shows = search rules
requester_shows_nothing txn (requester.Refused (suc n)) shows = search rules
requester_shows_nothing txn requester.GivenBack shows = search rules

-- The idle record of a responder claims no fact.
responder_shows_nothing : (txn : Qualifiers) (fact : responder.Fact)
    → responder.Claims (responder_of txn Idle None None None false None []) fact → ⊥
responder_shows_nothing txn responder.Requested shows = search rules
responder_shows_nothing txn (responder.Accepted conditions) shows = search rules
responder_shows_nothing txn (responder.CancelAsked cancel) shows = search rules
responder_shows_nothing txn responder.Arrived shows = search rules
responder_shows_nothing txn responder.SentBack shows = search rules

-- The idle record of a requester reflects no notice.
requester_reflects_nothing : (txn : Qualifiers) (notice : Notice) → Reflects (requester_of txn Idle None false None []) notice → ⊥
requester_reflects_nothing txn Recalled reflects = search rules
requester_reflects_nothing txn (Named conditions) reflects = search rules
requester_reflects_nothing txn (Answered zero day) reflects = search rules
requester_reflects_nothing txn (Answered (suc renew) day) reflects = search rules
requester_reflects_nothing txn (GrantedBefore renew due) reflects = search rules
requester_reflects_nothing txn (PastDue due) reflects = search rules

-- The idle record of a responder was asked no question.
responder_was_asked_nothing : (txn : Qualifiers) (question : Question) (number : ℕ)
    → WasAsked question (responder_of txn Idle None None None false None []) number → ⊥
responder_was_asked_nothing txn MayCancel number was = search rules
responder_was_asked_nothing txn MayRenew number was = search rules

-- The idle record of a responder has no question that it must have answered.
responder_answered_nothing : (txn : Qualifiers) (question : Question)
    → HasAnsweredLast question (responder_of txn Idle None None None false None [])
responder_answered_nothing txn MayCancel number last left = search rules
responder_answered_nothing txn MayRenew number last left = search rules

-- An empty list has no message.
issued_nothing : (n : ℕ) (a : Apdu) → message [] n ≡ Some a → ⊥
issued_nothing zero a at = search rules
issued_nothing (suc n) a at = search rules

-- The idle record of a requester keeps the rules of its role.
requester_rules : (txn : Qualifiers) → RequesterRules (requester_of txn Idle None false None [])
unfolding are_numbered
requester_rules txn = search rules

-- The idle record of a responder keeps the rules of its role.
responder_rules : (txn : Qualifiers) → ResponderRules (responder_of txn Idle None None None false None [])
unfolding are_numbered rise_from ships_first
responder_rules txn = search rules

-- `RequesterInvariant` holds of the idle record of a requester, with any sent messages.
requester_first : (txn : Qualifiers) (sent : List (Option Apdu))
    → RequesterInvariant txn (requester_of txn Idle None false None []) sent
unfolding are_distinct
requester_first txn sent = record {
  same_txn = refl;
  rules = requester_rules txn;
  replies = search rules;
  knows = λ fact shows. absurd (requester_shows_nothing txn fact shows);
  notices = λ notice reflects. absurd (requester_reflects_nothing txn notice reflects);
  few = omega arith;
}

-- `ResponderInvariant` holds of the idle record of a responder, with any sent messages.
responder_first : (txn : Qualifiers) (sent : List (Option Apdu))
    → ResponderInvariant txn (responder_of txn Idle None None None false None []) sent
unfolding are_distinct
responder_first txn sent = record {
  same_txn = refl;
  rules = responder_rules txn;
  ends = search rules;
  cancels = search rules;
  renewals = search rules;
  knows = λ fact shows. absurd (responder_shows_nothing txn fact shows);
  asked = λ question number was. absurd (responder_was_asked_nothing txn question number was);
  answered = responder_answered_nothing txn;
  recall = search rules;
  ships_first = λ m n a b at_m at_n is_a is_b. absurd (issued_nothing m a at_m);
  grants = λ i j m n a b d e at_i at_j is_a is_b below. absurd (issued_nothing i a at_i);
  overdue = record {
    dated = λ n a day at is. absurd (issued_nothing n a at);
    issued = λ due is overdue. search rules;
    after = λ due is overdue. search rules;
  };
  grants_first = λ m n c a b due day at_m at_n is_a is_b same. absurd (issued_nothing m a at_m);
  few = omega arith;
}

-- ---- the rows of either role

-- A wish that is done keeps `RequesterInvariant`.
abbrev pub RequesterActs : Type 0
RequesterActs = (txn : Qualifiers) (x new : RequesterRecord) (wish : Wish) (sent : List (Option Apdu))
    → requester_actions.acts x wish ≡ Ok new → RequesterInvariant txn x sent → RequesterInvariant txn new sent

-- A message of `sent` that is taken keeps `RequesterInvariant`.
abbrev pub RequesterTakes : Type 0
RequesterTakes = (txn : Qualifiers) (x : RequesterRecord) (a : Apdu) (sent : List (Option Apdu)) → WasSent sent a
    → RequesterInvariant txn x sent
    → RequesterInvariant txn (requester_deliveries.takes x a).1 sent

-- A deed that is done keeps `ResponderInvariant`.
abbrev pub ResponderActs : Type 0
ResponderActs = (txn : Qualifiers) (y new : ResponderRecord) (deed : Deed) (today : Date) (sent : List (Option Apdu))
    → responder_actions.acts y deed today ≡ Ok new → ResponderInvariant txn y sent
    → ResponderInvariant txn new sent

-- A message of `sent` that is taken keeps `ResponderInvariant`.
abbrev pub ResponderTakes : Type 0
ResponderTakes = (txn : Qualifiers) (y : ResponderRecord) (a : Apdu) (sent : List (Option Apdu)) → WasSent sent a
    → ResponderInvariant txn y sent
    → ResponderInvariant txn (responder_deliveries.takes y a).1 sent

-- If `done_by make` gives a side, `result` gives a record, and `make` makes the side of it.
done_is : {R : Type 0} (make : R → Side) (result : Result R Refusal) (new : Side) → done_by make result ≡ Ok new
    → (made : R) × (result ≡ Ok made) × (make made ≡ new)
done_is make (Ok made) new e = (made, refl, search rules)
done_is make (Err refusal) new e = search rules

-- By `RequesterActs`, an action that is done keeps `RequesterSideInvariant`.
requester_acts : RequesterActs → (txn : Qualifiers) (old new : Side) (action : Action) (partner_sent : List (Option Apdu))
    → acts old action ≡ Ok new → RequesterSideInvariant txn old partner_sent → RequesterSideInvariant txn new partner_sent
requester_acts law txn (sides.Requester x) new (actions.Wish wish) partner_sent e stands =
    let is = done_is sides.Requester (requester_actions.acts x wish) new e in
    subst (λ side. RequesterSideInvariant txn side partner_sent) is.2 (law txn x is.0 wish partner_sent is.1 stands)
requester_acts law txn (sides.Requester x) new (actions.Deed deed today) partner_sent e stands = search rules
requester_acts law txn (sides.Responder y) new action partner_sent e stands = absurd stands

-- By `RequesterTakes`, a message of `partner_sent` that is taken keeps `RequesterSideInvariant`.
requester_takes : RequesterTakes → (txn : Qualifiers) (old : Side) (a : Apdu) (partner_sent : List (Option Apdu))
    → WasSent partner_sent a → RequesterSideInvariant txn old partner_sent
    → RequesterSideInvariant txn (takes old a).1 partner_sent
requester_takes law txn (sides.Requester x) a partner_sent was stands = law txn x a partner_sent was stands
requester_takes law txn (sides.Responder y) a partner_sent was stands = absurd stands

-- `RequesterSideInvariant` holds with `more` if it holds with `partner_sent`, and `more` has each message of
-- `partner_sent`.
pub requester_more : (txn : Qualifiers) (side : Side) (partner_sent more : List (Option Apdu))
    → ((a : Apdu) → WasSent partner_sent a → WasSent more a) → RequesterSideInvariant txn side partner_sent
    → RequesterSideInvariant txn side more
requester_more txn (sides.Requester x) partner_sent more stays stands = record {
  same_txn = stands.same_txn;
  rules = stands.rules;
  replies = stands.replies;
  knows = λ fact shows. let known = stands.knows fact shows in (known.0, stays known.0 known.1, known.2);
  notices = λ notice reflects. let known = stands.notices notice reflects in (known.0, stays known.0 known.1, known.2);
  few = stands.few;
}
requester_more txn (sides.Responder y) partner_sent more stays stands = absurd stands

-- By `ResponderActs`, an action that is done keeps `ResponderSideInvariant`.
responder_acts : ResponderActs → (txn : Qualifiers) (old new : Side) (action : Action) (partner_sent : List (Option Apdu))
    → acts old action ≡ Ok new → ResponderSideInvariant txn old partner_sent → ResponderSideInvariant txn new partner_sent
responder_acts law txn (sides.Responder y) new (actions.Deed deed today) partner_sent e stands =
    let is = done_is sides.Responder (responder_actions.acts y deed today) new e in
    subst (λ side. ResponderSideInvariant txn side partner_sent) is.2 (law txn y is.0 deed today partner_sent is.1 stands)
responder_acts law txn (sides.Responder y) new (actions.Wish wish) partner_sent e stands = search rules
responder_acts law txn (sides.Requester x) new action partner_sent e stands = absurd stands

-- By `ResponderTakes`, a message of `partner_sent` that is taken keeps `ResponderSideInvariant`.
responder_takes : ResponderTakes → (txn : Qualifiers) (old : Side) (a : Apdu) (partner_sent : List (Option Apdu))
    → WasSent partner_sent a → ResponderSideInvariant txn old partner_sent
    → ResponderSideInvariant txn (takes old a).1 partner_sent
responder_takes law txn (sides.Responder y) a partner_sent was stands = law txn y a partner_sent was stands
responder_takes law txn (sides.Requester x) a partner_sent was stands = absurd stands

-- `ResponderSideInvariant` holds with `more` if it holds with `partner_sent`, and `more` has each message of
-- `partner_sent`.
pub responder_more : (txn : Qualifiers) (side : Side) (partner_sent more : List (Option Apdu))
    → ((a : Apdu) → WasSent partner_sent a → WasSent more a) → ResponderSideInvariant txn side partner_sent
    → ResponderSideInvariant txn side more
responder_more txn (sides.Responder y) partner_sent more stays stands = record {
  same_txn = stands.same_txn;
  rules = stands.rules;
  ends = stands.ends;
  cancels = stands.cancels;
  renewals = stands.renewals;
  knows = λ fact shows. let known = stands.knows fact shows in (known.0, stays known.0 known.1, known.2);
  asked = λ question number was. let known = stands.asked question number was in
      (known.0, stays known.0 known.1, known.2, known.3);
  answered = stands.answered;
  recall = stands.recall;
  ships_first = stands.ships_first;
  grants = stands.grants;
  overdue = stands.overdue;
  grants_first = stands.grants_first;
  few = stands.few;
}
responder_more txn (sides.Requester x) partner_sent more stays stands = absurd stands

-- By `RequesterActs` and `RequesterTakes`, actions, taken messages and further sent messages keep
-- `RequesterSideInvariant`.
pub requester_keeps : RequesterActs → RequesterTakes → (txn : Qualifiers) → Keeps (RequesterSideInvariant txn)
requester_keeps acted took txn =
    record { acts = requester_acts acted txn; more = requester_more txn; takes = requester_takes took txn }

-- By `ResponderActs` and `ResponderTakes`, actions, taken messages and further sent messages keep
-- `ResponderSideInvariant`.
pub responder_keeps : ResponderActs → ResponderTakes → (txn : Qualifiers) → Keeps (ResponderSideInvariant txn)
responder_keeps acted took txn =
    record { acts = responder_acts acted txn; more = responder_more txn; takes = responder_takes took txn }

-- ---- a world

-- A list of empty places has no message.
none_there : (size i : ℕ) (a : Apdu) → option_flatten (slice_get (replicate size None) i) ≡ Some a → ⊥
none_there zero i a e = search rules
none_there (suc size) zero a e = search rules
none_there (suc size) (suc i) a e = none_there size i a e

-- A party that has sent nothing has not sent message n.
pub none_sent : (n : ℕ) (a : Apdu) → sent_message (replicate 255 None) n ≡ Some a → ⊥
none_sent zero a e = search rules
none_sent (suc n) a e = none_there 255 n a e

-- `PartyInvariant` holds of a first party, if `K` holds of its idle side with `partner_sent`.
first_stands : (K : Side → List (Option Apdu) → Type 0) (idle : Side) (partner_sent : List (Option Apdu)) → K idle partner_sent
    → PartyInvariant K (first_party idle) partner_sent
first_stands K idle partner_sent stands = record {
  saved = record {
    committed = λ n a e. absurd (none_sent n a e);
    prefix = prefix_of_itself (issued_of idle);
    released = omega arith;
    places = refl;
  };
  live = stands;
  committed = stands;
}

-- The first world satisfies the invariant.
pub world_first : (txn : Qualifiers) → Invariant txn (first_world txn)
world_first txn = record {
  requester = first_stands (RequesterSideInvariant txn) _ _ (requester_first txn _);
  responder = first_stands (ResponderSideInvariant txn) _ _ (responder_first txn _);
  due = inl refl;
}

-- If an event happens to the party `of`, and the other party stays, the invariant is kept.
world_kept : TransitionsKeepDue → (txn : Qualifiers) (w : Parties) (of : Role) (event : Event) → RowsGrow
    → Keeps (RequesterSideInvariant txn) → Keeps (ResponderSideInvariant txn) → Invariant txn w
    → Invariant txn (with_party w of (happens_to (party w of) (party w (other of)).sent event).1)
world_kept rows txn w who.Requester event grows requester_kept responder_kept stands = record {
  requester = party_kept (RequesterSideInvariant txn) w.requester w.responder.sent event grows requester_kept stands.requester;
  responder =
      more_sent (ResponderSideInvariant txn) w.responder w.requester.sent _ responder_kept
      (was_sent_still w.requester w.responder.sent event stands.requester.saved) stands.responder;
  due = due_after rows txn w.requester w.responder.sent event stands.requester.live stands.due;
}
world_kept rows txn w who.Responder event grows requester_kept responder_kept stands = record {
  requester =
      more_sent (RequesterSideInvariant txn) w.requester w.responder.sent _ requester_kept
      (was_sent_still w.responder w.requester.sent event stands.responder.saved) stands.requester;
  responder = party_kept (ResponderSideInvariant txn) w.responder w.requester.sent event grows responder_kept stands.responder;
  due = stands.due;
}

-- Each event keeps the invariant.
pub world_after : TransitionsKeepDue → (txn : Qualifiers) (w : Parties) (event : Event) → RowsGrow
    → Keeps (RequesterSideInvariant txn)
    → Keeps (ResponderSideInvariant txn) → Invariant txn w → Invariant txn (happens w event).1
world_after rows txn w event grows requester_kept responder_kept stands =
    world_kept rows txn w (who_of event) event grows requester_kept responder_kept stands
