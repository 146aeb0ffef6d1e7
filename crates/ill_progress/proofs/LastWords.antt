-- If the loan has ended for a responder, its last message tells so. If it arrives, the loan is over for the requester
-- too.
use Rattle.std.proofs.Common.{rules, ◌≡◌, ℕ, suc, Bool, true, false, List, [], ◌∷◌, ◌++◌, length, Option, Some, Ok, refl, sym, ap}
use Rattle.std.proofs.Common.{◌∙◌, subst, true≢false, length-append, arith, None, Result, Err, if◌then◌else◌}
use Rattle.std.specs.Prelude.{slice_get}
use Rattle.ill_values.specs.Bodies.{is_final, is_requesters}
use Rattle.ill_values.specs.Day.{Date}
use Rattle.ill_values.specs.TxnId.{Qualifiers}
use Rattle.ill_values.specs.declared.apdu.Apdu.{Apdu}
use Rattle.ill_values.specs.Body.{Body}
use Rattle.ill_values.specs.declared.apdu.BodyWith.TheVariants as types
use Rattle.ill_values.specs.declared.apdu.AnswerResult.{AnswerResult}
use Rattle.ill_values.specs.declared.apdu.AnswerResult.TheVariants as results
use Rattle.ill_core.specs.declared.state.State.{State}
use Rattle.ill_core.specs.declared.state.State.TheVariants.{Cancelled, NotSupplied, Returned, CheckedIn}
use Rattle.ill_core.specs.declared.responder.Deed.{Deed}
use Rattle.ill_core.specs.State.{is_among}
use Rattle.ill_core.specs.declared.refusal.Refusal.{Refusal}
use Rattle.ill_core.specs.declared.refusal.Refusal.TheVariants.{OtherTransaction}
use Rattle.ill_core.specs.Answers.{unless_refused}
use Rattle.ill_core.specs.Issued.{message, next_apdu, is_same_txn, first_refusal}
use Rattle.ill_core.specs.Requester.{RequesterRecord, requester_of, is_declined}
use Rattle.ill_core.specs.RequesterActions as requester_actions
use Rattle.ill_core.specs.RequesterDeliveries as requester_deliveries
use Rattle.ill_core.specs.RequesterDeliveries.{take_message, take_checked_in}
use Rattle.ill_core.specs.Verbs.{requester_turn_in}
use Rattle.ill_core.specs.Responder.{ResponderRecord}
use Rattle.ill_core.specs.ResponderActions.{Transition, after_answer, issues_to}
use Rattle.ill_core.specs.ResponderActions as responder
use Rattle.ill_core.specs.ResponderDeliveries as responder_deliveries
use Rattle.ill_core.proofs.ResponderRows.{of_acts}
use Rattle.ill_core.proofs.ResponderTransitions.{IsTransition, answers, allows_cancel, refuses_cancel, ships, renews}
use Rattle.ill_core.proofs.ResponderTransitions.{refuses_renewal, refuses_late, reminds, reminds_renewing, recalls, checks_in}
use Rattle.ill_core.proofs.ResponderTransitions.{expires}
use Rattle.ill_core.proofs.ResponderMoves as moves
use Rattle.ill_core.proofs.ResponderMoves.{Change, takes_changes}
use Rattle.ill_record.specs.declared.side.Side.{Side}
use Rattle.ill_record.specs.declared.side.Side.TheVariants as sides
use Rattle.ill_record.specs.declared.side.Action.{Action}
use Rattle.ill_record.specs.declared.side.Action.TheVariants as actions
use Rattle.ill_record.specs.declared.role.Role.{Role}
use Rattle.ill_record.specs.declared.role.Role.TheVariants as who
use Rattle.ill_record.specs.Side.{done_by, acts, takes, state_of}
use Rattle.ill_words.specs.Sending.{is_nobodys, is_over}
use Rattle.ill_world.specs.declared.event.Event.{Event}
use Rattle.ill_world.specs.World.{Parties, first_world, happens, happens_at, happens_to, who_of, run_by, run_of}
use Rattle.ill_world.specs.Invariant.{PartyInvariant, RequesterSideInvariant, Invariant}
use Rattle.ill_world.proofs.Kept.{RowsGrow, Keeps, party_kept}

-- ---- the last message of a responder

-- Returns true if a message with this body tells that the loan has ended in this state of the responder.
abbrev pub tells_end : State → Body → Bool
tells_end Cancelled (types.CancelReply c true) = true
tells_end NotSupplied (types.IllAnswer answer) = is_final answer
tells_end NotSupplied types.Expired = true
tells_end CheckedIn types.CheckedIn = true
tells_end state body = false

-- If the loan has ended for the responder, its last message tells so.
abbrev pub TellsEnd : ResponderRecord → Type 0
TellsEnd y =
    is_among (NotSupplied ∷ Cancelled ∷ CheckedIn ∷ []) y.state ≡ true
    → (a : Apdu) × (message y.issued (length y.issued) ≡ Some a) × (tells_end y.state a.body ≡ true)

-- The last item of a list is at its end.
last_get : (apdus : List Apdu) (a : Apdu) → slice_get (apdus ++ a ∷ []) (length apdus) ≡ Some a
last_get [] a = refl
last_get (b ∷ apdus) a = last_get apdus a

-- If `a` is put at the end of a list, it is the last message of the list.
last_message : (apdus : List Apdu) (a : Apdu) → message (apdus ++ a ∷ []) (length (apdus ++ a ∷ [])) ≡ Some a
last_message apdus a =
    let end : length (apdus ++ a ∷ []) ≡ suc (length apdus) = omega (arith, length-append apdus (a ∷ [])) in
    ap (message (apdus ++ a ∷ [])) end ∙ last_get apdus a

-- If `body` tells the end in `state`, a record that issues it and comes to `state` satisfies `TellsEnd`.
issues_tell : (y : ResponderRecord) (body : Body) (state : State)
    → (is_among (NotSupplied ∷ Cancelled ∷ CheckedIn ∷ []) state ≡ true → tells_end state body ≡ true)
    → TellsEnd (issues_to y body state)
issues_tell y body state tells final =
    (next_apdu y.txn y.issued body, last_message y.issued (next_apdu y.txn y.issued body), tells final)

-- An ILL-Answer that leads to NOT-SUPPLIED tells so.
answer_tells : (answer : AnswerResult) → is_among (NotSupplied ∷ Cancelled ∷ CheckedIn ∷ []) (after_answer answer) ≡ true
    → tells_end (after_answer answer) (types.IllAnswer answer) ≡ true
answer_tells results.Conditional final = absurd (true≢false (sym final))
answer_tells results.WillSupply final = absurd (true≢false (sym final))
answer_tells results.HoldPlaced final = absurd (true≢false (sym final))
answer_tells other final = refl

-- The message of a deed tells the end to which the deed leads.
transition_tells : (y : ResponderRecord) (transition : Transition) → IsTransition y transition
    → is_among (NotSupplied ∷ Cancelled ∷ CheckedIn ∷ []) transition.next ≡ true
    → tells_end transition.next transition.body ≡ true
transition_tells y _ (answers answer is) final = answer_tells answer final
transition_tells y _ (allows_cancel is) final = refl
transition_tells y _ (refuses_cancel is) final = absurd (true≢false (sym final))
transition_tells y _ (ships due is) final = absurd (true≢false (sym final))
transition_tells y _ (renews due is later) final = absurd (true≢false (sym final))
transition_tells y _ (refuses_renewal is) final = absurd (true≢false (sym final))
transition_tells y _ (refuses_late is) final = absurd (true≢false (sym final))
transition_tells y _ (reminds is) final = absurd (true≢false (sym final))
transition_tells y _ (reminds_renewing is) final = absurd (true≢false (sym final))
transition_tells y _ (recalls is) final = absurd (true≢false (sym final))
transition_tells y _ (checks_in is) final = refl
transition_tells y _ (expires is) final = refl

-- The record after a deed tells its end.
acts_tell : (y new : ResponderRecord) (deed : Deed) (today : Date) → responder.acts y deed today ≡ Ok new → TellsEnd new
acts_tell y new deed today =
    of_acts TellsEnd y new deed today
    (λ transition is issues. issues_tell y transition.body transition.next (transition_tells y transition is))

-- If `y` satisfies `TellsEnd`, the record `new` after a message does.
change_tells : (y new : ResponderRecord) (number : ℕ) (body : Body) → Change y number body new → TellsEnd y → TellsEnd new
change_tells y _ number _ (moves.leaves body) tells = tells
change_tells y _ number _ (moves.requests expiry item a is) tells = λ final. absurd (true≢false (sym final))
change_tells y _ number _ (moves.accepts c is) tells = λ final. absurd (true≢false (sym final))
change_tells y _ number _ (moves.declines c is few) tells =
    issues_tell y (types.IllAnswer results.Unfilled) NotSupplied (λ final. refl)
change_tells y _ number _ (moves.cancels later is) tells = λ final. absurd (true≢false (sym final))
change_tells y _ number _ moves.arrives tells = tells
change_tells y _ number _ (moves.renews wished later is) tells = λ final. absurd (true≢false (sym final))
change_tells y _ number _ (moves.renews_late wished later is) tells = λ final. absurd (true≢false (sym final))
change_tells y _ number _ (moves.returns is) tells = λ final. absurd (true≢false (sym final))

-- The record after a message tells its end, if the record before it does.
takes_tell : (y : ResponderRecord) (a : Apdu) → TellsEnd y → TellsEnd (responder_deliveries.takes y a).1
takes_tell y a = change_tells y (responder_deliveries.takes y a).1 a.number a.body (takes_changes y a)

-- If two sides are equal as results, they are equal.
side_is : (a b : Side) → ◌≡◌ {A = Result Side Refusal} (Ok a) (Ok b) → a ≡ b
side_is a b e = search rules

-- ---- runs

-- If the side is a responder's, its record satisfies `TellsEnd`.
abbrev pub SideTells : Side → List (Option Apdu) → Type 0
SideTells (sides.Requester x) sent = Unit {0}
SideTells (sides.Responder y) sent = TellsEnd y

-- An action keeps `SideTells`.
side_acts_tell : (old new : Side) (action : Action) (sent : List (Option Apdu)) → acts old action ≡ Ok new
    → SideTells old sent → SideTells new sent
side_acts_tell (sides.Requester x) new (actions.Wish wish) sent e tells = go (requester_actions.acts x wish) e
  where
    -- A requester's side satisfies `SideTells` in any case.
    go : (result : Result RequesterRecord Refusal) → done_by sides.Requester result ≡ Ok new → SideTells new sent
    go (Ok made) e = subst (λ side. SideTells side sent) (side_is (sides.Requester made) new e) tt
    go (Err refusal) e = search rules
side_acts_tell (sides.Responder y) new (actions.Deed deed today) sent e tells = go (responder.acts y deed today) refl e
  where
    -- A deed that is refused has no new side.
    go : (result : Result ResponderRecord Refusal) → responder.acts y deed today ≡ result
        → done_by sides.Responder result ≡ Ok new → SideTells new sent
    go (Ok made) is e =
        subst (λ side. SideTells side sent) (side_is (sides.Responder made) new e) (acts_tell y made deed today is)
    go (Err refusal) is e = search rules
side_acts_tell (sides.Requester x) new (actions.Deed deed today) sent e tells = search rules
side_acts_tell (sides.Responder y) new (actions.Wish wish) sent e tells = search rules

-- A message keeps `SideTells`.
side_takes_tell : (side : Side) (a : Apdu) (sent : List (Option Apdu)) → SideTells side sent → SideTells (takes side a).1 sent
side_takes_tell (sides.Requester x) a sent tells = tt
side_takes_tell (sides.Responder y) a sent tells = takes_tell y a tells

-- `SideTells` does not look at the messages of the other side.
side_still_tells : (side : Side) (sent more : List (Option Apdu)) → SideTells side sent → SideTells side more
side_still_tells (sides.Requester x) sent more tells = tt
side_still_tells (sides.Responder y) sent more tells = tells

-- Each event keeps `SideTells`.
keeps_tells : Keeps SideTells
keeps_tells = record {
  acts = side_acts_tell;
  more = λ side sent more stays tells. side_still_tells side sent more tells;
  takes = λ old a sent was tells. side_takes_tell old a sent tells;
}

-- The responder of a world tells its end, live and committed.
abbrev pub ResponderTells : Parties → Type 0
ResponderTells w = PartyInvariant SideTells w.responder w.requester.sent

-- An event keeps `ResponderTells`.
event_tells : RowsGrow → (w : Parties) (event : Event) (role : Role) → ResponderTells w
    → ResponderTells (happens_at w role (λ p partner. happens_to p partner.sent event)).1
event_tells grows w event who.Requester tells = record {
  saved = tells.saved;
  live = side_still_tells w.responder.live _ _ tells.live;
  committed = side_still_tells w.responder.committed _ _ tells.committed;
}
event_tells grows w event who.Responder tells = party_kept SideTells w.responder w.requester.sent event grows keeps_tells tells

-- Any events keep `ResponderTells`.
pub run_tells : RowsGrow → (w : Parties) (all : List Event) → ResponderTells w → ResponderTells (run_of w all)
unfolding run_by
run_tells grows w [] tells = tells
run_tells grows w (event ∷ more) tells =
    run_tells grows (happens w event).1 more (event_tells grows w event (who_of event) tells)

-- At first the responder is idle, and tells no end.
pub first_tells : (txn : Qualifiers) → Invariant txn (first_world txn) → ResponderTells (first_world txn)
first_tells txn stands = record {
  saved = stands.responder.saved;
  live = λ final. absurd (true≢false (sym final));
  committed = λ final. absurd (true≢false (sym final));
}

-- ---- the arrival

-- If the requester is in CANCELLED or NOT-SUPPLIED, the loan is over for it.
pub ended_over : (txn : Qualifiers) (side : Side) (sent : List (Option Apdu)) → RequesterSideInvariant txn side sent
    → is_among (NotSupplied ∷ Cancelled ∷ []) (state_of side) ≡ true → is_over side ≡ true
ended_over txn (sides.Requester x) sent stands is = go x.state (is_declined x) x.checked_in is
  where
    -- In CANCELLED and NOT-SUPPLIED nobody has the turn.
    go : (state : State) (declined checked : Bool) → is_among (NotSupplied ∷ Cancelled ∷ []) state ≡ true
        → is_nobodys (requester_turn_in state declined checked) ≡ true
    go state declined checked is = search rules
ended_over txn (sides.Responder y) sent stands is = absurd stands

-- If a requester in RETURNED takes a Checked-In, the loan is over for it.
returned_over : (txn : Qualifiers) (state : State) (held : Option ℕ) (checked : Bool) (due : Option Date) (issued : List Apdu)
    → state ≡ Returned
    → is_over (sides.Requester (take_checked_in (requester_of txn state held checked due issued)).1) ≡ true
returned_over txn state held checked due issued is =
    subst (λ s. is_over (sides.Requester (take_checked_in (requester_of txn s held checked due issued)).1) ≡ true) (sym is)
    (base checked)
  where
    -- A requester in RETURNED may have the mark before.
    base : (checked : Bool)
        → is_over (sides.Requester (take_checked_in (requester_of txn Returned held checked due issued)).1) ≡ true
    base true = refl
    base false = refl

-- If a Checked-In arrives at a requester in RETURNED, the loan is over for it.
pub checked_in_over : (x : RequesterRecord) (a : Apdu) → x.state ≡ Returned → is_same_txn a.txn x.txn ≡ true
    → a.body ≡ types.CheckedIn → is_over (sides.Requester (requester_deliveries.takes x a).1) ≡ true
checked_in_over x a state same body =
    ap (λ b. is_over (sides.Requester (unless_refused (first_refusal x.txn (is_requesters b) a) x (take_message x a b)).1)) body
    ∙ ap (λ s. is_over (sides.Requester
    (unless_refused (if s then None else Some OtherTransaction) x (take_checked_in x)).1)) same
    ∙ returned_over x.txn x.state x.held x.checked_in x.due x.issued state
