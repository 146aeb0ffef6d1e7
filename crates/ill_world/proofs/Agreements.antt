-- If a world satisfies the invariant, both sides agree. The reason is the evidence for each claim of either record.
use Rattle.std.proofs.Common.{rules, ◌≡◌, ◌⊎◌, inl, inr, ℕ, ◌≤◌, Bool, true, false, List, [], ◌∷◌, Option, Some, if◌then◌else◌}
use Rattle.std.proofs.Common.{refl, sym, ap, ◌∙◌, arith}
use Rattle.std.proofs.lemmas.Bool.{and_parts, eq-eqb}
use Rattle.ill_values.specs.TxnId.{Qualifiers}
use Rattle.ill_values.specs.declared.apdu.Apdu.{Apdu}
use Rattle.ill_values.specs.Body.{Body}
use Rattle.ill_values.specs.declared.apdu.BodyWith.TheVariants as types
use Rattle.ill_core.specs.declared.state.State.{State}
use Rattle.ill_core.specs.declared.state.State.TheVariants as states
use Rattle.ill_core.specs.State.{is_among}
use Rattle.ill_values.specs.Bodies.{is_cancelled, is_shipped, is_ill_request, is_cancel, is_received, is_returned, is_checked_in}
use Rattle.ill_values.specs.Bodies.{accepts}
use Rattle.ill_core.specs.Issued.{message, has_message_with, is_message_with, is_there}
use Rattle.ill_core.specs.Requester.{RequesterRecord, later}
use Rattle.ill_core.specs.RequesterEvidence as requester
use Rattle.ill_core.specs.Responder.{ResponderRecord, later as shipped_states}
use Rattle.ill_core.specs.ResponderEvidence as responder
use Rattle.ill_record.specs.declared.side.Side.{Side}
use Rattle.ill_record.specs.declared.side.Side.TheVariants as sides
use Rattle.ill_record.specs.Side.{issued_of}
use Rattle.ill_world.specs.World.{Party, Parties, sent_message}
use Rattle.ill_world.specs.Safety.{OfBoth}
use Rattle.ill_world.specs.Agreement.{AnswersOnce, EndsOnce, Facing, AcceptedBy, IsNotLater, SaysTrue, Agrees}
use Rattle.ill_world.specs.Invariant.{RequesterInvariant, ResponderInvariant, RequesterSideInvariant, ResponderSideInvariant}
use Rattle.ill_world.specs.Invariant.{SendsSaved, Invariant}
use Rattle.ill_core.proofs.GrantLemmas.{granted_not_later}
use Rattle.ill_core.proofs.MessageLemmas.{message_says, says_message}
use Rattle.ill_world.proofs.Sendings.{prefix_message}
use Rattle.ill_world.proofs.Uniqueness.{message_number, answers_once, one_end}
use Rattle.ill_world.proofs.Claims.{AreIssued, tells_grant, is_in_cancelled, has_issued, not_supplied_faces, shipped_by}
use Rattle.ill_world.proofs.Claims.{committed_issues, live_issues}

-- ---- evidence

-- A message that is evidence of a return is a Returned.
tells_sent_back : (n : ℕ) (body : Body) → responder.IsEvidence n body responder.SentBack → is_returned body ≡ true
tells_sent_back n types.Returned tells = refl
tells_sent_back n body tells = search rules

-- A message that is evidence of a receipt is a Received.
tells_arrived : (n : ℕ) (body : Body) → responder.IsEvidence n body responder.Arrived → is_received body ≡ true
tells_arrived n types.Received tells = refl
tells_arrived n body tells = search rules

-- A message that is evidence of a request is an ILL-Request.
pub tells_requested : (n : ℕ) (body : Body) → responder.IsEvidence n body responder.Requested → is_ill_request body ≡ true
tells_requested n (types.IllRequest expiry item) tells = refl
tells_requested n body tells = search rules

-- A message that is evidence of Cancel c is a Cancel with the number c.
pub tells_cancel : (n c : ℕ) (body : Body) → responder.IsEvidence n body (responder.CancelAsked c) → (is_cancel body ≡ true)
    × (n ≡ c)
tells_cancel n c types.Cancel tells = (refl, tells)
tells_cancel n c body tells = search rules

-- A message that is evidence of accepted conditions c is a Conditional-Reply yes to c.
tells_accepted : (n c : ℕ) (body : Body) → responder.IsEvidence n body (responder.Accepted c) → accepts body ≡ Some c
tells_accepted n c (types.ConditionalReply k true) tells = ap Some tells
tells_accepted n c (types.ConditionalReply k false) tells = absurd tells
tells_accepted n c body tells = search rules

-- A message that is evidence of a check-in is a Checked-In.
tells_given_back : (body : Body) → requester.IsEvidence body requester.GivenBack → is_checked_in body ≡ true
tells_given_back types.CheckedIn tells = refl
tells_given_back body tells = search rules

-- A message that is evidence of a refused Cancel c is a Cancel-Reply no to c.
pub tells_refused : (body : Body) (c : ℕ) → requester.IsEvidence body (requester.Refused c) → body ≡ types.CancelReply c false
tells_refused (types.CancelReply k false) c tells = ap (λ n. types.CancelReply n false) tells
tells_refused (types.CancelReply k true) c tells = absurd tells
tells_refused body c tells = search rules

-- A message that cancels the request is a Cancel-Reply yes.
pub cancels_with : (body : Body) → is_cancelled body ≡ true → (c : ℕ) × (body ≡ types.CancelReply c true)
cancels_with (types.CancelReply c true) is = (c, refl)
cancels_with (types.CancelReply c false) is = search rules
cancels_with body is = search rules

-- A state among RETURNED alone is RETURNED.
is_in_returned : (state : State) → is_among (states.Returned ∷ []) state ≡ true → state ≡ states.Returned
is_in_returned states.Returned e = refl
is_in_returned state e = search rules

-- A state among CHECKED-IN alone is CHECKED-IN.
is_in_checked_in : (state : State) → is_among (states.CheckedIn ∷ []) state ≡ true → state ≡ states.CheckedIn
is_in_checked_in states.CheckedIn e = refl
is_in_checked_in state e = search rules

-- ---- a requester's record and a responder's

-- `P` holds of two records that satisfy `RequesterInvariant` and `ResponderInvariant`. Each has issued all messages
-- that were sent to the other. In a proof `issued` says this of the responder, and `heeded` of the requester.
abbrev pub HoldsOfRecords : (RequesterRecord → ResponderRecord → Type 0) → Type 0
HoldsOfRecords P =
    (txn : Qualifiers) (x : RequesterRecord) (y : ResponderRecord) (responder_sent requester_sent : List (Option Apdu))
    → RequesterInvariant txn x responder_sent → ResponderInvariant txn y requester_sent → AreIssued responder_sent y.issued
    → AreIssued requester_sent x.issued → P x y

-- A state among NOT-SUPPLIED, SHIPPED and later is NOT-SUPPLIED, or is SHIPPED or later.
split_final : (state : State) → is_among (states.NotSupplied ∷ later) state ≡ true
    → (state ≡ states.NotSupplied) ⊎ (is_among later state ≡ true)
split_final states.NotSupplied is = inl refl
split_final state is = inr is

-- A responder that has issued a Shipped is not in CANCELLED.
shipped_is_later : (y : ResponderRecord) (txn : Qualifiers) (requester_sent : List (Option Apdu))
    → ResponderInvariant txn y requester_sent
    → has_message_with is_shipped y.issued ≡ true → y.state ≡ states.Cancelled → ⊥
shipped_is_later y txn requester_sent responder_stands shipped e =
    let no : has_message_with is_shipped y.issued ≡ false = responder_stands.ends.shipped ∙ ap (is_among shipped_states) e in
    let both : true ≡ false = sym shipped ∙ no in
    search rules

-- If the responder is in CANCELLED, the requester is neither in NOT-SUPPLIED nor in SHIPPED or later. Each of these
-- states would put the responder in another one.
no_other_end : (txn : Qualifiers) (x : RequesterRecord) (y : ResponderRecord) (responder_sent requester_sent : List (Option Apdu))
    → RequesterInvariant txn x responder_sent → ResponderInvariant txn y requester_sent → AreIssued responder_sent y.issued
    → y.state ≡ states.Cancelled → is_among (states.NotSupplied ∷ later) x.state ≡ false
no_other_end txn x y responder_sent requester_sent requester_stands responder_stands issued e =
    go (is_among (states.NotSupplied ∷ later) x.state) refl
  where
    -- If the requester were in NOT-SUPPLIED, or in SHIPPED or later, the responder would not be in CANCELLED.
    go : (b : Bool) → is_among (states.NotSupplied ∷ later) x.state ≡ b → b ≡ false
    go false is = refl
    go true is =
        elim (split_final x.state is) [
          | inl ended ↦ let no : states.Cancelled ≡ states.NotSupplied =
              sym e ∙ not_supplied_faces txn x y responder_sent requester_sent requester_stands responder_stands issued ended in
              search rules
          | inr shipped ↦ absurd (shipped_is_later y txn requester_sent responder_stands
              (shipped_by txn x y responder_sent requester_sent x.due requester_stands responder_stands issued refl
              (requester_stands.rules.parts.due ∙ shipped)) e)
        ]

-- Equal APDUs have equal bodies.
body_of : (a b : Apdu) → ◌≡◌ {A = Option Apdu} (Some a) (Some b) → a.body ≡ b.body
body_of a b e = let same : a ≡ b = search rules in ap (λ (x : Apdu). x.body) same

-- If the responder has issued a Cancel-Reply yes to c, Cancel c is open at the requester. The requester has issued it,
-- and has had no other end of the request.
pub cancel_is_open : (txn : Qualifiers) (x : RequesterRecord) (y : ResponderRecord)
    (responder_sent requester_sent : List (Option Apdu))
    → RequesterInvariant txn x responder_sent → ResponderInvariant txn y requester_sent → AreIssued responder_sent y.issued
    → AreIssued requester_sent x.issued → (m c : ℕ) (a : Apdu) → message y.issued m ≡ Some a
    → a.body ≡ types.CancelReply c true → requester.is_open x c ≡ true
cancel_is_open txn x y responder_sent requester_sent requester_stands responder_stands issued heeded m c a at is =
    let ends : is_cancelled a.body ≡ true = ap is_cancelled is in
    let cancelled : y.state ≡ states.Cancelled =
    is_in_cancelled y.state (sym responder_stands.ends.cancelled ∙ message_says is_cancelled y.issued m a at ends) in
    let cancels_it : responder.is_yes_to_cancel c a.body ≡ true = ap (responder.is_yes_to_cancel c) is ∙ eq-eqb c c refl in
    let asked_for = responder_stands.knows (responder.CancelAsked c)
    (inr (message_says (responder.is_yes_to_cancel c) y.issued m a at cancels_it)) in
    let there = heeded asked_for.0 asked_for.1 in
    let says = tells_cancel asked_for.0.number c asked_for.0.body asked_for.2 in
    let number : there.0 ≡ c = sym (message_number x.txn x.issued there.0 asked_for.0 requester_stands.rules.numbered there.1).1
    ∙ says.1 in
    let issued_it : is_message_with is_cancel x.issued c ≡ true =
    ap (is_there is_cancel) (ap (message x.issued) (sym number) ∙ there.1) ∙ says.0 in
    let final = no_other_end txn x y responder_sent requester_sent requester_stands responder_stands issued cancelled in
    go issued_it final (requester.is_open x c) refl
  where
    -- If Cancel c were closed, the responder would have issued both a yes and a no to it.
    go : is_message_with is_cancel x.issued c ≡ true → is_among (states.NotSupplied ∷ later) x.state ≡ false → (b : Bool)
        → requester.is_open x c ≡ b → b ≡ true
    go issued_it final true e = refl
    go issued_it final false e =
        let refused = requester_stands.knows (requester.Refused c) (issued_it, final, e) in
        let other = issued refused.0 refused.1 in
        let no = tells_refused refused.0.body c refused.2 in
        let yes_answers : responder.answered_number responder.MayCancel a.body ≡ Some c =
        ap (responder.answered_number responder.MayCancel) is in
        let no_answers : responder.answered_number responder.MayCancel refused.0.body ≡ Some c =
        ap (responder.answered_number responder.MayCancel) no in
        let place : m ≡ other.0 = answers_once (responder.answered_number responder.MayCancel) y.issued
        responder_stands.cancels.distinct m other.0 c a refused.0 at other.1 yes_answers no_answers in
        let same : ◌≡◌ {A = Option Apdu} (Some a) (Some refused.0) = sym at ∙ ap (message y.issued) place ∙ other.1 in
        let bodies : ◌≡◌ {A = Body} (types.CancelReply c true) (types.CancelReply c false) =
        sym is ∙ body_of a refused.0 same ∙ no in
        search rules

-- `SaysTrue` holds of two records of `HoldsOfRecords`: each record's claims on the other side are right.
pub says_true : HoldsOfRecords SaysTrue
says_true txn x y responder_sent requester_sent requester_stands responder_stands issued heeded = record {
  returned =
      λ is.
      let known = responder_stands.knows responder.SentBack is in
      is_in_returned x.state (sym requester_stands.rules.issued.returned
      ∙ has_issued x.issued requester_sent is_returned known.0 heeded known.1
      (tells_sent_back known.0.number known.0.body known.2));
  cancelled =
      λ e.
      let ended : has_message_with is_cancelled y.issued ≡ true =
      responder_stands.ends.cancelled ∙ ap (is_among (states.Cancelled ∷ [])) e in
      let at = says_message is_cancelled y.issued ended in
      let by = cancels_with at.1.body at.3 in
      (and_parts _ _ (cancel_is_open txn x y responder_sent requester_sent requester_stands responder_stands issued heeded at.0
      by.0 at.1 at.2 by.1)).0;
  received =
      λ is.
      let known = responder_stands.knows responder.Arrived is in
      has_issued x.issued requester_sent is_received known.0 heeded known.1 (tells_arrived known.0.number known.0.body known.2);
  checked_in =
      λ is.
      let known = requester_stands.knows requester.GivenBack is in
      is_in_checked_in y.state (sym responder_stands.rules.issued.checked_in
      ∙ has_issued y.issued responder_sent is_checked_in known.0 issued known.1 (tells_given_back known.0.body known.2));
}

-- `IsNotLater` holds of two records of `HoldsOfRecords`: the requester's due date is not later than the responder's.
not_later : HoldsOfRecords IsNotLater
not_later txn x y responder_sent requester_sent requester_stands responder_stands issued heeded =
    λ d e.
    let known = requester_stands.knows (requester.Granted d) e in
    let at = issued known.0 known.1 in
    granted_not_later y.issued at.0 known.0 d responder_stands.rules.rising at.1 (tells_grant known.0.body d known.2)

-- ---- live and committed records

-- If `HoldsOfRecords P` holds, `P` holds of the records of two sides that satisfy the premises of `HoldsOfRecords`.
facing : (P : RequesterRecord → ResponderRecord → Type 0) → HoldsOfRecords P
    → (txn : Qualifiers) (x y : Side) (responder_sent requester_sent : List (Option Apdu))
    → RequesterSideInvariant txn x responder_sent
    → ResponderSideInvariant txn y requester_sent
    → AreIssued responder_sent (issued_of y) → AreIssued requester_sent (issued_of x) → Facing P x y
facing P pair txn (sides.Requester x) (sides.Responder y) responder_sent requester_sent requester_stands responder_stands issued
    heeded = pair txn x y responder_sent requester_sent requester_stands responder_stands issued heeded
facing P pair txn (sides.Responder x) y responder_sent requester_sent requester_stands responder_stands issued heeded =
    absurd requester_stands
facing P pair txn (sides.Requester x) (sides.Requester y) responder_sent requester_sent requester_stands responder_stands issued
    heeded = absurd responder_stands

-- If `HoldsOfRecords P` holds, and a world satisfies the invariant, `P` holds of its four pairs of records.
of_both_facing : (P : RequesterRecord → ResponderRecord → Type 0) → HoldsOfRecords P → (txn : Qualifiers) (w : Parties)
    → Invariant txn w
    → OfBoth (Facing P) w
of_both_facing P pair txn w stands =
    let sent = w.responder.sent in
    let requester_sent = w.requester.sent in
    let live = live_issues w.responder stands.responder.saved in
    let committed = committed_issues w.responder stands.responder.saved in
    let heeded = live_issues w.requester stands.requester.saved in
    let heeded_committed = committed_issues w.requester stands.requester.saved in
    record {
      live = facing P pair txn w.requester.live w.responder.live sent requester_sent stands.requester.live stands.responder.live
          live heeded;
      live_committed = facing P pair txn w.requester.live w.responder.committed sent requester_sent stands.requester.live
          stands.responder.committed committed heeded;
      committed_live = facing P pair txn w.requester.committed w.responder.live sent requester_sent stands.requester.committed
          stands.responder.live live heeded_committed;
      committed = facing P pair txn w.requester.committed w.responder.committed sent requester_sent stands.requester.committed
          stands.responder.committed committed heeded_committed;
    }

-- ---- one answer, and one end

-- If no two committed messages answer one number, no two sent messages do.
once_sent : (answered : Body → Option ℕ) (p : Party) → SendsSaved p
    → AnswersOnce answered (message (issued_of p.committed)) → AnswersOnce answered (sent_message p.sent)
once_sent answered p saved once = λ m n k a b at_m at_n is_a is_b.
    once m n k a b (saved.committed m a at_m) (saved.committed n b at_n) is_a is_b

-- No two messages of a requester's side reply to one number.
replies_once : (txn : Qualifiers) (side : Side) (responder_sent : List (Option Apdu))
    → RequesterSideInvariant txn side responder_sent
    → AnswersOnce requester.replied_number (message (issued_of side))
replies_once txn (sides.Requester x) responder_sent stands =
    answers_once requester.replied_number x.issued stands.replies.distinct
replies_once txn (sides.Responder y) responder_sent stands = absurd stands

-- No two messages of a responder's side answer one Cancel.
cancels_once : (txn : Qualifiers) (side : Side) (requester_sent : List (Option Apdu))
    → ResponderSideInvariant txn side requester_sent
    → AnswersOnce (responder.answered_number responder.MayCancel) (message (issued_of side))
cancels_once txn (sides.Responder y) requester_sent stands =
    answers_once (responder.answered_number responder.MayCancel) y.issued stands.cancels.distinct
cancels_once txn (sides.Requester x) requester_sent stands = absurd stands

-- No two messages of a responder's side answer one Renew.
renewals_once : (txn : Qualifiers) (side : Side) (requester_sent : List (Option Apdu))
    → ResponderSideInvariant txn side requester_sent
    → AnswersOnce (responder.answered_number responder.MayRenew) (message (issued_of side))
renewals_once txn (sides.Responder y) requester_sent stands =
    answers_once (responder.answered_number responder.MayRenew) y.issued stands.renewals.distinct
renewals_once txn (sides.Requester x) requester_sent stands = absurd stands

-- `if b then 1 else 0` is at most 1.
pub at_most_one : (b : Bool) → (if b then 1 else 0) ≤ 1
at_most_one true = omega arith
at_most_one false = omega arith

-- No two messages of a responder's side end the request.
ends_once : (txn : Qualifiers) (side : Side) (requester_sent : List (Option Apdu))
    → ResponderSideInvariant txn side requester_sent
    → EndsOnce side
ends_once txn (sides.Responder y) requester_sent stands =
    λ n a at is. one_end y.txn y.issued n a stands.rules.numbered
    (omega (arith, stands.ends.once, at_most_one (is_among responder.ended y.state))) at is
ends_once txn (sides.Requester x) requester_sent stands = absurd stands

-- If a responder's side has conditions as accepted, the requester has sent the acceptance, and has it in memory.
accepted_by : (txn : Qualifiers) (w : Parties) (side : Side) → SendsSaved w.requester
    → ResponderSideInvariant txn side w.requester.sent → AcceptedBy w side
accepted_by txn w (sides.Responder y) saved stands =
    λ c e.
    let known = stands.knows (responder.Accepted c) e in
    let sent = known.1 in
    let live = prefix_message (issued_of w.requester.committed) (issued_of w.requester.live) sent.0 known.0 saved.prefix
    (saved.committed sent.0 known.0 sent.1) in
    (sent.0, known.0, sent.1, live, tells_accepted known.0.number c known.0.body known.2)
accepted_by txn w (sides.Requester x) saved stands = absurd stands

-- If a world satisfies the invariant, both sides agree.
pub agrees : (txn : Qualifiers) (w : Parties) → Invariant txn w → Agrees w
agrees txn w stands =
    let requester_stands = stands.requester in
    let responder_stands = stands.responder in
    let sent = w.responder.sent in
    let requester_sent = w.requester.sent in
    record {
      answered = record {
        conditions = (
          replies_once txn w.requester.live sent requester_stands.live,
          once_sent requester.replied_number w.requester requester_stands.saved
              (replies_once txn w.requester.committed sent requester_stands.committed),
        );
        cancels = (
          cancels_once txn w.responder.live requester_sent responder_stands.live,
          once_sent (responder.answered_number responder.MayCancel) w.responder responder_stands.saved
              (cancels_once txn w.responder.committed requester_sent responder_stands.committed),
        );
        renewals = (
          renewals_once txn w.responder.live requester_sent responder_stands.live,
          once_sent (responder.answered_number responder.MayRenew) w.responder responder_stands.saved
              (renewals_once txn w.responder.committed requester_sent responder_stands.committed),
        );
      };
      ended = (
        ends_once txn w.responder.live requester_sent responder_stands.live,
        ends_once txn w.responder.committed requester_sent responder_stands.committed,
      );
      accepted = (
        accepted_by txn w w.responder.live requester_stands.saved responder_stands.live,
        accepted_by txn w w.responder.committed requester_stands.saved responder_stands.committed,
      );
      dates = of_both_facing IsNotLater not_later txn w stands;
      says = of_both_facing SaysTrue says_true txn w stands;
    }
