-- After an act towards the end, and a night, fewer acts are left: first of two records, then of two sides.
use Rattle.std.proofs.Common.{rules, arith, ◌≡◌, ◌⊎◌, inl, inr, ℕ, ◌+◌, ◌≤◌, ◌<◌, Bool, true, false, ◌&&◌, List, [], ◌∷◌}
use Rattle.std.proofs.Common.{length, Option, Result, Ok, Err, refl, sym, ap, ◌∙◌, subst}
use Rattle.std.proofs.lemmas.Bool.{or_left, or_right}
use Rattle.ill_values.specs.Day.{Date}
use Rattle.ill_values.specs.TxnId.{Qualifiers}
use Rattle.ill_values.specs.Bodies.{is_end, is_unsupplied, is_cancelled, is_shipped}
use Rattle.ill_values.specs.declared.apdu.Apdu.{Apdu}
use Rattle.ill_values.specs.Body.{Body}
use Rattle.ill_core.specs.declared.refusal.Refusal.{Refusal}
use Rattle.ill_core.specs.declared.state.State.{State}
use Rattle.ill_core.specs.declared.state.State.TheVariants as states
use Rattle.ill_core.specs.declared.turn.Turn.{Turn}
use Rattle.ill_core.specs.declared.turn.Turn.TheVariants.{Over, Mine, Theirs}
use Rattle.ill_core.specs.declared.requester.Wish.{Wish}
use Rattle.ill_core.specs.declared.responder.Deed.{Deed}
use Rattle.ill_core.specs.State.{is_among}
use Rattle.ill_core.specs.Issued.{has_message_with}
use Rattle.ill_core.specs.Requester.{RequesterRecord, is_declined}
use Rattle.ill_core.specs.RequesterActions as requester_actions
use Rattle.ill_core.specs.Responder.{ResponderRecord, later}
use Rattle.ill_core.specs.ResponderActions as responder_actions
use Rattle.ill_core.specs.RequesterRules.{RequesterRules}
use Rattle.ill_core.specs.ResponderEvidence.{EndsOnce, ended}
use Rattle.ill_core.specs.Verbs.{requester_turn, requester_turn_in}
use Rattle.ill_core.proofs.MessageLemmas.{message_says, says_message}
use Rattle.ill_record.specs.declared.side.Action.TheVariants as actions
use Rattle.ill_record.specs.declared.side.Side.{Side}
use Rattle.ill_record.specs.declared.side.Side.TheVariants as sides
use Rattle.ill_record.specs.Side.{issued_of, acts, done_by}
use Rattle.ill_words.specs.Sending.{is_nobodys, is_over}
use Rattle.ill_world.specs.Agreement.{Facing}
use Rattle.ill_world.specs.Invariant.{RequesterSideInvariant, ResponderSideInvariant}
use Rattle.ill_world.specs.Round.{HaveConverged, CanAnswer, faced_in}
use Rattle.ill_world.specs.Night.{AtRest}
use Rattle.ill_world.proofs.Claims.{AreIssued}
use Rattle.ill_progress.specs.Ends.{is_wish_to_end, is_deed_to_end, acts_to_end, side_acts_to_end}
use Rattle.ill_progress.proofs.EndsNights.{SideKept}
use Rattle.ill_progress.proofs.EndsRecords.{RequesterKept, ResponderKept, none_left_at_the_end, wish_counts, DeedEnds}
use Rattle.ill_progress.proofs.EndsRecords.{deed_ends, HasRenewed, deed_counts, deed_left, deed_ended, renewing}
use Rattle.ill_progress.proofs.EndsRenewals.{renewal_settles}

-- ---- two sides that have settled

-- The two sides are converged, or at rest.
abbrev pub Settled : Side → Side → Type 0
Settled requester responder = Facing HaveConverged requester responder ⊎ Facing AtRest requester responder

-- A turn that is nobody's says that the loan is over.
nobodys : (turn : Turn) → is_nobodys turn ≡ true → turn ≡ Over
nobodys Over is = refl
nobodys Mine is = search rules
nobodys Theirs is = search rules

-- If the loan is over for a requester, no act to the end is left.
over_left : (x : RequesterRecord) → is_over (sides.Requester x) ≡ true → acts_to_end x ≡ 0
over_left x over = (none_left_at_the_end x).1 (nobodys (requester_turn x) over)

-- If the loan is over for a requester in a state, no conditions are declined there.
over_in : (s : State) (has_no checked_in : Bool)
    → is_nobodys (requester_turn_in s (is_among (states.Conditional ∷ []) s && has_no) checked_in) ≡ true
    → (is_among (states.Conditional ∷ []) s && has_no) ≡ false
over_in states.Conditional true checked_in over = search rules
over_in states.Conditional false checked_in over = search rules
over_in s has_no checked_in over = search rules

-- If two sides have settled, no conditions are declined.
settled_undeclined : (x : RequesterRecord) (y : ResponderRecord) → Settled (sides.Requester x) (sides.Responder y)
    → is_declined x ≡ false
settled_undeclined x y (inl step) = step.undeclined
settled_undeclined x y (inr rest) = over_in x.state (has_message_with _ x.issued) x.checked_in rest.requester

-- If two sides have settled, their states face each other.
settled_faced : (x : RequesterRecord) (y : ResponderRecord) → Settled (sides.Requester x) (sides.Responder y)
    → is_among (faced_in x.state) y.state ≡ true
settled_faced x y (inl step) = step.faced
settled_faced x y (inr rest) = rest.faced

-- A requester that faces a responder in NOT-SUPPLIED is in NOT-SUPPLIED.
faces_unsupplied : (s t : State) → is_among (faced_in s) t ≡ true → is_among (states.NotSupplied ∷ []) t ≡ true
    → s ≡ states.NotSupplied
faces_unsupplied states.NotSupplied t faced is = refl
faces_unsupplied s t faced is = search rules

-- ---- the count of one day, and an action that a side has done

-- One day has led the requester's side from `requester` to `after`, and the responder's from `responder` to `answered`.
-- Fewer acts are left. The acts left and the messages issued by a side are together no more than before. If no act is
-- left, the responder may have issued more.
pub record SidesCount (requester responder after answered : Side) : Type 0 where
  pub fewer : side_acts_to_end after < side_acts_to_end requester
  pub asked : side_acts_to_end after + length (issued_of after) ≤ side_acts_to_end requester + length (issued_of requester)
  pub lent : (side_acts_to_end after + length (issued_of answered)
      ≤ side_acts_to_end requester + length (issued_of responder)) ⊎ (side_acts_to_end after ≡ 0)

-- If a requester's side has done a wish, and is `new` then, the result `r` of its record is Ok. `new` is made of it.
wish_is : (r : Result RequesterRecord Refusal) (new : Side) → done_by sides.Requester r ≡ Ok new
    → (z : RequesterRecord) × (r ≡ Ok z) × (new ≡ sides.Requester z)
wish_is (Ok z) new is = let same : sides.Requester z ≡ new = search rules in (z, refl, sym same)
wish_is (Err refusal) new is = absurd cc

-- If a responder's side has done a deed, and is `new` then, the result `r` of its record is Ok. `new` is made of it.
deed_is : (r : Result ResponderRecord Refusal) (new : Side) → done_by sides.Responder r ≡ Ok new
    → (z : ResponderRecord) × (r ≡ Ok z) × (new ≡ sides.Responder z)
deed_is (Ok z) new is = let same : sides.Responder z ≡ new = search rules in (z, refl, sym same)
deed_is (Err refusal) new is = absurd cc

-- ---- one day, of both records

-- These facts of the tables are assumed here. Each action that is done issues one message.
pub record OneEach : Type 0 where
  pub wish : (x new : RequesterRecord) (wish : Wish) → requester_actions.acts x wish ≡ Ok new
      → length new.issued ≡ length x.issued + 1
  pub deed : (y new : ResponderRecord) (deed : Deed) (today : Date) → responder_actions.acts y deed today ≡ Ok new
      → length new.issued ≡ length y.issued + 1

-- In NOT-SUPPLIED no act to the end is left.
unsupplied_none : (x : RequesterRecord) → x.state ≡ states.NotSupplied → acts_to_end x ≡ 0
unsupplied_none x at = (none_left_at_the_end x).1 (ap (λ (s : State). requester_turn_in s (is_declined x) x.checked_in) at)

-- The responder had issued at most `size` + 1 messages before the night. After it, its messages and the acts left are
-- at most `size` and the acts left of `x`. Or no act is left.
lent_counts : (x after : RequesterRecord) (new answered : ResponderRecord) (size : ℕ) → length new.issued ≤ size + 1
    → ResponderKept new answered → Settled (sides.Requester after) (sides.Responder answered) → acts_to_end after < acts_to_end x
    → (acts_to_end after + length answered.issued ≤ acts_to_end x + size) ⊎ (acts_to_end after ≡ 0)
lent_counts x after new answered size few kept settled fewer = go kept.issued
  where
    -- The responder has issued nothing in the night, or both sides are in NOT-SUPPLIED.
    go : (answered.issued ≡ new.issued) ⊎ (is_among (states.NotSupplied ∷ []) answered.state ≡ true)
        → (acts_to_end after + length answered.issued ≤ acts_to_end x + size) ⊎ (acts_to_end after ≡ 0)
    go (inl same) = inl (omega (arith, few, fewer, ap (λ (l : List Apdu). length l) same))
    go (inr is) = inr (unsupplied_none after
        (faces_unsupplied after.state answered.state (settled_faced after answered settled) is))

-- If a wish towards the end leads to `new`, and a night then to `after` and `answered`, `SidesCount` holds.
wish_records : OneEach → (x new after : RequesterRecord) (y answered : ResponderRecord) (wish : Wish) → is_wish_to_end wish ≡ true
    → requester_actions.acts x wish ≡ Ok new → RequesterKept new after → ResponderKept y answered → RequesterRules after
    → Settled (sides.Requester after) (sides.Responder answered)
    → SidesCount (sides.Requester x) (sides.Responder y) (sides.Requester after) (sides.Responder answered)
wish_records one x new after y answered wish ends done kept waited fits settled =
    let fewer = wish_counts x new wish ends done after kept fits (settled_undeclined after answered settled) in
    record {
      fewer = fewer;
      asked = omega (arith, fewer, ap (λ (l : List Apdu). length l) kept.issued, one.wish x new wish done);
      lent = lent_counts x after y answered (length y.issued) (omega arith) waited settled fewer;
    }

-- If a deed towards the end leads to `new`, and a night then to `after` and `answered`, `SidesCount` holds. `settles`
-- says: if both are converged then, and the deed answered a Renew, no Renew waits.
deed_records : OneEach → (x after : RequesterRecord) (y new answered : ResponderRecord) (deed : Deed) (today : Date)
    → is_deed_to_end deed ≡ true → responder_actions.acts y deed today ≡ Ok new → RequesterKept x after
    → ResponderKept new answered → HaveConverged x y → RequesterRules x → RequesterRules after
    → (HaveConverged after answered → HasRenewed y new → is_among renewing after.state ≡ false)
    → Settled (sides.Requester after) (sides.Responder answered)
    → SidesCount (sides.Requester x) (sides.Responder y) (sides.Requester after) (sides.Responder answered)
deed_records one x after y new answered deed today ends done waited kept step fits fits_after settles settled =
    let it_ends = deed_ends y new deed today ends done in
    let fewer = go it_ends settled in
    record {
      fewer = fewer;
      asked = omega (arith, fewer, ap (λ (l : List Apdu). length l) waited.issued);
      lent = lent_counts x after new answered (length y.issued) (omega (arith, one.deed y new deed today done)) kept settled
          fewer;
    }
  where
    -- If the two are converged, `deed_counts` counts the acts. If they are at rest, none is left.
    go : DeedEnds y new → Settled (sides.Requester after) (sides.Responder answered) → acts_to_end after < acts_to_end x
    go it_ends (inl step_after) =
        deed_counts x after y new answered it_ends kept step step_after fits waited fits_after (settles step_after)
    go it_ends (inr rest) = omega (arith, over_left after rest.requester, deed_left x y new it_ends step)

-- ---- one day, of both sides

-- If a wish towards the end leads to `acted`, and a night then to `after` and `answered`, `SidesCount` holds. By the
-- invariants no other roles are possible. `a` to `d` are the messages that the other side of each has sent.
pub wish_sides : OneEach → (txn : Qualifiers) (requester acted after responder answered : Side) (a b c d : List (Option Apdu))
    (wish : Wish) → is_wish_to_end wish ≡ true → acts requester (actions.Wish wish) ≡ Ok acted → SideKept acted after
    → SideKept responder answered → RequesterSideInvariant txn requester a → ResponderSideInvariant txn responder b
    → RequesterSideInvariant txn after c → ResponderSideInvariant txn answered d → Settled after answered
    → SidesCount requester responder after answered
wish_sides one txn (sides.Requester x) acted (sides.Requester after) (sides.Responder y) (sides.Responder answered) a b c d wish
    ends done kept waited asker lender asker_after lender_after settled =
    let is = wish_is (requester_actions.acts x wish) acted done in
    wish_records one x is.0 after y answered wish ends is.1 (subst (λ s. SideKept s (sides.Requester after)) is.2 kept) waited
    asker_after.rules settled
wish_sides one txn (sides.Responder z) acted after responder answered a b c d wish ends done kept waited asker lender asker_after
    lender_after settled = absurd asker
wish_sides one txn (sides.Requester x) acted after (sides.Requester z) answered a b c d wish ends done kept waited asker lender
    asker_after lender_after settled = absurd lender
wish_sides one txn (sides.Requester x) acted (sides.Responder z) (sides.Responder y) answered a b c d wish ends done kept waited
    asker lender asker_after lender_after settled = absurd asker_after
wish_sides one txn (sides.Requester x) acted (sides.Requester after) (sides.Responder y) (sides.Requester z) a b c d wish ends
    done kept waited asker lender asker_after lender_after settled = absurd lender_after

-- If a deed towards the end leads to `acted`, and a night then to `after` and `answered`, `SidesCount` holds. By the
-- invariants no other roles are possible. `a` to `d` are the messages that the other side of each has sent.
pub deed_sides : OneEach → (txn : Qualifiers) (requester after responder acted answered : Side) (a b c d : List (Option Apdu))
    (deed : Deed) (today : Date) → is_deed_to_end deed ≡ true → acts responder (actions.Deed deed today) ≡ Ok acted
    → SideKept requester after → SideKept acted answered → RequesterSideInvariant txn requester a
    → ResponderSideInvariant txn responder b → RequesterSideInvariant txn after c → ResponderSideInvariant txn answered d
    → AreIssued a (issued_of responder) → AreIssued b (issued_of requester) → AreIssued c (issued_of answered)
    → AreIssued d (issued_of after) → Facing HaveConverged requester responder → Settled after answered
    → SidesCount requester responder after answered
deed_sides one txn (sides.Requester x) (sides.Requester after) (sides.Responder y) acted (sides.Responder answered) a b c d deed
    today ends done waited kept asker lender asker_after lender_after issued heeded issued_after heeded_after step settled =
    let is = deed_is (responder_actions.acts y deed today) acted done in
    let kept_is = subst (λ s. SideKept s (sides.Responder answered)) is.2 kept in
    deed_records one x after y is.0 answered deed today ends is.1 waited kept_is step asker.rules asker_after.rules
    (renewal_settles txn x after y is.0 answered a b c d asker lender asker_after lender_after issued heeded issued_after
    heeded_after waited kept_is step) settled
deed_sides one txn (sides.Responder z) after responder acted answered a b c d deed today ends done waited kept asker lender
    asker_after lender_after issued heeded issued_after heeded_after step settled = absurd asker
deed_sides one txn (sides.Requester x) after (sides.Requester z) acted answered a b c d deed today ends done waited kept asker
    lender asker_after lender_after issued heeded issued_after heeded_after step settled = absurd lender
deed_sides one txn (sides.Requester x) (sides.Responder z) (sides.Responder y) acted answered a b c d deed today ends done waited
    kept asker lender asker_after lender_after issued heeded issued_after heeded_after step settled = absurd asker_after
deed_sides one txn (sides.Requester x) (sides.Requester after) (sides.Responder y) acted (sides.Requester z) a b c d deed today
    ends done waited kept asker lender asker_after lender_after issued heeded issued_after heeded_after step settled =
    absurd lender_after

-- ---- a responder that can answer after its deed

-- If `p` implies `q`, and a message satisfies `p`, one satisfies `q`.
says_too : (p q : Body → Bool) (apdus : List Apdu) → ((body : Body) → p body ≡ true → q body ≡ true)
    → has_message_with p apdus ≡ true → has_message_with q apdus ≡ true
says_too p q apdus implied is =
    let at = says_message p apdus is in message_says q apdus at.0 at.1 at.2 (implied at.1.body at.3)

-- A responder that has ended the request has issued a message that ends it.
ended_says : (y : ResponderRecord) (s : State) → y.state ≡ s → EndsOnce y → is_among ended s ≡ true
    → has_message_with is_end y.issued ≡ true
ended_says y states.NotSupplied at once is =
    says_too is_unsupplied is_end y.issued (λ body says. or_left (is_unsupplied body) _ says)
    (once.unsupplied ∙ ap (is_among (states.NotSupplied ∷ [])) at)
ended_says y states.Cancelled at once is =
    says_too is_cancelled is_end y.issued (λ body says. or_right (is_unsupplied body) _ (or_left (is_cancelled body) _ says))
    (once.cancelled ∙ ap (is_among (states.Cancelled ∷ [])) at)
ended_says y s at once is = let is_later : is_among later s ≡ true = search rules in
    says_too is_shipped is_end y.issued (λ body says. or_right (is_unsupplied body) _ (or_right (is_cancelled body) _ says))
    (once.shipped ∙ ap (is_among later) at ∙ is_later)

-- After a deed towards the end a responder's side can answer a no, since it has ended the request.
pub deed_can : (txn : Qualifiers) (responder acted : Side) (a b : List (Option Apdu)) (deed : Deed) (today : Date)
    → is_deed_to_end deed ≡ true → acts responder (actions.Deed deed today) ≡ Ok acted → ResponderSideInvariant txn responder a
    → ResponderSideInvariant txn acted b → CanAnswer acted
deed_can txn (sides.Responder y) (sides.Responder new) a b deed today ends done lender lender_after =
    let is = deed_is (responder_actions.acts y deed today) (sides.Responder new) done in
    let same : is.0 ≡ new = same_responder is.0 new (sym is.2) in
    inl (ended_says new new.state refl lender_after.ends
    (deed_ended y new (subst (DeedEnds y) same (deed_ends y is.0 deed today ends is.1))))
  where
    -- Equal sides have equal records.
    same_responder : (z w : ResponderRecord) → sides.Responder z ≡ sides.Responder w → z ≡ w
    same_responder z w equal = search rules
deed_can txn (sides.Requester x) acted a b deed today ends done lender lender_after = absurd lender
deed_can txn (sides.Responder y) (sides.Requester x) a b deed today ends done lender lender_after = absurd lender_after
