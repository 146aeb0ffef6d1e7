-- After a round both sides are converged. In a round each side takes all messages of the other, in order.
use Rattle.std.proofs.Common.{rules, arith, ◌≡◌, ◌⊎◌, inl, inr, ℕ, zero, suc, ◌≤◌, ◌<◌, Bool, true, false, not, ◌&&◌, ◌||◌, List}
use Rattle.std.proofs.Common.{[], ◌∷◌, length, Option, Some, refl, sym, ap, ◌∙◌, subst, append-nil}
use Rattle.std.specs.Prelude.{slice_get}
use Rattle.std.specs.List.{list_all}
use Rattle.std.proofs.lemmas.Bool.{and_parts, not-true, false_from_ne_true}
use Rattle.std.proofs.lemmas.Option.{slice_get_within}
use Rattle.std.proofs.lemmas.List.Folds.{list_any-append}
use Rattle.ill_values.specs.Day.{Date}
use Rattle.ill_values.specs.TxnId.{Qualifiers}
use Rattle.ill_values.specs.declared.apdu.Apdu.{Apdu}
use Rattle.ill_values.specs.Body.{Body}
use Rattle.ill_values.specs.declared.apdu.BodyWith.TheVariants as types
use Rattle.ill_values.specs.declared.apdu.AnswerResult.TheVariants as results
use Rattle.ill_core.specs.declared.state.State.{State}
use Rattle.ill_core.specs.declared.state.State.TheVariants as states
use Rattle.ill_core.specs.State.{is_among}
use Rattle.ill_core.specs.Dates.{is_same_day}
use Rattle.ill_values.specs.Bodies.{is_ill_request, is_requesters, is_shipped, is_end, is_cancelled, is_unsupplied}
use Rattle.ill_values.specs.Bodies.{names_conditions}
use Rattle.ill_core.specs.Issued.{message, has_message_with, is_same_txn, next_apdu}
use Rattle.ill_core.specs.Requester.{RequesterRecord, begins_with_request}
use Rattle.ill_core.specs.RequesterDeliveries as requester_deliveries
use Rattle.ill_core.specs.RequesterNotices as notices
use Rattle.ill_core.specs.Responder.{ResponderRecord, later}
use Rattle.ill_core.specs.ResponderDeliveries as responder_deliveries
use Rattle.ill_core.specs.ResponderEvidence.{IssuesUnfilled, Ends}
use Rattle.ill_core.specs.ResponderNotices as records
use Rattle.ill_core.specs.ResponderNotices.{is_recall, grant, grant_of}
use Rattle.ill_record.specs.declared.side.Side.{Side}
use Rattle.ill_record.specs.declared.side.Side.TheVariants as sides
use Rattle.ill_record.specs.Side.{issued_of, IsPrefix}
use Rattle.ill_record.specs.declared.role.Role.TheVariants as who
use Rattle.ill_world.specs.declared.event.Event.{Event}
use Rattle.ill_world.specs.World.{Parties, happens, run_of}
use Rattle.ill_world.specs.Agreement.{Facing}
use Rattle.ill_world.specs.Invariant.{RequesterInvariant, ResponderInvariant, RequesterSideInvariant, ResponderSideInvariant}
use Rattle.ill_world.specs.Invariant.{Invariant}
use Rattle.ill_world.specs.Round.{half_of, round_of, HaveConverged, AreConverged, CanAnswer}
use Rattle.ill_core.proofs.MessageLemmas.{message_says, says_message}
use Rattle.ill_world.proofs.Claims.{AreIssued, live_issues}
use Rattle.ill_world.proofs.Hearing.{taking, keeps_all, heard_later}
use Rattle.ill_world.proofs.Pairs.{HaveHeard, converged}
use Rattle.ill_world.proofs.Rounds.{takes_all, round_passes}
use Rattle.ill_world.proofs.Runs.{run_stands}
use Rattle.ill_world.proofs.Sendings.{prefix_of_prefix, prefix_of_itself}
use Rattle.ill_world.proofs.Uniqueness.{message_number}

-- Returns requester `x` after it takes `a`.
abbrev asks : RequesterRecord → Apdu → RequesterRecord
asks x a = (requester_deliveries.takes x a).1

-- Returns responder `y` after it takes `a`.
abbrev lends : ResponderRecord → Apdu → ResponderRecord
lends y a = (responder_deliveries.takes y a).1

-- These facts of the tables are assumed in this file. A record that takes a message keeps its transaction. `has_heard`
-- then holds of this message, until a later one reopens it. A requester issues nothing by it, a responder nothing but
-- an ILL-Answer unfilled. No message leads a responder out of NOT-SUPPLIED, CANCELLED or CHECKED-IN.
pub record TransitionsHear : Type 0 where
  pub requester_txn : (x : RequesterRecord) (a : Apdu) → (asks x a).txn ≡ x.txn
  pub requester_issues : (x : RequesterRecord) (a : Apdu) → (asks x a).issued ≡ x.issued
  pub requester_takes : (x : RequesterRecord) (a : Apdu) → is_same_txn a.txn x.txn ≡ true → is_requesters a.body ≡ false
      → notices.has_heard (asks x a) a.number a.body ≡ true
  pub requester_stays : (x : RequesterRecord) (a : Apdu) (number : ℕ) (body : Body) → notices.reopens a.body body ≡ false
      → notices.has_heard x number body ≡ true → notices.has_heard (asks x a) number body ≡ true
  pub responder_txn : (y : ResponderRecord) (a : Apdu) → (lends y a).txn ≡ y.txn
  pub responder_issues : (y : ResponderRecord) (a : Apdu) → IssuesUnfilled y a.body (lends y a)
  pub responder_ends : (y : ResponderRecord) (a : Apdu) → Ends y (lends y a)
  pub responder_final : (y : ResponderRecord) (a : Apdu)
      → is_among (states.NotSupplied ∷ states.Cancelled ∷ states.CheckedIn ∷ []) y.state ≡ true → (lends y a).state ≡ y.state
  pub responder_takes : (y : ResponderRecord) (a : Apdu) → is_same_txn a.txn y.txn ≡ true → is_requesters a.body ≡ true
      → records.has_heard (lends y a) a.number a.body ≡ true
  pub responder_stays : (y : ResponderRecord) (a : Apdu) (number : ℕ) (body : Body) → records.reopens a.body body ≡ false
      → records.has_heard y number body ≡ true → records.has_heard (lends y a) number body ≡ true

-- ---- a side and its record

-- A requester's side takes APDUs as its record does.
pub requester_taking : (x : RequesterRecord) (apdus : List Apdu)
    → takes_all (sides.Requester x) apdus ≡ sides.Requester (taking asks x apdus)
unfolding takes_all taking
requester_taking x [] = refl
requester_taking x (a ∷ apdus) = requester_taking (asks x a) apdus

-- A responder's side takes APDUs as its record does.
pub responder_taking : (y : ResponderRecord) (apdus : List Apdu)
    → takes_all (sides.Responder y) apdus ≡ sides.Responder (taking lends y apdus)
unfolding takes_all taking
responder_taking y [] = refl
responder_taking y (a ∷ apdus) = responder_taking (lends y a) apdus

-- Equal sides of requesters have equal records.
same_requester : (x z : RequesterRecord) → sides.Requester x ≡ sides.Requester z → x ≡ z
same_requester x z same = search rules

-- Equal sides of responders have equal records.
same_responder : (y z : ResponderRecord) → sides.Responder y ≡ sides.Responder z → y ≡ z
same_responder y z same = search rules

-- ---- lists

-- If all APDUs of a list pass a test, each passes it.
pub each : (p : Body → Bool) (apdus : List Apdu) (i : ℕ) (a : Apdu) → list_all (λ b. p b.body) apdus ≡ true
    → slice_get apdus i ≡ Some a → p a.body ≡ true
each p [] i a all at = search rules
each p (b ∷ apdus) zero a all at = let same : b ≡ a = search rules in
    subst (λ (c : Apdu). p c.body ≡ true) same (and_parts _ _ all).0
each p (b ∷ apdus) (suc i) a all at = each p apdus i a (and_parts _ _ all).1 at

-- If `says` holds of no APDU of a list, it does not hold of the APDU at place i.
none_there : (says : Body → Bool) (apdus : List Apdu) (i : ℕ) (a : Apdu) → has_message_with says apdus ≡ false
    → slice_get apdus i ≡ Some a → says a.body ≡ false
none_there says apdus i a none at = go (says a.body) refl
  where
    -- If `says` held of `a`, it would hold of an APDU of the list.
    go : (b : Bool) → says a.body ≡ b → b ≡ false
    go false e = refl
    go true e = let both : true ≡ false = sym (message_says says apdus (suc i) a at e) ∙ none in search rules

-- In a requester's list no message but the first is an ILL-Request.
pub first_alone : (apdus : List Apdu) (j : ℕ) (b : Apdu) → begins_with_request apdus ≡ true
    → slice_get apdus (suc j) ≡ Some b → is_ill_request b.body ≡ false
first_alone [] j b begins at = search rules
first_alone (a ∷ apdus) j b begins at = none_there is_ill_request apdus j b (not-true _ (and_parts _ _ begins).1) at

-- If `says` holds of a message of a prefix, it holds of a message of the whole list.
has_prefix : (says : Body → Bool) (prefix apdus : List Apdu) → IsPrefix prefix apdus → has_message_with says prefix ≡ true
    → has_message_with says apdus ≡ true
has_prefix says prefix apdus is there =
    ap (has_message_with says) is.1
    ∙ (list_any-append (λ (a : Apdu). says a.body) prefix is.0 ∙ ap (λ (b : Bool). b || has_message_with says is.0) there)

-- ---- messages that reopen others

-- Only an ILL-Request reopens another APDU at a responder.
pub only_request : (first second : Body) → is_ill_request first ≡ false → records.reopens first second ≡ false
only_request (types.IllRequest expiry item) second is = search rules
only_request first second is = refl

-- The first APDU grants a date, and the second is an Overdue for it.
abbrev GrantsOverdue : Body → Body → Type 0
GrantsOverdue first second = (c : ℕ) × (due day : Date) × (grant_of first ≡ Some (grant c due)) × (second ≡ types.Overdue day)
    × (is_same_day day due ≡ true)

-- An APDU that names no conditions is plain. At a requester only a Shipped reopens a Recall, and only a grant of the
-- Overdue's date an Overdue. Nothing reopens another plain APDU.
plain_reopens : (first second : Body) → names_conditions second ≡ false
    → (is_shipped first ≡ true → is_recall second ≡ true → ⊥) → (GrantsOverdue first second → ⊥)
    → notices.reopens first second ≡ false
plain_reopens (types.CancelReply c false) (types.IllAnswer results.Conditional) plain order dates = search rules
plain_reopens (types.CancelReply c false) second plain order dates = search rules
plain_reopens (types.Shipped due) types.Recall plain order dates = absurd (order refl refl)
plain_reopens (types.Shipped due) (types.Overdue day) plain order dates =
    false_from_ne_true _ (λ same. dates (0, due, day, refl, refl, same))
plain_reopens (types.Shipped due) second plain order dates = search rules
plain_reopens (types.RenewAnswer c (Some due)) (types.Overdue day) plain order dates =
    false_from_ne_true _ (λ same. dates (c, due, day, refl, refl, same))
plain_reopens (types.RenewAnswer c (Some due)) second plain order dates = search rules
plain_reopens first second plain order dates = search rules

-- ---- the responder, while it takes all messages of the requester

-- The facts of the tables hold (`rows`).
module _ (rows : TransitionsHear) where
  -- A responder that takes APDUs keeps all messages that it has issued.
  responder_grows : (y : ResponderRecord) (apdus : List Apdu) → IsPrefix y.issued (taking lends y apdus).issued
  unfolding taking
  responder_grows y [] = prefix_of_itself y.issued
  responder_grows y (a ∷ apdus) =
      prefix_of_prefix y.issued (lends y a).issued _ (grown (rows.responder_issues y a)) (responder_grows (lends y a) apdus)
    where
      -- By `a` the responder issues nothing, or an ILL-Answer unfilled.
      grown : IssuesUnfilled y a.body (lends y a) → IsPrefix y.issued (lends y a).issued
      grown (inl same) = ([], same ∙ sym (append-nil y.issued))
      grown (inr more) = (next_apdu y.txn y.issued (types.IllAnswer results.Unfilled) ∷ [], more.1)

  -- A responder in NOT-SUPPLIED stays there when it takes APDUs.
  unsupplied_stays : (y : ResponderRecord) (apdus : List Apdu) → is_among (states.NotSupplied ∷ []) y.state ≡ true
      → is_among (states.NotSupplied ∷ []) (taking lends y apdus).state ≡ true
  unsupplied_stays y apdus is =
      keeps_all lends (λ r. is_among (states.NotSupplied ∷ []) r.state ≡ true)
      (λ r a ended. ap (is_among (states.NotSupplied ∷ [])) (rows.responder_final r a (unsupplied_is_final r.state ended))
      ∙ ended) y
      apdus is
    where
      -- NOT-SUPPLIED is one of the states that no message changes.
      unsupplied_is_final : (s : State) → is_among (states.NotSupplied ∷ []) s ≡ true
          → is_among (states.NotSupplied ∷ states.Cancelled ∷ states.CheckedIn ∷ []) s ≡ true
      unsupplied_is_final states.NotSupplied is = refl
      unsupplied_is_final s is = search rules

  -- A responder in NOT-SUPPLIED is not undecided.
  not_undecided : {P : Type 0} (s : State) → is_among (states.NotSupplied ∷ []) s ≡ true → is_among records.undecided s ≡ true → P
  not_undecided states.NotSupplied is undecided = search rules
  not_undecided s is undecided = search rules

  -- If an ILL-Answer unfilled has ended the request in state `s` (first premise), `s` is NOT-SUPPLIED.
  ends_there : (s : State) → (true && is_among (states.NotSupplied ∷ []) s
      || (false && is_among (states.Cancelled ∷ []) s || false && is_among later s)) ≡ true
      → is_among (states.NotSupplied ∷ []) s ≡ true
  ends_there states.NotSupplied is = refl
  ends_there s is = search rules

  -- If a responder is undecided after it took APDUs, it has issued nothing meanwhile.
  issues_nothing : (y : ResponderRecord) (apdus : List Apdu) → is_among records.undecided (taking lends y apdus).state ≡ true
      → (taking lends y apdus).issued ≡ y.issued
  unfolding taking
  issues_nothing y [] undecided = refl
  issues_nothing y (a ∷ apdus) undecided = issues_nothing (lends y a) apdus undecided ∙ same (rows.responder_issues y a)
    where
      -- If the responder issued an ILL-Answer unfilled, it would stay in NOT-SUPPLIED, and not be undecided.
      same : IssuesUnfilled y a.body (lends y a) → (lends y a).issued ≡ y.issued
      same (inl is) = is
      same (inr more) =
          let ended = rows.responder_ends y a (next_apdu y.txn y.issued (types.IllAnswer results.Unfilled)) more.1 refl in
          not_undecided _ (unsupplied_stays (lends y a) apdus (ends_there (lends y a).state ended.1)) undecided

  -- ---- both records

  -- Requester `x` and responder `y` are the records before a round. `responder_sent` and `requester_sent` are the
  -- messages sent before it. After it the requester has sent `requester_sent_after`.
  module _ (txn : Qualifiers) (x : RequesterRecord) (y : ResponderRecord)
      (responder_sent requester_sent requester_sent_after : List (Option Apdu)) where
    -- Returns the responder after it takes all messages of the requester.
    abbrev lender_new : ResponderRecord
    lender_new = taking lends y x.issued

    -- Returns the requester after it takes all messages that the responder has then issued.
    abbrev borrower_new : RequesterRecord
    borrower_new = taking asks x lender_new.issued

    -- Both records satisfy their invariants, and so does the responder's after it takes the requester's messages.
    module _ (borrower : RequesterInvariant txn x responder_sent) (lender : ResponderInvariant txn y requester_sent)
        (lender_after : ResponderInvariant txn lender_new requester_sent_after) where
      -- `has_heard` holds of message i + 1 at the requester, unless a later message reopens it.
      requester_heard : (i : ℕ) (a : Apdu) → slice_get lender_new.issued i ≡ Some a
          → ((j : ℕ) (b : Apdu) → slice_get lender_new.issued j ≡ Some b → i < j → notices.reopens b.body a.body ≡ false)
          → notices.has_heard borrower_new a.number a.body ≡ true
      requester_heard i a at none =
          heard_later asks (λ r. r.txn ≡ txn) (λ b. (is_same_txn b.txn txn ≡ true) × (is_requesters b.body ≡ false))
          notices.has_heard notices.reopens (record {
            keeps = λ r b is. rows.requester_txn r b ∙ is;
            takes = λ r b is of. rows.requester_takes r b (subst (λ t. is_same_txn b.txn t ≡ true) (sym is) of.0) of.1;
            stays = rows.requester_stays;
          }) x lender_new.issued i a borrower.same_txn at (
            subst (λ t. is_same_txn a.txn t ≡ true) lender_after.same_txn
                (message_number lender_new.txn lender_new.issued (suc i) a lender_after.rules.numbered at).0,
            not-true _ (each (λ body. not (is_requesters body)) lender_new.issued i a lender_after.rules.role at),
          ) none

      -- `has_heard` holds of message i + 1 of the requester at the responder.
      responder_heard : (i : ℕ) (a : Apdu) → slice_get x.issued i ≡ Some a → records.has_heard lender_new a.number a.body ≡ true
      responder_heard i a at =
          heard_later lends (λ r. r.txn ≡ txn) (λ b. (is_same_txn b.txn txn ≡ true) × (is_requesters b.body ≡ true))
          records.has_heard records.reopens (record {
            keeps = λ r b is. rows.responder_txn r b ∙ is;
            takes = λ r b is of. rows.responder_takes r b (subst (λ t. is_same_txn b.txn t ≡ true) (sym is) of.0) of.1;
            stays = rows.responder_stays;
          }) y x.issued i a lender.same_txn at (
            subst (λ t. is_same_txn a.txn t ≡ true) borrower.same_txn
                (message_number x.txn x.issued (suc i) a borrower.rules.numbered at).0,
            each is_requesters x.issued i a borrower.rules.role at,
          ) (λ j b there later. later_request j b there later)
        where
          -- No later message of the requester reopens message i + 1, since none is an ILL-Request.
          later_request : (j : ℕ) (b : Apdu) → slice_get x.issued j ≡ Some b → i < j → records.reopens b.body a.body ≡ false
          later_request zero b there later = absurd (omega (arith, later))
          later_request (suc j) b there later = only_request b.body a.body (first_alone x.issued j b borrower.rules.request there)

      -- The requester issues nothing while it takes messages.
      requester_same : borrower_new.issued ≡ x.issued
      requester_same = keeps_all asks (λ r. r.issued ≡ x.issued) (λ r a is. rows.requester_issues r a ∙ is) x lender_new.issued
          refl

      -- A responder that has issued a message that ends the request is not undecided.
      ended_decides : has_message_with is_end lender_new.issued ≡ true → is_among records.undecided lender_new.state ≡ true → ⊥
      ended_decides ended undecided =
          go (is_unsupplied at.1.body) (is_cancelled at.1.body) (is_shipped at.1.body) refl refl refl at.3
        where
          -- The responder has issued a message that ends the request.
          at : (n : ℕ) × (a : Apdu) × (message lender_new.issued n ≡ Some a) × (is_end a.body ≡ true)
          at = says_message is_end lender_new.issued ended

          -- A state in which the request has ended is not undecided.
          apart : {P : Type 0} (s : State)
              → (is_among (states.NotSupplied ∷ []) s ≡ true) ⊎ (is_among (states.Cancelled ∷ []) s ≡ true) ⊎
              (is_among later s ≡ true) → is_among records.undecided s ≡ true → P
          apart states.InProcess (inl is) undecided = search rules
          apart states.InProcess (inr (inl is)) undecided = search rules
          apart states.InProcess (inr (inr is)) undecided = search rules
          apart states.Conditional (inl is) undecided = search rules
          apart states.Conditional (inr (inl is)) undecided = search rules
          apart states.Conditional (inr (inr is)) undecided = search rules
          apart s is undecided = search rules

          -- The message ends the request without the item, by a Cancel-Reply yes or by a Shipped.
          go : (unsupplied cancelled shipped : Bool) → is_unsupplied at.1.body ≡ unsupplied → is_cancelled at.1.body ≡ cancelled
              → is_shipped at.1.body ≡ shipped → (unsupplied || (cancelled || shipped)) ≡ true → ⊥
          go true cancelled shipped a b c is =
              apart lender_new.state (inl (sym lender_after.ends.unsupplied
              ∙ message_says is_unsupplied lender_new.issued at.0 at.1 at.2 a)) undecided
          go false true shipped a b c is =
              apart lender_new.state (inr (inl
              (sym lender_after.ends.cancelled ∙ message_says is_cancelled lender_new.issued at.0 at.1 at.2 b))) undecided
          go false false true a b c is = apart lender_new.state
              (inr (inr (sym lender_after.ends.shipped ∙ message_says is_shipped lender_new.issued at.0 at.1 at.2 c))) undecided
          go false false false a b c is = search rules

      -- If the responder could answer before it took the messages, and is still undecided, it has a number left.
      number_left : (has_message_with is_end y.issued ≡ true) ⊎ (length y.issued < 255)
          → is_among records.undecided lender_new.state ≡ true
          → length lender_new.issued < 255
      number_left (inl ended) undecided =
          absurd (ended_decides (has_prefix is_end y.issued lender_new.issued (responder_grows y x.issued) ended) undecided)
      number_left (inr left) undecided = subst (λ l. length l < 255) (sym (issues_nothing y x.issued undecided)) left

      -- If the responder could answer before the round, `HaveHeard` holds of both records after it.
      pub have_heard : (has_message_with is_end y.issued ≡ true) ⊎ (length y.issued < 255) → HaveHeard borrower_new lender_new
      have_heard can = record { requester = plain_heard; last = last_heard; responder = all_heard; can_answer = number_left can }
        where
          -- `has_heard` holds of each plain message at the requester.
          plain_heard : (n : ℕ) (a : Apdu) → message lender_new.issued n ≡ Some a → names_conditions a.body ≡ false
              → notices.has_heard borrower_new a.number a.body ≡ true
          plain_heard zero a at plain = search rules
          plain_heard (suc i) a at plain =
              requester_heard i a at (λ j b there later.
              plain_reopens b.body a.body plain
              (λ ships recalls. not_both_ways (lender_after.ships_first (suc j) (suc i) b a there at ships recalls) later)
              (λ both. not_both_ways (lender_after.grants_first (suc j) (suc i) both.0 b a both.1 both.2 there at both.3 both.4
              both.5) later))
            where
              -- No message is both before and after another.
              not_both_ways : {i j : ℕ} → suc j < suc i → i < j → ⊥
              not_both_ways first later = omega (arith, first, later)

          -- `has_heard` holds of the last message at the requester.
          last_heard : (a : Apdu) → message lender_new.issued (length lender_new.issued) ≡ Some a
              → notices.has_heard borrower_new a.number a.body ≡ true
          last_heard a at = go (length lender_new.issued) refl at
            where
              -- No message is later than the last one, so that none reopens it.
              go : (n : ℕ) → length lender_new.issued ≡ n → message lender_new.issued n ≡ Some a
                  → notices.has_heard borrower_new a.number a.body ≡ true
              go zero is at = search rules
              go (suc i) is at = requester_heard i a at
                  (λ j b there later. absurd (omega (arith, is, later, slice_get_within lender_new.issued j b there)))

          -- `has_heard` holds of each message at the responder.
          all_heard : (n : ℕ) (a : Apdu) → message borrower_new.issued n ≡ Some a
              → records.has_heard lender_new a.number a.body ≡ true
          all_heard zero a at = search rules
          all_heard (suc i) a at = responder_heard i a (subst (λ l. slice_get l i ≡ Some a) requester_same at)

  -- ---- worlds

  -- If `RequesterSideInvariant` holds of a side, the side has issued at most 255 messages.
  pub requester_few : (txn : Qualifiers) (side : Side) (responder_sent : List (Option Apdu))
      → RequesterSideInvariant txn side responder_sent → length (issued_of side) ≤ 255
  requester_few txn (sides.Requester x) responder_sent stands = stands.few
  requester_few txn (sides.Responder y) responder_sent stands = absurd stands

  -- If `ResponderSideInvariant` holds of a side, the side has issued at most 255 messages.
  pub responder_few : (txn : Qualifiers) (side : Side) (requester_sent : List (Option Apdu))
      → ResponderSideInvariant txn side requester_sent → length (issued_of side) ≤ 255
  responder_few txn (sides.Responder y) requester_sent stands = stands.few
  responder_few txn (sides.Requester x) requester_sent stands = absurd stands

  -- Each side has taken all messages of the other, and the responder could answer before. Then the two sides have
  -- converged.
  sides_converged : (txn : Qualifiers) (requester responder requester_after responder_after : Side)
      (responder_sent requester_sent responder_sent_after requester_sent_after : List (Option Apdu))
      → RequesterSideInvariant txn requester responder_sent
      → ResponderSideInvariant txn responder requester_sent → RequesterSideInvariant txn requester_after responder_sent_after
      → ResponderSideInvariant txn responder_after requester_sent_after
      → AreIssued responder_sent_after (issued_of responder_after)
      → AreIssued requester_sent_after (issued_of requester_after) → CanAnswer responder
      → responder_after ≡ takes_all responder (issued_of requester)
      → requester_after ≡ takes_all requester (issued_of responder_after)
      → Facing HaveConverged requester_after responder_after
  sides_converged txn (sides.Requester x) (sides.Responder y) (sides.Requester x_after) (sides.Responder y_after) responder_sent
      requester_sent responder_sent_after requester_sent_after borrower lender borrower_after lender_after issued heeded can
      lends_it asks_it =
      let y_is : y_after ≡ taking lends y x.issued = same_responder _ _ (lends_it ∙ responder_taking y x.issued) in
      let x_is : x_after ≡ taking asks x y_after.issued = same_requester _ _ (asks_it ∙ requester_taking x y_after.issued) in
      let x_too : x_after ≡ taking asks x (taking lends y x.issued).issued =
      x_is ∙ ap (λ (r : ResponderRecord). taking asks x r.issued) y_is in
      let hear = have_heard txn x y responder_sent requester_sent requester_sent_after borrower lender
      (subst (λ r. ResponderInvariant txn r requester_sent_after) y_is lender_after) can in
      let hear_after : HaveHeard x_after y_after =
      subst (HaveHeard x_after) (sym y_is) (subst (λ r. HaveHeard r (taking lends y x.issued)) (sym x_too) hear) in
      converged txn x_after y_after responder_sent_after requester_sent_after borrower_after lender_after issued heeded hear_after
  sides_converged txn (sides.Responder y) responder requester_after responder_after responder_sent requester_sent
      responder_sent_after requester_sent_after borrower lender borrower_after lender_after issued heeded can lends_it asks_it =
      absurd borrower
  sides_converged txn (sides.Requester x) (sides.Requester z) requester_after responder_after responder_sent requester_sent
      responder_sent_after requester_sent_after borrower lender borrower_after lender_after issued heeded can lends_it asks_it =
      absurd lender
  sides_converged txn (sides.Requester x) (sides.Responder y) (sides.Responder z) responder_after responder_sent requester_sent
      responder_sent_after requester_sent_after borrower lender borrower_after lender_after issued heeded can lends_it asks_it =
      absurd borrower_after
  sides_converged txn (sides.Requester x) (sides.Responder y) (sides.Requester x_after) (sides.Requester z) responder_sent
      requester_sent responder_sent_after requester_sent_after borrower lender borrower_after lender_after issued heeded can
      lends_it asks_it = absurd lender_after

  -- If a world satisfies the invariant, and the responder can answer, both sides are converged after a round.
  pub one_round : (txn : Qualifiers) → ((w : Parties) (event : Event) → Invariant txn w → Invariant txn (happens w event).1)
      → (w : Parties) → Invariant txn w → CanAnswer w.responder.live → AreConverged (run_of w (round_of w))
  one_round txn after w stands can =
      let between : Parties = run_of w (half_of who.Requester w) in
      let new : Parties = run_of w (round_of w) in
      let stands_between : Invariant txn between = run_stands txn after w (half_of who.Requester w) stands in
      let stands_new : Invariant txn new = run_stands txn after w (round_of w) stands in
      let rounds = round_passes w (requester_few txn w.requester.live w.responder.sent stands.requester.live)
      stands.requester.saved.places
      (responder_few txn between.responder.live between.requester.sent stands_between.responder.live)
      stands_between.responder.saved.places in
      sides_converged txn w.requester.live w.responder.live new.requester.live new.responder.live w.responder.sent
      w.requester.sent
      new.responder.sent new.requester.sent stands.requester.live stands.responder.live
      stands_new.requester.live stands_new.responder.live (live_issues new.responder stands_new.responder.saved)
      (live_issues new.requester stands_new.requester.saved) can rounds.responder rounds.requester
