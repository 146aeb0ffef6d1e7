-- Proves the laws of a responder's single rows.
use Rattle.std.proofs.Common.{rules, ◌≡◌, ◌⊎◌, inl, inr, ℕ, ◌+◌, Bool, true, false, not, ◌||◌, List, [], ◌∷◌, ◌++◌, Option, Some}
use Rattle.std.proofs.Common.{None, is_some, Result, Ok, if◌then◌else◌, refl, ap, sym, subst, ◌∙◌}
use Rattle.std.specs.List.{count_by}
use Rattle.std.specs.Option.{unwrap_or}
use Rattle.std.proofs.lemmas.Bool.{and_from, eqb-true}
use Rattle.std.proofs.lemmas.List.Folds.{list_all-append}
use Rattle.ill_values.specs.Day.{Date}
use Rattle.ill_values.specs.declared.apdu.Apdu.{Apdu}
use Rattle.ill_values.specs.Body.{Body}
use Rattle.ill_values.specs.declared.apdu.BodyWith.TheVariants as types
use Rattle.ill_values.specs.declared.apdu.AnswerResult.TheVariants as results
use Rattle.ill_core.specs.declared.state.State.{State}
use Rattle.ill_core.specs.declared.state.State.TheVariants.{Idle, InProcess, Conditional, CancelPending, Cancelled, NotSupplied}
use Rattle.ill_core.specs.declared.state.State.TheVariants.{Returned, CheckedIn}
use Rattle.ill_core.specs.declared.responder.Deed.{Deed}
use Rattle.ill_core.specs.State.{is_among}
use Rattle.ill_core.specs.Rules.{implies}
use Rattle.ill_core.specs.Numbers.{is_at_most, is_below}
use Rattle.ill_values.specs.Bodies.{is_shipped, is_ill_request, is_requesters}
use Rattle.ill_core.specs.Issued.{has_message_with, first_refusal, with_next, next_apdu, IssuesNext}
use Rattle.ill_core.specs.Responder.{ResponderRecord, IsResponder}
use Rattle.ill_core.specs.ResponderActions.{acts, issues_to}
use Rattle.ill_core.specs.ResponderDeliveries.{takes, take_message}
use Rattle.ill_core.specs.Answers.{taken, repeat, unless_refused}
use Rattle.ill_core.specs.declared.refusal.Refusal.{Refusal}
use Rattle.ill_core.specs.declared.taking.Taking.{Taking}
use Rattle.ill_core.specs.declared.taking.Taking.TheVariants.{Taken}
use Rattle.ill_core.specs.ResponderEvidence.{Fact, Claims, IsEvidence, Requested, Accepted, CancelAsked, Arrived, SentBack}
use Rattle.ill_core.specs.ResponderEvidence.{is_yes_to_cancel, KeepsRequest, IssuesUnfilled, StaysLater, Ends, EntersByEnd}
use Rattle.ill_core.specs.ResponderEvidence.{EndsOnce}
use Rattle.ill_core.specs.ResponderEvidence.{is_unsupplied, is_cancelled, is_end, ended, ends_in, Question, MayCancel, MayRenew}
use Rattle.ill_core.specs.ResponderEvidence.{answered_number, last_asked, is_question_open, answers_to, AnswersLast, KeepsLast}
use Rattle.ill_core.specs.ResponderEvidence.{TakesNew}
use Rattle.ill_core.specs.ResponderEvidence.{AnsweredOnce, AnswersOnce}
use Rattle.ill_core.proofs.IssuedLemmas.{issued_body, not_longer, has_more, found_none, found_more}
use Rattle.ill_core.proofs.ResponderLists.{count_more}
use Rattle.ill_core.proofs.Rules.{responder_rules, is_responder}
use Rattle.ill_core.proofs.ResponderKept.{transition_kept}
use Rattle.ill_core.proofs.ResponderRows.{Issues, Moves, of_takes, of_acts}
use Rattle.ill_core.proofs.NumberLemmas.{all_weaker, below_new, at_most_below, distinct_more}

-- A deed that succeeds issues one APDU, with the next number.
pub acts_issue : (y new : ResponderRecord) (deed : Deed) (today : Date) → acts y deed today ≡ Ok new
    → IssuesNext y.txn y.issued new.issued
acts_issue y new deed today = of_acts (λ r. IssuesNext y.txn y.issued r.issued) y new deed today
    (λ transition there how. (transition.body, refl))

-- A message issues nothing, or, if it is a Conditional-Reply no, one ILL-Answer unfilled.
pub takes_issue : (y : ResponderRecord) (a : Apdu) → IssuesUnfilled y a.body (takes y a).1
takes_issue y a = of_takes (IssuesUnfilled y a.body) y a (λ how. inl how.issued) (λ said how. inr (said, refl))

-- A deed does not change the transaction.
pub acts_txn : (y new : ResponderRecord) (deed : Deed) (today : Date) → acts y deed today ≡ Ok new → new.txn ≡ y.txn
acts_txn y new deed today = of_acts (λ r. r.txn ≡ y.txn) y new deed today (λ transition there how. refl)

-- A message does not change the transaction.
pub takes_txn : (y : ResponderRecord) (a : Apdu) → (takes y a).1.txn ≡ y.txn
takes_txn y a = of_takes (λ r. r.txn ≡ y.txn) y a (λ how. how.txn) (λ said how. refl)

-- After a deed a responder is not in IDLE.
pub acts_begun : (y new : ResponderRecord) (deed : Deed) (today : Date) → acts y deed today ≡ Ok new
    → is_among (Idle ∷ []) new.state ≡ false
acts_begun y new deed today = of_acts (λ r. is_among (Idle ∷ []) r.state ≡ false) y new deed today
    (λ transition there how. how.on)

-- If an ILL-Request is taken, the state after it is not IDLE.
asked_begins : (y : ResponderRecord) (a : Apdu) (here : Bool)
    → (if here then taken (record y { state = InProcess; request = Some a }) else repeat y).0 ≡ Ok Taken
    → is_among (Idle ∷ []) (if here then taken (record y { state = InProcess; request = Some a }) else repeat y).1.state ≡ false
asked_begins y a true is = refl
asked_begins y a false is = search rules

-- If an ILL-Request is admitted and taken, the state after it is not IDLE.
message_begins : (y : ResponderRecord) (a : Apdu) (body : Body) → is_ill_request body ≡ true
    → (take_message y a body).0 ≡ Ok Taken → is_among (Idle ∷ []) (take_message y a body).1.state ≡ false
message_begins y a (types.IllRequest expiry item) asks is = asked_begins y a (is_among (Idle ∷ []) y.state) is
message_begins y a body asks is = search rules

-- If an admitted APDU leads out of IDLE when it is taken, so does one that may be refused.
unless_begins : (refused : Option Refusal) (y : ResponderRecord) (answer : Result Taking Refusal × ResponderRecord)
    → (answer.0 ≡ Ok Taken → is_among (Idle ∷ []) answer.1.state ≡ false)
    → (unless_refused refused y answer).0 ≡ Ok Taken → is_among (Idle ∷ []) (unless_refused refused y answer).1.state ≡ false
unless_begins (Some refusal) y answer begins is = search rules
unless_begins None y answer begins is = begins is

-- If an ILL-Request is taken, the responder is not in IDLE afterwards.
pub request_begins : (y : ResponderRecord) (a : Apdu) → is_ill_request a.body ≡ true → (takes y a).0 ≡ Ok Taken
    → is_among (Idle ∷ []) (takes y a).1.state ≡ false
request_begins y a asks is =
    unless_begins (first_refusal y.txn (not (is_requesters a.body)) a) y (take_message y a a.body)
    (message_begins y a a.body asks) is

-- Outside IDLE a deed neither changes the request nor leads back to IDLE.
pub acts_request : (y new : ResponderRecord) (deed : Deed) (today : Date) → acts y deed today ≡ Ok new → KeepsRequest y new
acts_request y new deed today = of_acts (KeepsRequest y) y new deed today (λ transition there how begun. (how.on, refl))

-- Outside IDLE a message neither changes the request nor leads back to IDLE.
pub takes_request : (y : ResponderRecord) (a : Apdu) → KeepsRequest y (takes y a).1
takes_request y a = of_takes (KeepsRequest y) y a (λ how. how.request) (λ said how begun. (how.on, refl))

-- If a record satisfies the rules of a responder, so does the record after a deed.
pub acts_kept : (y new : ResponderRecord) (deed : Deed) (today : Date) → acts y deed today ≡ Ok new → IsResponder y
    → IsResponder new
acts_kept y new deed today = of_acts (λ r. IsResponder y → IsResponder r) y new deed today
    (λ transition is how h. is_responder _ (transition_kept y transition (responder_rules y h) is))

-- No test is both false and true. If one were, any `P` would hold.
pub not_both : {P : Type 0} (b : Bool) → b ≡ false → b ≡ true → P
not_both b is_false is_true = search rules

-- Lists the final states: NOT-SUPPLIED, CANCELLED and CHECKED-IN.
abbrev final : List State
final = NotSupplied ∷ Cancelled ∷ CheckedIn ∷ []

-- A deed does not change a final state.
pub acts_final : (y new : ResponderRecord) (deed : Deed) (today : Date) → acts y deed today ≡ Ok new
    → is_among final y.state ≡ true → new.state ≡ y.state
acts_final y new deed today = of_acts (λ r. is_among final y.state ≡ true → r.state ≡ y.state) y new deed today
    (λ transition there how. not_both _ how.final)

-- A message does not change a final state.
pub takes_final : (y : ResponderRecord) (a : Apdu) → is_among final y.state ≡ true → (takes y a).1.state ≡ y.state
takes_final y a = of_takes (λ r. is_among final y.state ≡ true → r.state ≡ y.state) y a (λ how. how.final)
    (λ said how. not_both _ how.final)

-- RETURNED is one of RETURNED and CHECKED-IN.
returned_or_later : (state : State) → is_among (Returned ∷ []) state ≡ true → is_among (Returned ∷ CheckedIn ∷ []) state ≡ true
returned_or_later state is = search rules

-- A transition that satisfies `Issues` satisfies `StaysLater`.
issues_stays : (y : ResponderRecord) (body : Body) (next : State) → Issues y body next → StaysLater y (issues_to y body next)
issues_stays y body next how = (
  λ is. sym how.shipped ∙ ap (λ b. b || is_shipped body) is,
  λ is. how.sent_back ∙ returned_or_later y.state is,
)

-- A deed satisfies `StaysLater`.
pub acts_later : (y new : ResponderRecord) (deed : Deed) (today : Date) → acts y deed today ≡ Ok new → StaysLater y new
acts_later y new deed today = of_acts (StaysLater y) y new deed today
    (λ transition there. issues_stays y transition.body transition.next)

-- A message satisfies `StaysLater`.
pub takes_later : (y : ResponderRecord) (a : Apdu) → StaysLater y (takes y a).1
takes_later y a =
    of_takes (StaysLater y) y a
    (λ how. (λ is. sym how.shipped ∙ is, λ is. returned_or_later _ (ap (is_among (Returned ∷ [])) (how.returned is) ∙ is)))
    (λ said how. issues_stays y _ _ how)

-- A transition that satisfies `Issues` also satisfies `Ends`.
issues_ends : (y : ResponderRecord) (body : Body) (next : State) → Issues y body next → Ends y (issues_to y body next)
issues_ends y body next how a same is =
    let said = issued_body y.txn y.issued body a same in
    subst (λ b. (is_among (InProcess ∷ Conditional ∷ CancelPending ∷ []) y.state ≡ true) × (ends_in b next ≡ true)) said
    (how.ends (ap is_end said ∙ is))

-- A deed satisfies `Ends`.
pub acts_end : (y new : ResponderRecord) (deed : Deed) (today : Date) → acts y deed today ≡ Ok new → Ends y new
acts_end y new deed today = of_acts (Ends y) y new deed today (λ transition there. issues_ends y transition.body transition.next)

-- A message satisfies `Ends`.
pub takes_end : (y : ResponderRecord) (a : Apdu) → Ends y (takes y a).1
takes_end y a = of_takes (Ends y) y a (λ how b same is. not_longer y.issued _ b how.issued same)
    (λ said how. issues_ends y _ _ how)

-- If `y` is in a state of `ended`, or the new APDU `a` ends in the state of `new`, `EntersByEnd` holds.
by_end : (y new : ResponderRecord) (a : Apdu) → new.issued ≡ y.issued ++ a ∷ []
    → (is_among ended y.state ≡ true) ⊎ (ends_in a.body new.state ≡ true)
    → (is_among ended y.state ≡ true) ⊎ ((b : Apdu) × (new.issued ≡ y.issued ++ b ∷ []) × (ends_in b.body new.state ≡ true))
by_end y new a same (inl old) = inl old
by_end y new a same (inr is) = inr (a, same, is)

-- A transition that satisfies `Issues` enters the state after an end only with the APDU that leads there.
issues_enters : (y : ResponderRecord) (body : Body) (next : State) → Issues y body next → EntersByEnd y (issues_to y body next)
issues_enters y body next how is = by_end y (issues_to y body next) (next_apdu y.txn y.issued body) refl (how.enters is)

-- A deed enters the state after an end only with the APDU that leads there.
pub acts_enter : (y new : ResponderRecord) (deed : Deed) (today : Date) → acts y deed today ≡ Ok new → EntersByEnd y new
acts_enter y new deed today = of_acts (EntersByEnd y) y new deed today
    (λ transition there. issues_enters y transition.body transition.next)

-- A message enters the state after an end only with the APDU that leads there.
pub takes_enter : (y : ResponderRecord) (a : Apdu) → EntersByEnd y (takes y a).1
takes_enter y a = of_takes (EntersByEnd y) y a (λ how is. inl (how.ended ∙ is)) (λ said how. issues_enters y _ _ how)

-- A transition that satisfies `Issues` preserves `EndsOnce`.
issues_once : (y : ResponderRecord) (body : Body) (next : State) → Issues y body next → EndsOnce y
    → EndsOnce (issues_to y body next)
issues_once y body next how h =
    let a : Apdu = next_apdu y.txn y.issued body in
    record {
      unsupplied = has_more is_unsupplied y.issued a ∙ (ap (λ b. b || is_unsupplied body) h.unsupplied ∙ how.unsupplied);
      cancelled = has_more is_cancelled y.issued a ∙ (ap (λ b. b || is_cancelled body) h.cancelled ∙ how.cancelled);
      shipped = has_more is_shipped y.issued a ∙ (ap (λ b. b || is_shipped body) h.shipped ∙ how.shipped);
      once = count_more is_end y.issued a ∙ (ap (λ n. n + (if is_end body then 1 else 0)) h.once ∙ how.once);
    }

-- A change that satisfies `Moves` preserves `EndsOnce`.
moves_once : (y new : ResponderRecord) (number : ℕ) (body : Body) → Moves y number body new → EndsOnce y → EndsOnce new
moves_once y new number body how h =
    record {
      unsupplied = ap (has_message_with is_unsupplied) how.issued ∙ (h.unsupplied ∙ how.unsupplied);
      cancelled = ap (has_message_with is_cancelled) how.issued ∙ (h.cancelled ∙ how.cancelled);
      shipped = ap (has_message_with is_shipped) how.issued ∙ (h.shipped ∙ how.shipped);
      once = ap (count_by (λ a. is_end a.body)) how.issued ∙ (h.once ∙ ap (λ b. if b then 1 else 0) how.ended);
    }

-- A deed preserves `EndsOnce`.
pub acts_end_once : (y new : ResponderRecord) (deed : Deed) (today : Date) → acts y deed today ≡ Ok new → EndsOnce y
    → EndsOnce new
acts_end_once y new deed today =
    of_acts (λ r. EndsOnce y → EndsOnce r) y new deed today (λ transition there. issues_once y transition.body transition.next)

-- A message preserves `EndsOnce`.
pub takes_end_once : (y : ResponderRecord) (a : Apdu) → EndsOnce y → EndsOnce (takes y a).1
takes_end_once y a = of_takes (λ r. EndsOnce y → EndsOnce r) y a (moves_once y (takes y a).1 a.number a.body)
    (λ said how. issues_once y _ _ how)

-- A transition answers a question only while it waits, with the number of the last one taken.
issues_answer : (question : Question) (y : ResponderRecord) (body : Body) (next : State) → Issues y body next
    → AnswersLast question y (issues_to y body next)
issues_answer question y body next how a n same is =
    how.replies question n (ap (answered_number question) (issued_body y.txn y.issued body a same) ∙ is)

-- A deed answers a question only while it waits, with the number of the last one taken.
pub acts_answer_last : (question : Question) (y new : ResponderRecord) (deed : Deed) (today : Date)
    → acts y deed today ≡ Ok new → AnswersLast question y new
acts_answer_last question y new deed today =
    of_acts (AnswersLast question y) y new deed today
    (λ transition there. issues_answer question y transition.body transition.next)

-- A message issues an answer only to a question that waits, with the number of the last one taken.
pub takes_answer_last : (question : Question) (y : ResponderRecord) (a : Apdu) → AnswersLast question y (takes y a).1
takes_answer_last question y a =
    of_takes (AnswersLast question y) y a (λ how b n same is. not_longer y.issued _ b how.issued same)
    (λ said how. issues_answer question y _ _ how)

-- A transition does not change the last question.
pub last_same : (question : Question) (y : ResponderRecord) (body : Body) (next : State)
    → last_asked question (issues_to y body next) ≡ last_asked question y
last_same MayCancel y body next = refl
last_same MayRenew y body next = refl

-- A transition does not change the last question, and lets none wait that did not wait before.
issues_keeps : (question : Question) (y : ResponderRecord) (body : Body) (next : State) → Issues y body next
    → KeepsLast question y (issues_to y body next)
issues_keeps question y body next how = (last_same question y body next, how.asked question)

-- A deed does not change the last question, and lets none wait that did not wait before.
pub acts_keep_last : (question : Question) (y new : ResponderRecord) (deed : Deed) (today : Date)
    → acts y deed today ≡ Ok new → KeepsLast question y new
acts_keep_last question y new deed today =
    of_acts (KeepsLast question y) y new deed today (λ transition there. issues_keeps question y transition.body transition.next)

-- A message does not change the last question, or asks a new one with a higher number.
pub takes_keep_last : (question : Question) (y : ResponderRecord) (a : Apdu)
    → KeepsLast question y (takes y a).1 ⊎ TakesNew question a.number a.body y (takes y a).1
takes_keep_last question y a =
    of_takes (λ r. KeepsLast question y r ⊎ TakesNew question a.number a.body y r) y a (λ how. how.asked question)
    (λ said how. inl (issues_keeps question y _ _ how))

-- If a question waits only if it waited before, `AnsweredOnce` still holds. `ns` are the answered numbers, and `last`
-- is the last question.
each_kept : (ns : List ℕ) (last : Option ℕ) (waited waiting : Bool) → (waiting ≡ true → waited ≡ true)
    → AnsweredOnce ns last waited → AnsweredOnce ns last waiting
each_kept ns last waited waiting still h = record { distinct = h.distinct; most = h.most; below = λ is. h.below (still is) }

-- If a new question has a number above the last one, `AnsweredOnce` still holds. `waited` and `waiting` say that the
-- last question waits, before and after the new one.
each_asked : (ns : List ℕ) (last : Option ℕ) (waited waiting : Bool) (n : ℕ) → is_at_most n last ≡ false
    → AnsweredOnce ns last waited → AnsweredOnce ns (Some n) waiting
each_asked ns last waited waiting n above h =
    let below = all_weaker (λ m. is_at_most m last) (λ m. is_below m (Some n)) (below_new n last above) ns h.most in
    record {
      distinct = h.distinct;
      most = all_weaker (λ m. is_below m (Some n)) (λ m. is_at_most m (Some n)) (at_most_below n) ns below;
      below = λ _. below;
    }

-- A number is at most itself.
most_itself : (n : ℕ) → is_at_most n (Some n) ≡ true
most_itself n = search rules

-- If the last question, which has number `n`, waits and is answered, `AnsweredOnce` still holds.
each_answered : (ns : List ℕ) (n : ℕ) → AnsweredOnce ns (Some n) true → AnsweredOnce (ns ++ n ∷ []) (Some n) false
each_answered ns n h =
    let below = h.below refl in
    record {
      distinct = distinct_more ns n h.distinct below;
      most = list_all-append (λ m. is_at_most m (Some n)) ns (n ∷ []) ∙ and_from _ _ h.most (and_from _ _ (most_itself n) refl);
      below = λ is. search rules;
    }

-- Let the last question `o` have a number while it waits. If it waits, and `n` is `unwrap_or o 0`, `o` is `n`.
pub known : (o : Option ℕ) (n : ℕ) (waiting : Bool) → implies waiting (is_some o) ≡ true → waiting ≡ true
    → n ≡ unwrap_or o 0 → o ≡ Some n
known o n waiting there is same = search rules

-- A transition preserves `AnsweredOnce`, if the last question has a number while it waits. `o` is the number of the
-- question that the transition answers, or `None`.
answer_issued : (question : Question) (y : ResponderRecord) (body : Body) (next : State) (o : Option ℕ)
    → answered_number question body ≡ o → Issues y body next
    → implies (is_question_open question y.state) (is_some (last_asked question y)) ≡ true → AnswersOnce question y
    → AnsweredOnce (answers_to question (with_next y.txn y.issued body)) (last_asked question y) (is_question_open question next)
answer_issued question y body next None none how there h =
    subst (λ ns. AnsweredOnce ns (last_asked question y) (is_question_open question next))
    (sym (found_none (λ a. answered_number question a.body) y.issued (next_apdu y.txn y.issued body) none))
    (each_kept _ _ _ _ (how.asked question) h)
answer_issued question y body next (Some n) some how there h =
    let row = how.replies question n some in
    let last = known (last_asked question y) n (is_question_open question y.state) there row.0 row.2 in
    let before : AnsweredOnce (answers_to question y.issued) (Some n) true =
    subst (λ o. AnsweredOnce (answers_to question y.issued) o true) last
    (subst (λ b. AnsweredOnce (answers_to question y.issued) (last_asked question y) b) row.0 h) in
    let after : AnsweredOnce (answers_to question y.issued ++ n ∷ []) (last_asked question y) (is_question_open question next) =
    subst (λ o. AnsweredOnce (answers_to question y.issued ++ n ∷ []) o (is_question_open question next)) (sym last)
    (subst (λ b. AnsweredOnce (answers_to question y.issued ++ n ∷ []) (Some n) b) (sym row.1) (each_answered _ n before)) in
    subst (λ ns. AnsweredOnce ns (last_asked question y) (is_question_open question next))
    (sym (found_more (λ a. answered_number question a.body) y.issued (next_apdu y.txn y.issued body) n some)) after

-- A transition preserves `AnswersOnce`, if the last question has a number while it waits.
issues_each : (question : Question) (y : ResponderRecord) (body : Body) (next : State) → Issues y body next
    → implies (is_question_open question y.state) (is_some (last_asked question y)) ≡ true → AnswersOnce question y
    → AnswersOnce question (issues_to y body next)
issues_each question y body next how there h =
    subst (λ o. AnsweredOnce (answers_to question (with_next y.txn y.issued body)) o (is_question_open question next))
    (sym (last_same question y body next))
    (answer_issued question y body next (answered_number question body) refl how there h)

-- A deed preserves `AnswersOnce`, if the last question has a number while it waits.
pub acts_once : (question : Question) (y new : ResponderRecord) (deed : Deed) (today : Date) → acts y deed today ≡ Ok new
    → implies (is_question_open question y.state) (is_some (last_asked question y)) ≡ true → AnswersOnce question y
    → AnswersOnce question new
acts_once question y new deed today done there =
    of_acts (λ r. AnswersOnce question y → AnswersOnce question r) y new deed today
    (λ transition leads how. issues_each question y transition.body transition.next how there) done

-- A change that issues nothing, and satisfies `KeepsLast` or `TakesNew`, preserves `AnswersOnce`.
moves_each : (question : Question) (y new : ResponderRecord) (number : ℕ) (body : Body) → new.issued ≡ y.issued
    → KeepsLast question y new ⊎ TakesNew question number body y new
    → AnswersOnce question y → AnswersOnce question new
moves_each question y new number body same (inl keeps) h =
    subst (λ apdus. AnsweredOnce (answers_to question apdus) (last_asked question new) (is_question_open question new.state))
    (sym same)
    (subst (λ o. AnsweredOnce (answers_to question y.issued) o (is_question_open question new.state)) (sym keeps.0)
    (each_kept _ _ _ _ keeps.1 h))
moves_each question y new number body same (inr asked) h =
    subst (λ apdus. AnsweredOnce (answers_to question apdus) (last_asked question new) (is_question_open question new.state))
    (sym same)
    (subst (λ o. AnsweredOnce (answers_to question y.issued) o (is_question_open question new.state)) (sym asked.2)
    (each_asked _ _ _ _ number asked.1 h))

-- An ILL-Answer unfilled answers no question.
pub no_answer : (question : Question) → answered_number question (types.IllAnswer results.Unfilled) ≡ None
no_answer MayCancel = refl
no_answer MayRenew = refl

-- An ILL-Answer unfilled preserves `AnswersOnce`.
unfilled_each : (question : Question) (y : ResponderRecord) → Issues y (types.IllAnswer results.Unfilled) NotSupplied
    → AnswersOnce question y
    → AnswersOnce question (issues_to y (types.IllAnswer results.Unfilled) NotSupplied)
unfilled_each question y how h =
    subst (λ ns. AnsweredOnce ns (last_asked question (issues_to y (types.IllAnswer results.Unfilled) NotSupplied))
    (is_question_open question NotSupplied))
    (sym (found_none (λ a. answered_number question a.body) y.issued (next_apdu y.txn y.issued (types.IllAnswer results.Unfilled))
    (no_answer question)))
    (subst (λ o. AnsweredOnce (answers_to question y.issued) o (is_question_open question NotSupplied))
    (sym (last_same question y _ _))
    (each_kept _ _ _ _ (how.asked question) h))

-- A message preserves `AnswersOnce`.
pub takes_once : (question : Question) (y : ResponderRecord) (a : Apdu) → AnswersOnce question y
    → AnswersOnce question (takes y a).1
takes_once question y a =
    of_takes (λ r. AnswersOnce question y → AnswersOnce question r) y a
    (λ how. moves_each question y (takes y a).1 a.number a.body how.issued (how.asked question))
    (λ said how. unfilled_each question y how)

-- If `a || b` is true, `a` or `b` is true.
or_either : (a b : Bool) → a || b ≡ true → (a ≡ true) ⊎ (b ≡ true)
or_either true b either = inl refl
or_either false b either = inr either

-- A Cancel-Reply yes to Cancel `c` answers question `c`.
cancels_answered : (c : ℕ) (body : Body) → is_yes_to_cancel c body ≡ true → answered_number MayCancel body ≡ Some c
cancels_answered c (types.CancelReply n true) is = ap Some (eqb-true n c is)
cancels_answered c other is = search rules

-- If a Cancel-Reply yes to `c` was issued, or answers the last Cancel now, the record claims `CancelAsked c`.
yes_shown : (y : ResponderRecord) (body : Body) (c : ℕ) → (is_yes_to_cancel c body ≡ true → y.last_cancel ≡ Some c)
    → (has_message_with (is_yes_to_cancel c) y.issued ≡ true) ⊎ (is_yes_to_cancel c body ≡ true)
    → Claims y (CancelAsked c)
yes_shown y body c asked (inl older) = inr older
yes_shown y body c asked (inr is) = inl (asked is)

-- A transition adds no claim, if a Cancel-Reply yes that it issues answers the last Cancel.
issues_shows : (y : ResponderRecord) (body : Body) (next : State) (fact : Fact) → Issues y body next
    → ((c : ℕ) → is_yes_to_cancel c body ≡ true → y.last_cancel ≡ Some c) → Claims (issues_to y body next) fact → Claims y fact
issues_shows y body next Requested how asked shown = how.begun
issues_shows y body next (Accepted c) how asked shown = shown
issues_shows y body next (CancelAsked c) how asked (inl last) = inl last
issues_shows y body next (CancelAsked c) how asked (inr yes_there) =
    yes_shown y body c (asked c) (or_either _ _
    (sym (has_more (is_yes_to_cancel c) y.issued (next_apdu y.txn y.issued body)) ∙ yes_there))
issues_shows y body next Arrived how asked shown = shown
issues_shows y body next SentBack how asked shown = sym how.sent_back ∙ shown

-- A Cancel-Reply yes that is issued answers the last Cancel, if this has a number while it waits.
yes_answers_last : (y : ResponderRecord) (body : Body) (next : State) → Issues y body next
    → implies (is_question_open MayCancel y.state) (is_some y.last_cancel) ≡ true
    → (c : ℕ) → is_yes_to_cancel c body ≡ true → y.last_cancel ≡ Some c
yes_answers_last y body next how there c is =
    let row = how.replies MayCancel c (cancels_answered c body is) in
    known y.last_cancel c (is_question_open MayCancel y.state) there row.0 row.2

-- A deed adds no claim, if the last Cancel has a number while it waits.
pub acts_shows : (y new : ResponderRecord) (deed : Deed) (today : Date) (fact : Fact) → acts y deed today ≡ Ok new
    → implies (is_question_open MayCancel y.state) (is_some y.last_cancel) ≡ true → Claims new fact → Claims y fact
acts_shows y new deed today fact done there =
    of_acts (λ r. Claims r fact → Claims y fact) y new deed today
    (λ transition leads how. issues_shows y transition.body transition.next fact how
    (yes_answers_last y transition.body transition.next how there)) done

-- Each fact that a record claims after a change was claimed before, or the message is evidence of it.
moves_shows : (y new : ResponderRecord) (number : ℕ) (body : Body) (fact : Fact) → Moves y number body new → Claims new fact
    → Claims y fact ⊎ IsEvidence number body fact
moves_shows y new number body Requested how shown = how.requested shown
moves_shows y new number body (Accepted c) how shown = how.accepted c shown
moves_shows y new number body (CancelAsked c) how (inl last) = search (rules, how.cancel_asked c last)
moves_shows y new number body (CancelAsked c) how (inr yes_there) =
    inl (inr (sym (ap (has_message_with (is_yes_to_cancel c)) how.issued) ∙ yes_there))
moves_shows y new number body Arrived how shown = how.arrived shown
moves_shows y new number body SentBack how shown = how.sent_back shown

-- Each fact that a record claims after a message was claimed before, or the message is evidence of it.
pub takes_shows : (y : ResponderRecord) (a : Apdu) (fact : Fact) → Claims (takes y a).1 fact
    → Claims y fact ⊎ IsEvidence a.number a.body fact
takes_shows y a fact =
    of_takes (λ r. Claims r fact → Claims y fact ⊎ IsEvidence a.number a.body fact) y a
    (λ how. moves_shows y (takes y a).1 a.number a.body fact how)
    (λ said how shown. inl (issues_shows y _ _ fact how (λ c is. search rules) shown))
