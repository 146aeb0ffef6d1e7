-- Proves that a responder's questions come from messages, and that the last one is answered unless it waits.
use Rattle.std.proofs.Common.{rules, ◌≡◌, ◌⊎◌, inl, inr, ℕ, Bool, true, false, ◌||◌, ◌==◌, List, [], ◌∷◌, ◌++◌, Option, Some}
use Rattle.std.proofs.Common.{None, is_some, Ok, refl, ap, sym, eq-eqb, ◌∙◌}
use Rattle.std.specs.List.{list_any, cons_option}
use Rattle.std.specs.Option.{unwrap_or}
use Rattle.std.proofs.lemmas.Bool.{eqb-true, or_left, or_right}
use Rattle.std.proofs.lemmas.Option.{same_Some}
use Rattle.std.proofs.lemmas.List.Elements.{filter_map-append}
use Rattle.std.proofs.lemmas.List.Folds.{list_any-append}
use Rattle.ill_values.specs.Day.{Date}
use Rattle.ill_values.specs.declared.apdu.Apdu.{Apdu}
use Rattle.ill_values.specs.Body.{Body}
use Rattle.ill_values.specs.declared.apdu.BodyWith.TheVariants as types
use Rattle.ill_values.specs.declared.apdu.AnswerResult.TheVariants as results
use Rattle.ill_core.specs.declared.state.State.{State}
use Rattle.ill_core.specs.declared.state.State.TheVariants.{NotSupplied}
use Rattle.ill_core.specs.declared.responder.Deed.{Deed}
use Rattle.ill_core.specs.State.{is_among}
use Rattle.ill_core.specs.Rules.{implies}
use Rattle.ill_core.specs.Issued.{next_apdu}
use Rattle.ill_core.specs.Responder.{ResponderRecord}
use Rattle.ill_core.specs.ResponderActions.{Transition, acts, issues_to, record_after}
use Rattle.ill_core.specs.ResponderDeliveries.{takes}
use Rattle.ill_core.specs.ResponderEvidence.{IssuesUnfilled, Question, MayCancel, MayRenew, asks, answered_number, last_asked}
use Rattle.ill_core.specs.ResponderEvidence.{is_question_open, answers_to, KeepsLast, TakesNew}
use Rattle.ill_core.specs.ResponderNotices.{WasAsked, HasAnsweredLast, has_answered, unanswered}
use Rattle.ill_core.proofs.IssuedLemmas.{found_none, found_more}
use Rattle.ill_core.proofs.ResponderTransitions.{IsTransition, answers, allows_cancel, refuses_cancel, ships, renews}
use Rattle.ill_core.proofs.ResponderTransitions.{refuses_renewal, refuses_late, reminds, reminds_renewing, recalls, checks_in}
use Rattle.ill_core.proofs.ResponderTransitions.{expires}
use Rattle.ill_core.proofs.ResponderRows.{Issues, of_takes, of_acts}
use Rattle.ill_core.proofs.ResponderLaws.{known, last_same, no_answer, not_both, takes_issue}
use Rattle.ill_core.proofs.ResponderMoves.{Change, takes_changes, leaves, requests, accepts, declines, cancels, arrives, returns}
use Rattle.ill_core.proofs.ResponderMoves as changes

-- ---- questions

-- Returns true if the number is in the list.
abbrev is_in : ℕ → List ℕ → Bool
is_in number ns = list_any (λ n. n == number) ns

-- If `a || (b || false)` is true, `a` or `b` is true.
one_of : (a b : Bool) → a || (b || false) ≡ true → (a ≡ true) ⊎ (b ≡ true)
one_of true b either = inl refl
one_of false true either = inr refl
one_of false false either = search rules

-- A number in a list with `m` at the end is in the list, or is `m`.
in_more : (ns : List ℕ) (m number : ℕ) → is_in number (ns ++ m ∷ []) ≡ true → (is_in number ns ≡ true) ⊎ (m ≡ number)
in_more ns m number is = go (one_of _ _ (sym (list_any-append (λ n. n == number) ns (m ∷ [])) ∙ is))
  where
    -- The test `m == number` becomes an equality.
    go : (is_in number ns ≡ true) ⊎ ((m == number) ≡ true) → (is_in number ns ≡ true) ⊎ (m ≡ number)
    go (inl old) = inl old
    go (inr new) = inr (eqb-true m number new)

-- If question `number` was answered (`before`), or is `m`, the last one, it is the last one or was answered.
last_or_before : (last : Option ℕ) (m number : ℕ) (before : Bool) → last ≡ Some m → (before ≡ true) ⊎ (m ≡ number)
    → (last ≡ Some number) ⊎ (before ≡ true)
last_or_before last m number before is (inl old) = inr old
last_or_before last m number before is (inr same) = inl (is ∙ ap Some same)

-- If an APDU answers no question, the answered questions do not change.
none_answered : (question : Question) (y : ResponderRecord) (body : Body) (next : State) (number : ℕ)
    → answered_number question body ≡ None
    → has_answered question (issues_to y body next) number ≡ has_answered question y number
none_answered question y body next number none =
    ap (is_in number) (found_none (λ a. answered_number question a.body) y.issued (next_apdu y.txn y.issued body) none)

-- If question `number` was answered in the record after a transition, it was asked in `y`. The last question has a
-- number while it waits. `o` is the number that the transition answers, or `None`.
answered_asked : (question : Question) (y : ResponderRecord) (body : Body) (next : State) (number : ℕ) (o : Option ℕ)
    → answered_number question body ≡ o → Issues y body next
    → implies (is_question_open question y.state) (is_some (last_asked question y)) ≡ true
    → has_answered question (issues_to y body next) number ≡ true → WasAsked question y number
answered_asked question y body next number None none how there is =
    inr (sym (none_answered question y body next number none) ∙ is)
answered_asked question y body next number (Some m) some how there is =
    let row = how.replies question m some in
    let more = found_more (λ a. answered_number question a.body) y.issued (next_apdu y.txn y.issued body) m some in
    last_or_before (last_asked question y) m number (has_answered question y number)
    (known (last_asked question y) m (is_question_open question y.state) there row.0 row.2)
    (in_more (answers_to question y.issued) m number (sym (ap (is_in number) more) ∙ is))

-- If `WasAsked` holds of a question after a transition, it holds of the question in `y`. The last question has a number
-- while it waits.
issues_asked : (question : Question) (y : ResponderRecord) (body : Body) (next : State) (number : ℕ) → Issues y body next
    → implies (is_question_open question y.state) (is_some (last_asked question y)) ≡ true
    → WasAsked question (issues_to y body next) number → WasAsked question y number
issues_asked question y body next number how there (inl last) = inl (sym (last_same question y body next) ∙ last)
issues_asked question y body next number how there (inr is) =
    answered_asked question y body next number (answered_number question body) refl how there is

-- A deed adds no question, if the last question has a number while it waits.
pub acts_asked : (question : Question) (y new : ResponderRecord) (deed : Deed) (today : Date) (number : ℕ)
    → acts y deed today ≡ Ok new
    → implies (is_question_open question y.state) (is_some (last_asked question y)) ≡ true → WasAsked question new number
    → WasAsked question y number
acts_asked question y new deed today number done there =
    of_acts (λ r. WasAsked question r number → WasAsked question y number) y new deed today
    (λ transition leads how. issues_asked question y transition.body transition.next number how there) done

-- The question was asked in `y`, or the message that comes asks it.
abbrev AskedOrComes : Question → ResponderRecord → ℕ → Body → ℕ → Type 0
AskedOrComes question y came body number = WasAsked question y number ⊎ ((asks question body ≡ true) × (came ≡ number))

-- A message that issues nothing adds at most the question that it asks.
moves_asked : (question : Question) (y new : ResponderRecord) (came : ℕ) (body : Body) (number : ℕ)
    → new.issued ≡ y.issued → KeepsLast question y new ⊎ TakesNew question came body y new
    → WasAsked question new number → AskedOrComes question y came body number
moves_asked question y new came body number same how (inr is) =
    inl (inr (sym (ap (λ apdus. is_in number (answers_to question apdus)) same) ∙ is))
moves_asked question y new came body number same (inl keeps) (inl last) = inl (inl (sym keeps.0 ∙ last))
moves_asked question y new came body number same (inr asked) (inl last) =
    inr (asked.0, same_Some came number (sym asked.2 ∙ last))

-- An ILL-Answer unfilled adds no question.
unfilled_asked : (question : Question) (y : ResponderRecord) (number : ℕ)
    → WasAsked question (issues_to y (types.IllAnswer results.Unfilled) NotSupplied) number
    → WasAsked question y number
unfilled_asked question y number (inl last) =
    inl (sym (last_same question y (types.IllAnswer results.Unfilled) NotSupplied) ∙ last)
unfilled_asked question y number (inr is) =
    inr (sym (none_answered question y (types.IllAnswer results.Unfilled) NotSupplied number (no_answer question)) ∙ is)

-- If a question is asked in the record after a message, the record before has it, or the message asks it.
pub takes_asked : (question : Question) (y : ResponderRecord) (a : Apdu) (number : ℕ) → WasAsked question (takes y a).1 number
    → WasAsked question y number ⊎ ((asks question a.body ≡ true) × (a.number ≡ number))
takes_asked question y a number =
    of_takes (λ r. WasAsked question r number → AskedOrComes question y a.number a.body number) y a
    (λ how. moves_asked question y (takes y a).1 a.number a.body number how.issued (how.asked question))
    (λ said how asked. inl (unfilled_asked question y number asked))

-- ---- the last answer

-- If a question was answered, it is answered in the list with one more APDU.
answered_more : (question : Question) (apdus : List Apdu) (a : Apdu) (number : ℕ)
    → is_in number (answers_to question apdus) ≡ true → is_in number (answers_to question (apdus ++ a ∷ [])) ≡ true
answered_more question apdus a number is =
    ap (is_in number) (filter_map-append (λ b. answered_number question b.body) apdus (a ∷ []))
    ∙ (list_any-append (λ n. n == number) (answers_to question apdus) (cons_option (answered_number question a.body) [])
    ∙ or_left _ _ is)

-- The number at the end of a list is in the list.
in_end : (ns : List ℕ) (m number : ℕ) → m ≡ number → is_in number (ns ++ m ∷ []) ≡ true
in_end ns m number same = list_any-append (λ n. n == number) ns (m ∷ [])
    ∙ or_right (is_in number ns) _ (or_left _ _ (eq-eqb m number same))

-- If the new APDU answers a question, the question is answered in the list with this APDU.
answered_now : (question : Question) (apdus : List Apdu) (a : Apdu) (m number : ℕ)
    → answered_number question a.body ≡ Some m → m ≡ number
    → is_in number (answers_to question (apdus ++ a ∷ [])) ≡ true
answered_now question apdus a m number names same =
    ap (is_in number) (found_more (λ b. answered_number question b.body) apdus a m names)
    ∙ in_end (answers_to question apdus) m number same

-- One of three cases holds of a transition. The last question may have no answer in the next state, or it needed an
-- answer in the state before. Or the transition answers it.
transition_answers : (question : Question) (y : ResponderRecord) (transition : Transition) → IsTransition y transition
    → (is_among (unanswered question) transition.next ≡ true) ⊎
    ((is_among (unanswered question) y.state ≡ false) ⊎
    (answered_number question transition.body ≡ Some (unwrap_or (last_asked question y) 0)))
transition_answers MayCancel y _ (answers answer is) = inr (inl (search rules))
transition_answers MayCancel y _ (allows_cancel is) = inr (inr refl)
transition_answers MayCancel y _ (refuses_cancel is) = inr (inr refl)
transition_answers MayCancel y _ (ships due is) = inr (inl (search rules))
transition_answers MayCancel y _ (renews due is after) = inr (inl (search rules))
transition_answers MayCancel y _ (refuses_renewal is) = inr (inl (search rules))
transition_answers MayCancel y _ (refuses_late is) = inr (inl (search rules))
transition_answers MayCancel y _ (reminds is) = inr (inl (search rules))
transition_answers MayCancel y _ (reminds_renewing is) = inr (inl (search rules))
transition_answers MayCancel y _ (recalls is) = inr (inl (search rules))
transition_answers MayCancel y _ (checks_in is) = inr (inl (search rules))
transition_answers MayCancel y _ (expires is) = inr (inl (search rules))
transition_answers MayRenew y _ (answers answer is) = inr (inl (search rules))
transition_answers MayRenew y _ (allows_cancel is) = inr (inl (search rules))
transition_answers MayRenew y _ (refuses_cancel is) = inr (inl (search rules))
transition_answers MayRenew y _ (ships due is) = inr (inl (search rules))
transition_answers MayRenew y _ (renews due is after) = inr (inr refl)
transition_answers MayRenew y _ (refuses_renewal is) = inr (inr refl)
transition_answers MayRenew y _ (refuses_late is) = inr (inr refl)
transition_answers MayRenew y _ (reminds is) = inr (inl (search rules))
transition_answers MayRenew y _ (reminds_renewing is) = inl refl
transition_answers MayRenew y _ (recalls is) = inr (inl (search rules))
transition_answers MayRenew y _ (checks_in is) = inl refl
transition_answers MayRenew y _ (expires is) = inr (inl (search rules))

-- If one of the three cases of `transition_answers` holds of a transition, the transition preserves `HasAnsweredLast`.
transition_has_answered : (question : Question) (y : ResponderRecord) (transition : Transition)
    → (is_among (unanswered question) transition.next ≡ true) ⊎
    ((is_among (unanswered question) y.state ≡ false) ⊎
    (answered_number question transition.body ≡ Some (unwrap_or (last_asked question y) 0)))
    → HasAnsweredLast question y → HasAnsweredLast question (record_after y transition)
transition_has_answered question y transition (inl may) h number last decided = not_both _ decided may
transition_has_answered question y transition (inr (inl before)) h number last decided =
    answered_more question y.issued (next_apdu y.txn y.issued transition.body) number
    (h number (sym (last_same question y transition.body transition.next) ∙ last) before)
transition_has_answered question y transition (inr (inr now)) h number last decided =
    let named = ap (λ o. unwrap_or o 0) (sym (last_same question y transition.body transition.next) ∙ last) in
    answered_now question y.issued (next_apdu y.txn y.issued transition.body) (unwrap_or (last_asked question y) 0) number now
    named

-- A deed preserves `HasAnsweredLast`, if the last question has a number while it waits.
pub acts_has_answered : (question : Question) (y new : ResponderRecord) (deed : Deed) (today : Date) → acts y deed today ≡ Ok new
    → implies (is_question_open question y.state) (is_some (last_asked question y)) ≡ true → HasAnsweredLast question y
    → HasAnsweredLast question new
acts_has_answered question y new deed today done there =
    of_acts (λ r. HasAnsweredLast question y → HasAnsweredLast question r) y new deed today
    (λ transition is how. transition_has_answered question y transition (transition_answers question y transition is)) done

-- In `new` the last question may have no answer. Or it is the last question of `y`, and needed an answer there.
abbrev KeepsAnswer : Question → ResponderRecord → ResponderRecord → Type 0
KeepsAnswer question y new =
    (is_among (unanswered question) new.state ≡ true)
    ⊎ ((last_asked question new ≡ last_asked question y)
    × (is_among (unanswered question) new.state ≡ false → is_among (unanswered question) y.state ≡ false))

-- Each change by a message satisfies `KeepsAnswer`.
change_answers : (question : Question) (y new : ResponderRecord) (number : ℕ) (body : Body) → Change y number body new
    → KeepsAnswer question y new
change_answers MayCancel y _ number _ (leaves body) = inr (refl, λ decided. decided)
change_answers MayCancel y _ number _ (requests expiry item a idle) = inr (refl, λ _. search rules)
change_answers MayCancel y _ number _ (accepts c there) = inr (refl, λ _. search rules)
change_answers MayCancel y _ number _ (declines c waiting left) = inr (refl, λ _. search rules)
change_answers MayCancel y _ number _ (cancels above waiting) = inl refl
change_answers MayCancel y _ number _ arrives = inr (refl, λ decided. decided)
change_answers MayCancel y _ number _ (changes.renews wished above here) = inr (refl, λ _. search rules)
change_answers MayCancel y _ number _ (changes.renews_late wished above here) = inr (refl, λ _. search rules)
change_answers MayCancel y _ number _ (returns out) = inr (refl, λ _. search rules)
change_answers MayRenew y _ number _ (leaves body) = inr (refl, λ decided. decided)
change_answers MayRenew y _ number _ (requests expiry item a idle) = inr (refl, λ _. search rules)
change_answers MayRenew y _ number _ (accepts c there) = inr (refl, λ _. search rules)
change_answers MayRenew y _ number _ (declines c waiting left) = inr (refl, λ _. search rules)
change_answers MayRenew y _ number _ (cancels above waiting) = inr (refl, λ _. search rules)
change_answers MayRenew y _ number _ arrives = inr (refl, λ decided. decided)
change_answers MayRenew y _ number _ (changes.renews wished above here) = inl refl
change_answers MayRenew y _ number _ (changes.renews_late wished above here) = inl refl
change_answers MayRenew y _ number _ (returns out) = inl refl

-- If a question was answered, it is answered after a message.
answered_stays : (question : Question) (y new : ResponderRecord) (body : Body) (number : ℕ)
    → IssuesUnfilled y body new → has_answered question y number ≡ true → has_answered question new number ≡ true
answered_stays question y new body number (inl same) is = ap (λ apdus. is_in number (answers_to question apdus)) same ∙ is
answered_stays question y new body number (inr (said, more)) is =
    ap (λ apdus. is_in number (answers_to question apdus)) more
    ∙ answered_more question y.issued (next_apdu y.txn y.issued (types.IllAnswer results.Unfilled)) number is

-- A change that satisfies `KeepsAnswer` preserves `HasAnsweredLast`.
change_has_answered : (question : Question) (y new : ResponderRecord) (body : Body) → KeepsAnswer question y new
    → IssuesUnfilled y body new
    → HasAnsweredLast question y → HasAnsweredLast question new
change_has_answered question y new body (inl may) issued h number last decided = not_both _ decided may
change_has_answered question y new body (inr (same, before)) issued h number last decided =
    answered_stays question y new body number issued (h number (sym same ∙ last) (before decided))

-- A message preserves `HasAnsweredLast`.
pub takes_has_answered : (question : Question) (y : ResponderRecord) (a : Apdu) → HasAnsweredLast question y
    → HasAnsweredLast question (takes y a).1
takes_has_answered question y a =
    change_has_answered question y (takes y a).1 a.body
    (change_answers question y (takes y a).1 a.number a.body (takes_changes y a)) (takes_issue y a)
