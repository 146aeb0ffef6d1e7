-- Proves that `is_over` and `wants_sending` give none of the wrong answers of `BadSending`.
use Rattle.std.proofs.Common.{rules, ◌≡◌, Bool, true, false, not, [], ◌∷◌, refl, sym, ap, ◌∙◌}
use Rattle.std.proofs.lemmas.Bool.{true≢false, or_from, or_right}
use Rattle.ill_core.specs.declared.state.State.{State}
use Rattle.ill_core.specs.declared.state.State.TheVariants as states
use Rattle.ill_core.specs.State.{is_among}
use Rattle.ill_core.specs.Requester.{is_declined, is_received_by}
use Rattle.ill_core.specs.Verbs.{requester_turn_in, responder_turn_in, requester_verbs_in, responder_verbs_in}
use Rattle.ill_record.specs.declared.side.Side.{Side}
use Rattle.ill_record.specs.declared.side.Side.TheVariants as sides
use Rattle.ill_record.specs.Side.{state_of}
use Rattle.ill_record.specs.SideVerbs.{verbs_of}
use Rattle.ill_words.specs.Sending.{is_nobodys, is_over, wants_sending}
use Rattle.ill_words.specs.BadSending.{MisjudgesEnd, ended, marked, unmarked, unsettled, may_act, MisjudgesSending}
use Rattle.ill_words.specs.BadSending.{over_requester_sends, unasked_sends, asked_is_silent, open_is_silent}
use Rattle.ill_words.proofs.SendingLemmas.{open_wants}

-- By a requester's record it is nobody's turn in CANCELLED, NOT-SUPPLIED and CHECKED-IN, whatever `declined` and
-- `checked_in` are.
ended_requester : (s : State) (declined checked_in : Bool)
    → is_among (states.Cancelled ∷ states.NotSupplied ∷ states.CheckedIn ∷ []) s ≡ true
    → is_nobodys (requester_turn_in s declined checked_in) ≡ true
ended_requester states.Cancelled declined checked_in is = refl
ended_requester states.NotSupplied declined checked_in is = refl
ended_requester states.CheckedIn declined checked_in is = refl
ended_requester s declined checked_in is = search rules

-- By a responder's record it is nobody's turn in CANCELLED, NOT-SUPPLIED and CHECKED-IN.
ended_responder : (s : State) → is_among (states.Cancelled ∷ states.NotSupplied ∷ states.CheckedIn ∷ []) s ≡ true
    → is_nobodys (responder_turn_in s) ≡ true
ended_responder states.Cancelled is = refl
ended_responder states.NotSupplied is = refl
ended_responder states.CheckedIn is = refl
ended_responder s is = search rules

-- The loan is over for a side in CANCELLED, NOT-SUPPLIED or CHECKED-IN.
ended_is_over : (side : Side)
    → is_among (states.Cancelled ∷ states.NotSupplied ∷ states.CheckedIn ∷ []) (state_of side) ≡ true
    → is_over side ≡ true
ended_is_over (sides.Requester x) is = ended_requester x.state (is_declined x) x.checked_in is
ended_is_over (sides.Responder y) is = ended_responder y.state is

-- By a requester's record it is somebody's turn in IDLE, CONDITIONAL, CANCEL-PENDING and RECALL, whatever `declined`
-- and `checked_in` are.
unsettled_requester : (s : State) (declined checked_in : Bool)
    → is_among (states.Idle ∷ states.Conditional ∷ states.CancelPending ∷ states.Recall ∷ []) s ≡ true
    → is_nobodys (requester_turn_in s declined checked_in) ≡ false
unsettled_requester states.Idle declined checked_in is = refl
unsettled_requester states.Conditional true checked_in is = refl
unsettled_requester states.Conditional false checked_in is = refl
unsettled_requester states.CancelPending declined checked_in is = refl
unsettled_requester states.Recall declined checked_in is = refl
unsettled_requester s declined checked_in is = search rules

-- By a responder's record it is somebody's turn in IDLE, CONDITIONAL, CANCEL-PENDING and RECALL.
unsettled_responder : (s : State)
    → is_among (states.Idle ∷ states.Conditional ∷ states.CancelPending ∷ states.Recall ∷ []) s ≡ true
    → is_nobodys (responder_turn_in s) ≡ false
unsettled_responder states.Idle is = refl
unsettled_responder states.Conditional is = refl
unsettled_responder states.CancelPending is = refl
unsettled_responder states.Recall is = refl
unsettled_responder s is = search rules

-- The loan is not over for a side in IDLE, CONDITIONAL, CANCEL-PENDING or RECALL.
unsettled_is_open : (side : Side)
    → is_among (states.Idle ∷ states.Conditional ∷ states.CancelPending ∷ states.Recall ∷ []) (state_of side) ≡ true
    → is_over side ≡ false
unsettled_is_open (sides.Requester x) is = unsettled_requester x.state (is_declined x) x.checked_in is
unsettled_is_open (sides.Responder y) is = unsettled_responder y.state is

-- If it is nobody's turn by a requester's record in the state `s`, the requester has no verbs.
over_requester : (s : State) (declined checked_in received : Bool)
    → is_nobodys (requester_turn_in s declined checked_in) ≡ true → requester_verbs_in s declined received ≡ []
over_requester states.Conditional true checked_in received over = refl
over_requester states.Conditional false checked_in received over = search rules
over_requester s declined checked_in received over = search rules

-- If it is nobody's turn by a responder's record in the state `s`, the responder has no verbs.
over_responder : (s : State) → is_nobodys (responder_turn_in s) ≡ true → responder_verbs_in s ≡ []
over_responder s over = search rules

-- If the loan is over for a side, the side has no verbs.
no_verbs : (side : Side) → is_over side ≡ true → verbs_of side ≡ []
no_verbs (sides.Requester x) over = over_requester x.state (is_declined x) x.checked_in (is_received_by x) over
no_verbs (sides.Responder y) over = over_responder y.state over

-- If `says` is a wrong answer on the end of `side`, `is_over` does not give it. In RETURNED the mark of the record
-- decides (`marked`, `unmarked`).
pub not_misjudged : (side : Side) (says : Bool) → MisjudgesEnd side says → says ≡ is_over side → ⊥
not_misjudged side says (ended _ is) e = true≢false (sym (ended_is_over side is) ∙ sym e)
not_misjudged side says (marked x at has_mark) e =
    true≢false (sym (ap (λ s. is_nobodys (requester_turn_in s (is_declined x) x.checked_in)) at
    ∙ ap (λ b. is_nobodys (requester_turn_in states.Returned (is_declined x) b)) has_mark) ∙ sym e)
not_misjudged side says (unmarked x at no_mark) e =
    true≢false (e ∙ ap (λ s. is_nobodys (requester_turn_in s (is_declined x) x.checked_in)) at
    ∙ ap (λ b. is_nobodys (requester_turn_in states.Returned (is_declined x) b)) no_mark)
not_misjudged side says (unsettled _ is) e = true≢false (e ∙ unsettled_is_open side is)
not_misjudged side says (may_act _ acts) e = acts (no_verbs side (sym e))

-- If `says` is a wrong answer on the sending of `side`, `wants_sending` does not give it.
pub not_misjudged_sending : (was_asked : Bool) (side : Side) (says : Bool) → MisjudgesSending was_asked side says
    → says ≡ wants_sending was_asked side → ⊥
not_misjudged_sending was_asked side says (over_requester_sends x over) e = true≢false (e ∙ ap not over)
not_misjudged_sending was_asked side says (unasked_sends y over unasked) e =
    true≢false (e ∙ or_from (not (is_over (sides.Responder y))) was_asked (ap not over) unasked)
not_misjudged_sending was_asked side says (asked_is_silent y asked) e =
    true≢false (sym (or_right (not (is_over (sides.Responder y))) was_asked asked) ∙ sym e)
not_misjudged_sending was_asked side says (open_is_silent _ is_open) e =
    true≢false (sym (open_wants was_asked side is_open) ∙ sym e)
