-- Proves that of two dates that a responder granted, the one that answers the later Renew is the later date.
use Rattle.std.proofs.Common.{rules, arith, ◌≡◌, ◌⊎◌, inl, inr, ℕ, zero, suc, ◌+◌, ◌≤◌, Bool, true, false, List, [], ◌∷◌, ◌++◌}
use Rattle.std.proofs.Common.{length, Option, Some, None, Ok, if◌then◌else◌, refl, ap, sym, subst, ◌∙◌}
use Rattle.std.specs.Prelude.{slice_get}
use Rattle.std.specs.List.{list_all, filter_map, cons_option, last_or}
use Rattle.std.specs.Option.{unwrap_or}
use Rattle.std.proofs.lemmas.Bool.{and_parts, leb-true}
use Rattle.ill_values.specs.Day.{Date}
use Rattle.ill_values.specs.declared.apdu.Apdu.{Apdu}
use Rattle.ill_values.specs.Body.{Body}
use Rattle.ill_values.specs.declared.apdu.BodyWith.TheVariants as types
use Rattle.ill_values.specs.declared.apdu.AnswerResult.TheVariants as results
use Rattle.ill_core.specs.declared.state.State.{State}
use Rattle.ill_core.specs.declared.state.State.TheVariants.{InProcess}
use Rattle.ill_core.specs.declared.responder.Deed.{Deed}
use Rattle.ill_core.specs.State.{is_among}
use Rattle.ill_core.specs.Dates.{is_before, is_after_due}
use Rattle.ill_core.specs.Numbers.{is_at_most}
use Rattle.ill_values.specs.Bodies.{grant_in}
use Rattle.ill_core.specs.Issued.{message, granted_day, last_of, next_apdu}
use Rattle.ill_core.specs.Responder.{ResponderRecord, IsResponder, later, due_of, are_rising}
use Rattle.ill_core.specs.ResponderRules.{ResponderRules}
use Rattle.ill_core.specs.ResponderActions.{Transition, no_date, acts}
use Rattle.ill_core.specs.ResponderDeliveries.{takes}
use Rattle.ill_core.specs.ResponderEvidence.{IssuesUnfilled, MayRenew, answered_number, answers_to, AnswersOnce}
use Rattle.ill_core.specs.ResponderNotices.{grant, grant_of, GrantsRise}
use Rattle.ill_core.proofs.MessageLemmas.{message_more}
use Rattle.ill_core.proofs.GrantLemmas.{before_later, granted_not_later}
use Rattle.ill_core.proofs.Rules.{responder_rules}
use Rattle.ill_core.proofs.ResponderLists.{no_grants}
use Rattle.ill_core.proofs.ResponderTransitions.{IsTransition, answers, allows_cancel, refuses_cancel, ships, renews}
use Rattle.ill_core.proofs.ResponderTransitions.{refuses_renewal, refuses_late, reminds, reminds_renewing, recalls, checks_in}
use Rattle.ill_core.proofs.ResponderTransitions.{expires}
use Rattle.ill_core.proofs.ResponderRows.{of_acts}
use Rattle.ill_core.proofs.ResponderLaws.{takes_issue}

-- ---- grants

-- If two grants are equal, their numbers and their dates are equal.
grant_parts : (m n : ℕ) (d e : Date) → Some (grant m d) ≡ Some (grant n e) → (m ≡ n) × (d ≡ e)
grant_parts m n d e same = search rules

-- The date of a grant is the date that its APDU grants.
pub grant_date : (body : Body) (m : ℕ) (d : Date) → grant_of body ≡ Some (grant m d) → grant_in body ≡ Some d
grant_date (types.Shipped due) m d is = search rules
grant_date (types.RenewAnswer c (Some due)) m d is = search rules
grant_date (types.RenewAnswer c None) m d is = search rules
grant_date body m d is = search rules

-- A grant has number 0, or the number that its APDU answers.
grant_number : (body : Body) (m : ℕ) (d : Date) → grant_of body ≡ Some (grant m d)
    → (m ≡ 0) ⊎ (answered_number MayRenew body ≡ Some m)
grant_number (types.Shipped due) m d is = inl (search rules)
grant_number (types.RenewAnswer c (Some due)) m d is = inr (search rules)
grant_number (types.RenewAnswer c None) m d is = search rules
grant_number body m d is = search rules

-- ---- one more APDU

-- The APDU grants no date. Or it answers at least the number of each older grant, with a date after each older one.
abbrev GrantsLater : List Apdu → Body → Type 0
GrantsLater apdus body =
    (i m n : ℕ) (b : Apdu) (d e : Date) → message apdus i ≡ Some b → grant_of b.body ≡ Some (grant m d)
    → grant_of body ≡ Some (grant n e) → (m ≤ n) × (is_before d e ≡ true)

-- If a new APDU satisfies `GrantsLater`, `GrantsRise` still holds with it.
grants_more : (apdus : List Apdu) (a : Apdu) → GrantsRise apdus → GrantsLater apdus a.body → GrantsRise (apdus ++ a ∷ [])
grants_more apdus a h newest i j m n b c d e at_i at_j one other below =
    go (message_more apdus a b i at_i) (message_more apdus a c j at_j)
  where
    -- Message `i` is old or the new one, and so is message `j`.
    go : ((message apdus i ≡ Some b) × (i ≤ length apdus)) ⊎ ((i ≡ length apdus + 1) × (a ≡ b))
        → ((message apdus j ≡ Some c) × (j ≤ length apdus)) ⊎ ((j ≡ length apdus + 1) × (a ≡ c)) → is_before d e ≡ true
    go (inl old) (inl older) = h i j m n b c d e old.0 older.0 one other below
    go (inl old) (inr new) = (newest i m n b d e old.0 one (ap (λ (x : Apdu). grant_of x.body) new.1 ∙ other)).1
    go (inr new) (inl older) =
        let most = (newest j n m c e d older.0 other (ap (λ (x : Apdu). grant_of x.body) new.1 ∙ one)).0 in
        absurd (omega (arith, most, below))
    go (inr new) (inr also) =
        let same = grant_parts m n d e (sym (ap (λ (x : Apdu). grant_of x.body) new.1 ∙ one)
        ∙ (ap (λ (x : Apdu). grant_of x.body) also.1 ∙ other)) in
        absurd (omega (arith, same.0, below))

-- An APDU that grants no date satisfies `GrantsLater`.
none_later : (apdus : List Apdu) (body : Body) → grant_of body ≡ None → GrantsLater apdus body
none_later apdus body none i m n b d e at old new = search rules

-- ---- a Shipped

-- If no date was granted, there is no due date.
pub last_none : (apdus : List Apdu) (e : Date) → filter_map granted_day apdus ≡ [] → last_of granted_day apdus ≡ Some e → ⊥
last_none apdus e none last = let no : None ≡ Some e = sym (ap (last_or None) none) ∙ last in search rules

-- If no date was granted before, each APDU satisfies `GrantsLater`.
first_later : (apdus : List Apdu) (body : Body) → are_rising (filter_map granted_day apdus) ≡ true
    → filter_map granted_day apdus ≡ [] → GrantsLater apdus body
first_later apdus body rises none i m n b d e at old new =
    let last = granted_not_later apdus i b d rises at (grant_date b.body m d old) in
    absurd (last_none apdus last.0 none last.1)

-- Let `count` be the number of Shipped that the state requires. In IN-PROCESS it is 0.
pub not_shipped : (state : State) (count : ℕ) → is_among (InProcess ∷ []) state ≡ true
    → count ≡ (if is_among later state then 1 else 0) → count ≡ 0
not_shipped InProcess count is counted = counted
not_shipped state count is counted = search rules

-- ---- a Renew-Answer yes

-- If all values found pass a test, the first one passes it.
passes_first : (p : ℕ → Bool) (found : Option ℕ) (m : ℕ) (ns : List ℕ) → found ≡ Some m
    → list_all p (cons_option found ns) ≡ true → p m ≡ true
passes_first p found m ns is all = (and_parts _ _ (ap (λ o. list_all p (cons_option o ns)) (sym is) ∙ all)).0

-- If all values found pass a test, those after the first pass it.
passes_rest : (p : ℕ → Bool) (found : Option ℕ) (ns : List ℕ) → list_all p (cons_option found ns) ≡ true → list_all p ns ≡ true
passes_rest p None ns all = all
passes_rest p (Some m) ns all = (and_parts _ _ all).1

-- If all numbers that `f` finds in a list pass the test `p`, the one at index `i` passes it.
found_passes : (f : Apdu → Option ℕ) (p : ℕ → Bool) (apdus : List Apdu) (i m : ℕ) (b : Apdu)
    → list_all p (filter_map f apdus) ≡ true → slice_get apdus i ≡ Some b → f b ≡ Some m → p m ≡ true
found_passes f p [] i m b all at is = search rules
found_passes f p (c ∷ apdus) zero m b all at is =
    let same : c ≡ b = search rules in
    passes_first p (f c) m (filter_map f apdus) (ap f same ∙ is) all
found_passes f p (c ∷ apdus) (suc i) m b all at is =
    found_passes f p apdus i m b (passes_rest p (f c) (filter_map f apdus) all) at is

-- If all answered numbers are at most `last`, the number that a Renew-Answer answers is at most `last`.
most_answered : (apdus : List Apdu) (last : Option ℕ) (i m : ℕ) (b : Apdu)
    → list_all (λ n. is_at_most n last) (answers_to MayRenew apdus) ≡ true → message apdus i ≡ Some b
    → answered_number MayRenew b.body ≡ Some m → is_at_most m last ≡ true
most_answered apdus last zero m b most at is = search rules
most_answered apdus last (suc i) m b most at is =
    found_passes (λ a. answered_number MayRenew a.body) (λ n. is_at_most n last) apdus i m b most at is

-- A number that is at most `last` is at most the value of `last`.
at_most_last : (m : ℕ) (last : Option ℕ) → is_at_most m last ≡ true → m ≤ unwrap_or last 0
at_most_last m None most = search rules
at_most_last m (Some k) most = leb-true m k most

-- The number of each grant is at most the number of the last Renew.
grant_most : (apdus : List Apdu) (last : Option ℕ) (i m : ℕ) (b : Apdu)
    → list_all (λ n. is_at_most n last) (answers_to MayRenew apdus) ≡ true → message apdus i ≡ Some b
    → (m ≡ 0) ⊎ (answered_number MayRenew b.body ≡ Some m) → m ≤ unwrap_or last 0
grant_most apdus last i m b most at (inl none) = omega (arith, none)
grant_most apdus last i m b most at (inr is) = at_most_last m last (most_answered apdus last i m b most at is)

-- If `d` is not after the due date `e`, and `due` is after `e`, then `d` is before `due`.
pub after_granted : (due : Date) (last : Option Date) (e d : Date) → last ≡ Some e → is_before e d ≡ false
    → is_after_due due last ≡ true → is_before d due ≡ true
after_granted due last e d is not_before after = before_later e d due not_before (ap (is_after_due due) (sym is) ∙ after)

-- A renewal to a date after the due date satisfies `GrantsLater`.
renewal_later : (y : ResponderRecord) (due : Date) → ResponderRules y → AnswersOnce MayRenew y
    → is_after_due due (due_of y) ≡ true
    → GrantsLater y.issued (types.RenewAnswer (unwrap_or y.last_renew 0) (Some due))
renewal_later y due h once after i m n b d e at old new =
    let same = grant_parts (unwrap_or y.last_renew 0) n due e new in
    let most = grant_most y.issued y.last_renew i m b once.most at (grant_number b.body m d old) in
    let last = granted_not_later y.issued i b d h.rising at (grant_date b.body m d old) in (
      omega (arith, most, same.0),
      subst (λ x. is_before d x ≡ true) same.1
          (after_granted due (due_of y) last.0 d last.1 last.2 after),
    )

-- ---- deeds and messages

-- Each transition of a deed satisfies `GrantsLater`.
transition_later : (y : ResponderRecord) (transition : Transition) → IsTransition y transition → ResponderRules y
    → AnswersOnce MayRenew y
    → GrantsLater y.issued transition.body
transition_later y _ (answers answer is) h once = none_later y.issued (types.IllAnswer answer) refl
transition_later y _ (allows_cancel is) h once = none_later y.issued (types.CancelReply (unwrap_or y.last_cancel 0) true) refl
transition_later y _ (refuses_cancel is) h once = none_later y.issued (types.CancelReply (unwrap_or y.last_cancel 0) false) refl
transition_later y _ (ships due is) h once =
    first_later y.issued (types.Shipped due) h.rising
    (no_grants y.issued h.ships_first (not_shipped y.state _ is h.issued.shipped))
transition_later y _ (renews due is after) h once = renewal_later y due h once after
transition_later y _ (refuses_renewal is) h once = none_later y.issued (types.RenewAnswer (unwrap_or y.last_renew 0) None) refl
transition_later y _ (refuses_late is) h once = none_later y.issued (types.RenewAnswer (unwrap_or y.last_renew 0) None) refl
transition_later y _ (reminds is) h once = none_later y.issued (types.Overdue (unwrap_or (due_of y) no_date)) refl
transition_later y _ (reminds_renewing is) h once = none_later y.issued (types.Overdue (unwrap_or (due_of y) no_date)) refl
transition_later y _ (recalls is) h once = none_later y.issued types.Recall refl
transition_later y _ (checks_in is) h once = none_later y.issued types.CheckedIn refl
transition_later y _ (expires is) h once = none_later y.issued types.Expired refl

-- A deed preserves `GrantsRise`, if the record satisfies the rules of a responder, and no Renew was answered twice.
pub acts_rise : (y new : ResponderRecord) (deed : Deed) (today : Date) → acts y deed today ≡ Ok new → IsResponder y
    → AnswersOnce MayRenew y → GrantsRise y.issued → GrantsRise new.issued
acts_rise y new deed today done h once rise =
    of_acts (λ r. GrantsRise r.issued) y new deed today
    (λ transition is how. grants_more y.issued (next_apdu y.txn y.issued transition.body) rise
    (transition_later y transition is (responder_rules y h) once)) done

-- A message that issues an ILL-Answer unfilled or nothing preserves `GrantsRise`.
issued_rise : (y new : ResponderRecord) (body : Body) → IssuesUnfilled y body new → GrantsRise y.issued → GrantsRise new.issued
issued_rise y new body (inl same) rise = subst GrantsRise (sym same) rise
issued_rise y new body (inr (said, more)) rise =
    let a : Apdu = next_apdu y.txn y.issued (types.IllAnswer results.Unfilled) in
    subst GrantsRise (sym more) (grants_more y.issued a rise (none_later y.issued a.body refl))

-- A message preserves `GrantsRise`.
pub takes_rise : (y : ResponderRecord) (a : Apdu) → GrantsRise y.issued → GrantsRise (takes y a).1.issued
takes_rise y a = issued_rise y (takes y a).1 a.body (takes_issue y a)
