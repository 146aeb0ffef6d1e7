-- Proves that a responder issues an Overdue for the due date only after the APDU that grants it. Its state agrees with
-- this Overdue.
use Rattle.std.proofs.Common.{rules, arith, ◌≡◌, ◌⊎◌, inl, inr, ℕ, ◌+◌, ◌<◌, ◌≤◌, Bool, true, false, ◌||◌, List, [], ◌∷◌, ◌++◌}
use Rattle.std.proofs.Common.{length, Option, Some, None, is_some, Ok, if◌then◌else◌, refl, ap, sym, subst, ◌∙◌}
use Rattle.std.specs.List.{last_or, filter_map}
use Rattle.std.specs.Option.{unwrap_or}
use Rattle.std.proofs.lemmas.Bool.{or_right, false_from_ne_true}
use Rattle.std.proofs.Math.Bool.{or-false}
use Rattle.ill_values.specs.Day.{Date}
use Rattle.ill_values.specs.declared.apdu.Apdu.{Apdu}
use Rattle.ill_values.specs.Body.{Body}
use Rattle.ill_values.specs.declared.apdu.BodyWith.TheVariants as types
use Rattle.ill_values.specs.declared.apdu.AnswerResult.TheVariants as results
use Rattle.ill_core.specs.declared.state.State.{State}
use Rattle.ill_core.specs.declared.state.State.TheVariants.{NotSupplied, Shipped, RenewPending, Overdue, RenewOverdue, Recall}
use Rattle.ill_core.specs.declared.state.State.TheVariants.{Returned, CheckedIn}
use Rattle.ill_core.specs.declared.responder.Deed.{Deed}
use Rattle.ill_core.specs.State.{is_among}
use Rattle.ill_core.specs.Dates.{is_same_day, is_before, is_after_due}
use Rattle.ill_values.specs.Bodies.{grant_in}
use Rattle.ill_core.specs.Issued.{message, has_message_with, last_of, granted_day, next_apdu}
use Rattle.ill_core.specs.Responder.{ResponderRecord, IsResponder, later, due_of}
use Rattle.ill_core.specs.ResponderRules.{ResponderRules}
use Rattle.ill_core.specs.ResponderActions.{Transition, no_date, acts, issues_to}
use Rattle.ill_core.specs.ResponderDeliveries.{takes}
use Rattle.ill_core.specs.ResponderNotices.{undecided, grant, grant_of, is_overdue_of, OverdueFits, GrantsBeforeOverdue}
use Rattle.ill_core.proofs.IssuedLemmas.{found_none, has_more, last_of_more}
use Rattle.ill_core.proofs.MessageLemmas.{message_more, says_message}
use Rattle.ill_core.proofs.GrantLemmas.{before_chains, not_before_itself, not_before_same, itself_not_before, same_itself}
use Rattle.ill_core.proofs.ResponderGrants.{grant_date, last_none, not_shipped, after_granted}
use Rattle.ill_core.proofs.Rules.{responder_rules}
use Rattle.ill_core.proofs.ResponderLists.{no_grants, due_there}
use Rattle.ill_core.proofs.ResponderTransitions.{IsTransition, answers, allows_cancel, refuses_cancel, ships, renews}
use Rattle.ill_core.proofs.ResponderTransitions.{refuses_renewal, refuses_late, reminds, reminds_renewing, recalls, checks_in}
use Rattle.ill_core.proofs.ResponderTransitions.{expires}
use Rattle.ill_core.proofs.ResponderRows.{of_acts}
use Rattle.ill_core.proofs.ResponderLaws.{not_both}
use Rattle.ill_core.proofs.ResponderMoves.{Change, takes_changes, leaves, requests, accepts, declines, cancels, arrives, returns}
use Rattle.ill_core.proofs.ResponderMoves as changes

-- Lists the states that require an Overdue for the due date.
abbrev overdue : List State
overdue = Overdue ∷ RenewOverdue ∷ []

-- Lists the states in which an Overdue for the due date may have been issued.
abbrev reminded : List State
reminded = Overdue ∷ RenewOverdue ∷ Recall ∷ Returned ∷ CheckedIn ∷ []

-- Returns true if the list has an Overdue for this day.
abbrev has_overdue : Date → List Apdu → Bool
has_overdue due apdus = has_message_with (is_overdue_of due) apdus

-- The list has a due date, and the day is not after it.
abbrev IsDated : List Apdu → Date → Type 0
IsDated apdus day = (due : Date) × (last_of granted_day apdus ≡ Some due) × (is_before due day ≡ false)

-- `P` holds of the date of each Overdue.
abbrev AllOverdues : (Date → Type 0) → List Apdu → Type 0
AllOverdues P apdus = (n : ℕ) (a : Apdu) (day : Date) → message apdus n ≡ Some a → a.body ≡ types.Overdue day → P day

-- The Overdues of `y` agree with its due date and its state, and each follows the grant of its date.
abbrev OverduesAreInPlace : ResponderRecord → Type 0
OverduesAreInPlace y = OverdueFits y × GrantsBeforeOverdue y.issued

-- The day is after the date of each Overdue.
abbrev IsAfterOverdues : List Apdu → Date → Type 0
IsAfterOverdues apdus due = AllOverdues (λ day. is_before day due ≡ true) apdus

-- ---- the days and the types of APDUs

-- If `is_overdue_of due` is true of an APDU, it is an Overdue with a date that equals `due`.
overdue_day : (due : Date) (body : Body) → is_overdue_of due body ≡ true
    → (day : Date) × (body ≡ types.Overdue day) × (is_same_day day due ≡ true)
overdue_day due (types.Overdue day) is = (day, refl, is)
overdue_day due body is = search rules

-- If `is_overdue_of` is false of an APDU for every day, the APDU is not an Overdue.
never_overdue : {P : Type 0} (body : Body) (day : Date) → ((due : Date) → is_overdue_of due body ≡ false)
    → body ≡ types.Overdue day → P
never_overdue body day other is = not_both _ (other day) (ap (is_overdue_of day) is ∙ same_itself day)

-- If two Overdues are equal, so are their dates.
overdue_same : (due day : Date) → ◌≡◌ {A = Body} (types.Overdue due) (types.Overdue day) → due ≡ day
overdue_same due day is = search rules

-- If an option is both `Some d` and `Some e`, `d` equals `e`.
day_same : (o : Option Date) (d e : Date) → o ≡ Some d → o ≡ Some e → d ≡ e
day_same o d e one other = search rules

-- No option is both `None` and `Some d`.
none_there : {P : Type 0} (o : Option Date) (d : Date) → o ≡ None → o ≡ Some d → P
none_there o d none there = search rules

-- No APDU both grants a date and is an Overdue.
one_type : {P : Type 0} (body : Body) (c : ℕ) (due day : Date) → grant_of body ≡ Some (grant c due) → body ≡ types.Overdue day → P
one_type body c due day grants is =
    let none : None ≡ Some (grant c due) = sym (ap grant_of is) ∙ grants in
    search rules

-- If `due` is after the date of each Overdue, the list has no Overdue for `due`.
none_for : {P : Type 0} (apdus : List Apdu) (due : Date) → IsAfterOverdues apdus due → has_overdue due apdus ≡ true → P
none_for apdus due after there =
    let said = says_message (is_overdue_of due) apdus there in
    let day = overdue_day due said.1.body said.3 in
    absurd (not_before_same day.0 due day.2 (after said.0 said.1 day.0 said.2 day.1))

-- If `a` is before `b`, `b` is not before `a`.
not_before_back : (a b : Date) → is_before a b ≡ true → is_before b a ≡ false
not_before_back a b before = false_from_ne_true (is_before b a) (λ back. not_before_itself a (before_chains a b a before back))

-- ---- one more APDU

-- If a new grant is after each Overdue, each Overdue still follows the grant of its date.
order_more : (apdus : List Apdu) (a : Apdu) → GrantsBeforeOverdue apdus
    → ((due : Date) → grant_in a.body ≡ Some due → IsAfterOverdues apdus due) → GrantsBeforeOverdue (apdus ++ a ∷ [])
order_more apdus a h newest m n c b e due day at_m at_n grants is same =
    go (message_more apdus a b m at_m) (message_more apdus a e n at_n)
  where
    -- Message `m` is old or the new one, and so is message `n`.
    go : ((message apdus m ≡ Some b) × (m ≤ length apdus)) ⊎ ((m ≡ length apdus + 1) × (a ≡ b))
        → ((message apdus n ≡ Some e) × (n ≤ length apdus)) ⊎ ((n ≡ length apdus + 1) × (a ≡ e)) → m < n
    go (inl old) (inl older) = h m n c b e due day old.0 older.0 grants is same
    go (inl old) (inr new) = omega (arith, old.1, new.0)
    go (inr new) (inl older) =
        let granted = grant_date a.body c due (ap (λ (x : Apdu). grant_of x.body) new.1 ∙ grants) in
        absurd (not_before_same day due same (newest due granted n e day older.0 is))
    go (inr new) (inr also) = one_type a.body c due day (ap (λ (x : Apdu). grant_of x.body) new.1 ∙ grants)
        (ap (λ (x : Apdu). x.body) also.1 ∙ is)

-- If `P` holds of the date of each old Overdue and of the new one, it holds of all Overdues.
overdue_more : (P : Date → Type 0) (apdus : List Apdu) (a : Apdu) → AllOverdues P apdus
    → ((day : Date) → a.body ≡ types.Overdue day → P day) → AllOverdues P (apdus ++ a ∷ [])
overdue_more P apdus a old newest n b day at is = go (message_more apdus a b n at)
  where
    -- Message `n` is old or the new one.
    go : ((message apdus n ≡ Some b) × (n ≤ length apdus)) ⊎ ((n ≡ length apdus + 1) × (a ≡ b)) → P day
    go (inl older) = old n b day older.0 is
    go (inr new) = newest day (ap (λ (x : Apdu). x.body) new.1 ∙ is)

-- If the new APDU is not an Overdue for `due`, `has_overdue due` does not change.
overdue_stays : (apdus : List Apdu) (a : Apdu) (due : Date) → is_overdue_of due a.body ≡ false
    → has_overdue due (apdus ++ a ∷ []) ≡ has_overdue due apdus
overdue_stays apdus a due other =
    has_more (is_overdue_of due) apdus a ∙ (ap (λ b. has_overdue due apdus || b) other ∙ or-false (has_overdue due apdus))

-- If the new APDU grants no date, the due date does not change.
due_stays : (apdus : List Apdu) (a : Apdu) → grant_in a.body ≡ None
    → last_of granted_day (apdus ++ a ∷ []) ≡ last_of granted_day apdus
due_stays apdus a none = ap (last_or None) (found_none granted_day apdus a none)

-- If the new APDU grants no date, the dates of the Overdues are still not after the due date.
dated_stays : (apdus : List Apdu) (a : Apdu) → grant_in a.body ≡ None → AllOverdues (IsDated apdus) apdus
    → AllOverdues (IsDated (apdus ++ a ∷ [])) apdus
dated_stays apdus a none h n b day at is =
    let old = h n b day at is in
    (old.0, due_stays apdus a none ∙ old.1, old.2)

-- An APDU with this body may be issued from `y`, and lead to this state. By `says_neither` it neither grants a date nor
-- is an Overdue, and does not enter `overdue` or leave `reminded`. By `grants` it grants a date after each Overdue, and
-- leads to no state of `overdue`. By `warns` it is an Overdue for the due date, and leads to a state of `reminded`.
data Notice (y : ResponderRecord) : Body → State → Type 0 where
  says_neither : (body : Body) (next : State) → grant_in body ≡ None → ((due : Date) → is_overdue_of due body ≡ false)
      → (is_among overdue next ≡ true → is_among overdue y.state ≡ true)
      → (is_among reminded y.state ≡ true → is_among reminded next ≡ true) → Notice y body next
  grants : (body : Body) (next : State) (due : Date) → grant_in body ≡ Some due → ((day : Date) → is_overdue_of day body ≡ false)
      → IsAfterOverdues y.issued due → is_among overdue next ≡ false → Notice y body next
  warns : (next : State) (due : Date) → due_of y ≡ Some due → is_among reminded next ≡ true → Notice y (types.Overdue due) next

-- An APDU that neither grants a date nor is an Overdue preserves `OverduesAreInPlace`. Its transition does
-- not enter `overdue` or leave `reminded`.
neither_place : (y : ResponderRecord) (body : Body) (next : State) → grant_in body ≡ None
    → ((due : Date) → is_overdue_of due body ≡ false)
    → (is_among overdue next ≡ true → is_among overdue y.state ≡ true)
    → (is_among reminded y.state ≡ true → is_among reminded next ≡ true)
    → OverdueFits y → GrantsBeforeOverdue y.issued → OverduesAreInPlace (issues_to y body next)
neither_place y body next none other leads stays h order =
    let a : Apdu = next_apdu y.txn y.issued body in
    let same = due_stays y.issued a none in (
      record {
        dated = overdue_more (IsDated (y.issued ++ a ∷ [])) y.issued a (dated_stays y.issued a none h.dated)
            (λ day is. never_overdue body day other is);
        issued = λ due is there. overdue_stays y.issued a due (other due) ∙ h.issued due (sym same ∙ is) (leads there);
        after = λ due is there. stays (h.after due (sym same ∙ is) (sym (overdue_stays y.issued a due (other due)) ∙ there));
      },
      order_more y.issued a order (λ due is. none_there (grant_in body) due none is),
    )

-- An APDU that grants a date after each Overdue, and leads to no state of `overdue`, preserves `OverduesAreInPlace`.
grants_place : (y : ResponderRecord) (body : Body) (next : State) (due : Date) → grant_in body ≡ Some due
    → ((day : Date) → is_overdue_of day body ≡ false)
    → IsAfterOverdues y.issued due → is_among overdue next ≡ false → OverdueFits y → GrantsBeforeOverdue y.issued
    → OverduesAreInPlace (issues_to y body next)
grants_place y body next due granted other later_day leaves_off h order =
    let a : Apdu = next_apdu y.txn y.issued body in
    let new_due = last_of_more granted_day y.issued a due granted in (
      record {
        dated = overdue_more (IsDated (y.issued ++ a ∷ [])) y.issued a
            (λ n b day at is. (due, new_due, not_before_back day due (later_day n b day at is)))
            (λ day is. never_overdue body day other is);
        issued = λ d is there. not_both _ leaves_off there;
        after = λ d is there. none_for y.issued d (subst (IsAfterOverdues y.issued) (day_same _ due d new_due is) later_day)
            (sym (overdue_stays y.issued a d (other d)) ∙ there);
      },
      order_more y.issued a order (λ d is.
          subst (IsAfterOverdues y.issued) (day_same (grant_in body) due d granted is) later_day),
    )

-- An Overdue for the due date that leads to a state of `reminded` preserves `OverduesAreInPlace`.
warns_place : (y : ResponderRecord) (next : State) (due : Date) → due_of y ≡ Some due → is_among reminded next ≡ true
    → OverdueFits y → GrantsBeforeOverdue y.issued → OverduesAreInPlace (issues_to y (types.Overdue due) next)
warns_place y next due there leads h order =
    let a : Apdu = next_apdu y.txn y.issued (types.Overdue due) in
    let same = due_stays y.issued a refl in (
      record {
        dated = overdue_more (IsDated (y.issued ++ a ∷ [])) y.issued a (dated_stays y.issued a refl h.dated)
            (λ day is. (
              due,
              same ∙ there,
              subst (λ d. is_before due d ≡ false) (overdue_same due day is)
                  (itself_not_before due),
            ));
        issued = λ d is among. has_more (is_overdue_of d) y.issued a
            ∙ or_right (has_overdue d y.issued) _
            (subst (λ e. is_same_day due e ≡ true) (day_same (due_of y) due d there (sym same ∙ is)) (same_itself due));
        after = λ d is issued. leads;
      },
      order_more y.issued a order (λ d is. none_there None d refl is),
    )

-- An APDU that satisfies `Notice` preserves `OverduesAreInPlace`.
notice_place : (y : ResponderRecord) (body : Body) (next : State) → Notice y body next → OverdueFits y
    → GrantsBeforeOverdue y.issued → OverduesAreInPlace (issues_to y body next)
notice_place y _ _ (says_neither body next none other leads stays) = neither_place y body next none other leads stays
notice_place y _ _ (grants body next due granted other later_day off) = grants_place y body next due granted other later_day off
notice_place y _ _ (warns next due there leads) = warns_place y next due there leads

-- ---- deeds

-- A day after the due date is after the date of each Overdue.
renewal_after : (y : ResponderRecord) (due : Date) → OverdueFits y → is_after_due due (due_of y) ≡ true
    → IsAfterOverdues y.issued due
renewal_after y due h after n a day at is =
    let dated = h.dated n a day at is in
    after_granted due (due_of y) dated.0 day dated.1 dated.2 after

-- If no date was granted, there is no Overdue, so each day is after all of them.
first_after : (y : ResponderRecord) (due : Date) → OverdueFits y → filter_map granted_day y.issued ≡ []
    → IsAfterOverdues y.issued due
first_after y due h none n a day at is =
    let dated = h.dated n a day at is in
    absurd (last_none y.issued dated.0 none dated.1)

-- If an option is not `None`, its value is that of `unwrap_or`.
there_is : (o : Option Date) → is_some o ≡ true → o ≡ Some (unwrap_or o no_date)
there_is None there = search rules
there_is (Some d) there = refl

-- In SHIPPED or later there is a due date.
due_is : (y : ResponderRecord) → ResponderRules y → is_among later y.state ≡ true → due_of y ≡ Some (unwrap_or (due_of y) no_date)
due_is y h here =
    let counted = h.issued.shipped ∙ ap (λ b. if b then 1 else 0) here in
    there_is (due_of y) (due_there y.issued (omega (arith, counted)))

-- SHIPPED is one of the states from SHIPPED on.
later_shipped : (state : State) → is_among (Shipped ∷ []) state ≡ true → is_among later state ≡ true
later_shipped state is = search rules

-- RENEW/PENDING is one of the states from SHIPPED on.
later_renewing : (state : State) → is_among (RenewPending ∷ []) state ≡ true → is_among later state ≡ true
later_renewing state is = search rules

-- Each transition of a deed satisfies `Notice`.
transition_notice : (y : ResponderRecord) (transition : Transition) → IsTransition y transition → ResponderRules y → OverdueFits y
    → Notice y transition.body transition.next
transition_notice y _ (answers answer is) h fits =
    says_neither _ _ refl (λ due. refl) (λ there. search rules) (λ there. search rules)
transition_notice y _ (allows_cancel is) h fits =
    says_neither _ _ refl (λ due. refl) (λ there. search rules) (λ there. search rules)
transition_notice y _ (refuses_cancel is) h fits =
    says_neither _ _ refl (λ due. refl) (λ there. search rules) (λ there. search rules)
transition_notice y _ (ships due is) h fits =
    grants _ _ due refl (λ day. refl)
    (first_after y due fits (no_grants y.issued h.ships_first (not_shipped y.state _ is h.issued.shipped))) refl
transition_notice y _ (renews due is after) h fits = grants _ _ due refl (λ day. refl) (renewal_after y due fits after) refl
transition_notice y _ (refuses_renewal is) h fits =
    says_neither _ _ refl (λ due. refl) (λ there. search rules) (λ there. search rules)
transition_notice y _ (refuses_late is) h fits =
    says_neither _ _ refl (λ due. refl) (λ there. search rules) (λ there. search rules)
transition_notice y _ (reminds is) h fits = warns _ _ (due_is y h (later_shipped y.state is)) refl
transition_notice y _ (reminds_renewing is) h fits = warns _ _ (due_is y h (later_renewing y.state is)) refl
transition_notice y _ (recalls is) h fits = says_neither _ _ refl (λ due. refl) (λ there. search rules) (λ there. refl)
transition_notice y _ (checks_in is) h fits = says_neither _ _ refl (λ due. refl) (λ there. search rules) (λ there. refl)
transition_notice y _ (expires is) h fits = says_neither _ _ refl (λ due. refl) (λ there. search rules) (λ there. search rules)

-- A deed preserves `OverdueFits` and `GrantsBeforeOverdue`, if the record satisfies the rules of a responder.
pub acts_overdue : (y new : ResponderRecord) (deed : Deed) (today : Date) → acts y deed today ≡ Ok new → IsResponder y
    → OverdueFits y → GrantsBeforeOverdue y.issued → OverdueFits new × GrantsBeforeOverdue new.issued
acts_overdue y new deed today done kept h order =
    of_acts OverduesAreInPlace y new deed today
    (λ transition is how. notice_place y transition.body transition.next
    (transition_notice y transition is (responder_rules y kept) h) h order) done

-- ---- messages

-- A change that issues nothing preserves `OverduesAreInPlace`, if it does not enter `overdue` or leave `reminded`.
moves_overdue : (y new : ResponderRecord) → new.issued ≡ y.issued
    → (is_among overdue new.state ≡ true → is_among overdue y.state ≡ true)
    → (is_among reminded y.state ≡ true → is_among reminded new.state ≡ true) → OverdueFits y
    → GrantsBeforeOverdue y.issued → OverduesAreInPlace new
moves_overdue y new same leads stays h order = (
  record {
    dated = subst (λ apdus. AllOverdues (IsDated apdus) apdus) (sym same) h.dated;
    issued = λ due is there. ap (has_overdue due) same ∙ h.issued due (ap (last_of granted_day) (sym same) ∙ is) (leads there);
    after = λ due is there. stays (h.after due (ap (last_of granted_day) (sym same) ∙ is)
        (ap (has_overdue due) (sym same) ∙ there));
  },
  subst GrantsBeforeOverdue (sym same) order,
)

-- The ILL-Answer unfilled to a no satisfies `Notice`.
declines_notice : (y : ResponderRecord) → is_among undecided y.state ≡ true
    → Notice y (types.IllAnswer results.Unfilled) NotSupplied
declines_notice y waiting = says_neither _ _ refl (λ due. refl) (λ there. search rules) (λ there. search rules)

-- Each change by a message preserves `OverduesAreInPlace`.
change_overdue : (y new : ResponderRecord) (number : ℕ) (body : Body) → Change y number body new → OverdueFits y
    → GrantsBeforeOverdue y.issued → OverduesAreInPlace new
change_overdue y _ number _ (leaves body) = λ h order. (h, order)
change_overdue y _ number _ (requests expiry item a idle) = moves_overdue y _ refl (λ is. search rules) (λ is. search rules)
change_overdue y _ number _ (accepts c there) = moves_overdue y _ refl (λ is. search rules) (λ is. search rules)
change_overdue y _ number _ (declines c waiting left) =
    notice_place y (types.IllAnswer results.Unfilled) NotSupplied (declines_notice y waiting)
change_overdue y _ number _ (cancels above waiting) = moves_overdue y _ refl (λ is. search rules) (λ is. search rules)
change_overdue y _ number _ arrives = moves_overdue y _ refl (λ is. is) (λ is. is)
change_overdue y _ number _ (changes.renews wished above here) = moves_overdue y _ refl (λ is. search rules) (λ is. search rules)
change_overdue y _ number _ (changes.renews_late wished above here) = moves_overdue y _ refl (λ is. search rules) (λ is. refl)
change_overdue y _ number _ (returns out) = moves_overdue y _ refl (λ is. search rules) (λ is. refl)

-- A message preserves `OverdueFits` and `GrantsBeforeOverdue`.
pub takes_overdue : (y : ResponderRecord) (a : Apdu) → OverdueFits y → GrantsBeforeOverdue y.issued
    → OverdueFits (takes y a).1 × GrantsBeforeOverdue (takes y a).1.issued
takes_overdue y a = change_overdue y (takes y a).1 a.number a.body (takes_changes y a)
