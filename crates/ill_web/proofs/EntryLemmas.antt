-- Proves what a turn enters in a diary.
use Rattle.std.proofs.Common.{◌≡◌, ◌∙◌, ◌+◌, ℕ, Bool, true, false, List, [], ◌∷◌, ◌++◌, Option, Some, None, Result, Ok}
use Rattle.std.proofs.Common.{refl, sym, ap, subst, ⊎_elim, rules}
use Rattle.std.specs.Prelude.{codes}
use Rattle.std.proofs.lemmas.List.{append_cancel_left, append_cancel_right}
use Rattle.ill_values.specs.Day.{Date, date_text}
use Rattle.ill_values.specs.TxnId.{Qualifiers}
use Rattle.ill_core.specs.Verbs.{verb_name}
use Rattle.ill_record.specs.declared.side.Action.{Action}
use Rattle.ill_record.specs.SideVerbs.{verb_of}
use Rattle.ill_saved.specs.declared.fault.DeskFault.{DeskFault}
use Rattle.ill_text.specs.Diary.{DiaryState, GrowsBy, Stamped, diary_line, diary_state, message_key, name_or_dash, stamp_text}
use Rattle.ill_text.specs.Keys.{loan_key}
use Rattle.std.specs.Fmt.{decimal}
use Rattle.ill_post.specs.declared.answer.Posted.{Posted}
use Rattle.ill_post.specs.declared.answer.Posted.TheVariants.{Changed, NoAction, Refused, Done}
use Rattle.ill_post.specs.Post.{AnswersPost, DeskState, EntersPost, FormShown, Performs, PerformsIf, is_fresh}
use Rattle.ill_web.specs.Acts.{IsTurnOf, SentForm, Turn, form_of}
use Rattle.ill_web.specs.BadTurns.{HasEntered, MisentersTurn, action_in, done_by_another, done_enters_nothing, done_names_another}
use Rattle.ill_web.specs.BadTurns.{done_on_another_day, enters_elsewhere, not_done_enters, number_in}
use Rattle.ill_web.specs.Entries.{EntersTurn, form_line, issued_at, no_entry, turn_line, verb_line}

-- ---- an entry into which nothing was entered before

-- A diary that has not failed, and into which nothing was entered, is that of `no_entry`.
none_is : (bytes : List ℕ) (failed : Bool) → bytes ≡ [] → failed ≡ false → diary_state (Some bytes) failed ≡ no_entry
none_is bytes failed none fine =
    ap (λ bytes. diary_state (Some bytes) failed) none ∙ ap (λ failed. diary_state (Some []) failed) fine

-- If an entry of `line` beside `beside` had entered nothing before, and `EntersPost` holds of it, then `EntersTurn`
-- holds. The premises say that `at` is `beside`, and `own` is `line`.
pub enters_turn : (came : Result Posted DeskFault) (beside at line own : List ℕ) (bytes : List ℕ) (failed : Bool)
    (diary : DiaryState) → at ≡ beside → own ≡ line → bytes ≡ [] → failed ≡ false
    → EntersPost came own (diary_state (Some bytes) failed) diary
    → EntersTurn came beside line (record { beside = at; diary = diary })
enters_turn came beside at line own bytes failed diary there same none fine enters = (
  there,
  subst (λ line. EntersPost came line no_entry diary) same
      (subst (λ old. EntersPost came own old diary) (none_is bytes failed none fine) enters),
)

-- ---- what was entered

-- If the diary has not failed and grew from nothing by `line`, exactly `line` was entered.
grown : (failed : Bool) (line : List ℕ) (bytes : Option (List ℕ)) → failed ≡ false → GrowsBy failed line (Some []) bytes
    → bytes ≡ Some line
grown false line (Some bytes) e grows = ap (λ bytes. Some bytes) grows
grown false line None e grows = absurd grows
grown true line bytes e grows = search (rules, e)

-- If an answer other than `Done` came of a form, nothing was entered.
not_done : (came : Result Posted DeskFault) (posted : Posted) (line : List ℕ) (diary : DiaryState) → came ≡ Ok posted
    → (posted ≡ Done → ⊥) → EntersPost came line no_entry diary → diary ≡ no_entry
not_done came posted line diary e other enters =
    at posted other (subst (λ came. EntersPost came line no_entry diary) e enters) where
      -- Each answer but `Done` enters nothing, by `EntersPost`.
      at : (posted : Posted) → (posted ≡ Done → ⊥) → EntersPost (Ok posted) line no_entry diary → diary ≡ no_entry
      at Changed other enters = enters
      at NoAction other enters = enters
      at (Refused fault) other enters = enters
      at Done other enters = absurd (other refl)

-- If `Done` came of a form, and the diary has not failed, exactly `line` was entered.
done : (came : Result Posted DeskFault) (line : List ℕ) (diary : DiaryState) → came ≡ Ok Done → diary.has_failed ≡ false
    → EntersPost came line no_entry diary → diary.bytes ≡ Some line
done came line diary e success enters =
    grown diary.has_failed line diary.bytes success (subst (λ came. EntersPost came line no_entry diary) e enters).0

-- ---- the action of a form that was done

-- If a form was performed and `Done` came, it has an action.
performed : (action : Option Action) (txn : Qualifiers) (old new : DeskState) (came : Result Posted DeskFault) → came ≡ Ok Done
    → Performs action txn old came new → (one : Action) × (action ≡ Some one)
performed None txn old new came e performs = search (rules, e, performs.0)
performed (Some one) txn old new came e performs = (one, refl)

-- If `Done` came of `PerformsIf`, the form has an action. A form that is not fresh is never `Done`.
performed_if : (fresh : Bool) (form : FormShown) (old new : DeskState) (came : Result Posted DeskFault) → came ≡ Ok Done
    → PerformsIf fresh form old came new → (one : Action) × (form.action ≡ Some one)
performed_if true form old new came e performs = performed form.action form.txn old new came e performs
performed_if false form old new came e performs = search (rules, e, performs.0)

-- If `Done` came of `AnswersPost`, the form has an action.
has_action : (form : FormShown) (old new : DeskState) (came : Result Posted DeskFault) → came ≡ Ok Done
    → AnswersPost form old came new → (one : Action) × (form.action ≡ Some one)
has_action form old new came e answers =
    ⊎_elim
    (λ performs. performed_if (is_fresh form old.live) form old new came e performs)
    (λ memory. search (rules, e, memory.0))
    answers

-- ---- the line of a turn

-- If a turn was done and has entered `line`, this is the line of its `action` (`verb_line`).
entered_own : (stamp : Stamped) (sent : SentForm) (turn : Turn) (line : List ℕ) (action : Action) → IsTurnOf stamp sent turn
    → action_in stamp sent turn ≡ Some action → HasEntered turn line
    → line ≡ verb_line stamp sent.loan.txn action (issued_at sent.loan.txn turn.old.live)
entered_own stamp sent turn line action (at, answers, (beside, enters)) is (came, success, has) =
    let form = form_of stamp.day turn.old.live.role sent in
    let own = done turn.came (form_line stamp form turn.old.live) turn.entered.diary came success enters in
    same_some (sym has ∙ own)
    ∙ ap (λ action. turn_line stamp sent.loan.txn action (issued_at sent.loan.txn turn.old.live)) is where
      -- If `Some one` equals `Some other`, `one` equals `other`.
      same_some : {one other : List ℕ} → ◌≡◌ {A = Option (List ℕ)} (Some one) (Some other) → one ≡ other
      same_some e = search (rules, e)

-- A text that ends with `byte` is not empty.
not_empty : (front back : List ℕ) (byte : ℕ) → [] ≡ front ++ (back ++ (byte ∷ [])) → ⊥
not_empty [] [] byte e = search (rules, e)
not_empty [] (first ∷ back) byte e = search (rules, e)
not_empty (first ∷ front) back byte e = search (rules, e)

-- Two lines that differ at most in the name of a user have one name.
same_name : (day : Date) (one other : Option (List ℕ)) (txn : Qualifiers) (what : List ℕ) (number : ℕ)
    → diary_line day one txn what number ≡ diary_line day other txn what number → name_or_dash one ≡ name_or_dash other
same_name day one other txn what number e =
    let stamps = append_cancel_right (stamp_text day one) (stamp_text day other) _ e in
    let after_day = append_cancel_left (date_text day) _ _ stamps in
    append_cancel_right (name_or_dash one) (name_or_dash other) (codes " ") (append_cancel_left (codes " ") _ _ after_day)

-- Two lines that differ at most in their day have one day.
same_day : (one other : Date) (by : Option (List ℕ)) (txn : Qualifiers) (what : List ℕ) (number : ℕ)
    → diary_line one by txn what number ≡ diary_line other by txn what number → date_text one ≡ date_text other
same_day one other by txn what number e =
    append_cancel_right (date_text one) (date_text other) _ (append_cancel_right (stamp_text one by) (stamp_text other by) _ e)

-- Two lines that differ at most in their verb have one verb.
same_verb : (day : Date) (by : Option (List ℕ)) (txn : Qualifiers) (one other : List ℕ) (number : ℕ)
    → diary_line day by txn one number ≡ diary_line day by txn other number → one ≡ other
same_verb day by txn one other number e =
    let keys = append_cancel_right (message_key txn one number) (message_key txn other number) (codes "\n")
    (append_cancel_left (stamp_text day by) _ _ e) in
    append_cancel_right one other (codes " " ++ decimal number) (append_cancel_left (loan_key txn) _ _ keys)

-- If a turn is that of a form, it has no wrong entry. Each case compares what was entered with the line of its action.
pub no_turn_misenters : (stamp : Stamped) (sent : SentForm) (turn : Turn) → IsTurnOf stamp sent turn
    → MisentersTurn stamp sent turn → ⊥
no_turn_misenters stamp sent turn (at, answers, (beside, enters)) (not_done_enters posted other came some) =
    some (ap (λ diary. diary.bytes) (not_done turn.came posted _ turn.entered.diary came other enters))
no_turn_misenters stamp sent turn is (done_enters_nothing has) =
    let one = has_action (form_of stamp.day turn.old.live.role sent) turn.old turn.new turn.came has.0 is.1 in
    let key = message_key sent.loan.txn (verb_name (verb_of one.0)) (number_in sent turn) in
    not_empty (stamp_text stamp.day stamp.by) key 0x0A (entered_own stamp sent turn [] one.0 is one.1 has)
no_turn_misenters stamp sent turn is (done_by_another action of other differs has) =
    differs (same_name stamp.day other stamp.by sent.loan.txn (verb_name (verb_of action)) (number_in sent turn)
    (entered_own stamp sent turn _ action is of has))
no_turn_misenters stamp sent turn is (done_on_another_day action of other differs has) =
    differs (same_day other stamp.day stamp.by sent.loan.txn (verb_name (verb_of action)) (number_in sent turn)
    (entered_own stamp sent turn _ action is of has))
no_turn_misenters stamp sent turn is (done_names_another action of other differs has) =
    differs (same_verb stamp.day stamp.by sent.loan.txn (verb_name other) (verb_name (verb_of action)) (number_in sent turn)
    (entered_own stamp sent turn _ action is of has))
no_turn_misenters stamp sent turn (at, answers, (beside, enters)) (enters_elsewhere differs) = differs (beside ∙ sym at)
