-- Proves which requests have a turn at a desk, and that a turn is the one of its form.
use Rattle.std.proofs.Common.{◌≡◌, ◌⊎◌, inl, inr, ℕ, Bool, true, false, List, Option, Some, None, Result, Ok, Err, refl, sym, ap}
use Rattle.std.proofs.Common.{subst, ◌∙◌, rules}
use Rattle.std.specs.Io.KnownBytes.{Consumes}
use Rattle.ill_browser.specs.declared.fault.VisitFault.{VisitFault}
use Rattle.ill_browser.specs.declared.wanted.Wanted.{Wanted}
use Rattle.ill_browser.specs.BadAsking.{MisreadsVisit, look_changes}
use Rattle.ill_browser.specs.OwnForm.{IsOwnForm}
use Rattle.ill_browser.specs.Visit.{RulesShown, VisitShown, body_size, is_look}
use Rattle.ill_browser.specs.Wanted.{Answers, Asked, Desks, Loan, Slip, Figures, Act, Note, asked_of, is_change, wanted_of}
use Rattle.ill_web.specs.declared.operator.Operator.{Operator}
use Rattle.ill_web.specs.declared.trouble.Trouble.{Trouble}
use Rattle.ill_web.specs.declared.trouble.Trouble.TheVariants.{Refused}
use Rattle.ill_post.specs.declared.answer.Posted.{Posted}
use Rattle.ill_post.specs.Post.{DeskState}
use Rattle.ill_text.specs.Diary.{Stamped}
use Rattle.ill_web.specs.Acts.{ActsIf, ActsIn, AnswersSent, IsTurnOf, SentForm, TellsAnswer, Turn, may_act}
use Rattle.ill_web.specs.Entries.{stamp_on}
use Rattle.ill_web.specs.Replies.{ActsHere, AnswersAt, AnswersRequest, Follows, HouseShown, IsReply, Replies, TakesTurn}
use Rattle.ill_web.specs.Replies.{rules_of}

-- The law that no request is misread.
abbrev pub NoneMisread : Type 0
NoneMisread = (rules : RulesShown) (v : VisitShown) (body : List ℕ) → MisreadsVisit rules v body (wanted_of rules v body) → ⊥

-- The law that a change is asked for by a form of a page of this program.
abbrev pub AskedByOwn : Type 0
AskedByOwn = (rules : RulesShown) (v : VisitShown) (body : List ℕ) (asked : Asked) →
    wanted_of rules v body ≡ Ok asked → is_change asked ≡ true → IsOwnForm rules v body

-- `Some turn` is not None: if they are equal, all follows.
no_turn : {A : Type 0} (turn : Turn) → Some turn ≡ None → A
no_turn turn e = absurd (search (rules, e))

-- If what is asked for is no change, it has no turn.
pub only_changes : (house : HouseShown) (asked : Asked) (turn : Option Turn) (result : Result (List ℕ) Trouble)
    → AnswersAt house asked turn result → is_change asked ≡ false → turn ≡ None
only_changes house (Desks find) turn result answers e = answers.0
only_changes house (Loan loan) turn result answers e = answers.0
only_changes house (Slip loan) turn result answers e = answers.0
only_changes house (Figures from to) turn result answers e = answers.0
only_changes house (Note loan note) turn result answers e = answers.0
only_changes house (Act loan stamp words) turn result answers e = absurd (search (rules, e))

-- If `w` was read, `body` was read of the input, from `left` to `rest`, and asks for `w`.
read : (size : Result ℕ VisitFault) (wanted : List ℕ → Result Asked VisitFault) (left rest : Option (List ℕ)) (w : Wanted)
    → Answers size wanted left rest (Ok w) → (body : List ℕ) × (wanted body ≡ Ok (asked_of w)) × Consumes left rest body
read (Err refusal) wanted left rest w (e, same) = absurd (search (rules, e))
read (Ok size) wanted left rest w (inl (body, many, lost, reads)) = (body, reads, lost)
read (Ok size) wanted left rest w (inr breaks) = absurd breaks

-- If a request looks at a page and asks for `asked`, `asked` is no change: else it was misread.
look_changes_nothing : NoneMisread → (r : RulesShown) (v : VisitShown) (body : List ℕ) (asked : Asked) → is_look v ≡ true
    → wanted_of r v body ≡ Ok asked → (is : Bool) → is_change asked ≡ is → is_change asked ≡ false
look_changes_nothing law r v body asked look e false is = is
look_changes_nothing law r v body asked look e true is =
    absurd (law r v body (subst (λ result. MisreadsVisit r v body result) (sym e) (look_changes asked is look)))

-- If a look is read as `wanted`, and this is answered (`Follows`), it has no turn.
look_answered : NoneMisread → (operator : Operator) (v : VisitShown) (left rest : Option (List ℕ)) (turn : Option Turn)
    (result : Result (List ℕ) Trouble) (wanted : Result Wanted VisitFault) → is_look v ≡ true
    → Answers (body_size (rules_of operator) v) (wanted_of (rules_of operator) v) left rest wanted
    → Follows operator v.user wanted turn result → turn ≡ None
look_answered law operator v left rest turn result (Err refusal) look answers (none, e) = none
look_answered law operator v left rest turn result (Ok w) look answers (inl (none, e)) = none
look_answered law operator v left rest turn result (Ok w) look answers (inr (files, found, at)) =
    let was = read _ (wanted_of (rules_of operator) v) left rest w answers in
    only_changes (record { today = operator.today; user = v.user; files = files }) (asked_of w) turn result at
    (look_changes_nothing law (rules_of operator) v was.0 (asked_of w) look was.1 (is_change (asked_of w)) refl)

-- If a request looks at a page, it has no turn (`Replies`).
pub look_has_none : NoneMisread → (operator : Operator) (v : VisitShown) (left rest : Option (List ℕ)) (turn : Option Turn)
    (reply : List ℕ) → is_look v ≡ true → Replies operator v left rest turn reply → turn ≡ None
look_has_none law operator v left rest turn reply look (result, (wanted, answers, follows), is) =
    look_answered law operator v left rest turn result wanted look answers follows

-- If what is asked for has a turn, it is a change.
turn_changes : (house : HouseShown) (asked : Asked) (turn : Turn) (result : Result (List ℕ) Trouble)
    → AnswersAt house asked (Some turn) result → (is : Bool) → is_change asked ≡ is → is_change asked ≡ true
turn_changes house asked turn result at true is = is
turn_changes house asked turn result at false is = no_turn turn (only_changes house asked (Some turn) result at is)

-- If a request is read as `wanted`, and this has a turn, an own form was read of the input.
own_form_answered : AskedByOwn → (operator : Operator) (v : VisitShown) (left rest : Option (List ℕ)) (turn : Turn)
    (result : Result (List ℕ) Trouble) (wanted : Result Wanted VisitFault)
    → Answers (body_size (rules_of operator) v) (wanted_of (rules_of operator) v) left rest wanted
    → Follows operator v.user wanted (Some turn) result
    → (body : List ℕ) × IsOwnForm (rules_of operator) v body × Consumes left rest body
own_form_answered law operator v left rest turn result (Err refusal) answers (none, e) = no_turn turn none
own_form_answered law operator v left rest turn result (Ok w) answers (inl (none, e)) = no_turn turn none
own_form_answered law operator v left rest turn result (Ok w) answers (inr (files, found, at)) =
    let was = read _ (wanted_of (rules_of operator) v) left rest w answers in (
      was.0,
      law (rules_of operator) v was.0 (asked_of w) was.1
          (turn_changes (record { today = operator.today; user = v.user; files = files }) (asked_of w) turn result at
          (is_change (asked_of w)) refl),
      was.2,
    )

-- If a request has a turn (`Replies`), an own form was read of the input (`IsOwnForm`).
pub own_has_turn : AskedByOwn → (operator : Operator) (v : VisitShown) (left rest : Option (List ℕ)) (turn : Turn)
    (reply : List ℕ) → Replies operator v left rest (Some turn) reply
    → (body : List ℕ) × IsOwnForm (rules_of operator) v body × Consumes left rest body
own_has_turn law operator v left rest turn reply (result, (wanted, answers, follows), is) =
    own_form_answered law operator v left rest turn result wanted answers follows

-- If a form acts and has a turn, it is the turn of this form (`IsTurnOf`).
turn_of_form : (stamp : Stamped) (sent : SentForm) (may : Bool) (turn : Turn) (result : Result (List ℕ) Trouble)
    → ActsIf may stamp sent (Some turn) result → IsTurnOf stamp sent turn
turn_of_form stamp sent false turn result (none, e) = no_turn turn none
turn_of_form stamp sent true turn result (of, told) = of

-- If what is asked for has a turn, it is an act. The turn is that of its form (`IsTurnOf`).
act_of_turn : (house : HouseShown) (asked : Asked) (turn : Turn) (result : Result (List ℕ) Trouble)
    → AnswersAt house asked (Some turn) result
    → (sent : SentForm) × (asked ≡ Act sent.loan sent.stamp sent.words) × IsTurnOf (stamp_on house.today house.user) sent turn
act_of_turn house (Desks find) turn result (none, at) = no_turn turn none
act_of_turn house (Loan loan) turn result (none, at) = no_turn turn none
act_of_turn house (Slip loan) turn result (none, at) = no_turn turn none
act_of_turn house (Figures from to) turn result (none, at) = no_turn turn none
act_of_turn house (Note loan note) turn result (none, at) = no_turn turn none
act_of_turn house (Act loan stamp words) turn result (inl (named, acts)) =
    let sent : SentForm = record { loan = loan; stamp = stamp; words = words } in
    (sent, refl, turn_of_form (stamp_on house.today house.user) sent (may_act house.user) turn result acts)
act_of_turn house (Act loan stamp words) turn result (inr (named, none, e)) = no_turn turn none

-- If a request is read as `wanted`, and this has a turn, it is the turn of its form.
form_answered : (operator : Operator) (v : VisitShown) (left rest : Option (List ℕ)) (turn : Turn)
    (result : Result (List ℕ) Trouble) (wanted : Result Wanted VisitFault)
    → Answers (body_size (rules_of operator) v) (wanted_of (rules_of operator) v) left rest wanted
    → Follows operator v.user wanted (Some turn) result → TakesTurn operator v left rest turn
form_answered operator v left rest turn result (Err refusal) answers (none, e) = no_turn turn none
form_answered operator v left rest turn result (Ok w) answers (inl (none, e)) = no_turn turn none
form_answered operator v left rest turn result (Ok w) answers (inr (files, found, at)) =
    let was = read _ (wanted_of (rules_of operator) v) left rest w answers in
    let acted = act_of_turn (record { today = operator.today; user = v.user; files = files }) (asked_of w) turn result at in
    (was.0, acted.0, was.2, was.1 ∙ ap (λ asked. Ok asked) acted.1, acted.2)

-- If a request has a turn (`Replies`), it is the turn of its form (`TakesTurn`).
pub turn_is_of_form : (operator : Operator) (v : VisitShown) (left rest : Option (List ℕ)) (turn : Turn)
    (reply : List ℕ) → Replies operator v left rest (Some turn) reply → TakesTurn operator v left rest turn
turn_is_of_form operator v left rest turn reply (result, (wanted, answers, follows), is) =
    form_answered operator v left rest turn result wanted answers follows

-- If `size` is the refusal `refusal`, this is the result of the reading, and nothing is read.
refused_answers : (size : Result ℕ VisitFault) (wanted : List ℕ → Result Asked VisitFault) (left rest : Option (List ℕ))
    (refusal : VisitFault) (result : Result Wanted VisitFault) → size ≡ Err refusal → Answers size wanted left rest result
    → (result ≡ Err refusal) × (rest ≡ left)
refused_answers size wanted left rest refusal result e answers =
    subst (λ size. Answers size wanted left rest result → (result ≡ Err refusal) × (rest ≡ left)) (sym e) (λ it. it) answers

-- If a request was read as a refusal, it has no turn. The result is the trouble with this refusal.
refused_follows : (operator : Operator) (user : List ℕ) (turn : Option Turn) (result : Result (List ℕ) Trouble)
    (refusal : VisitFault) (wanted : Result Wanted VisitFault) → wanted ≡ Err refusal
    → Follows operator user wanted turn result → (turn ≡ None) × (result ≡ Err (Refused refusal))
refused_follows operator user turn result refusal wanted e follows =
    subst (λ wanted. Follows operator user wanted turn result) e follows

-- If `body_size` refuses a request, it has no turn, nothing is read, and the reply tells the refusal.
pub refused_is_told : (operator : Operator) (v : VisitShown) (left rest : Option (List ℕ)) (turn : Option Turn)
    (reply : List ℕ) (refusal : VisitFault) → body_size (rules_of operator) v ≡ Err refusal
    → Replies operator v left rest turn reply
    → (turn ≡ None) × (rest ≡ left) × IsReply operator.today (Err (Refused refusal)) reply
refused_is_told operator v left rest turn reply refusal e (result, (wanted, answers, follows), is) =
    let read = refused_answers _ (wanted_of (rules_of operator) v) left rest refusal wanted e answers in
    let then = refused_follows operator v.user turn result refusal wanted read.0 follows in
    (then.0, read.1, subst (λ result. IsReply operator.today result reply) then.1 is)

-- If a form was answered at a desk, and the answer was told, the form has a turn there (`ActsIn`).
pub has_turn : (stamp : Stamped) (sent : SentForm) (old new : DeskState) (answer : Result Posted Trouble)
    (result : Result (List ℕ) Trouble) → AnswersSent stamp sent old answer new
    → TellsAnswer stamp.day sent.loan answer result → (turn : Option Turn) × ActsIn stamp sent turn result
has_turn stamp sent old new answer result (came, entered, answers, enters, of) told =
    let turn : Turn = record { file = sent.loan.desk; old = old; new = new; came = came; entered = entered } in
    (Some turn, ((refl, answers, enters), subst (λ answer. TellsAnswer stamp.day sent.loan answer result) of told))
