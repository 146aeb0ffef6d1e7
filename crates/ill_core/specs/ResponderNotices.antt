-- Defines the questions in a responder's record, and the order of the APDUs that it issued. Then it defines the
-- requester's APDUs that would not change the record (this profile's own).
use Rattle.std.specs.Prelude.{◌≡◌, ◌⊎◌, ℕ, ◌<◌, Bool, true, false, not, ◌||◌, ◌==◌, nat_lt, List, [], ◌∷◌, length, Option, Some}
use Rattle.std.specs.Prelude.{None}
use Rattle.std.specs.List.{list_any}
use Rattle.ill_values.specs.Day.{Date}
use Rattle.ill_values.specs.declared.apdu.Apdu.{Apdu}
use Rattle.ill_values.specs.Body.{Body}
use Rattle.ill_values.specs.declared.apdu.BodyWith.TheVariants as types
use Rattle.ill_core.specs.declared.state.State.{State}
use Rattle.ill_core.specs.declared.state.State.TheVariants as states
use Rattle.ill_core.specs.State.{is_among}
use Rattle.ill_core.specs.Rules.{implies}
use Rattle.ill_core.specs.Dates.{is_same_day, is_before}
use Rattle.ill_core.specs.Numbers.{is_equal_number, is_at_most}
use Rattle.ill_values.specs.Bodies.{is_shipped}
use Rattle.ill_core.specs.Issued.{message, has_message_with}
use Rattle.ill_core.specs.Responder.{ResponderRecord, due_of, outstanding_number, later}
use Rattle.ill_core.specs.ResponderEvidence.{Question, MayCancel, MayRenew, last_asked, answers_to}

-- ---- questions

-- Returns true if the question with this number was answered.
abbrev pub has_answered : Question → ResponderRecord → ℕ → Bool
has_answered question y number = list_any (λ n. n == number) (answers_to question y.issued)

-- The question with this number is the last one taken, or was answered.
abbrev pub WasAsked : Question → ResponderRecord → ℕ → Type 0
WasAsked question y number = (last_asked question y ≡ Some number) ⊎ (has_answered question y number ≡ true)

-- Lists the states in which the last question may have no answer. It waits, or the item came back first.
abbrev pub unanswered : Question → List State
unanswered MayCancel = states.CancelPending ∷ []
unanswered MayRenew = states.RenewPending ∷ states.RenewOverdue ∷ states.Returned ∷ states.CheckedIn ∷ []

-- The last question was answered, unless the state is one of `unanswered question`.
abbrev pub HasAnsweredLast : Question → ResponderRecord → Type 0
HasAnsweredLast question y =
    (number : ℕ) → last_asked question y ≡ Some number → is_among (unanswered question) y.state ≡ false →
    has_answered question y number ≡ true

-- ---- recalls, granted dates and overdues, and their order

-- Returns true if the APDU is a Recall.
abbrev pub is_recall : Body → Bool
is_recall types.Recall = true
is_recall other = false

-- In RECALL the list has a Recall. If the list has a Recall, the state is RECALL, RETURNED or CHECKED-IN.
pub record RecallFits (y : ResponderRecord) : Type 0 where
  pub issued : is_among (states.Recall ∷ []) y.state ≡ true → has_message_with is_recall y.issued ≡ true
  pub after : has_message_with is_recall y.issued ≡ true →
      is_among (states.Recall ∷ states.Returned ∷ states.CheckedIn ∷ []) y.state ≡ true

-- Every Shipped has a lower number than every Recall.
abbrev pub ShipsBeforeRecall : List Apdu → Type 0
ShipsBeforeRecall apdus =
    (m n : ℕ) (a b : Apdu) → message apdus m ≡ Some a → message apdus n ≡ Some b →
    is_shipped a.body ≡ true → is_recall b.body ≡ true → m < n

-- A due date that an APDU grants, with the number that the APDU answers. A Shipped counts as an answer to number 0.
pub data Grant : Type 0 where
  grant : (answers : ℕ) → (due : Date) → Grant

-- Returns the grant of a Shipped or a Renew-Answer yes, or `None`.
abbrev pub grant_of : Body → Option Grant
grant_of (types.Shipped due) = Some (grant 0 due)
grant_of (types.RenewAnswer answers (Some due)) = Some (grant answers due)
grant_of other = None

-- If one granted date answers a higher number than another, it is the later date.
abbrev pub GrantsRise : List Apdu → Type 0
GrantsRise apdus =
    (i j m n : ℕ) (a b : Apdu) (d e : Date) → message apdus i ≡ Some a → message apdus j ≡ Some b →
    grant_of a.body ≡ Some (grant m d) → grant_of b.body ≡ Some (grant n e) → m < n → is_before d e ≡ true

-- Returns true if the APDU is an Overdue for `due`.
abbrev pub is_overdue_of : Date → Body → Bool
is_overdue_of due (types.Overdue day) = is_same_day day due
is_overdue_of due other = false

-- If the list has an Overdue, there is a due date. The date of an Overdue is not after the due date. In OVERDUE and
-- RENEW/OVERDUE the list has an Overdue for the due date. If the list has an Overdue for the due date, the state is
-- OVERDUE, RENEW/OVERDUE, RECALL, RETURNED or CHECKED-IN.
pub record OverdueFits (y : ResponderRecord) : Type 0 where
  pub dated : (n : ℕ) (a : Apdu) (day : Date) → message y.issued n ≡ Some a → a.body ≡ types.Overdue day →
      (due : Date) × (due_of y ≡ Some due) × (is_before due day ≡ false)
  pub issued : (due : Date) → due_of y ≡ Some due →
      is_among (states.Overdue ∷ states.RenewOverdue ∷ []) y.state ≡ true →
      has_message_with (is_overdue_of due) y.issued ≡ true
  pub after : (due : Date) → due_of y ≡ Some due → has_message_with (is_overdue_of due) y.issued ≡ true →
      is_among (states.Overdue ∷ states.RenewOverdue ∷ states.Recall ∷ states.Returned ∷ states.CheckedIn ∷ [])
      y.state ≡ true

-- Every APDU that grants a due date has a lower number than every Overdue for this date.
abbrev pub GrantsBeforeOverdue : List Apdu → Type 0
GrantsBeforeOverdue apdus =
    (m n c : ℕ) (a b : Apdu) (due day : Date) → message apdus m ≡ Some a → message apdus n ≡ Some b →
    grant_of a.body ≡ Some (grant c due) → b.body ≡ types.Overdue day → is_same_day day due ≡ true → m < n

-- ---- messages that change nothing

-- Lists the states in which the request is open, and no Cancel waits for its answer.
abbrev pub undecided : List State
undecided = states.InProcess ∷ states.Conditional ∷ []

-- Lists the states in which the item is lent, and no Returned was taken.
abbrev pub lent : List State
lent =
    states.Shipped ∷ states.RenewPending ∷ states.Overdue ∷ states.RenewOverdue ∷ states.Recall ∷ []

-- Returns true if an APDU with `number` and this body would not change record `y` now.
abbrev pub has_heard : ResponderRecord → ℕ → Body → Bool
has_heard y number (types.IllRequest expiry item) = not (is_among (states.Idle ∷ []) y.state)
has_heard y number (types.ConditionalReply answers true) = not (is_equal_number answers (outstanding_number y))
has_heard y number (types.ConditionalReply answers false) =
    not (is_among undecided y.state) || not (nat_lt (length y.issued) 255)
has_heard y number types.Cancel = not (is_among undecided y.state) || is_at_most number y.last_cancel
has_heard y number types.Received = implies (is_among later y.state) y.received
has_heard y number (types.Renew wished) =
    not (is_among (states.Shipped ∷ states.Overdue ∷ []) y.state) || is_at_most number y.last_renew
has_heard y number types.Returned = not (is_among lent y.state)
has_heard y number other = true

-- Returns true if, after `first`, `second` may change a record that it would not have changed before.
abbrev pub reopens : Body → Body → Bool
reopens (types.IllRequest expiry item) (types.ConditionalReply answers false) = true
reopens (types.IllRequest expiry item) types.Cancel = true
reopens first second = false
