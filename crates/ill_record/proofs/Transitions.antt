-- Transitions of a side, and idle sides.
use Rattle.std.proofs.Common.{rules, arith, ◌≡◌, ◌⊎◌, ◌+◌, ◌≤◌, Bool, true, List, [], ◌∷◌, ◌++◌, length}
use Rattle.std.proofs.Common.{Result, Ok, Err, refl, ap, sym, subst, ◌∙◌, inl, inr, length-append, append-nil, append_assoc}
use Rattle.std.specs.Prelude.{not, false}
use Rattle.std.proofs.lemmas.Bool.{true≢false}
use Rattle.ill_values.specs.Day.{Date}
use Rattle.ill_values.specs.declared.apdu.Apdu.{Apdu}
use Rattle.ill_core.specs.declared.refusal.Refusal.{Refusal}
use Rattle.ill_core.specs.declared.taking.Taking.{Taking}
use Rattle.ill_core.specs.declared.taking.Taking.TheVariants.{Taken}
use Rattle.ill_core.specs.declared.requester.Wish.{Wish}
use Rattle.ill_core.specs.declared.responder.Deed.{Deed}
use Rattle.ill_values.specs.TxnId.{Qualifiers}
use Rattle.ill_core.specs.Issued.{are_numbered, IssuesNext}
use Rattle.ill_core.specs.declared.state.State.TheVariants.{Idle}
use Rattle.ill_core.specs.State.{is_among}
use Rattle.ill_core.specs.Requester as requesters
use Rattle.ill_core.specs.Requester.{RequesterRecord}
use Rattle.ill_core.specs.Responder as responders
use Rattle.ill_core.specs.Responder.{ResponderRecord, rise_from, ships_first}
use Rattle.ill_core.specs.ResponderEvidence as responder_evidence
use Rattle.ill_core.specs.ResponderEvidence.{IssuesUnfilled}
use Rattle.ill_core.specs.RequesterActions as requester_actions
use Rattle.ill_core.specs.RequesterDeliveries as requester_deliveries
use Rattle.ill_core.specs.ResponderActions as responder_actions
use Rattle.ill_core.specs.ResponderDeliveries as responder_deliveries
use Rattle.ill_record.specs.declared.side.Side.{Side}
use Rattle.ill_record.specs.declared.side.Side.TheVariants as sides
use Rattle.ill_record.specs.declared.role.Role.{Role}
use Rattle.ill_record.specs.declared.role.Role.TheVariants as roles
use Rattle.ill_record.specs.declared.side.Action.{Action}
use Rattle.ill_record.specs.declared.side.Action.TheVariants as actions
use Rattle.ill_record.specs.Side.{issued_of, is_idle, standing_of, back_to, KeepsRequest, IsConsistent, idle_of}
use Rattle.ill_record.specs.Side.{idle_side, done_by, acts, takes, IsSideTransition, IsPrefix, Grows, acted, took}
use Rattle.ill_record.specs.Side.{IsAfterTransitions, GoesBack}
use Rattle.ill_record.specs.Side.{same, further}

-- The laws of ill_core on transitions: a transition keeps the transaction, and issues at most one APDU.
pub record CoreRows : Type 0 where
  pub wish_txn : (x new : RequesterRecord) (wish : Wish) → requester_actions.acts x wish ≡ Ok new → new.txn ≡ x.txn
  pub wish_issues : (x new : RequesterRecord) (wish : Wish) → requester_actions.acts x wish ≡ Ok new
      → IssuesNext x.txn x.issued new.issued
  pub deed_txn : (y new : ResponderRecord) (deed : Deed) (today : Date) → responder_actions.acts y deed today ≡ Ok new
      → new.txn ≡ y.txn
  pub deed_issues : (y new : ResponderRecord) (deed : Deed) (today : Date) → responder_actions.acts y deed today ≡ Ok new
      → IssuesNext y.txn y.issued new.issued
  pub requester_txn : (x : RequesterRecord) (a : Apdu) → (requester_deliveries.takes x a).1.txn ≡ x.txn
  pub requester_issues : (x : RequesterRecord) (a : Apdu) → (requester_deliveries.takes x a).1.issued ≡ x.issued
  pub responder_txn : (y : ResponderRecord) (a : Apdu) → (responder_deliveries.takes y a).1.txn ≡ y.txn
  pub responder_issues : (y : ResponderRecord) (a : Apdu) → IssuesUnfilled y a.body (responder_deliveries.takes y a).1

-- A list is a prefix of itself with one more APDU.
one_more : (apdus : List Apdu) (a : Apdu) → IsPrefix apdus (apdus ++ a ∷ [])
one_more apdus a = (a ∷ [], refl)

-- A list is a prefix of an equal one.
pub none_more : (old new : List Apdu) → new ≡ old → IsPrefix old new
none_more old new e = ([], e ∙ sym (append-nil old))

-- If `old` is a prefix of `new`, it has at most the length of `new`.
pub no_less : (old new : List Apdu) → IsPrefix old new → length old ≤ length new
no_less old new prefix = omega (arith, ap length prefix.1 ∙ length-append old prefix.0)

-- If `done_by` gives the side `new`, the result is a record whose side is `new`.
done_is : {R : Type 0} (make : R → Side) (r : Result R Refusal) (new : Side) → done_by make r ≡ Ok new
    → (made : R) × (r ≡ Ok made) × (make made ≡ new)
done_is make (Ok made) new e = (made, refl, search rules)
done_is make (Err refusal) new e = search rules

-- If a requester keeps its transaction, and its old messages are a prefix of the new ones, its side grows.
requester_grows : (x made : RequesterRecord) → made.txn ≡ x.txn → IsPrefix x.issued made.issued
    → Grows (sides.Requester x) (sides.Requester made)
requester_grows x made txn more = (ap (λ t. idle_of (sides.Requester (record x { txn = t }))) txn, more)

-- If a responder keeps its transaction, and its old messages are a prefix of the new ones, its side grows.
responder_grows : (y made : ResponderRecord) → made.txn ≡ y.txn → IsPrefix y.issued made.issued
    → Grows (sides.Responder y) (sides.Responder made)
responder_grows y made txn more = (ap (λ t. idle_of (sides.Responder (record y { txn = t }))) txn, more)

-- If one more APDU is issued, the old list is a prefix of the new one.
issues_more : (txn : Qualifiers) (old new : List Apdu) → IssuesNext txn old new → IsPrefix old new
issues_more txn old new more = subst (IsPrefix old) (sym more.1) (one_more old _)

-- A wish keeps the transaction of a requester, and only appends to its messages (`Grows`).
wish_grows : CoreRows → (x made : RequesterRecord) (wish : Wish) → requester_actions.acts x wish ≡ Ok made
    → Grows (sides.Requester x) (sides.Requester made)
wish_grows rows x made wish e =
    requester_grows x made (rows.wish_txn x made wish e) (issues_more x.txn x.issued made.issued (rows.wish_issues x made wish e))

-- A deed keeps the transaction of a responder, and only appends to its messages (`Grows`).
deed_grows : CoreRows → (y made : ResponderRecord) (deed : Deed) (today : Date)
    → responder_actions.acts y deed today ≡ Ok made → Grows (sides.Responder y) (sides.Responder made)
deed_grows rows y made deed today e =
    responder_grows y made (rows.deed_txn y made deed today e)
    (issues_more y.txn y.issued made.issued (rows.deed_issues y made deed today e))

-- If an action is done, the side keeps its role and transaction, and only appends to its messages (`Grows`).
acts_grow : CoreRows → (old new : Side) (action : Action) → acts old action ≡ Ok new → Grows old new
acts_grow rows (sides.Requester x) new (actions.Wish wish) e =
    let is = done_is sides.Requester (requester_actions.acts x wish) new e in
    subst (Grows (sides.Requester x)) is.2 (wish_grows rows x is.0 wish is.1)
acts_grow rows (sides.Responder y) new (actions.Deed deed today) e =
    let is = done_is sides.Responder (responder_actions.acts y deed today) new e in
    subst (Grows (sides.Responder y)) is.2 (deed_grows rows y is.0 deed today is.1)
acts_grow rows (sides.Requester x) new (actions.Deed deed today) e = search rules
acts_grow rows (sides.Responder y) new (actions.Wish wish) e = search rules

-- A responder that issues nothing, or one ILL-Answer unfilled, keeps its old list as a prefix.
unfilled_grows : (y new : ResponderRecord) (a : Apdu) → IssuesUnfilled y a.body new → IsPrefix y.issued new.issued
unfilled_grows y new a (inl none) = none_more y.issued new.issued none
unfilled_grows y new a (inr more) = subst (IsPrefix y.issued) (sym more.1) (one_more y.issued _)

-- The side after an APDU has the role and the transaction of `old`. It keeps all issued messages, and may append one
-- (`Grows`).
takes_grow : CoreRows → (old : Side) (a : Apdu) → Grows old (takes old a).1
takes_grow rows (sides.Requester x) a =
    let new = (requester_deliveries.takes x a).1 in
    requester_grows x new (rows.requester_txn x a) (none_more x.issued new.issued (rows.requester_issues x a))
takes_grow rows (sides.Responder y) a =
    let new = (responder_deliveries.takes y a).1 in
    responder_grows y new (rows.responder_txn y a) (unfilled_grows y new a (rows.responder_issues y a))

-- A side grows by each transition.
pub row_grows : CoreRows → (old new : Side) → IsSideTransition old new → Grows old new
row_grows rows old new (acted action e) = acts_grow rows old new action e
row_grows rows old new (took a e) = subst (Grows old) e (takes_grow rows old a)

-- The laws of ill_core on a responder's request: each deed and each APDU keeps it.
pub record RequestRows : Type 0 where
  pub deed : (y new : ResponderRecord) (deed : Deed) (today : Date) → responder_actions.acts y deed today ≡ Ok new
      → responder_evidence.KeepsRequest y new
  pub message : (y : ResponderRecord) (a : Apdu) → responder_evidence.KeepsRequest y (responder_deliveries.takes y a).1

-- If `not b` is true, `b` is false.
not_true : (b : Bool) → not b ≡ true → b ≡ false
not_true b h = search rules

-- If a responder keeps its request, its side does. `committed_record` says that the responder's state is still not IDLE
-- and that its request is unchanged.
keeps_request : (y new : ResponderRecord) → responder_evidence.KeepsRequest y new
    → KeepsRequest (sides.Responder y) (sides.Responder new)
keeps_request y new keeps asked =
    let committed_record = keeps (not_true _ asked) in
    (ap not committed_record.0, committed_record.1)

-- A requester has never taken a request, so any side `new` satisfies `KeepsRequest` after it.
never_asked : (x : RequesterRecord) (new : Side) → KeepsRequest (sides.Requester x) new
never_asked x new asked = absurd cc

-- An action that is done keeps the request.
acts_keep_request : RequestRows → (old new : Side) (action : Action) → acts old action ≡ Ok new → KeepsRequest old new
acts_keep_request rows (sides.Responder y) new (actions.Deed deed today) e =
    let is = done_is sides.Responder (responder_actions.acts y deed today) new e in
    subst (KeepsRequest (sides.Responder y)) is.2 (keeps_request y is.0 (rows.deed y is.0 deed today is.1))
acts_keep_request rows (sides.Responder y) new (actions.Wish wish) e = search rules
acts_keep_request rows (sides.Requester x) new action e = never_asked x new

-- An APDU keeps the request.
takes_keep_request : RequestRows → (old : Side) (a : Apdu) → KeepsRequest old (takes old a).1
takes_keep_request rows (sides.Responder y) a = keeps_request y (responder_deliveries.takes y a).1 (rows.message y a)
takes_keep_request rows (sides.Requester x) a = never_asked x (takes (sides.Requester x) a).1

-- Each transition keeps the request.
pub row_keeps_request : RequestRows → (old new : Side) → IsSideTransition old new → KeepsRequest old new
row_keeps_request rows old new (acted action e) = acts_keep_request rows old new action e
row_keeps_request rows old new (took a e) = subst (KeepsRequest old) e (takes_keep_request rows old a)

-- The law of transitions: a side grows by each transition.
abbrev pub RowsGrow : Type 0
RowsGrow = (old new : Side) → IsSideTransition old new → Grows old new

-- The law of requests: each transition keeps the request.
abbrev pub RowsKeepRequest : Type 0
RowsKeepRequest = (old new : Side) → IsSideTransition old new → KeepsRequest old new

-- The laws of ill_core on IDLE: no wish or deed leads to it, and no APDU leads a requester back.
pub record BeginningRows : Type 0 where
  pub wish : (x new : RequesterRecord) (wish : Wish) → requester_actions.acts x wish ≡ Ok new
      → is_among (Idle ∷ []) new.state ≡ false
  pub deed : (y new : ResponderRecord) (deed : Deed) (today : Date) → responder_actions.acts y deed today ≡ Ok new
      → is_among (Idle ∷ []) new.state ≡ false
  pub message : (x : RequesterRecord) (a : Apdu) → is_among (Idle ∷ []) x.state ≡ false
      → is_among (Idle ∷ []) (requester_deliveries.takes x a).1.state ≡ false

-- A side is not idle after an action that is done.
acts_begin : BeginningRows → (old new : Side) (action : Action) → acts old action ≡ Ok new → is_idle new ≡ false
acts_begin rows (sides.Requester x) new (actions.Wish wish) e =
    let is = done_is sides.Requester (requester_actions.acts x wish) new e in
    subst (λ side. is_idle side ≡ false) is.2 (rows.wish x is.0 wish is.1)
acts_begin rows (sides.Responder y) new (actions.Deed deed today) e =
    let is = done_is sides.Responder (responder_actions.acts y deed today) new e in
    subst (λ side. is_idle side ≡ false) is.2 (rows.deed y is.0 deed today is.1)
acts_begin rows (sides.Requester x) new (actions.Deed deed today) e = search rules
acts_begin rows (sides.Responder y) new (actions.Wish wish) e = search rules

-- A side that is not idle is not idle after an APDU.
takes_stay : BeginningRows → RowsKeepRequest → (old : Side) (a : Apdu) → is_idle old ≡ false → is_idle (takes old a).1 ≡ false
takes_stay rows keeps (sides.Requester x) a begun = rows.message x a begun
takes_stay rows keeps (sides.Responder y) a begun =
    not_true _ (keeps (sides.Responder y) (takes (sides.Responder y) a).1 (took a refl) (ap not begun)).0

-- A side that is not idle is not idle after a transition.
pub rows_stay : BeginningRows → RowsKeepRequest → (old new : Side) → IsSideTransition old new → is_idle old ≡ false
    → is_idle new ≡ false
rows_stay rows keeps old new (acted action e) begun = acts_begin rows old new action e
rows_stay rows keeps old new (took a e) begun = subst (λ side. is_idle side ≡ false) e (takes_stay rows keeps old a begun)

-- No answer both takes an APDU and refuses it.
not_both : (answer : Result Taking Refusal) (refusal : Refusal) → answer ≡ Ok Taken → answer ≡ Err refusal → ⊥
not_both answer refusal taken refused = search rules

-- The law of refusals: an APDU that is refused leaves the side unchanged.
abbrev pub RefusalsStay : Type 0
RefusalsStay = (side : Side) (a : Apdu) (refusal : Refusal) → (takes side a).0 ≡ Err refusal → (takes side a).1 ≡ side

-- If each role either takes an APDU or is unchanged, an APDU that is refused leaves the side unchanged.
pub refusals_stay : ((x : RequesterRecord) (a : Apdu)
    → ((requester_deliveries.takes x a).0 ≡ Ok Taken) ⊎ ((requester_deliveries.takes x a).1 ≡ x))
    → ((y : ResponderRecord) (a : Apdu)
    → ((responder_deliveries.takes y a).0 ≡ Ok Taken) ⊎ ((responder_deliveries.takes y a).1 ≡ y))
    → RefusalsStay
refusals_stay requester responder (sides.Requester x) a refusal e = elim (requester x a) [
  | inl taken ↦ absurd (not_both _ refusal taken e)
  | inr stays ↦ ap sides.Requester stays
]
refusals_stay requester responder (sides.Responder y) a refusal e = elim (responder y a) [
  | inl taken ↦ absurd (not_both _ refusal taken e)
  | inr stays ↦ ap sides.Responder stays
]

-- A prefix of a prefix is a prefix.
pub prefix_of_prefix : (old between new : List Apdu) → IsPrefix old between → IsPrefix between new → IsPrefix old new
prefix_of_prefix old between new before after =
    (before.0 ++ after.0, after.1 ∙ (ap (λ l. l ++ after.0) before.1 ∙ append_assoc old before.0 after.0))

-- If transitions lead from `old` to `new`, the issued messages of `old` are a prefix of those of `new`.
pub follows_issues : RowsGrow → (old new : Side) → IsAfterTransitions old new → IsPrefix (issued_of old) (issued_of new)
follows_issues grows old _ same = none_more (issued_of old) (issued_of old) refl
follows_issues grows old _ (further between new follows row) =
    prefix_of_prefix (issued_of old) (issued_of between) (issued_of new) (follows_issues grows old between follows)
    (grows between new row).1

-- The idle side of an idle side is the idle side itself.
pub idle_twice : (live : Side) → idle_of (idle_of live) ≡ idle_of live
idle_twice (sides.Requester x) = refl
idle_twice (sides.Responder y) = refl

-- An idle side is consistent.
pub idle_consistent : (live : Side) → IsConsistent (idle_of live)
unfolding are_numbered rise_from ships_first requesters.is_consistent responders.is_consistent
idle_consistent (sides.Requester x) = search rules
idle_consistent (sides.Responder y) = search rules

-- An idle side has issued nothing.
pub nothing_issued : (live : Side) → length (issued_of (idle_of live)) ≡ 0
nothing_issued (sides.Requester x) = refl
nothing_issued (sides.Responder y) = refl

-- The idle side of a role and a transaction is its own idle side.
pub idle_is_idle : (role : Role) (txn : Qualifiers) → idle_side role txn ≡ idle_of (idle_side role txn)
idle_is_idle roles.Requester txn = refl
idle_is_idle roles.Responder txn = refl

-- If a side goes back to the standing of an idle side without messages, it becomes the idle side.
pub becomes_idle : (old new : Side) (went : Bool) → GoesBack (back_to (standing_of (idle_of old)) 0 old) went old new
    → new ≡ idle_of old
becomes_idle (sides.Requester x) new true goes = goes.1
becomes_idle (sides.Responder y) new true goes = goes.1
becomes_idle (sides.Requester x) new false goes = absurd (true≢false (sym (goes.0.1 (idle_consistent (sides.Requester x)))))
becomes_idle (sides.Responder y) new false goes = absurd (true≢false (sym (goes.0.1 (idle_consistent (sides.Responder y)))))
