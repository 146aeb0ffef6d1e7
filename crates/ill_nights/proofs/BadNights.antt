-- Proves that no message is held back, that a lost message file is not carried, and that files which are apart are not
-- converged.
use Rattle.std.proofs.Common.{◌≡◌, inl, inr, ℕ, zero, suc, true, if◌then◌else◌, List, [], ◌∷◌, Some, sym, ap, ◌∙◌, subst}
use Rattle.std.proofs.Common.{true≢false}
use Rattle.std.specs.List.{slice_get}
use Rattle.ill_values.specs.TxnId.{Qualifiers}
use Rattle.ill_values.specs.declared.apdu.Apdu.{Apdu}
use Rattle.ill_core.specs.Requester.{RequesterRecord}
use Rattle.ill_core.specs.Responder.{ResponderRecord}
use Rattle.ill_core.specs.State.{is_among}
use Rattle.ill_record.specs.declared.role.Role.TheVariants as who
use Rattle.ill_record.specs.declared.side.Side.{Side}
use Rattle.ill_record.specs.declared.side.Side.TheVariants as sides
use Rattle.ill_record.specs.Ranges.{Each}
use Rattle.ill_record.specs.Side.{issued_of}
use Rattle.ill_record.specs.RecordsV2.{records_at}
use Rattle.ill_saved.specs.ManySides.{side_for}
use Rattle.ill_night.specs.declared.verdict.MessageFile.{MessageFile}
use Rattle.ill_night.specs.declared.verdict.Verdict.{Verdict}
use Rattle.ill_night.specs.Outbox.{is_asked}
use Rattle.ill_world.specs.Round.{faced_in}
use Rattle.ill_runs.specs.Libraries.{Libraries, Library}
use Rattle.ill_runs.specs.MessageFile.{IsOneOf, message_of}
use Rattle.ill_runs.proofs.BadLibraries.{not_read, read_once}
use Rattle.ill_runs.proofs.Lists.{each_at}
use Rattle.ill_nights.specs.BadNights.{AreApartIn, unread, apart, HoldsBack, held_back, not_silent, IsLeftUndone, undone}
use Rattle.ill_nights.specs.BadNights.{IsLost, missing, further, moved}
use Rattle.ill_nights.specs.Messages.{ConvergedOrAtRest, messages_for, sent_by}
use Rattle.ill_nights.specs.Nights.{AreDone, AreConvergedIn, IsCarried, IsDone, LeftOf}

-- A lost message file was not carried.
pub none_lost : (txn : Qualifiers) (left came : List Apdu) → IsLost txn left came → IsCarried txn left came → ⊥
none_lost txn left came (missing a one none) carried = none (subst (λ apdus. IsOneOf apdus a) (sym carried) one)
none_lost txn left came (further a one none) carried = none (subst (λ apdus. IsOneOf apdus a) carried one)
none_lost txn left came (moved n differ) carried = differ (ap (λ apdus. slice_get apdus n) carried)

-- The messages of a night are not held back.
pub none_held_back : (txn : Qualifiers) (after : Library) (asking left : List Apdu) → HoldsBack txn after asking left
    → LeftOf txn after asking left → ⊥
none_held_back txn after asking left (held_back held a file wants one none) (own, read, all) =
    let same : own ≡ held = read_once (records_at after.file) own held read file in
    none (subst (λ apdus. IsOneOf apdus a) (sym (all ∙ ap (λ h. sent_by (is_asked asking txn) (side_for txn h)) same
    ∙ ap (λ b. if b then issued_of (side_for txn held) else []) wants)) one)
none_held_back txn after asking left (not_silent held a file silent one) (own, read, all) =
    let same : own ≡ held = read_once (records_at after.file) own held read file in
    let nothing : messages_for txn left ≡ [] = all ∙ ap (λ h. sent_by (is_asked asking txn) (side_for txn h)) same
    ∙ ap (λ b. if b then issued_of (side_for txn held) else []) silent in
    empty (subst (λ apdus. IsOneOf apdus a) nothing one)
  where
    -- An empty list has no item.
    empty : IsOneOf [] a → ⊥
    empty (n, there) = absurd cc

-- If each message file of the transaction is done with, none is left undone.
pub none_undone : (txn : Qualifiers) (message_files : List MessageFile) (verdicts : List Verdict)
    → IsLeftUndone txn message_files verdicts
    → AreDone txn message_files verdicts → ⊥
none_undone txn message_files verdicts (undone n message_file verdict a here judged one not_done) done =
    not_done (at message_files verdicts n here judged done)
  where
    -- If the message file at `n` has a message of `txn`, its verdict at `n` says that it is done with.
    at : (message_files : List MessageFile) (verdicts : List Verdict) (n : ℕ) → slice_get message_files n ≡ Some message_file
        → slice_get verdicts n ≡ Some verdict → AreDone txn message_files verdicts → IsDone verdict
    at [] verdicts n here judged done = absurd cc
    at (first ∷ message_files) [] n here judged done = absurd cc
    at (first ∷ message_files) (own ∷ verdicts) zero here judged done =
        let same : first ≡ message_file = cc in
        let alike : own ≡ verdict = cc in
        subst IsDone alike
        (each_at (λ b. IsDone own) (messages_for txn (message_of message_file)) one.0 a
        (subst (λ (m : MessageFile). Each (λ b. IsDone own) (messages_for txn (message_of m))) same done.0) one.1)
    at (first ∷ message_files) (own ∷ verdicts) (suc n) here judged done = at message_files verdicts n here judged done.1

-- The states of two sides that are converged or at rest face each other.
faces : (x : RequesterRecord) (y : ResponderRecord) → ConvergedOrAtRest (sides.Requester x) (sides.Responder y)
    → is_among (faced_in x.state) y.state ≡ true
faces x y (inl step) = step.faced
faces x y (inr rest) = rest.faced

-- Files that are apart are not converged.
pub none_apart : (txn : Qualifiers) (libraries : Libraries) → AreApartIn txn libraries → AreConvergedIn txn libraries → ⊥
none_apart txn libraries (unread who.Requester fault is) step = not_read _ fault step.0 is step.2
none_apart txn libraries (unread who.Responder fault is) step = not_read _ fault step.1 is step.3
none_apart txn libraries (apart requester responder x y first second is_x is_y differ) step =
    let one : side_for txn step.0 ≡ sides.Requester x =
    ap (side_for txn) (read_once (records_at libraries.requester.file) step.0 requester step.2 first) ∙ is_x in
    let other : side_for txn step.1 ≡ sides.Responder y =
    ap (side_for txn) (read_once (records_at libraries.responder.file) step.1 responder step.3 second) ∙ is_y in
    true≢false (sym (faces x y (subst (λ (s : Side). ConvergedOrAtRest s (sides.Responder y)) one
    (subst (ConvergedOrAtRest (side_for txn step.0)) other step.4))) ∙ differ)
