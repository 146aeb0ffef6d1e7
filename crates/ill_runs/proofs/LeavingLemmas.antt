-- Proves that the messages of an outbox may be sent, since no desk holds a transaction twice.
use Rattle.std.proofs.Common.{◌≡◌, ℕ, zero, suc, ◌+◌, ◌≤◌, Bool, true, false, cond, if◌then◌else◌, List, [], ◌∷◌, ◌++◌, length}
use Rattle.std.proofs.Common.{map, take, Some, is_some}
use Rattle.std.proofs.Common.{refl, sym, ap, ◌∙◌, subst, arith, append_assoc, le-leb, true≢false}
use Rattle.std.specs.List.{slice_get}
use Rattle.std.proofs.lemmas.List.{length-append, map-append}
use Rattle.ill_values.specs.declared.apdu.Apdu.{Apdu}
use Rattle.ill_core.specs.Issued.{is_same_txn, message}
use Rattle.ill_record.specs.Ranges.{Each}
use Rattle.ill_record.specs.Side.{issued_of, txn_of}
use Rattle.ill_saved.specs.Holdings.{DeskEntry}
use Rattle.ill_saved.specs.ManySides.{DeskContents, found_by, txn_held}
use Rattle.ill_record.proofs.Finding.{same_is, same_self}
use Rattle.ill_words.specs.Sending.{wants_sending}
use Rattle.ill_night.specs.Outbox.{Issue, is_asked, issues_of, leaving_side, leaving_desk, released_of}
use Rattle.ill_world.specs.DeskCounts.{AreApart, is_one_of}
use Rattle.ill_world.proofs.DeskCounts.{has_found}
use Rattle.ill_runs.specs.MessageFile.{IsReleased, IsOutbox}
use Rattle.ill_runs.proofs.Lists.{each_append, each_take, each_so}

-- ---- the sides of a desk

-- If no transaction is twice, the transaction of `x` is not that of an item that is found after it.
not_again : (x h : DeskEntry) (held : List DeskEntry) (same : Bool) → is_same_txn (txn_held h) (txn_held x) ≡ same
    → is_one_of (txn_held x) (map txn_held held) ≡ false → found_by txn_held (txn_held h) held ≡ Some h → same ≡ false
not_again x h held true is none found =
    let one : txn_held h ≡ txn_held x = same_is (txn_held h) (txn_held x) is in
    let there : is_some (found_by txn_held (txn_held x) held) ≡ true =
    ap is_some (subst (λ txn. found_by txn_held txn held ≡ Some h) one found) in
    absurd (true≢false (sym there ∙ has_found txn_held (txn_held x) held ∙ none))
not_again x h held false is none found = refl

-- If an item is found after `x`, whose transaction is another, it is found with `x` before it.
found_further : (x h : DeskEntry) (held : List DeskEntry) → is_one_of (txn_held x) (map txn_held held) ≡ false
    → found_by txn_held (txn_held h) held ≡ Some h → found_by txn_held (txn_held h) (x ∷ held) ≡ Some h
found_further x h held none found =
    ap (λ same. cond same (Some x) (found_by txn_held (txn_held h) held))
    (not_again x h held (is_same_txn (txn_held h) (txn_held x)) refl none found) ∙ found

-- If no transaction is twice, each side is found by its transaction.
pub each_found : (held : List DeskEntry) → AreApart (map txn_held held)
    → Each (λ h. found_by txn_held (txn_held h) held ≡ Some h) held
unfolding Each
each_found [] apart = tt
each_found (x ∷ held) apart = (
  ap (λ same. cond same (Some x) (found_by txn_held (txn_held x) held)) (same_self (txn_held x)),
  each_so (λ h. found_by txn_held (txn_held h) held ≡ Some h) (λ h. found_by txn_held (txn_held h) (x ∷ held) ≡ Some h) held
      (λ h found. found_further x h held apart.0 found) (each_found held apart.1),
)

-- ---- the messages of a side

-- The list of `prefix`, `a` and `more` has `a` at the index that is the length of `prefix`.
at_prefix : (prefix more : List Apdu) (a : Apdu) → slice_get (prefix ++ a ∷ more) (length prefix) ≡ Some a
at_prefix [] more a = refl
at_prefix (b ∷ prefix) more a = at_prefix prefix more a

module _ (live : DeskContents) (h : DeskEntry) (found : found_by txn_held (txn_held h) live.held ≡ Some h) where
  -- If a side has issued `prefix` and then `rest`, the first messages of `rest` that it has released may be sent.
  rest_released : (prefix rest : List Apdu) (count : ℕ) → issued_of h.side ≡ prefix ++ rest
      → length prefix + count ≤ h.released → Each (IsReleased live) (take count rest)
  unfolding Each
  rest_released prefix rest zero issued released = tt
  rest_released prefix [] (suc count) issued released = tt
  rest_released prefix (a ∷ rest) (suc count) issued released = (
    (
      txn_held h,
      suc (length prefix),
      h,
      found,
      ap (λ apdus. message apdus (suc (length prefix))) issued ∙ at_prefix prefix rest a,
      le-leb (suc (length prefix)) h.released (omega (arith, released)),
    ),
    rest_released (prefix ++ a ∷ []) rest count (issued ∙ sym (append_assoc prefix (a ∷ []) rest))
        (omega (arith, length-append prefix (a ∷ []), released)),
  )

  -- If `P` holds of each of `apdus`, it holds of the message of each issue of them.
  issues_released : (P : Apdu → Type 0) (apdus : List Apdu) → Each P apdus
      → Each P (map (λ issue. issue.apdu) (issues_of h.side apdus))
  unfolding Each
  issues_released P [] each = tt
  issues_released P (a ∷ apdus) each = (each.0, issues_released P apdus each.1)

  -- The messages of a side that leave in an outbox may be sent, whether it wants sending or not.
  wanted_released : (wants : Bool)
      → Each (IsReleased live) (map (λ issue. issue.apdu) (if wants then issues_of h.side (released_of h) else []))
  unfolding Each
  wanted_released true = issues_released (IsReleased live) (released_of h)
      (rest_released [] (issued_of h.side) h.released refl (omega arith))
  wanted_released false = tt

-- ---- the outbox

module _ (live : DeskContents) (asking : List Apdu) where
  -- The messages of `held` that leave in an outbox may be sent, if each of `held` is found.
  sides_released : (held : List DeskEntry) → Each (λ h. found_by txn_held (txn_held h) live.held ≡ Some h) held
      → Each (IsReleased live) (map (λ issue. issue.apdu) (leaving_desk asking held))
  unfolding Each
  sides_released [] each = tt
  sides_released (h ∷ held) each =
      subst (Each (IsReleased live)) (sym
      (map-append (λ (issue : Issue). issue.apdu) (leaving_side asking h) (leaving_desk asking held)))
      (each_append (IsReleased live) _ _
      (wanted_released live h each.0 (wants_sending (is_asked asking (txn_of h.side)) h.side)) (sides_released held each.1))

-- If no transaction is twice at a desk, the messages that leave it in an outbox may be sent.
pub outbox_released : (live : DeskContents) (left : List Apdu) → AreApart (map txn_held live.held) → IsOutbox live left
    → Each (IsReleased live) left
outbox_released live left apart is =
    subst (Each (IsReleased live)) (sym is.2)
    (each_take (IsReleased live) is.1 (map (λ issue. issue.apdu) (leaving_desk is.0 live.held))
    (sides_released live is.0 live.held (each_found live.held apart)))
