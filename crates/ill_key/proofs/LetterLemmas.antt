-- Proves which letters a desk opens, from the laws of sealed letters.
use Rattle.std.proofs.Common.{◌≡◌, ◌⊎◌, inl, inr, ℕ, ◌<◌, ◌≤◌, List, [], ◌++◌, length, Some, Ok, Err, sym, subst, ◌∙◌, arith}
use Rattle.std.specs.Prelude.{IsErr}
use Rattle.std.proofs.lemmas.List.{append-nil}
use Rattle.ill_record.specs.declared.role.Role.{Role}
use Rattle.ill_record.specs.declared.role.Role.TheVariants as roles
use Rattle.ill_seal.specs.declared.sender.Sender.{Sender}
use Rattle.ill_seal.specs.declared.sender.Sender.TheVariants.{Requester, Responder}
use Rattle.ill_seal.specs.declared.fault.SealFault.TheVariants as faults
use Rattle.ill_seal.specs.Letter.{sealed, opened}
use Rattle.ill_text.specs.declared.fault.ToolFault.TheVariants.{NotSealed}
use Rattle.ill_key.specs.Letter.{LeavesSealed, OpensLetter, own_sender, other_sender}

-- If each letter opens for its sender (first premise), a desk of `role` opens letters of `other`, the other role.
pub of_other : ((key text : List ℕ) (sender : Sender) → opened key sender (sealed key sender text) ≡ Ok text)
    → (key text : List ℕ) (role other : Role) → own_sender other ≡ other_sender role
    → opened key (other_sender role) (sealed key (own_sender other) text) ≡ Ok text
of_other opens key text role other is =
    subst (λ (sender : Sender). opened key (other_sender role) (sealed key sender text) ≡ Ok text) (sym is)
    (opens key text (other_sender role))

-- If no letter opens for another sender (first two premises), a desk of `role` opens no letter of that role.
pub of_own : ((key other text : List ℕ) → opened key Requester (sealed other Responder text) ≡ Err faults.Sender)
    → ((key other text : List ℕ) → opened key Responder (sealed other Requester text) ≡ Err faults.Sender)
    → (key other text : List ℕ) (role : Role)
    → opened key (other_sender role) (sealed other (own_sender role) text) ≡ Err faults.Sender
of_own responders requesters key other text roles.Requester = requesters key other text
of_own responders requesters key other text roles.Responder = responders key other text

-- If each letter opens for its sender (first premise), an input `bytes` from which `text` was taken opens as `text`.
pub by_seal : ((key text : List ℕ) (sender : Sender) → opened key sender (sealed key sender text) ≡ Ok text)
    → (key bytes text : List ℕ) (sender : Sender) → OpensLetter key sender (Some bytes) (Some []) text
    → opened key sender bytes ≡ Ok text
by_seal opens key bytes text sender is =
    let all : bytes ≡ sealed key sender text = is.0 ∙ append-nil (sealed key sender text) in
    subst (λ (letter : List ℕ). opened key sender letter ≡ Ok text) (sym all) (opens key text sender)

-- If `bytes` has at most 1,048,613 bytes, and is `longer` with nothing after it, `longer` cannot have more.
not_longer : (bytes longer : List ℕ) → length bytes ≤ 1048613 → bytes ≡ longer ++ [] → 1048613 < length longer → ⊥
not_longer bytes longer few is many =
    let same : bytes ≡ longer = is ∙ append-nil longer in
    let all : length bytes ≤ 1048613 → length longer ≤ 1048613 =
    subst (λ (list : List ℕ). length bytes ≤ 1048613 → length list ≤ 1048613) same (λ fits. fits) in
    let fits = all few in
    omega (arith, fits, many)

-- If `bytes` is within the limit and was refused with the fault `NotSealed`, it does not open.
-- The reading cannot have stopped: `bytes` is not too long, and a failed read or want of memory is another fault.
pub left_sealed : (key bytes : List ℕ) (sender : Sender) → length bytes ≤ 1048613
    → LeavesSealed key sender (Some bytes) (Some []) NotSealed → IsErr (opened key sender bytes)
left_sealed key bytes sender few is = elim is [
  | inl stops ↦ elim stops [
    | inl long ↦ absurd (not_longer bytes long.1.0 few long.1.1 long.1.2)
    | inr other ↦ elim other [
      | inl read ↦ cc
      | inr memory ↦ cc
    ]
  ]
  | inr refused ↦
      subst (λ (letter : List ℕ). IsErr (opened key sender letter)) (sym (refused.1.1.0 ∙ append-nil refused.1.0)) refused.1.2
]
