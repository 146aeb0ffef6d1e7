-- Proves what equal stamps say of two sides. So an action that is done changes the stamp.
use Rattle.std.proofs.Common.{◌≡◌, ◌≤◌, ◌+◌, ◌*◌, ℕ, List, ◌++◌, length, drop, Ok, Err, Result, refl, sym, ap}
use Rattle.std.proofs.Common.{subst, ◌∙◌, arith, rules}
use Rattle.std.specs.Prelude.{codes}
use Rattle.std.proofs.lemmas.Fmt.{decimal_injective}
use Rattle.std.proofs.lemmas.List.{append_cancel_left, length-append}
use Rattle.std.proofs.Math.Seq.{drop-append_seam}
use Rattle.sha2.specs.Sha256.{sha256}
use Rattle.sha2.proofs.Facts256.{length-sha256}
use Rattle.hex.specs.Hex.{encode_lower, lower_digits}
use Rattle.hex.proofs.HexLemmas.{length-encode_with}
use Rattle.ill_values.specs.Day.{Date}
use Rattle.ill_values.specs.declared.apdu.Apdu.{Apdu}
use Rattle.ill_values.specs.TxnId.{Qualifiers}
use Rattle.ill_core.specs.declared.requester.Wish.{Wish}
use Rattle.ill_core.specs.declared.responder.Deed.{Deed}
use Rattle.ill_core.specs.declared.refusal.Refusal.{Refusal}
use Rattle.ill_core.specs.Issued.{IssuesNext}
use Rattle.ill_core.specs.Requester.{RequesterRecord}
use Rattle.ill_core.specs.Responder.{ResponderRecord}
use Rattle.ill_core.specs.RequesterActions as requester_actions
use Rattle.ill_core.specs.ResponderActions as responder_actions
use Rattle.ill_record.specs.declared.side.Side.{Side}
use Rattle.ill_record.specs.declared.side.Side.TheVariants as sides
use Rattle.ill_record.specs.declared.side.Action.{Action}
use Rattle.ill_record.specs.declared.side.Action.TheVariants as actions
use Rattle.ill_record.specs.Side.{acts, done_by, issued_of}
use Rattle.ill_record.specs.Records.{record_encoding}
use Rattle.ill_post.specs.Stamp.{side_stamp}

-- If `a ++ c` equals `b ++ d`, and `a` is as long as `b`, `c` equals `d`.
same_rest : (a b c d : List ℕ) → length a ≡ length b → a ++ c ≡ b ++ d → c ≡ d
same_rest a b c d same e =
    sym (drop-append_seam a c) ∙ ap (drop (length a)) e ∙ ap (λ n. drop n (b ++ d)) same ∙ drop-append_seam b d

-- The text of each digest has 64 characters.
text_size : (bytes : List ℕ) → length (encode_lower (sha256 bytes)) ≡ 64
text_size bytes = length-encode_with lower_digits (sha256 bytes) ∙ ap (λ n. 2 * n) (length-sha256 bytes)

-- The stamp of `side` is not "new", that of a loan which is not held: it is longer.
pub new_is_no_stamp : (side : Side) → codes "new" ≡ side_stamp side → ⊥
unfolding side_stamp
new_is_no_stamp side e =
    let size = text_size (record_encoding side) in
    let sizes = ap length e ∙ length-append (encode_lower (sha256 (record_encoding side))) _ in
    omega (arith, sizes, size)

-- If `s` and `t` have one stamp and at most 255 messages each, they have equally many messages. Their digests have one
-- length, so the counts after these are equal.
pub same_count : (s t : Side) → length (issued_of s) ≤ 255 → length (issued_of t) ≤ 255 → side_stamp s ≡ side_stamp t
    → length (issued_of s) ≡ length (issued_of t)
unfolding side_stamp
same_count s t few-s few-t e =
    decimal_injective _ _ (omega (arith, few-s)) (omega (arith, few-t))
    (append_cancel_left (codes "-") _ _
    (same_rest _ _ _ _ (text_size (record_encoding s) ∙ sym (text_size (record_encoding t))) e))

-- What the laws of `ill_core` say of actions that are done. Each issues one message, and at most 255 are issued then.
pub record ActionLaws : Type 0 where
  pub wish_issues : (x new : RequesterRecord) (wish : Wish) → requester_actions.acts x wish ≡ Ok new
      → IssuesNext x.txn x.issued new.issued
  pub wish_few : (x new : RequesterRecord) (wish : Wish) → requester_actions.acts x wish ≡ Ok new → length new.issued ≤ 255
  pub deed_issues : (y new : ResponderRecord) (deed : Deed) (today : Date) → responder_actions.acts y deed today ≡ Ok new
      → IssuesNext y.txn y.issued new.issued
  pub deed_few : (y new : ResponderRecord) (deed : Deed) (today : Date) → responder_actions.acts y deed today ≡ Ok new
      → length new.issued ≤ 255

-- If `new` is `old` and one APDU more (`IssuesNext`), it is longer by one.
longer : (txn : Qualifiers) (old new : List Apdu) → IssuesNext txn old new → length new ≡ length old + 1
longer txn old new more = ap length more.1 ∙ length-append old _

-- If `done_by` gives the side `new`, the result `r` is Ok with a record, of which `make` makes `new`.
done_is : {R : Type 0} (make : R → Side) (r : Result R Refusal) (new : Side) → done_by make r ≡ Ok new
    → (made : R) × (r ≡ Ok made) × (make made ≡ new)
done_is make (Ok made) new e = (made, refl, search rules)
done_is make (Err refusal) new e = search rules

-- If `action` leads from `old` to `new`, `new` has issued one message more, and at most 255 in all.
issues_one : ActionLaws → (old new : Side) (action : Action) → acts old action ≡ Ok new
    → (length (issued_of new) ≡ length (issued_of old) + 1) × (length (issued_of new) ≤ 255)
issues_one rows (sides.Requester x) new (actions.Wish wish) e =
    let is = done_is sides.Requester (requester_actions.acts x wish) new e in
    subst (λ made. (length (issued_of made) ≡ length x.issued + 1) × (length (issued_of made) ≤ 255)) is.2
    (longer x.txn x.issued is.0.issued (rows.wish_issues x is.0 wish is.1), rows.wish_few x is.0 wish is.1)
issues_one rows (sides.Responder y) new (actions.Deed deed today) e =
    let is = done_is sides.Responder (responder_actions.acts y deed today) new e in
    subst (λ made. (length (issued_of made) ≡ length y.issued + 1) × (length (issued_of made) ≤ 255)) is.2
    (longer y.txn y.issued is.0.issued (rows.deed_issues y is.0 deed today is.1), rows.deed_few y is.0 deed today is.1)
issues_one rows (sides.Requester x) new (actions.Deed deed today) e = search rules
issues_one rows (sides.Responder y) new (actions.Wish wish) e = search rules

-- If `action` leads from `old` to `new`, their stamps differ: they count different numbers of messages.
pub action_changes_stamp : ActionLaws → (old new : Side) (action : Action) → acts old action ≡ Ok new
    → side_stamp old ≡ side_stamp new → ⊥
action_changes_stamp rows old new action e same =
    let one = issues_one rows old new action e in
    let few : length (issued_of old) ≤ 255 = omega (arith, one.0, one.1) in
    let count = same_count old new few one.1 same in
    omega (arith, one.0, count)
