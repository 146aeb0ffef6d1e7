-- Proves that a requester answers no conditions twice.
use Rattle.std.proofs.Common.{rules, ◌≡◌, inl, inr, ℕ, Bool, true, false, ◌||◌, [], ◌∷◌, ◌++◌, Option, Some, None, is_some}
use Rattle.std.proofs.Common.{if◌then◌else◌, refl, ap, sym, subst, ◌∙◌}
use Rattle.std.specs.List.{list_all, filter_map, last_or}
use Rattle.std.specs.Option.{unwrap_or}
use Rattle.std.proofs.lemmas.Bool.{and_from}
use Rattle.std.proofs.lemmas.List.Folds.{list_all-append}
use Rattle.std.proofs.Math.Bool.{or-false, or-true}
use Rattle.ill_values.specs.declared.apdu.Apdu.{Apdu}
use Rattle.ill_values.specs.Body.{Body}
use Rattle.ill_values.specs.declared.apdu.BodyWith.TheVariants as types
use Rattle.ill_core.specs.declared.state.State.{State}
use Rattle.ill_core.specs.declared.state.State.TheVariants.{Pending, Conditional}
use Rattle.ill_core.specs.State.{is_among}
use Rattle.ill_core.specs.Numbers.{is_at_most, is_below, are_distinct}
use Rattle.ill_values.specs.Bodies.{declines, accepts}
use Rattle.ill_core.specs.Issued.{has_message_with, accepted_in, last_of, with_next, next_apdu}
use Rattle.ill_core.specs.Requester.{RequesterRecord, requester_of, accepted_number}
use Rattle.ill_core.specs.RequesterEvidence.{AnswersOnce, replies, replied_number, Holds}
use Rattle.ill_core.proofs.NumberLemmas.{all_weaker, below_new, at_most_below, distinct_more}
use Rattle.ill_core.proofs.IssuedLemmas.{found_none, found_more, last_of_more, has_more}

-- Let a change to `new` satisfy `Holds`, `new` be in CONDITIONAL, and no conditions be declined. Then the answered
-- numbers are below the held number.
held_still : (x new : RequesterRecord) (k : ℕ) → Holds x k new → AnswersOnce x
    → is_among (Conditional ∷ []) new.state ≡ true → has_message_with declines x.issued ≡ false
    → list_all (λ n. is_below n new.held) (replies x.issued) ≡ true
held_still x new k (inl (held, inl state)) once here undeclined =
    subst (λ o. list_all (λ n. is_below n o) (replies x.issued) ≡ true) (sym held)
    (once.held (subst (λ s. is_among (Conditional ∷ []) s ≡ true) state here) undeclined)
held_still x new k (inl (held, inr away)) once here undeclined = search rules
held_still x new k (inr (inl (held, away))) once here undeclined = search rules
held_still x new k (inr (inr fresh)) once here undeclined =
    subst (λ o. list_all (λ n. is_below n o) (replies x.issued) ≡ true) (sym fresh.2)
    (all_weaker (λ n. is_at_most n (accepted_number x)) (λ n. is_below n (Some k)) (below_new k (accepted_number x) fresh.3)
    (replies x.issued) (once.above undeclined))

-- A change that issues nothing and satisfies `Holds` preserves `AnswersOnce`.
pub still_once : (x new : RequesterRecord) (k : ℕ) → new.issued ≡ x.issued → Holds x k new → AnswersOnce x → AnswersOnce new
still_once x new k same holds once =
    let undeclined : has_message_with declines new.issued ≡ false → has_message_with declines x.issued ≡ false =
    subst (λ l. has_message_with declines l ≡ false → has_message_with declines x.issued ≡ false) (sym same) (λ h. h) in
    record {
      distinct = ap (λ l. are_distinct (replies l)) same ∙ once.distinct;
      above = subst (λ l. has_message_with declines l ≡ false
          → list_all (λ n. is_at_most n (last_of accepted_in l)) (replies l) ≡ true)
          (sym same) once.above;
      held = λ here no. ap (λ l. list_all (λ n. is_below n new.held) (replies l)) same
          ∙ held_still x new k holds once here (undeclined no);
    }

-- An APDU that answers no conditions, and leads to a state other than CONDITIONAL, preserves `AnswersOnce`.
pub silent_once : (x : RequesterRecord) (body : Body) (state : State) (held : Option ℕ) → replied_number body ≡ None
    → accepts body ≡ None → declines body ≡ false
    → is_among (Conditional ∷ []) state ≡ false → AnswersOnce x
    → AnswersOnce (requester_of x.txn state held x.checked_in x.due (with_next x.txn x.issued body))
silent_once x body state held silent accepts_none declines_not away once =
    let a : Apdu = next_apdu x.txn x.issued body in
    let same : replies (x.issued ++ a ∷ []) ≡ replies x.issued = found_none (λ b. replied_number b.body) x.issued a silent in
    let same_yes : filter_map accepted_in (x.issued ++ a ∷ []) ≡ filter_map accepted_in x.issued =
    found_none accepted_in x.issued a accepts_none in
    let no : has_message_with declines (x.issued ++ a ∷ []) ≡ has_message_with declines x.issued =
    has_more declines x.issued a ∙ (ap (λ b. has_message_with declines x.issued || b) declines_not ∙ or-false _) in
    record {
      distinct = ap are_distinct same ∙ once.distinct;
      above = λ undeclined. ap (λ l. list_all (λ n. is_at_most n (last_or None l)) (replies (x.issued ++ a ∷ []))) same_yes
          ∙ (ap (list_all (λ n. is_at_most n (accepted_number x))) same ∙ once.above (sym no ∙ undeclined));
      held = λ here undeclined. search rules;
    }

-- In CONDITIONAL, if no conditions were declined, the answered numbers are below the held number `n`.
below_held : (x : RequesterRecord) (n : ℕ) → x.held ≡ Some n → is_among (Conditional ∷ []) x.state ≡ true
    → has_message_with declines x.issued ≡ false → AnswersOnce x
    → list_all (λ m. is_below m (Some n)) (replies x.issued) ≡ true
below_held x n is here undeclined once =
    subst (λ o. list_all (λ m. is_below m o) (replies x.issued) ≡ true) is (once.held here undeclined)

-- A yes to the held conditions preserves `AnswersOnce`.
yes_once : (x : RequesterRecord) (n : ℕ) → x.held ≡ Some n → is_among (Conditional ∷ []) x.state ≡ true
    → has_message_with declines x.issued ≡ false → AnswersOnce x
    → AnswersOnce (requester_of x.txn Pending None x.checked_in x.due (with_next x.txn x.issued (types.ConditionalReply n true)))
yes_once x n is here undeclined once =
    let a : Apdu = next_apdu x.txn x.issued (types.ConditionalReply n true) in
    let more : replies (x.issued ++ a ∷ []) ≡ replies x.issued ++ n ∷ [] =
    found_more (λ b. replied_number b.body) x.issued a n refl in
    let below = below_held x n is here undeclined once in
    record {
      distinct = ap are_distinct more ∙ distinct_more (replies x.issued) n once.distinct below;
      above = λ _. ap (λ l. list_all (λ m. is_at_most m (last_of accepted_in (x.issued ++ a ∷ []))) l) more
          ∙ (ap (λ o. list_all (λ m. is_at_most m o) (replies x.issued ++ n ∷ [])) (last_of_more accepted_in x.issued a n refl)
          ∙ (list_all-append (λ m. is_at_most m (Some n)) (replies x.issued) (n ∷ [])
          ∙ and_from _ _ (all_weaker (λ m. is_below m (Some n)) (λ m. is_at_most m (Some n)) (at_most_below n) (replies x.issued)
          below) (search rules)));
      held = λ here undeclined. search rules;
    }

-- A no to the held conditions preserves `AnswersOnce`.
no_once : (x : RequesterRecord) (n : ℕ) → x.held ≡ Some n → is_among (Conditional ∷ []) x.state ≡ true
    → has_message_with declines x.issued ≡ false → AnswersOnce x
    → AnswersOnce (requester_of x.txn Conditional x.held x.checked_in x.due
    (with_next x.txn x.issued (types.ConditionalReply n false)))
no_once x n is here undeclined once =
    let a : Apdu = next_apdu x.txn x.issued (types.ConditionalReply n false) in
    let more : replies (x.issued ++ a ∷ []) ≡ replies x.issued ++ n ∷ [] =
    found_more (λ b. replied_number b.body) x.issued a n refl in
    let declined : has_message_with declines (x.issued ++ a ∷ []) ≡ true = has_more declines x.issued a ∙ or-true _ in
    record {
      distinct = ap are_distinct more ∙ distinct_more (replies x.issued) n once.distinct (below_held x n is here undeclined once);
      above = λ no. search (rules, declined);
      held = λ here no. search (rules, declined);
    }

-- A reply to the held conditions preserves `AnswersOnce`.
pub reply_once : (x : RequesterRecord) (is_yes : Bool) (n : ℕ) → x.held ≡ Some n
    → is_among (Conditional ∷ []) x.state ≡ true → has_message_with declines x.issued ≡ false → AnswersOnce x
    → AnswersOnce (requester_of x.txn (if is_yes then Pending else Conditional) (if is_yes then None else x.held) x.checked_in
    x.due
    (with_next x.txn x.issued (types.ConditionalReply n is_yes)))
reply_once x true = yes_once x
reply_once x false = no_once x

-- If a number is there, `unwrap_or` returns it.
pub held_number : (o : Option ℕ) → is_some o ≡ true → o ≡ Some (unwrap_or o 0)
held_number (Some n) there = refl
held_number None there = search rules
