-- A simulation writes no trace of `Leaves` or `IsOfNoPrefix`, and has no result of `Misreports`.
use Rattle.std.proofs.Common.{arith, rules, ◌≡◌, ℕ, List, [], ◌∷◌, ◌++◌, length, Option, Some, None, Result, Err, refl, sym}
use Rattle.std.proofs.Common.{ap, ◌∙◌, subst, append_assoc, append-nil, length-append}
use Rattle.ill_record.specs.Side.{IsPrefix}
use Rattle.ill_script.specs.declared.fault.SimFault.{SimFault}
use Rattle.ill_script.specs.declared.fault.SimFault.TheVariants.{Write, OutOfMemory}
use Rattle.ill_script.specs.Replay.{Replay, Progress, reading_on, broken_on, trace_on, Replays}
use Rattle.ill_script.specs.BadTraces.{Leaves, IsOfNoPrefix, goes_on, differs, Misreports, stops_early, passes_over, miscounts}
use Rattle.ill_script.specs.BadTraces.{miswrites, misnames, miswrites_before, misreads, before_reading, after_reading}

-- Equal lists have equal first bytes.
first_same : (a b : ℕ) (xs ys : List ℕ) → a ∷ xs ≡ b ∷ ys → a ≡ b
first_same a b xs ys e = search rules

-- Equal lists have equal rests.
rest_same : (a b : ℕ) (xs ys : List ℕ) → a ∷ xs ≡ b ∷ ys → xs ≡ ys
rest_same a b xs ys e = search rules

-- If lists that begin with `common` are equal, their next bytes are equal.
same_after : (common xs ys : List ℕ) (a b : ℕ) → common ++ a ∷ xs ≡ common ++ b ∷ ys → a ≡ b
same_after [] xs ys a b e = first_same a b xs ys e
same_after (c ∷ common) xs ys a b e = same_after common xs ys a b (rest_same c c (common ++ a ∷ xs) (common ++ b ∷ ys) e)

-- If `Leaves written trace` holds, `written` is no prefix of `trace`.
no_prefix : (written trace : List ℕ) → Leaves written trace → IsPrefix written trace → ⊥
no_prefix written trace (goes_on byte rest is) (more, prefix) =
    omega (arith, ap length is, ap length prefix, length-append trace (byte ∷ rest), length-append written more)
no_prefix written trace (differs common rest more byte other is there apart) (after, prefix) =
    apart (same_after common (rest ++ after) more byte other
    (sym (append_assoc common (byte ∷ rest) after) ∙ ap (λ l. l ++ after) (sym is) ∙ sym prefix ∙ there))

-- If `IsOfNoPrefix` holds of `written`, no prefix of `events` has `written` as its trace.
no_events : {E : Type 0} (trace_of : List E → List ℕ) (events : List E) (written : List ℕ) → IsOfNoPrefix trace_of events written
    → (prefix : List E) × IsPrefix prefix events × (written ≡ trace_of prefix) → ⊥
no_events trace_of events written none (prefix, (more, is), shown) = none prefix more is shown

-- `bad` is not both `Some line` and `None`.
some_line : (bad : Option ℕ) (line : ℕ) → bad ≡ Some line → bad ≡ None → ⊥
some_line bad line is none = let both : ◌≡◌ {A = Option ℕ} (Some line) None = sym is ∙ none in search rules

-- A simulation of `replay` begins at `from` with `text` to read. It leaves the bytes `left` of `text`, and writes
-- `written`.
module _ {W E C : Type 0} (replay : Replay W E C) (from : Progress W C) (text left written : List ℕ) where
  -- If the writer fails, `Leaves` does not hold of the bytes written and the trace.
  pub none_leaves : Leaves written (trace_on replay from (reading_on replay from text).events)
      → Replays replay from (before_reading text) (Err Write) (after_reading left written) → ⊥
  none_leaves leaves (read, trace, consumed, appended, answers) =
      no_prefix written (trace_on replay from (reading_on replay from text).events) leaves
      (subst (λ t. IsPrefix written (trace_on replay from (reading_on replay from t).events)) (sym consumed)
      (subst (λ l. IsPrefix l (trace_on replay from (reading_on replay from (read ++ left)).events)) (sym appended)
      (answers left refl)))

  -- If memory runs out, `IsOfNoPrefix` does not hold of the bytes written: they are the trace of a prefix of the
  -- events.
  pub some_prefix : IsOfNoPrefix (trace_on replay from) (reading_on replay from text).events written
      → Replays replay from (before_reading text) (Err OutOfMemory) (after_reading left written) → ⊥
  some_prefix none (read, trace, consumed, appended, answers) =
      no_events (trace_on replay from) (reading_on replay from (read ++ left)).events trace
      (λ prefix more is shown. none prefix more (ap (λ t. (reading_on replay from t).events) consumed ∙ is)
      (appended ∙ shown)) (answers left refl)

  -- If a replay has left nothing, it has read the whole text.
  read_all : (read : List ℕ) → text ≡ read ++ left → left ≡ [] → read ≡ text
  read_all read consumed none = sym (consumed ∙ ap (λ l. read ++ l) none ∙ append-nil read)

  -- `Misreports` does not hold of the result of a replay from the first event on.
  pub none_misreports : (result : Result ℕ SimFault) → from.count ≡ 0
      → Misreports (trace_on replay from) (reading_on replay from) (broken_on replay from) text (left, written) result
      → Replays replay from (before_reading text) result (after_reading left written) → ⊥
  none_misreports _ first (stops_early count some) (read, trace, consumed, appended, answers) = some answers.0
  none_misreports _ first (passes_over count line is) (read, trace, consumed, appended, answers) =
      some_line (reading_on replay from text).bad line is
      (ap (λ t. (reading_on replay from t).bad) (sym (read_all read consumed answers.0)) ∙ answers.1)
  none_misreports _ first (miscounts count other) (read, trace, consumed, appended, answers) =
      let same = read_all read consumed answers.0 in
      other (subst (λ t. count ≡ length (reading_on replay from t).events) same (omega (arith, first, answers.3)))
  none_misreports _ first (miswrites count other) (read, trace, consumed, appended, answers) =
      let same = read_all read consumed answers.0 in
      other (subst (λ t. written ≡ trace_on replay from (reading_on replay from t).events) same (appended ∙ answers.2))
  none_misreports _ first (misnames line other) (read, trace, consumed, appended, answers) =
      other (subst (λ t. (reading_on replay from t).bad ≡ Some line) (sym consumed) (answers left refl).0)
  none_misreports _ first (miswrites_before line other) (read, trace, consumed, appended, answers) =
      other (subst (λ t. written ≡ trace_on replay from (reading_on replay from t).events) (sym consumed)
      (appended ∙ (answers left refl).1))
  none_misreports _ first (misreads none) (read, trace, consumed, appended, answers) =
      none read consumed answers.0 (appended ∙ answers.1)
