-- Proves what the command `take` keeps and counts while it takes one APDU after another.
use Rattle.std.proofs.Common.{◌≡◌, inl, inr, ℕ, ◌≤◌, Bool, true, List, [], ◌∷◌, length, Option, Result, Ok, Err, refl, sym, ap}
use Rattle.std.proofs.Common.{subst}
use Rattle.std.proofs.Common.{◌∙◌, arith}
use Rattle.ill_values.specs.declared.apdu.Apdu.{Apdu}
use Rattle.ill_der.specs.Handling.{Handles, Handled}
use Rattle.ill_saved.specs.declared.fault.DeskFault.TheVariants as desks
use Rattle.ill_store.specs.declared.store.StoreFault.TheVariants as stores
use Rattle.ill_store.specs.Store.{HasRisen}
use Rattle.ill_text.specs.declared.fault.ToolFault.{ToolFault}
use Rattle.ill_text.specs.declared.fault.ToolFault.TheVariants.{Desk}
use Rattle.ill_text.specs.Input.{Rest, rest_of, StopsReading, Ends, ReadsInput}
use Rattle.ill_desk.specs.declared.take.TakeForm.{TakeForm}
use Rattle.ill_desk.specs.declared.take.TakesEach.{TakesEach}
use Rattle.ill_saved.specs.Desk.{DeskOf}
use Rattle.ill_saved.specs.Holdings.{Effects}
use Rattle.ill_desk.specs.Performing.{HeldAndCommitted, CommandState, command_state, with_input, with_kept}
use Rattle.ill_text.specs.Fault.{ToolFailsCounted}
use Rattle.ill_desk.specs.Telling.{wording}
use Rattle.ill_desk.specs.Take.{BorrowedParts, borrowed_parts, CountsTaking, KeepsBorrowed, Progress, progress, TakesMessage}
use Rattle.ill_desk.specs.Take.{answer_of, RunsTaking}
use Rattle.ill_text.proofs.InputLemmas.{reads_on_views}

-- ---- the borrowed desk and file, and the count of failures

-- If a count has risen from `last` to `after`, it has risen from each `before` that is at most `last`.
risen_from : (before last after : ℕ) → before ≤ last → HasRisen last after → HasRisen before after
risen_from before last after le is = elim is [
  | inl lt ↦ inl (omega (arith, le, lt))
  | inr most ↦ inr most
]

-- If `fault` was counted between `last` and `after`, it was counted between `before` and `after`.
fails_from : (fault : ToolFault) (before last after : ℕ) → before ≤ last
    → ToolFailsCounted {X = Unit {0}} (Err fault) last after → ToolFailsCounted {X = ℕ} (Err fault) before after
fails_from (Desk (desks.Store stores.Failed)) before last after le is = risen_from before last after le is
fails_from other before last after le is = tt

-- A fault that stops the reading is no failure of the store, so none has to be counted.
unfailing : (fault : ToolFault) (count : ℕ) (rest : Rest) (before after : ℕ) → StopsReading fault count rest
    → ToolFailsCounted {X = ℕ} (Err fault) before after
unfailing (Desk fault) count rest before after stops = absurd stops
unfailing other count rest before after stops = tt

-- The borrowed desk and file stay from `before` to `after`, and the count of failures never falls.
record Stays (before after : BorrowedParts) : Type 0 where
  same_desk : after.desk ≡ before.desk
  same_file : after.file ≡ before.file
  risen : before.failures ≤ after.failures

-- `parts` returns the borrowed parts of a state. By `keeps`, each message leaves the desk and the file, and never
-- lowers the count of failures. If `is_kept` is false, a message that returns a failure raises the count. If it is
-- true, taken messages are kept in a file, and a failure need not be counted.
module _ {S : Type 0} (is_kept : Bool) (handles : Handles S ToolFault) (parts : S → BorrowedParts)
    (keeps : (s t : S) (apdu : Apdu) (r : Result (Unit {0}) ToolFault) → handles s apdu r t
    → KeepsBorrowed is_kept r (parts s) (parts t)) where
  -- Handling `apdus` leaves the borrowed desk and file, and never lowers the count of failures. `one` is for the
  -- first APDU, and `on` for the others.
  handled_keeps : (before after : S) (apdus : List Apdu) → Handled handles before apdus after
      → Stays (parts before) (parts after)
  handled_keeps before after [] is =
      let same = ap parts is in
      record {
        same_desk = ap (λ p. p.desk) same;
        same_file = ap (λ p. p.file) same;
        risen = omega (arith, ap (λ p. p.failures) same);
      }
  handled_keeps before after (apdu ∷ apdus) is =
      let one = keeps before is.0 apdu (Ok tt) is.1 in
      let same = one.0 in
      let counts = one.1 in
      let on = handled_keeps is.0 after apdus is.2 in
      record {
        same_desk = on.same_desk ∙ same.0;
        same_file = on.same_file ∙ same.1;
        risen = omega (arith, counts.0, on.risen);
      }

  -- Reading an input leaves the borrowed desk and file. If `is_kept` is false, it counts a failure of the store that
  -- it returns. After a fault the reading has stopped (`stops`), or the handling of an APDU has failed (`hand`).
  pub input_keeps : (old new : Option (List ℕ)) (before after : S) (result : Result ℕ ToolFault)
      → ReadsInput handles old new before result after → KeepsBorrowed is_kept result (parts before) (parts after)
  input_keeps old new before after (Ok n) is =
      let so_far = handled_keeps before is.last is.apdus is.handled in
      let same = ap parts is.ended.3 in (
        (ap (λ p. p.desk) same ∙ so_far.same_desk, ap (λ p. p.file) same ∙ so_far.same_file),
        (omega (arith, so_far.risen, ap (λ p. p.failures) same), λ none. tt),
      )
  input_keeps old new before after (Err fault) is =
      let so_far = handled_keeps before is.last is.apdus is.handled in elim is.ended [
        | inl stops ↦
            let same = ap parts stops.1 in (
              (ap (λ p. p.desk) same ∙ so_far.same_desk, ap (λ p. p.file) same ∙ so_far.same_file),
              (
                omega (arith, so_far.risen, ap (λ p. p.failures) same),
                λ none.
                    unfailing fault _ (rest_of is.bytes is.ahead new) (parts before).failures (parts after).failures stops.0,
              ),
            )
        | inr hand ↦
            let one = keeps is.last after hand.0 (Err fault) hand.4 in
            let same = one.0 in
            let counts = one.1 in (
              (same.0 ∙ so_far.same_desk, same.1 ∙ so_far.same_file),
              (
                omega (arith, so_far.risen, counts.0),
                λ none.
                    fails_from fault (parts before).failures (parts is.last).failures (parts after).failures so_far.risen
                    (counts.1 none),
              ),
            )
      ]

-- ---- a property of states that no message ends

-- `handles` leads from `s` to `t`, and `Holds` holds of `s`.
abbrev Under : {S F : Type 0} → (S → Type 0) → Handles S F → Handles S F
Under Holds handles s apdu r t = Holds s × handles s apdu r t

-- `stays` says that each message keeps `Holds`.
module _ {S : Type 0} (Holds : S → Type 0) (handles : Handles S ToolFault)
    (stays : (s t : S) (apdu : Apdu) (r : Result (Unit {0}) ToolFault) → Holds s → handles s apdu r t → Holds t) where
  -- If `Holds` holds at first, it holds before each of the messages and after the last. `on` is for the later ones.
  handled_under : (before after : S) (apdus : List Apdu) → Holds before → Handled handles before apdus after
      → Handled (Under Holds handles) before apdus after × Holds after
  handled_under before after [] holds is = (is, subst Holds (sym is) holds)
  handled_under before after (apdu ∷ apdus) holds is =
      let on = handled_under is.0 after apdus (stays before is.0 apdu (Ok tt) holds is.1) is.2 in
      ((is.0, (holds, is.1), on.0), on.1)

  -- If `Holds` holds after the handled messages, the end of the input is one under `Holds`.
  ends_under : (result : Result ℕ ToolFault) (count : ℕ) (rest : Rest) (before after : S) → Holds before
      → Ends handles result count rest before after → Ends (Under Holds handles) result count rest before after
  ends_under (Ok n) count rest before after holds is = is
  ends_under (Err fault) count rest before after holds is = elim is [
    | inl stops ↦ inl stops
    | inr fails ↦ inr (fails.0, fails.1, fails.2, fails.3, (holds, fails.4))
  ]

  -- If `Holds` holds at first, the input is read under `Holds`. `on` is for its handled messages.
  reads_under : (old new : Option (List ℕ)) (before after : S) (result : Result ℕ ToolFault) → Holds before
      → ReadsInput handles old new before result after → ReadsInput (Under Holds handles) old new before result after
  reads_under old new before after result holds is =
      let on = handled_under before is.last is.apdus holds is.handled in record {
        apdus = is.apdus;
        bytes = is.bytes;
        ahead = is.ahead;
        last = is.last;
        encoded = is.encoded;
        most = is.most;
        few = is.few;
        read = is.read;
        handled = on.0;
        ended = ends_under result (length is.apdus) (rest_of is.bytes is.ahead new) is.last after on.1 is.ended;
      }

-- ---- the command

-- `Runs` holds, the borrowed desk and file stay, and the store's failures are counted.
pub record IsTaken {X : Type 0} (Runs : Type 0) (is_kept : Bool) (result : Result X ToolFault) (old new : BorrowedParts)
    : Type 0 where
  pub runs : Runs
  pub same_keeper : new.desk ≡ old.desk
  pub same_came : new.file ≡ old.file
  pub counted : CountsTaking is_kept result old.failures new.failures

-- An input is taken on a borrowed desk, in the form that its handler has. `view` returns what is known of a desk, and
-- `failures` the failures of its store. `kept` returns the kept bytes, and `contents` the output.
module _ {H S D A B C L N W : Type 0} (effects : Effects L N) (view : DeskOf H S → HeldAndCommitted L)
    (failures : DeskOf H S → ℕ) (kept : D → Option (List ℕ)) (contents : W → Option (List ℕ)) where
  -- Returns the state of the command, without its input, at the state `s` of its handler.
  abbrev command_at : TakesEach H S D A B C × W → CommandState L
  command_at s = with_kept (kept s.0.came.now) (command_state (view s.0.desk.now) (contents s.1))

  -- Returns the progress of the command at the state `s` of its handler.
  abbrev how_far : TakesEach H S D A B C × W → Progress L
  how_far s = progress (command_at s) s.0.all_fine

  -- Returns the parts that the handler has borrowed.
  abbrev borrowed : TakesEach H S D A B C × W → BorrowedParts
  borrowed s = borrowed_parts s.0.desk.ghost_name s.0.came.ghost_name (failures s.0.desk.now)

  -- `apdu` is taken in the form `form`, which leads from `s` to `t`.
  abbrev TakesIn : TakeForm → Handles (TakesEach H S D A B C × W) ToolFault
  TakesIn form s apdu r t = TakesMessage form.is_kept (wording form.is_long) effects (how_far s) apdu r (how_far t)

  -- `apdu` leaves the borrowed desk and file, and failures are counted as the form `form` says (`KeepsBorrowed`).
  abbrev KeepsIn : TakeForm → Handles (TakesEach H S D A B C × W) ToolFault
  KeepsIn form s apdu r t = KeepsBorrowed form.is_kept r (borrowed s) (borrowed t)

  -- `apdu` is taken in the form of the handler, which leads from `s` to `t`. The form, the borrowed desk and file
  -- stay, and failures are counted.
  abbrev pub TakesOn : Handles (TakesEach H S D A B C × W) ToolFault
  TakesOn s apdu r t = TakesIn s.0.form s apdu r t × (t.0.form ≡ s.0.form) × KeepsIn s.0.form s apdu r t

  -- If an input is read by `TakesOn`, the command has taken it, and the borrowed desk and file stay.
  -- The form stays that of `before` (`under`). So each message is taken in that form (`taken`), and counted (`keeps`).
  pub input_taken : (old new : Option (List ℕ)) (before after : TakesEach H S D A B C × W) (result : Result ℕ ToolFault)
      → before.0.all_fine ≡ true → ReadsInput TakesOn old new before result after
      → IsTaken (RunsTaking before.0.form.is_kept (wording before.0.form.is_long) effects
      (with_input old (command_at before)) (answer_of result after.0.all_fine) (with_input new (command_at after)))
      before.0.form.is_kept result (borrowed before) (borrowed after)
  input_taken old new before after result fine is =
      let form : TakeForm = before.0.form in
      let under =
      reads_under (λ s. s.0.form ≡ form) TakesOn (λ s t apdu r same h. h.1 ∙ same) old new before after result refl is in
      let taken =
      reads_on_views (Under (λ s. s.0.form ≡ form) TakesOn) (TakesMessage form.is_kept (wording form.is_long) effects) how_far
      (λ s t apdu r h. subst (λ f. TakesIn f s apdu r t) h.0 h.1.0) old new before after result under in
      let keeps =
      input_keeps form.is_kept (Under (λ s. s.0.form ≡ form) TakesOn) borrowed
      (λ s t apdu r h. subst (λ f. KeepsIn f s apdu r t) h.0 h.1.2) old new before after result under in
      let same = keeps.0 in
      record {
        runs = (
          result,
          after.0.all_fine,
          refl,
          subst (λ (b : Bool). ReadsInput (TakesMessage form.is_kept (wording form.is_long) effects) old new
              (progress (command_at before) b) result (how_far after)) fine taken,
        );
        same_keeper = same.0;
        same_came = same.1;
        counted = keeps.1;
      }
