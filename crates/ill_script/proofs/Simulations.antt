-- Proves that a trace grows by one text with each event. Then it proves that a script may go on after each line that
-- was performed.
use Rattle.std.proofs.Common.{arith, ◌≡◌, ℕ, ◌+◌, Bool, true, false, List, [], ◌∷◌, ◌++◌, length, Option, Some, Result, Ok, Err}
use Rattle.std.proofs.Common.{refl, sym, ap, ◌∙◌, subst, append_assoc, append-nil, length-append, true≢false}
use Rattle.std.specs.Io.KnownBytes.{Consumes, Appends}
use Rattle.std.proofs.KnownBytes.{Consumes-trans, Appends-trans}
use Rattle.ill_record.specs.Side.{IsPrefix}
use Rattle.ill_script.specs.declared.script_line.ScriptLine.{ScriptLine}
use Rattle.ill_script.specs.declared.script_line.ScriptLine.TheVariants as lines
use Rattle.ill_script.specs.declared.fault.SimFault.{SimFault}
use Rattle.ill_script.specs.declared.fault.SimFault.TheVariants.{Script, Read, Write, OutOfMemory}
use Rattle.ill_script.specs.Replay.{Replay, Progress, Streams, Said, line_at, then_says, end_reading, broken_reading}
use Rattle.ill_script.specs.Replay.{reading_from}
use Rattle.ill_script.specs.Replay.{trace_from, reading_on, broken_on, trace_on, Answers, Replays}
use Rattle.ill_script.specs.Simulating.{IsLine, PerformsLine, history_at, StepsLine}
use Rattle.ill_script.proofs.Scripts.{says_line}

-- ---- the trace of a replay

-- `W` is the type of worlds, `E` the type of events. `C` is the type of the value that is carried from line to line.
module _ {W E C : Type 0} (replay : Replay W E C) where
  -- The trace of no events is empty.
  pub trace_of_none : (n : ℕ) (w : W) → trace_from replay n w [] ≡ []
  unfolding trace_from
  trace_of_none n w = refl

  -- The trace of events is the text of the first event, and then the trace of the others.
  pub trace_next : (n : ℕ) (w : W) (event : E) (events : List E)
      → trace_from replay n w (event ∷ events) ≡ replay.text n w event ++ trace_from replay (n + 1) (replay.next w event) events
  unfolding trace_from
  trace_next n w event events = refl

  -- The trace of one event is its text.
  pub trace_of_one : (n : ℕ) (w : W) (event : E) → trace_from replay n w (event ∷ []) ≡ replay.text n w event
  trace_of_one n w event =
      trace_next n w event [] ∙ ap (λ t. replay.text n w event ++ t) (trace_of_none (n + 1) (replay.next w event))
      ∙ append-nil (replay.text n w event)

-- ---- the trace of a run, one event after another

-- `run` gives the world after a list of events. By `none` no event leaves the world as it is. By `next` the first event
-- leads to the world in which the others happen.
module _ {W E C : Type 0} (replay : Replay W E C) (run : W → List E → W) (none : (w : W) → run w [] ≡ w)
    (next : (w : W) (event : E) (events : List E) → run w (event ∷ events) ≡ run (replay.next w event) events) where
  -- The trace of `events ++ more` is the trace of `events`, followed by the trace of `more`.
  pub trace_more : (n : ℕ) (w : W) (events more : List E)
      → trace_from replay n w (events ++ more)
      ≡ trace_from replay n w events ++ trace_from replay (n + length events) (run w events) more
  trace_more n w [] more =
      ap (λ m. trace_from replay m w more) (omega arith) ∙ ap (λ v. trace_from replay (n + 0) v more) (sym (none w))
      ∙ ap (λ t. t ++ trace_from replay (n + 0) (run w []) more) (sym (trace_of_none replay n w))
  trace_more n w (event ∷ events) more =
      let after = replay.next w event in
      let text = replay.text n w event in
      let count : n + 1 + length events ≡ n + length (event ∷ events) = omega arith in
      trace_next replay n w event (events ++ more)
      ∙ ap (λ t. text ++ t) (trace_more (n + 1) after events more)
      ∙ sym (append_assoc text (trace_from replay (n + 1) after events)
      (trace_from replay (n + 1 + length events) (run after events) more))
      ∙ ap (λ t. t ++ trace_from replay (n + 1 + length events) (run after events) more)
      (sym (trace_next replay n w event events))
      ∙ ap (λ m. trace_from replay n w (event ∷ events) ++ trace_from replay m (run after events) more) count
      ∙ ap (λ v. trace_from replay n w (event ∷ events) ++ trace_from replay (n + length (event ∷ events)) v more)
      (sym (next w event events))

  -- The run of `events` and one more is the run of `events`, and then that event.
  pub run_more : (w : W) (events : List E) (event : E) → run w (events ++ event ∷ []) ≡ replay.next (run w events) event
  run_more w [] event = next w event [] ∙ none (replay.next w event) ∙ ap (λ v. replay.next v event) (sym (none w))
  run_more w (first ∷ events) event =
      next w first (events ++ event ∷ []) ∙ run_more (replay.next w first) events event
      ∙ ap (λ v. replay.next v event) (sym (next w first events))

  -- One more event adds its text to the trace.
  pub trace_line : (n : ℕ) (w : W) (events : List E) (event : E)
      → trace_from replay n w (events ++ event ∷ [])
      ≡ trace_from replay n w events ++ replay.text (n + length events) (run w events) event
  trace_line n w events event =
      trace_more n w events (event ∷ [])
      ∙ ap (λ t. trace_from replay n w events ++ t) (trace_of_one replay (n + length events) (run w events) event)

  -- The trace of `events` is a prefix of the trace of `events ++ more`.
  pub trace_prefix : (n : ℕ) (w : W) (events more : List E)
      → IsPrefix (trace_from replay n w events) (trace_from replay n w (events ++ more))
  trace_prefix n w events more = (trace_from replay (n + length events) (run w events) more, trace_more n w events more)

-- ---- events, and the rest after them

-- Returns a reading with `events` before its own.
abbrev pub with_events : {E : Type 0} → List E → Said E → Said E
with_events events more = record { events = events ++ more.events; bad = more.bad }

-- `W` is the type of worlds, `E` the type of events. `C` is the type of the value that is carried from line to line.
module _ {W E C : Type 0} (replay : Replay W E C) where
  -- The text `prefix` has the events `events`, and `shown` is their trace. A result that fits the rest of the text,
  -- from `now` on, fits the whole. For each result, the equations carry what `answers` says of the rest over to the
  -- whole: for Ok, the events and their count; for a bad line, the events before it; for Read, the events of a text
  -- that breaks off; for Write, a trace that is written in part; for OutOfMemory, the trace of some first events.
  answers_on : (from now : Progress W C) (prefix shown : List ℕ) (events : List E)
      → ((text : List ℕ) → reading_on replay from (prefix ++ text) ≡ with_events events (reading_on replay now text))
      → ((text : List ℕ) → broken_on replay from (prefix ++ text) ≡ with_events events (broken_on replay now text))
      → ((more : List E) → trace_on replay from (events ++ more) ≡ shown ++ trace_on replay now more)
      → now.count ≡ from.count + length events
      → (result : Result ℕ SimFault) (text : List ℕ) (left : Option (List ℕ)) (written : List ℕ)
      → Answers replay now result text left written → Answers replay from result (prefix ++ text) left (shown ++ written)
  answers_on from now prefix shown events says breaks shows counts (Ok total) text left written answers =
      let es = (reading_on replay now text).events in
      let sum : total ≡ from.count + length (events ++ es) = omega (arith, answers.3, counts, length-append events es) in (
        answers.0,
        ap (λ (s : Said E). s.bad) (says text) ∙ answers.1,
        ap (λ t. shown ++ t) answers.2 ∙ sym (shows es) ∙ ap (λ (s : Said E). trace_on replay from s.events) (sym (says text)),
        sum ∙ ap (λ (s : Said E). from.count + length s.events) (sym (says text)),
      )
  answers_on from now prefix shown events says breaks shows counts (Err (Script m)) text left written answers =
      λ more e.
      let answered = answers more e in
      let said = ap (reading_on replay from) (append_assoc prefix text more) ∙ says (text ++ more) in
      subst (λ (s : Said E). (s.bad ≡ Some m) × (shown ++ written ≡ trace_on replay from s.events)) (sym said)
      (answered.0, ap (λ t. shown ++ t) answered.1 ∙ sym (shows (reading_on replay now (text ++ more)).events))
  answers_on from now prefix shown events says breaks shows counts (Err Read) text left written answers = (
    ap (λ (s : Said E). s.bad) (breaks text) ∙ answers.0,
    ap (λ t. shown ++ t) answers.1 ∙ sym (shows (broken_on replay now text).events)
        ∙ ap (λ (s : Said E). trace_on replay from s.events) (sym (breaks text)),
  )
  answers_on from now prefix shown events says breaks shows counts (Err Write) text left written answers =
      λ more e.
      let answered = answers more e in
      let said = ap (reading_on replay from) (append_assoc prefix text more) ∙ says (text ++ more) in
      subst (λ (s : Said E). IsPrefix (shown ++ written) (trace_on replay from s.events)) (sym said) (
        answered.0,
        shows (reading_on replay now (text ++ more)).events ∙ ap (λ t. shown ++ t) answered.1
            ∙ sym (append_assoc shown written answered.0),
      )
  answers_on from now prefix shown events says breaks shows counts (Err OutOfMemory) text left written answers =
      λ more e.
      let answered = answers more e in
      let first = answered.0 in
      let begins = answered.1 in
      let said = ap (reading_on replay from) (append_assoc prefix text more) ∙ says (text ++ more) in
      subst (λ (s : Said E). (es : List E) × IsPrefix es s.events × (shown ++ written ≡ trace_on replay from es)) (sym said) (
        events ++ first,
        (begins.0, ap (λ es. events ++ es) begins.1 ∙ sym (append_assoc events first begins.0)),
        ap (λ t. shown ++ t) answered.2 ∙ sym (shows first),
      )

  -- ---- a line, and the rest of the script after it

  -- Let `prefix` be read, and `shown`, the trace of its events, be written. Then a performance of the rest is one of
  -- the whole. The rest goes on from `now`, with the streams `middle`.
  replays_after : (from now : Progress W C) (prefix shown : List ℕ) (events : List E) (old middle new : Streams)
      (result : Result ℕ SimFault)
      → ((end : C → ℕ → List ℕ → Said E) (text : List ℕ)
      → reading_from replay end from.carried from.number (prefix ++ text)
      ≡ with_events events (reading_from replay end now.carried now.number text))
      → ((more : List E) → trace_on replay from (events ++ more) ≡ shown ++ trace_on replay now more)
      → now.count ≡ from.count + length events
      → Consumes old.left middle.left prefix → Appends old.written middle.written shown
      → Replays replay now middle result new → Replays replay from old result new
  replays_after from now prefix shown events old middle new result says shows counts read written rest = (
    prefix ++ rest.0,
    shown ++ rest.1,
    Consumes-trans old.left middle.left new.left prefix rest.0 read rest.2,
    Appends-trans old.written middle.written new.written shown rest.1 written rest.3,
    answers_on from now prefix shown events (says (end_reading replay)) (says broken_reading) shows counts result rest.0 new.left
        rest.1 rest.4,
  )

  -- If an LF closes the next line, the reading is its meaning `says`, followed by the reading of the rest.
  says_closed : (from now : Progress W C) (bytes : List ℕ) (says : ScriptLine E) → IsLine bytes
      → (line_at replay from.carried from.number bytes).0 ≡ says → now.carried ≡ (line_at replay from.carried from.number bytes).1
      → now.number ≡ from.number + 1 → (end : C → ℕ → List ℕ → Said E) (text : List ℕ)
      → reading_from replay end from.carried from.number ((bytes ++ 10 ∷ []) ++ text)
      ≡ then_says says from.number (reading_from replay end now.carried now.number text)
  says_closed from now bytes says is e leaves next end text =
      let line = line_at replay from.carried from.number bytes in
      ap (reading_from replay end from.carried from.number) (append_assoc bytes (10 ∷ []) text)
      ∙ says_line replay end from.carried from.number bytes text is.0
      ∙ ap (λ meaning. then_says meaning from.number (reading_from replay end line.1 (from.number + 1) text)) e
      ∙ ap (λ l. then_says says from.number (reading_from replay end l (from.number + 1) text)) (sym leaves)
      ∙ ap (λ n. then_says says from.number (reading_from replay end now.carried n text)) (sym next)

  -- Let the next line be performed, and then the rest of the script from `now` on. Then the script was performed from
  -- `from` on. `says` is the meaning of the line.
  line_first : (from now : Progress W C) (bytes : List ℕ) (says : ScriptLine E) (old middle new : Streams)
      (result : Result ℕ SimFault)
      → IsLine bytes → (line_at replay from.carried from.number bytes).0 ≡ says
      → now.carried ≡ (line_at replay from.carried from.number bytes).1 → now.number ≡ from.number + 1
      → Consumes old.left middle.left (bytes ++ 10 ∷ [])
      → PerformsLine replay says from.number (history_at from old) (Ok tt) (history_at now middle)
      → Replays replay now middle result new → Replays replay from old result new
  line_first from now bytes lines.Skipped old middle new result is e leaves next read done rest =
      let stays : (more : List E) → trace_on replay from more ≡ trace_on replay now more =
      λ more. ap (λ k. trace_from replay (k + 1) from.world more) (sym done.1)
      ∙ ap (λ v. trace_from replay (now.count + 1) v more) (sym done.0) in
      replays_after from now (bytes ++ 10 ∷ []) [] [] old middle new result
      (says_closed from now bytes lines.Skipped is e leaves next) stays (omega (arith, done.1)) read done.2 rest
  line_first from now bytes (lines.Event event) old middle new result is e leaves next read done rest =
      let text = replay.text (from.count + 1) from.world event in
      let shows : (more : List E) → trace_on replay from (event ∷ more) ≡ text ++ trace_on replay now more =
      λ more. trace_next replay (from.count + 1) from.world event more
      ∙ ap (λ k. text ++ trace_from replay (k + 1) (replay.next from.world event) more) (sym done.1)
      ∙ ap (λ v. text ++ trace_from replay (now.count + 1) v more) (sym done.0) in
      replays_after from now (bytes ++ 10 ∷ []) text (event ∷ []) old middle new result
      (says_closed from now bytes (lines.Event event) is e leaves next) shows (omega (arith, done.1)) read done.2 rest
  line_first from now bytes lines.Bad old middle new result is e leaves next read done rest = absurd done

  -- Let the next line be performed, and more may follow. Then a performance of the rest from `now` on is one of the
  -- script from `from` on.
  pub goes_on : (from now : Progress W C) (old middle new : Streams) (more : Bool) (result : Result ℕ SimFault)
      → more ≡ true → StepsLine replay from old (Ok more) now middle → Replays replay now middle result new
      → Replays replay from old result new
  goes_on from now old middle new true result follows step rest =
      line_first from now step.0 (line_at replay from.carried from.number step.0).0 old middle new result step.1 refl step.4
      step.5
      step.2 step.3 rest
  goes_on from now old middle new false result follows step rest = absurd (true≢false (sym follows))

  -- If the next line was performed, and no other may follow, the script was performed.
  pub ends_here : (from now : Progress W C) (old new : Streams) (more : Bool)
      → more ≡ false → StepsLine replay from old (Ok more) now new → Replays replay from old (Ok now.count) new
  ends_here from now old new false ends step = step
  ends_here from now old new true ends step = absurd (true≢false ends)
