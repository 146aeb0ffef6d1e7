-- Proves lemmas on one step of a simulation, and on its end: each result fits the text that was read.
use Rattle.std.proofs.Common.{rules, arith, ◌≡◌, ℕ, ◌+◌, ◌≤◌, Bool, List, [], ◌∷◌, ◌++◌, length, take, drop, Option, Some, None}
use Rattle.std.proofs.Common.{Result, Ok, Err, refl, sym, ap, ◌∙◌, subst, append_assoc, append-nil}
use Rattle.std.specs.Prelude.{IsErrAnd}
use Rattle.std.specs.Io.KnownBytes.{Consumes, Appends, IsAtEnd, prepend_known}
use Rattle.std.proofs.KnownBytes.{Appends-nil, Consumes-nil}
use Rattle.std.proofs.Math.ListN.{take-append-drop}
use Rattle.ill_record.specs.Side.{IsPrefix}
use Rattle.ill_script.specs.declared.lines.Found.TheVariants as found
use Rattle.ill_script.specs.declared.script_line.ScriptLine.{ScriptLine}
use Rattle.ill_script.specs.declared.script_line.ScriptLine.TheVariants as lines
use Rattle.ill_script.specs.declared.fault.SimFault.{SimFault}
use Rattle.ill_script.specs.declared.fault.SimFault.TheVariants.{Script, Read, Write, OutOfMemory}
use Rattle.ill_script.specs.Replay.{Replay, Progress, Streams, Said, empty_reading, line_at, then_says, end_reading}
use Rattle.ill_script.specs.Replay.{broken_reading}
use Rattle.ill_script.specs.Replay.{says_from, reading_from, trace_from, reading_on, broken_on, trace_on, OfAll, Answers, Replays}
use Rattle.ill_script.specs.Simulating.{IsLine, ReadsLine, History, PerformsLine, history_at, StepsLine, IsBeforeEnd, FindsEnd}
use Rattle.ill_script.specs.Simulating.{IsUsedUp}
use Rattle.ill_script.proofs.Scripts.{within, line_within, says_line, says_rest, ends_line, breaks_nothing, says_too_long}
use Rattle.ill_script.proofs.Scripts.{says_too_many, only_bad}
use Rattle.ill_script.proofs.Simulations.{trace_of_none, trace_next, trace_of_one}

-- If a reader is at the end and has `more` left, `more` is empty.
nothing_left : (left : Option (List ℕ)) (more : List ℕ) → IsAtEnd left → left ≡ Some more → more ≡ []
nothing_left left more at_end e = subst IsAtEnd e at_end

-- `W` is the type of worlds, `E` the type of events. `C` is the type of the value that is carried from line to line.
module _ {W E C : Type 0} (replay : Replay W E C) where
  -- ---- the text that was read

  -- The text, with all bytes that are `left` in the reader, begins with `bytes` as line n. A reading `rest` of other
  -- lines follows.
  abbrev pub Begins : C → ℕ → List ℕ → List ℕ → Option (List ℕ) → Type 0
  Begins c n bytes text left = (more : List ℕ) → left ≡ Some more → (rest : Said E)
      × (reading_from replay (end_reading replay) c n (text ++ more) ≡ then_says (line_at replay c n bytes).0 n rest)

  -- The text `bytes` with an LF has `bytes` as line n.
  pub begins_closed : (c : C) (n : ℕ) (bytes : List ℕ) (left : Option (List ℕ)) → IsLine bytes
      → Begins c n bytes (bytes ++ 10 ∷ []) left
  begins_closed c n bytes left is =
      λ more e. (
        reading_from replay (end_reading replay) (line_at replay c n bytes).1 (n + 1) more,
        ap (reading_from replay (end_reading replay) c n) (append_assoc bytes (10 ∷ []) more)
            ∙ says_line replay (end_reading replay) c n bytes more is.0,
      )

  -- The text `bytes` at the end of the reader has `bytes` as line n, if they are not empty.
  pub begins_last : (c : C) (n : ℕ) (bytes : List ℕ) (left : Option (List ℕ)) → IsLine bytes → 1 ≤ length bytes → IsAtEnd left
      → Begins c n bytes bytes left
  begins_last c n bytes left is some at_end =
      λ more e.
      let all : bytes ++ more ≡ bytes = ap (λ m. bytes ++ m) (nothing_left left more at_end e) ∙ append-nil bytes in (
        empty_reading,
        ap (reading_from replay (end_reading replay) c n) all ∙ says_rest replay (end_reading replay) c n bytes is.0
            ∙ ends_line replay c n bytes some,
      )

  -- ---- a line that ends the script with a fault

  -- The trace of no events is empty.
  none_yet : (from : Progress W C) → [] ≡ trace_on replay from []
  none_yet from = sym (trace_of_none replay (from.count + 1) from.world)

  -- If a reading has no events, its trace is empty.
  no_trace : (from : Progress W C) (reading : Said E) (bad : Option ℕ) → reading ≡ record { events = []; bad = bad }
      → [] ≡ trace_on replay from reading.events
  no_trace from reading bad said = none_yet from ∙ ap (λ (s : Said E). trace_on replay from s.events) (sym said)

  -- The rest of a script, from the next line of `from` on, ends with `fault` after `text` is read. The trace that was
  -- written fits `fault`.
  abbrev pub Fails : Progress W C → SimFault → List ℕ → Streams → Streams → Type 0
  Fails from fault text old new =
      (trace : List ℕ) × Appends old.written new.written trace × Answers replay from (Err fault) text new.left trace

  -- If memory ran out and nothing was written, `Fails` holds of the rest of the script.
  no_memory : (from : Progress W C) (text : List ℕ) (old new : Streams) → Appends old.written new.written []
      → Fails from OutOfMemory text old new
  no_memory from text old new nothing =
      ([], nothing, λ more e. ([], ((reading_on replay from (text ++ more)).events, refl), none_yet from))

  -- A prefix of the text of an event is a prefix of the trace that begins with the event.
  prefix_of : (from : Progress W C) (size : ℕ) (event : E) (events : List E)
      → IsPrefix (take size (replay.text (from.count + 1) from.world event)) (trace_on replay from (event ∷ events))
  prefix_of from size event events =
      let shown = replay.text (from.count + 1) from.world event in
      let rest = trace_from replay (from.count + 1 + 1) (replay.next from.world event) events in (
        drop size shown ++ rest,
        trace_next replay (from.count + 1) from.world event events ∙ ap (λ t. t ++ rest) (sym (take-append-drop size shown))
            ∙ append_assoc (take size shown) (drop size shown) rest,
      )

  -- If the next line ends with a fault, the rest of the script ends with it.
  line_fails : (from : Progress W C) (bytes text : List ℕ) (old : Streams) (left : Option (List ℕ)) (says : ScriptLine E)
      (fault : SimFault) (now : History W) → (line_at replay from.carried from.number bytes).0 ≡ says
      → Begins from.carried from.number bytes text left
      → PerformsLine replay says from.number (history_at from old) (Err fault) now
      → Fails from fault text old (record { left = left; written = now.written })
  line_fails from bytes text old left lines.Skipped OutOfMemory now is begins fails = no_memory from text old _ fails
  line_fails from bytes text old left (lines.Event event) OutOfMemory now is begins fails = no_memory from text old _ fails
  line_fails from bytes text old left lines.Bad OutOfMemory now is begins fails = no_memory from text old _ fails
  line_fails from bytes text old left (lines.Event event) Write now is begins fails =
      let shown = take fails.0 (replay.text (from.count + 1) from.world event) in (
        shown,
        fails.1,
        λ more e.
            let said = begins more e in
            subst (λ (s : Said E). IsPrefix shown (trace_on replay from s.events))
            (sym (said.1 ∙ ap (λ l. then_says l from.number said.0) is))
            (prefix_of from fails.0 event said.0.events),
      )
  line_fails from bytes text old left lines.Bad (Script m) now is begins fails = (
    [],
    fails.1,
    λ more e.
        let said = begins more e in
        subst (λ (s : Said E). (s.bad ≡ Some m) × ([] ≡ trace_on replay from s.events))
        (sym (said.1 ∙ ap (λ l. then_says l from.number said.0) is))
        (ap Some (sym fails.0), none_yet from),
  )
  line_fails from bytes text old left lines.Bad Read now is begins fails = absurd fails
  line_fails from bytes text old left lines.Bad Write now is begins fails = absurd fails
  line_fails from bytes text old left (lines.Event event) (Script m) now is begins fails = absurd fails
  line_fails from bytes text old left (lines.Event event) Read now is begins fails = absurd fails
  line_fails from bytes text old left lines.Skipped (Script m) now is begins fails = absurd fails
  line_fails from bytes text old left lines.Skipped Read now is begins fails = absurd fails
  line_fails from bytes text old left lines.Skipped Write now is begins fails = absurd fails

  -- If a line within the limits was performed by its meaning, it was performed as the next line.
  performs_at : (from : Progress W C) (bytes : List ℕ) (old new : History W) (result : Result (Unit {0}) SimFault)
      → from.number ≤ 100000 → IsLine bytes
      → PerformsLine replay (replay.says from.carried bytes).0 from.number old result new
      → PerformsLine replay (line_at replay from.carried from.number bytes).0 from.number old result new
  performs_at from bytes old new result few is performs =
      subst (λ (line : ScriptLine E × C). PerformsLine replay line.0 from.number old result new)
      (sym (line_within replay from.carried from.number bytes few is.1)) performs

  -- ---- the result of `StepsLine`

  -- If the rest of a script ends with a fault, `StepsLine` holds with this fault.
  pub fault_ends_step : (from now : Progress W C) (old new : Streams) (result : Result Bool SimFault) (fault : SimFault)
      → IsErrAnd result (λ f. f ≡ fault) → Replays replay from old (Err fault) new → StepsLine replay from old result now new
  fault_ends_step from now old new (Ok more) fault is replays = absurd is
  fault_ends_step from now old new (Err f) fault is replays = subst (λ f. Replays replay from old (Err f) new) (sym is) replays

  -- If the next line cannot be read because of a fault, the rest of the script ends with this fault.
  pub not_read : (from : Progress W C) (old new written : Option (List ℕ)) (bytes : List ℕ) (fault : SimFault)
      → from.number ≤ 100000 → ReadsLine old new bytes (Err fault)
      → Replays replay from (record { left = old; written = written }) (Err fault) (record { left = new; written = written })
  not_read from old new written bytes Read few read =
      let line = read.0 in
      let said : broken_on replay from bytes ≡ empty_reading =
      says_rest replay broken_reading from.carried from.number bytes line.0
      ∙ breaks_nothing from.carried from.number bytes (within from.number bytes few line.1) in
      (bytes, [], read.1, Appends-nil written, (ap (λ (s : Said E). s.bad) said, no_trace from _ None said))
  not_read from old new written bytes OutOfMemory few read =
      let fails = no_memory from read.0 (record { left = old; written = written }) (record { left = new; written = written })
      (Appends-nil written) in
      (read.0, fails.0, read.1, fails.1, fails.2)
  not_read from old new written bytes (Script m) few read = absurd read
  not_read from old new written bytes Write few read = absurd read

  -- If a line was read whole, and its performance ends with a fault, the script ends with this fault.
  pub line_stops : (from : Progress W C) (old : Streams) (left : Option (List ℕ)) (bytes text : List ℕ) (fault : SimFault)
      (now : History W) → from.number ≤ 100000 → IsLine bytes → Consumes old.left left text
      → Begins from.carried from.number bytes text left
      → PerformsLine replay (replay.says from.carried bytes).0 from.number (history_at from old) (Err fault) now
      → Replays replay from old (Err fault) (record { left = left; written = now.written })
  line_stops from old left bytes text fault now few is read begins fails =
      let ends =
      line_fails from bytes text old left (line_at replay from.carried from.number bytes).0 fault now refl begins
      (performs_at from bytes (history_at from old) now (Err fault) few is fails) in
      (text, ends.0, read, ends.1, ends.2)

  -- If no byte follows the last LF, the rest of the script ends well, with no more events.
  pub nothing_follows : (from : Progress W C) (old new written : Option (List ℕ)) (bytes : List ℕ) → length bytes ≡ 0
      → Consumes old new bytes → IsAtEnd new
      → Replays replay from (record { left = old; written = written }) (Ok from.count) (record { left = new; written = written })
  unfolding says_from
  nothing_follows from old new written [] none read at_end =
      ([], [], read, Appends-nil written, (at_end, refl, none_yet from, omega arith))
  nothing_follows from old new written (byte ∷ bytes) none read at_end = absurd (omega (arith, none))

  -- If the last line has no LF and was performed, `Replays` holds of the script up to its end.
  last_performed : (from : Progress W C) (old : Streams) (left : Option (List ℕ)) (bytes : List ℕ) (says : ScriptLine E)
      (now : History W) → Consumes old.left left bytes → IsAtEnd left
      → reading_on replay from bytes ≡ then_says says from.number empty_reading
      → PerformsLine replay says from.number (history_at from old) (Ok tt) now
      → Replays replay from old (Ok now.count) (record { left = left; written = now.written })
  last_performed from old left bytes lines.Skipped now read at_end said done =
      let zero : now.count ≡ from.count + length (then_says {E = E} lines.Skipped from.number empty_reading).events =
      omega (arith, done.1) in (
        bytes,
        [],
        read,
        done.2,
        (
          at_end,
          ap (λ (s : Said E). s.bad) said,
          no_trace from _ None said,
          zero ∙ ap (λ (s : Said E). from.count + length s.events) (sym said),
        ),
      )
  last_performed from old left bytes (lines.Event event) now read at_end said done =
      let one : now.count ≡ from.count + length (then_says (lines.Event event) from.number empty_reading).events =
      omega (arith, done.1) in (
        bytes,
        replay.text (from.count + 1) from.world event,
        read,
        done.2,
        (
          at_end,
          ap (λ (s : Said E). s.bad) said,
          sym (trace_of_one replay (from.count + 1) from.world event)
              ∙ ap (λ (s : Said E). trace_on replay from s.events) (sym said),
          one ∙ ap (λ (s : Said E). from.count + length s.events) (sym said),
        ),
      )
  last_performed from old left bytes lines.Bad now read at_end said done = absurd done

  -- If the last bytes are a line within the limits, and were performed, the rest of the script ends well.
  pub ended_with_line : (from : Progress W C) (old : Streams) (left : Option (List ℕ)) (bytes : List ℕ) (now : History W)
      → from.number ≤ 100000 → IsLine bytes → 1 ≤ length bytes → Consumes old.left left bytes → IsAtEnd left
      → PerformsLine replay (replay.says from.carried bytes).0 from.number (history_at from old) (Ok tt) now
      → Replays replay from old (Ok now.count) (record { left = left; written = now.written })
  ended_with_line from old left bytes now few is some read at_end done =
      last_performed from old left bytes (line_at replay from.carried from.number bytes).0 now read at_end
      (says_rest replay (end_reading replay) from.carried from.number bytes is.0
      ∙ ends_line replay from.carried from.number bytes some)
      (performs_at from bytes (history_at from old) now (Ok tt) few is done)

  -- If the next line is too long, the rest of the script ends with it as the bad line.
  pub too_long_stops : (from : Progress W C) (old new written : Option (List ℕ)) (bytes : List ℕ)
      → ReadsLine old new bytes (Ok found.TooLong)
      → Replays replay from (record { left = old; written = written }) (Err (Script from.number))
      (record { left = new; written = written })
  too_long_stops from old new written bytes read = (
    read.0,
    [],
    read.3,
    Appends-nil written,
    λ more e.
        let said = says_too_long replay from.carried from.number read.0 more read.1 (omega (arith, read.2)) in
        (ap (λ (s : Said E). s.bad) said, no_trace from _ _ said),
  )

  -- ---- the end

  -- If bytes follow line 100,000, line 100,001 is bad.
  too_many_follow : (c : C) (text : List ℕ) → 1 ≤ length text
      → reading_from replay (end_reading replay) c 100001 text ≡ only_bad 100001
  too_many_follow c [] some = absurd (omega (arith, some))
  too_many_follow c (byte ∷ text) some = says_too_many replay c 100001 byte text (omega arith)

  -- After line 100,000 the rest of the script ends as `FindsEnd` says.
  end_found : (c : C) (w : W) (count : ℕ) (old new written : Option (List ℕ)) (result : Result ℕ SimFault)
      → FindsEnd count old new result
      → Replays replay (record { number = 100001; carried = c; world = w; count = count })
      (record { left = old; written = written }) result (record { left = new; written = written })
  unfolding says_from
  end_found c w count old new written (Ok total) finds = (
    [],
    [],
    finds.1,
    Appends-nil written,
    (finds.2, refl, sym (trace_of_none replay (count + 1) w), omega (arith, finds.0)),
  )
  end_found c w count old new written (Err (Script n)) finds = (
    [],
    [],
    finds.1,
    Appends-nil written,
    λ more e.
        let said = too_many_follow c more (subst IsBeforeEnd e finds.2) in (
          ap (λ (s : Said E). s.bad) said ∙ ap Some (sym finds.0),
          sym (trace_of_none replay (count + 1) w) ∙ ap (λ (s : Said E). trace_from replay (count + 1) w s.events) (sym said),
        ),
  )
  end_found c w count old new written (Err Read) finds =
      ([], [], finds, Appends-nil written, (refl, sym (trace_of_none replay (count + 1) w)))
  end_found c w count old new written (Err Write) finds = absurd finds
  end_found c w count old new written (Err OutOfMemory) finds = absurd finds

  -- If the next line is line 100,001, the rest of the script ends as `FindsEnd` says.
  pub finds_end : (from : Progress W C) (old new written : Option (List ℕ)) (result : Result ℕ SimFault)
      → from.number ≡ 100001 → FindsEnd from.count old new result
      → Replays replay from (record { left = old; written = written }) result (record { left = new; written = written })
  finds_end from old new written result all finds =
      subst (λ n. Replays replay (record from { number = n }) (record { left = old; written = written }) result
      (record { left = new; written = written })) (sym all)
      (end_found from.carried from.world from.count old new written result finds)

  -- If memory runs out before line 1, the script ends with `OutOfMemory`, and no byte is read or written.
  pub not_begun : (from : Progress W C) (streams : Streams) (result : Result ℕ SimFault)
      → IsErrAnd result (λ f. f ≡ OutOfMemory) → Replays replay from streams result streams
  not_begun from streams (Ok count) failed = absurd failed
  not_begun from streams (Err fault) failed =
      let fails = no_memory from [] streams streams (Appends-nil streams.written) in
      subst (λ f. Replays replay from streams (Err f) streams) (sym failed)
      ([], fails.0, Consumes-nil streams.left, fails.1, fails.2)

-- ---- bytes that were read ahead

-- If `P` holds of `text` and all bytes that are left, it holds if the bytes ahead count as read.
read_of_all : (text ahead rest : List ℕ) (P : List ℕ → Type 0) → OfAll text (Some (ahead ++ rest)) P
    → OfAll (text ++ ahead) (Some rest) P
read_of_all text ahead rest P of_all = λ more e.
    subst P (sym (append_assoc text ahead more)) (of_all (ahead ++ more) (ap (λ left. prepend_known ahead left) e))

-- If `ahead ++ rest` is empty, both lists are empty.
none_ahead : (ahead rest : List ℕ) → ahead ++ rest ≡ [] → (ahead ≡ []) × (rest ≡ [])
none_ahead [] rest none = (refl, none)
none_ahead (byte ∷ ahead) rest none = search rules

-- If a reader consumes `text` and leaves `ahead` and `rest`, it consumes `text ++ ahead` and leaves `rest`.
consumes_ahead : (old : Option (List ℕ)) (text ahead rest : List ℕ)
    → Consumes (prepend_known [] old) (Some (ahead ++ rest)) text → Consumes old (Some rest) (text ++ ahead)
consumes_ahead None text ahead rest read = tt
consumes_ahead (Some bytes) text ahead rest read = read ∙ sym (append_assoc text ahead rest)

-- `W` is the type of worlds, `E` the type of events. `C` is the type of the value that is carried from line to line.
-- The script goes on from `from`.
module _ {W E C : Type 0} (replay : Replay W E C) (from : Progress W C) where
  -- If no byte is ahead, a result that fits `text` fits `text` with the bytes ahead.
  read_whole : (text ahead rest trace : List ℕ) (result : Result ℕ SimFault) → ahead ≡ []
      → Answers replay from result text (Some rest) trace → Answers replay from result (text ++ ahead) (Some rest) trace
  read_whole text ahead rest trace result none answers =
      subst (λ t. Answers replay from result t (Some rest) trace) (sym (ap (λ l. text ++ l) none ∙ append-nil text)) answers

  -- If a result fits with bytes ahead, it fits if these count as read. After a reader's fault no byte is ahead.
  answers_of_all : (text ahead rest trace : List ℕ) (result : Result ℕ SimFault) → IsUsedUp ahead result
      → Answers replay from result text (Some (ahead ++ rest)) trace
      → Answers replay from result (text ++ ahead) (Some rest) trace
  answers_of_all text ahead rest trace (Ok count) used answers =
      let none = none_ahead ahead rest answers.0 in
      read_whole text ahead rest trace (Ok count) none.0 (none.1, answers.1, answers.2, answers.3)
  answers_of_all text ahead rest trace (Err (Script n)) used answers =
      read_of_all text ahead rest
      (λ t. ((reading_on replay from t).bad ≡ Some n) × (trace ≡ trace_on replay from (reading_on replay from t).events)) answers
  answers_of_all text ahead rest trace (Err Read) used answers = read_whole text ahead rest trace (Err Read) used answers
  answers_of_all text ahead rest trace (Err Write) used answers =
      read_of_all text ahead rest (λ t. IsPrefix trace (trace_on replay from (reading_on replay from t).events)) answers
  answers_of_all text ahead rest trace (Err OutOfMemory) used answers =
      read_of_all text ahead rest
      (λ t. (events : List E) × IsPrefix events (reading_on replay from t).events × (trace ≡ trace_on replay from events)) answers

  -- If a script was performed with bytes ahead, it was performed if these count as read.
  all_read : (ahead : List ℕ) (old new before after : Option (List ℕ)) (result : Result ℕ SimFault) → IsUsedUp ahead result
      → Replays replay from (record { left = prepend_known [] old; written = before }) result
      (record { left = prepend_known ahead new; written = after })
      → Replays replay from (record { left = old; written = before }) result (record { left = new; written = after })
  all_read ahead None None before after result used replays = replays
  all_read ahead (Some bytes) None before after result used replays = absurd replays.2
  all_read ahead old (Some rest) before after result used replays =
      let text = replays.0 in
      let trace = replays.1 in (
        text ++ ahead,
        trace,
        consumes_ahead old text ahead rest replays.2,
        replays.3,
        answers_of_all text ahead rest trace result used replays.4,
      )

  -- If no byte was ahead at first, the script was performed on the reader. Bytes that are ahead now count as read.
  pub counts_as_read : (first ahead : List ℕ) (old new before after : Option (List ℕ)) (result : Result ℕ SimFault)
      → first ≡ [] → IsUsedUp ahead result
      → Replays replay from (record { left = prepend_known first old; written = before }) result
      (record { left = prepend_known ahead new; written = after })
      → Replays replay from (record { left = old; written = before }) result (record { left = new; written = after })
  counts_as_read first ahead old new before after result none used replays =
      all_read ahead old new before after result used
      (subst (λ l. Replays replay from (record { left = prepend_known l old; written = before }) result
      (record { left = prepend_known ahead new; written = after })) none replays)
