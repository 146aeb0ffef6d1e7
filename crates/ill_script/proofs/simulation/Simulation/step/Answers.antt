-- Proves the clause `steps` of `Simulation::step` (`src/simulation.rt`). The cases are the kinds of a line, and the
-- faults of reading and performing it.
use Rattle.std.proofs.Common.{arith, ◌≡◌, ◌≤◌, length, Ok, sym, subst}
use Rattle.std.specs.Io.KnownBytes.{prepend_known}
use Rattle.ill_script.specs.declared.lines.Found.TheVariants as found
use Rattle.ill_script.specs.Simulating.{ReadsLine}
use Rattle.ill_script.proofs.Steps.{fault_ends_step, not_read, line_stops, nothing_follows, ended_with_line, too_long_stops}
use Rattle.ill_script.proofs.Steps.{begins_closed, begins_last}
use Rattle.ill_script.proofs.simulation.Simulation.step.Goals as goal

-- The line could not be read.
pub returns-in_err-next_line-clause-steps : goal.returns-in_err-next_line-clause-steps
returns-in_err-next_line-clause-steps g c =
    fault_ends_step g.T.Performer.replay _ _ _ _ c.from_residual.result c.in_err-next_line.field-0.0 c.from_residual.ensures.1
    (not_read g.T.Performer.replay _ _ _ _ c.next_line.new.line.items c.in_err-next_line.field-0.0 c.requires.number
    c.in_err-next_line.ensures.line)

-- A line with its LF was read, and its performance failed.
pub returns-in_err-perform_line-in-Line-clause-steps : goal.returns-in_err-perform_line-in-Line-clause-steps
returns-in_err-perform_line-in-Line-clause-steps g c =
    let remaining = g.R.Read.remaining in
    let bytes = c.next_line.new.line.items in
    let was = subst (λ f. ReadsLine (prepend_known c.args.self.now.ahead (remaining c.args.reader.now))
    (prepend_known c.next_line.new.ahead (remaining c.next_line.new.reader)) bytes (Ok f)) c.in-Line.is
    c.in_ok-next_line.ensures.line in
    let read = subst (λ ahead. ReadsLine (prepend_known c.args.self.now.ahead (remaining c.args.reader.now))
    (prepend_known ahead (remaining c.next_line.new.reader)) bytes (Ok found.Line)) (sym c.perform_line.ensures.ahead) was in
    fault_ends_step g.T.Performer.replay _ _ _ _
    c.from_residual-in_err-perform_line-in-Line.result c.in_err-perform_line-in-Line.field-0.0
    c.from_residual-in_err-perform_line-in-Line.ensures.1
    (line_stops g.T.Performer.replay _ _ _ bytes _ c.in_err-perform_line-in-Line.field-0.0 _ c.requires.number read.0 read.1
    (begins_closed g.T.Performer.replay _ _ bytes _ read.0)
    c.in_err-perform_line-in-Line.ensures.performs)

-- The last line has no LF, and its performance failed.
pub returns-in_err-perform_line-in-Rest-2-clause-steps : goal.returns-in_err-perform_line-in-Rest-2-clause-steps
returns-in_err-perform_line-in-Rest-2-clause-steps g c =
    let remaining = g.R.Read.remaining in
    let bytes = c.next_line.new.line.items in
    let was = subst (λ f. ReadsLine (prepend_known c.args.self.now.ahead (remaining c.args.reader.now))
    (prepend_known c.next_line.new.ahead (remaining c.next_line.new.reader)) bytes (Ok f)) c.in-Rest-2.is
    c.in_ok-next_line.ensures.line in
    let read = subst (λ ahead. ReadsLine (prepend_known c.args.self.now.ahead (remaining c.args.reader.now))
    (prepend_known ahead (remaining c.next_line.new.reader)) bytes (Ok found.Rest))
    (sym c.perform_line-in-Rest-2.ensures.ahead) was in
    let some : 1 ≤ length bytes = grind arith in
    fault_ends_step g.T.Performer.replay _ _ _ _
    c.from_residual-in_err-perform_line-in-Rest-2.result c.in_err-perform_line-in-Rest-2.field-0.0
    c.from_residual-in_err-perform_line-in-Rest-2.ensures.1
    (line_stops g.T.Performer.replay _ _ _ bytes _ c.in_err-perform_line-in-Rest-2.field-0.0 _ c.requires.number read.0 read.1
    (begins_last g.T.Performer.replay _ _ bytes _ read.0 some read.2)
    c.in_err-perform_line-in-Rest-2.ensures.performs)

-- No byte follows the last LF, and the script has ended.
pub returns-in-Rest-clause-steps : goal.returns-in-Rest-clause-steps
returns-in-Rest-clause-steps g c =
    let remaining = g.R.Read.remaining in
    let bytes = c.next_line.new.line.items in
    let read = subst (λ f. ReadsLine (prepend_known c.args.self.now.ahead (remaining c.args.reader.now))
    (prepend_known c.next_line.new.ahead (remaining c.next_line.new.reader)) bytes (Ok f)) c.in-Rest.is
    c.in_ok-next_line.ensures.line in
    let none : length bytes ≡ 0 = grind arith in
    nothing_follows g.T.Performer.replay _ _ _ _ bytes none read.1 read.2

-- The last line has no LF, and was performed.
pub returns-in_ok-perform_line-in-Rest-2-clause-steps : goal.returns-in_ok-perform_line-in-Rest-2-clause-steps
returns-in_ok-perform_line-in-Rest-2-clause-steps g c =
    let remaining = g.R.Read.remaining in
    let bytes = c.next_line.new.line.items in
    let was = subst (λ f. ReadsLine (prepend_known c.args.self.now.ahead (remaining c.args.reader.now))
    (prepend_known c.next_line.new.ahead (remaining c.next_line.new.reader)) bytes (Ok f)) c.in-Rest-2.is
    c.in_ok-next_line.ensures.line in
    let read = subst (λ ahead. ReadsLine (prepend_known c.args.self.now.ahead (remaining c.args.reader.now))
    (prepend_known ahead (remaining c.next_line.new.reader)) bytes (Ok found.Rest))
    (sym c.perform_line-in-Rest-2.ensures.ahead) was in
    let some : 1 ≤ length bytes = grind arith in
    ended_with_line g.T.Performer.replay _ _ _ bytes _ c.requires.number read.0 some
    read.1 read.2 c.in_ok-perform_line-in-Rest-2.ensures.performs

-- The line is too long, and so it is bad.
pub returns-in-TooLong-clause-steps : goal.returns-in-TooLong-clause-steps
returns-in-TooLong-clause-steps g c =
    let remaining = g.R.Read.remaining in
    let bytes = c.next_line.new.line.items in
    let read = subst (λ f. ReadsLine (prepend_known c.args.self.now.ahead (remaining c.args.reader.now))
    (prepend_known c.next_line.new.ahead (remaining c.next_line.new.reader)) bytes (Ok f)) c.in-TooLong.is
    c.in_ok-next_line.ensures.line in
    too_long_stops g.T.Performer.replay _ _ _ _ bytes read
