-- Proves the contract of `take_part` (`src/lines.rt`). The bytes ahead have an LF within the limit, go beyond it, or
-- all belong to the line.
use Rattle.std.proofs.Common.{arith, rules}
use Rattle.ill_script.proofs.Texts.{takes_line, takes_too_long, takes_all}
use Rattle.ill_script.proofs.lines.take_part.Goals as goal

-- An LF is within the limit, and the bytes before it are appended.
pub returns-in_ok-extend_from_slice-in-Some : goal.returns-in_ok-extend_from_slice-in-Some
returns-in_ok-extend_from_slice-in-Some c =
    takes_line c.args.ahead.now c.skip.new.self c.args.line.now.items c.extend_from_slice.new.self.items c.min-most.result
    c.in-Some.at (search (arith, rules)) (search (arith, rules)) (search rules) (search rules) (search rules)

-- No LF is within the limit, and the bytes go beyond it.
pub returns-in-None : goal.returns-in-None
returns-in-None c = takes_too_long c.args.ahead.now c.skip-in-None.new.self c.args.line.now.items c.args.line.now.items
    c.min-most.result (search (arith, rules)) (search (arith, rules)) (search rules) (search rules) (search rules)

-- No LF is among the bytes, and all of them are appended.
pub returns-in_ok-extend_from_slice-in-None-2 : goal.returns-in_ok-extend_from_slice-in-None-2
returns-in_ok-extend_from_slice-in-None-2 c =
    takes_all c.args.ahead.now c.skip-in-None-2.new.self c.args.line.now.items c.extend_from_slice-in-None-2.new.self.items
    c.min-most.result (search (arith, rules)) (search rules) (search (arith, rules)) (search rules) (search rules) (search rules)
