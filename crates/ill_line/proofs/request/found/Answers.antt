-- Answers the contract of `found` (`src/request.rt`).
use Rattle.std.proofs.Common.{List, Option, sym, subst}
use Rattle.clap.specs.Words.{Row, Text, found_of, rows_of}
use Rattle.ill_line.specs.Asked.{ReadsValue, asked, asked_in}
use Rattle.ill_line.proofs.RequestLemmas.{subcommand_met}
use Rattle.ill_line.proofs.request.found.Goals as goal

-- Proves the contract of `found` if the parser met a subcommand. By `subcommand_met` `named` gets its name and its
-- rows.
pub returns-in-Some : goal.returns-in-Some
returns-in-Some c =
    let met = subcommand_met c.args.matches.now c.in-Some.word.now (rows_of (found_of c.in-Some.matches.now))
    c.in-Some.ensures.name
    c.in-Some.ensures.rows in
    subst (λ (said : Option (Text × List Row)). ReadsValue asked (asked_in said) c.named.result) (sym met) c.named.ensures
