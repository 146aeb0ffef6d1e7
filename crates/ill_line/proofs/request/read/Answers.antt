-- Answers the contract of `read` (`src/request.rt`).
use Rattle.std.proofs.Common.{List, ℕ, Bor, map, sym, ◌∙◌}
use Rattle.clap.specs.Words.{subcommand_rows_of}
use Rattle.ill_line.specs.Asked.{asked_in, unless_option}
use Rattle.ill_line.proofs.RequestLemmas.{said_free_keeps, refused_on}
use Rattle.ill_line.proofs.request.read.Goals as goal

-- Proves the contract of `read` if `found` refuses the arguments. By `refused_on` the refusal is justified for `read`
-- too. `texts` are the texts of the words of the command line.
pub returns-in-Err : goal.returns-in-Err
returns-in-Err c =
    let texts = map (λ (word : Bor (List ℕ)). word.now) c.args.words.now in
    refused_on (asked_in (subcommand_rows_of c.args.matches.now)) (unless_option texts) c.in-Err.refusal c.in-Err.ensures

-- Proves the contract of `read` if no option is among the words of an action or of a note. By `said_free_keeps` the
-- request that was found is the request of the words.
pub returns : goal.returns
returns c = said_free_keeps _ _ _ c.in-Ok.ensures (sym c.has_option_of.ensures ∙ c.if-has_option_of.false)
