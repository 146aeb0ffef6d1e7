-- Answers the contract of `day_and_name` (`src/request.rt`).
use Rattle.std.proofs.Common.{Bool, subst}
use Rattle.std.specs.Prelude.{is_none}
use Rattle.clap.specs.Matches.{found_of}
use Rattle.clap.specs.Walk.{rows_of}
use Rattle.ill_line.specs.Asked.{IsRefusal, name_in}
use Rattle.ill_line.proofs.RequestLemmas.{error_reads, refused_at, refused_mapped, refused_on}
use Rattle.ill_line.proofs.request.day_and_name.Goals as goal

-- A justified refusal of the day is a justified refusal of `day_and_name`.
pub returns-in_err-today : goal.returns-in_err-today
returns-in_err-today c =
    error_reads _ _ c.from_residual.result c.in_err-today.field-0.0 c.from_residual.ensures.1
    (refused_on _ _ _ c.in_err-today.ensures)

-- The day was read. A justified refusal of the name is a justified refusal of `day_and_name`.
pub returns-in_err-by : goal.returns-in_err-by
returns-in_err-by c =
    error_reads _ _ c.from_residual-in_err-by.result c.in_err-by.field-0.0 c.from_residual-in_err-by.ensures.1
    (refused_at _ _ _ _ c.in_ok-today.ensures (refused_mapped _ _ _
    (subst (λ (has_day : Bool). IsRefusal (is_none (name_in has_day (rows_of (found_of c.args.matches.now))))
    c.in_err-by.field-0.0)
    c.is_some.ensures c.in_err-by.ensures)))
