-- Answers the contract of `take_request` (`src/request.rt`).
use Rattle.std.proofs.Common.{◌≡◌, Bool, Some, option_map, refl, subst, sym}
use Rattle.std.specs.Prelude.{is_none}
use Rattle.clap.specs.Matches.{found_of}
use Rattle.clap.specs.Walk.{rows_of}
use Rattle.ill_text.specs.Diary.{stamped}
use Rattle.ill_line.specs.Asked.{IsRefusal, stamp_if}
use Rattle.ill_line.proofs.RequestLemmas.{refused_at, refused_on, said_at}
use Rattle.ill_line.proofs.request.take_request.Goals as goal

-- The path was read. A justified refusal of the stamp is a justified refusal of the request.
pub returns-in-Err : goal.returns-in-Err
returns-in-Err c = refused_at _ _ _ _ c.in_ok-file.ensures (refused_on _ _ _
    (subst (λ (is_kept : Bool). IsRefusal (is_none (stamp_if is_kept (rows_of (found_of c.args.matches.now)))) c.in-Err.refusal)
    c.is_set-2.ensures c.in-Err.ensures))

-- Proves the contract of `take_request` if the path and the stamp were read. By `said_at` the request has them, and the
-- flags and the key that the code read.
pub returns : goal.returns
returns c = said_at _ _ _ _ c.in_ok-file.ensures (said_at _ _ _ _
    (subst (λ (is_kept : Bool). stamp_if is_kept (rows_of (found_of c.args.matches.now))
    ≡ Some (option_map stamped c.in-Ok.stamp)) c.is_set-2.ensures c.in-Ok.ensures)
    (rw (sym c.is_set.ensures, sym c.is_set-2.ensures, sym c.said-key.ensures) refl))
