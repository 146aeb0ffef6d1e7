-- Proves the contract of `push_file` (`src/show.rt`).
use Rattle.std.proofs.Common.{List, Ok, Err, refl}
use Rattle.ill_record.specs.declared.role.Role.{Role}
use Rattle.ill_record.specs.declared.side.Side.{Side}
use Rattle.ill_beside.specs.Since.{AnnexRead, annex_of}
use Rattle.ill_web.proofs.DeskLemmas.{ok_implies}
use Rattle.ill_web.proofs.show.push_file.Goals as goal

-- If the desk was opened, its part has its role, its sides and its annex.
pub returns-in-Ok : goal.returns-in-Ok
returns-in-Ok g c =
    let read : Role × List Side × AnnexRead = (c.sides.result.now.role, c.sides.result.now.sides, annex_of c.in-Ok.annex) in
    ok_implies c.push_opened-told.result (λ e. ((c.args.file.now, Ok read), refl, e)) c.push_opened-told.ensures

-- If the desk was not opened, its part has the words of the fault.
pub returns-in-Err : goal.returns-in-Err
returns-in-Err g c =
    ok_implies c.push_fault.result (λ told. ((c.args.file.now, Err told.0), refl, told.1)) c.push_fault.ensures
