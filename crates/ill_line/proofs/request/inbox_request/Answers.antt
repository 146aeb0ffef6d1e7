-- Answers the contract of `inbox_request` (`src/request.rt`).
use Rattle.ill_line.proofs.RequestLemmas.{refused_at, refused_on}
use Rattle.ill_line.proofs.request.inbox_request.Goals as goal

-- The paths were read. A justified refusal of the stamp is a justified refusal of the request.
pub returns-in-Err : goal.returns-in-Err
returns-in-Err c =
    refused_at _ _ _ _ c.in_ok-file.ensures (refused_at _ _ _ _ c.in_ok-folder.ensures (refused_on _ _ _ c.in-Err.ensures))
