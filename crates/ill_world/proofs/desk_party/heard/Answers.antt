-- Proves the contract of `heard` (`src/desk_party.rt`). The decoded APDU and its size decide the outcome of noise, by
-- `heard_as`.
use Rattle.std.proofs.Common.{rules}
use Rattle.ill_der.specs.ShortForm.{apdu_at}
use Rattle.ill_world.proofs.DeskParties.{heard_as}
use Rattle.ill_world.proofs.desk_party.heard.Goals as goal

pub returns : goal.returns
returns c =
    let heard = heard_as c.args.bytes.now (apdu_at c.args.bytes.now) c.decode.result c.decode.ensures.read in
    search (rules, heard)
