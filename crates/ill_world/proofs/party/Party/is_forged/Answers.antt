-- Proves the contract of `Party::is_forged` (`src/party.rt`) if the bytes begin with an APDU. They are exactly one APDU
-- if this APDU has the length of the bytes.
use Rattle.std.proofs.Common.{rules}
use Rattle.ill_record.specs.Side.{txn_of}
use Rattle.ill_der.specs.ShortForm.{apdu_at}
use Rattle.ill_world.proofs.Messages.{whole_is_of, part_is_of}
use Rattle.ill_world.proofs.party.Party.is_forged.Goals as goal
use Rattle.ill_world.proofs.party.Party.is_forged.Goals.{then-size-bytes, else-size-bytes}

pub returns-after-size-bytes : goal.returns-after-size-bytes
returns-after-size-bytes c =
    let txn = txn_of c.args.self.now.live in
    let bytes = c.args.bytes.now in
    elim c.if-size-bytes.branch [
      | then-size-bytes w ↦
          let whole = whole_is_of txn bytes (apdu_at bytes) c.in-Ok.apdu c.in-Ok.size c.in-Ok.ensures.read w.if-size-bytes.true in
          search (rules, whole)
      | else-size-bytes w ↦
          let part = part_is_of txn bytes (apdu_at bytes) c.in-Ok.apdu c.in-Ok.size c.in-Ok.ensures.read w.if-size-bytes.false in
          search (rules, part)
    ]
