-- States the loop invariant of `CommittedRecord::followed_by` (`src/committed_record.rt`).
use Rattle.std.proofs.Common.{◌++◌, map, drop}
use Rattle.ill_der.specs.ShortForm.{encoding}
use Rattle.ill_record.specs.Layout.{encode_all}
use Rattle.ill_saved.proofs.Places.{ArePlaced}
use Rattle.ill_saved.proofs.committed_record.CommittedRecord.followed_by.Given as goal

-- Each message before offset `end` has its place. The messages from `apdu-index` on are left.
abbrev pub invariant-loop-apdu : goal.invariant-loop-apdu
invariant-loop-apdu l = record {
  placed : ArePlaced (l.self.messages ++ encode_all encoding l.apdus) l.end l.places.items (drop l.apdu-index l.apdus)
      (l.self.pieces ++ map encoding l.apdus);
}
