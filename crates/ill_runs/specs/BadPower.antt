-- Losses of power that cannot happen, and starts after one that no desk makes. Each case has its own fault.
use Rattle.std.specs.Prelude.{◌≡◌, ℕ, List, Option, None, Some, Ok, Err}
use Rattle.ill_values.specs.TxnId.{Qualifiers}
use Rattle.ill_values.specs.declared.apdu.Apdu.{Apdu}
use Rattle.ill_core.specs.Issued.{message}
use Rattle.ill_record.specs.declared.fault.RecordFault.{RecordFault}
use Rattle.ill_record.specs.declared.role.Role.{Role}
use Rattle.ill_record.specs.Side.{issued_of}
use Rattle.ill_record.specs.Sides.{SidesOf}
use Rattle.ill_record.specs.RecordsV2.{records_at}
use Rattle.ill_saved.specs.ManySides.{many_sides, side_for, whole_of}
use Rattle.ill_world.specs.World.{party, sent_message}
use Rattle.ill_world.specs.Desks.{DeskParty, DeskParties, sent_for}
use Rattle.ill_runs.specs.Libraries.{Library}
use Rattle.ill_runs.specs.CutOff.{IsCutInSave}

-- A desk that starts from the record `left` is not the model's desk `q`. Each case gives one reason.
pub data IsBadStart (left : Option (List ℕ)) (q : DeskParty) : Type 0 where
  -- There is no record.
  nothing : left ≡ None → IsBadStart left q
  -- The record cannot be read.
  unread : (file : List ℕ) (fault : RecordFault) → left ≡ Some file → records_at file ≡ Err fault → IsBadStart left q
  -- The record has other sides than those that are committed.
  other_sides : (file : List ℕ) (held : SidesOf) → left ≡ Some file → records_at file ≡ Ok held → (q.committed ≡ held → ⊥) →
      IsBadStart left q
  -- The desk holds other sides than the committed ones, or has not released all their messages.
  not_whole : (q.live ≡ whole_of q.committed → ⊥) → IsBadStart left q

-- No loss of power cuts off a command as `cut` says. Each case gives one reason.
pub data IsBadCut {others : List Apdu} {before after : Library} (cut : IsCutInSave others before after) : Type 0 where
  -- The file has neither the old record nor the new one.
  third_record : (after.file ≡ cut.last → ⊥) → (after.file ≡ many_sides.encoding cut.now.live → ⊥) → IsBadCut cut
  -- A message has left in the save, or is forgotten.
  others_left : (after.left ≡ before.left → ⊥) → IsBadCut cut
  -- The command began from other sides than those in the file.
  elsewhere : (many_sides.read before.file ≡ Ok cut.old.live → ⊥) → IsBadCut cut

-- A desk has forgotten a message that it has sent: its committed side does not have it.
abbrev pub ForgetsSent : DeskParties → Type 0
ForgetsSent w =
    (who : Role) × (txn : Qualifiers) × (n : ℕ) × (a : Apdu) × (sent_message (sent_for txn (party w who).sent) n ≡ Some a)
    × (message (issued_of (side_for txn (party w who).committed)) n ≡ Some a → ⊥)
