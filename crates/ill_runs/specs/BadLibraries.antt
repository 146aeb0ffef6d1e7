-- Two libraries to which no history leads.
use Rattle.std.specs.Prelude.{◌≡◌, Ok, Err}
use Rattle.ill_values.specs.TxnId.{Qualifiers}
use Rattle.ill_values.specs.declared.apdu.Apdu.{Apdu}
use Rattle.ill_record.specs.declared.fault.RecordFault.{RecordFault}
use Rattle.ill_record.specs.declared.role.Role.{Role}
use Rattle.ill_record.specs.Sides.{SidesOf}
use Rattle.ill_record.specs.RecordsV2.{records_at}
use Rattle.ill_saved.specs.ManySides.{side_for}
use Rattle.ill_world.specs.World.{party}
use Rattle.ill_world.specs.BadWorlds.{Contradicts}
use Rattle.ill_runs.specs.MessageFile.{IsOneOf}
use Rattle.ill_runs.specs.Libraries.{IsMessageOf, Libraries, Library}

-- The files are wrong. Each case gives one reason.
pub data AreUnsafe (libraries : Libraries) : Type 0 where
  -- A file cannot be read.
  unread : (who : Role) (fault : RecordFault) → records_at (party libraries who).file ≡ Err fault → AreUnsafe libraries
  -- In a transaction the responder's side contradicts the requester's.
  contradicted : (requester responder : SidesOf) (txn : Qualifiers) → records_at libraries.requester.file ≡ Ok requester →
      records_at libraries.responder.file ≡ Ok responder →
      Contradicts (side_for txn requester) (side_for txn responder) → AreUnsafe libraries

-- The library has forgotten a message that has left it. Each case gives one reason.
pub data HasForgotten (library : Library) : Type 0 where
  -- The file cannot be read.
  unreadable : (fault : RecordFault) → records_at library.file ≡ Err fault → HasForgotten library
  -- A message has left, and is no message of the sides in the file.
  forgotten : (held : SidesOf) (a : Apdu) → records_at library.file ≡ Ok held → IsOneOf library.left a →
      (IsMessageOf held a → ⊥) → HasForgotten library
