-- Proves that no bad libraries are safe. A library is no other desk of the model than the one in its file. A library
-- that has forgotten a message does not have all that left.
use Rattle.std.proofs.Common.{◌≡◌, Result, Ok, Err, sym, ◌∙◌, subst}
use Rattle.ill_values.specs.declared.apdu.Apdu.{Apdu}
use Rattle.ill_record.specs.declared.fault.RecordFault.{RecordFault}
use Rattle.ill_record.specs.declared.role.Role.TheVariants as who
use Rattle.ill_record.specs.Sides.{SidesOf}
use Rattle.ill_record.specs.RecordsV2.{records_at}
use Rattle.ill_saved.specs.ManySides.{side_for}
use Rattle.ill_world.specs.BadWorlds.{Contradicts}
use Rattle.ill_world.specs.Desks.{DeskParty}
use Rattle.ill_world.proofs.BadWorlds.{no_contradiction}
use Rattle.ill_runs.specs.MessageFile.{IsOneOf, WasSent}
use Rattle.ill_runs.specs.Libraries.{Library, Libraries, IsAt, AreSafe, HasAllThatLeft, IsMessageOf}
use Rattle.ill_runs.specs.BadLibraries.{AreUnsafe, unread, contradicted, HasForgotten, unreadable, forgotten}
use Rattle.ill_runs.proofs.Lists.{each_at}

-- If one file is read as `a` and as `b`, these are the same sides.
pub read_once : (read : Result SidesOf RecordFault) (a b : SidesOf) → read ≡ Ok a → read ≡ Ok b → a ≡ b
read_once read a b first second =
    let same : ◌≡◌ {A = Result SidesOf RecordFault} (Ok a) (Ok b) = sym first ∙ second in cc

-- A file that cannot be read is read as no sides.
pub not_read : (read : Result SidesOf RecordFault) (fault : RecordFault) (held : SidesOf) → read ≡ Err fault → read ≡ Ok held → ⊥
not_read read fault held first second =
    let same : ◌≡◌ {A = Result SidesOf RecordFault} (Err fault) (Ok held) = sym first ∙ second in absurd cc

-- If a file cannot be read, or a side contradicts the other, the libraries are not safe.
pub not_safe : (libraries : Libraries) → AreUnsafe libraries → AreSafe libraries → ⊥
not_safe libraries (unread who.Requester fault is) safe = not_read _ fault safe.0 is safe.2
not_safe libraries (unread who.Responder fault is) safe = not_read _ fault safe.1 is safe.3
not_safe libraries (contradicted requester responder txn first second bad) safe =
    let one = read_once _ safe.0 requester safe.2 first in
    let other = read_once _ safe.1 responder safe.3 second in
    let faces = safe.4 txn in
    let bad_there = subst (λ r. Contradicts (side_for txn r) (side_for txn safe.1)) (sym one)
    (subst (λ s. Contradicts (side_for txn requester) (side_for txn s)) (sym other) bad) in
    no_contradiction _ _ bad_there faces.0 faces.1 faces.2

-- A library has the committed sides of its desk in its file, and its desk has sent each message that has left.
pub desk_is_in_file : (library : Library) (p : DeskParty) → IsAt library p
    → ((held : SidesOf) → records_at library.file ≡ Ok held → held ≡ p.committed)
    × ((a : Apdu) → IsOneOf library.left a → WasSent p.sent a)
desk_is_in_file library p at = (
  λ held read. read_once _ held p.committed read at.file,
  λ a one. each_at (WasSent p.sent) library.left one.0 a at.left one.1,
)

-- A library that has forgotten what has left it does not have all of it.
pub none_forgotten : (library : Library) → HasForgotten library → HasAllThatLeft library → ⊥
none_forgotten library (unreadable fault is) has = not_read _ fault has.0 is has.1
none_forgotten library (forgotten held a read one lacks) has =
    let same = read_once _ has.0 held has.1 read in
    lacks (subst (λ (h : SidesOf). IsMessageOf h a) same (each_at (IsMessageOf has.0) library.left one.0 a has.2 one.1))
