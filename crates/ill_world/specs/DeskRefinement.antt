-- The code has a desk in memory, its store and its sent messages. These definitions relate it to a desk of the model.
use Rattle.std.specs.Prelude.{◌≡◌, true, List, map, Option, Some, None, Result, Ok, Err}
use Rattle.std.specs.Map.{set_value}
use Rattle.ill_values.specs.TxnId.{Qualifiers}
use Rattle.ill_values.specs.declared.apdu.Apdu.{Apdu}
use Rattle.ill_core.specs.Issued.{is_same_txn}
use Rattle.ill_store.specs.declared.store.NextCall.TheVariants.{Works}
use Rattle.ill_saved.specs.declared.fault.DeskFault.{DeskFault}
use Rattle.ill_saved.specs.declared.fault.DeskFault.TheVariants as faults
use Rattle.ill_record.specs.Sides.{SidesOf}
use Rattle.ill_store.specs.Store.{MemoryStoreState}
use Rattle.ill_saved.specs.Holdings.{is_refusal, committed_live}
use Rattle.ill_saved.specs.Desk.{DeskOf}
use Rattle.ill_saved.specs.ManySides.{DeskContents, many_sides, sides_held, whole_of}
use Rattle.ill_words.specs.declared.outcome.DeskOutcome.{DeskOutcome}
use Rattle.ill_world.specs.PartyRefinement.{read_or}
use Rattle.ill_world.specs.Desks.{Sending, DeskParty, fault_seen}

-- ---- sent messages

-- Returns the messages sent in each transaction, from the entries of a map.
abbrev pub sendings_of : List (Qualifiers × List (Option Apdu)) → List Sending
sendings_of entries = map (λ e. record { txn = e.0; sent = e.1 }) entries

-- If there is a `changed` entry, `new` is `old` with it as the entry of `txn`, and `back` is `None`. Else `back` is
-- `a`, and `new` is `old`.
abbrev pub BecomesAmong : Qualifiers → List (Qualifiers × List (Option Apdu)) → Option (List (Option Apdu)) →
    Option Apdu → Apdu → List (Qualifiers × List (Option Apdu)) → Type 0
BecomesAmong txn old None back a new = (back ≡ Some a) × (new ≡ old)
BecomesAmong txn old (Some changed) back a new = (back ≡ None) × (new ≡ set_value (is_same_txn txn) old changed)

-- ---- desks

-- Returns the sides that are committed in the store of `desk`.
abbrev pub committed_at : DeskOf DeskContents MemoryStoreState → SidesOf
committed_at desk = sides_held (read_or desk.live (committed_live many_sides desk.store.committed desk.live))

-- Returns the desk of the model that `desk` and the messages `sent` from it represent.
abbrev pub desk_party_of : DeskOf DeskContents MemoryStoreState → List Sending → DeskParty
desk_party_of desk sent = record { live = desk.live; committed = committed_at desk; sent = sent }

-- The next call of the store works. The committed sides can be read, and have the desk's role. This holds between two
-- events.
pub record IsReadyDesk (desk : DeskOf DeskContents MemoryStoreState) : Type 0 where
  pub works : desk.store.next ≡ Works
  pub committed : committed_live many_sides desk.store.committed desk.live ≡ Ok (whole_of (committed_at desk))
  pub role : (committed_at desk).role ≡ desk.live.role

-- ---- answers

-- The fault is a refusal of an action or of an APDU, or out of memory.
abbrev pub CanBeSeen : DeskFault → Type 0
CanBeSeen faults.OutOfMemory = Unit {0}
CanBeSeen fault = is_refusal fault ≡ true

-- The result is the outcome of the fault, as `fault_seen` gives it. The result has no outcome exactly if the fault is
-- out of memory.
abbrev pub FaultSeen : {M : Type 0} → DeskFault → Result DeskOutcome M → Type 0
FaultSeen faults.OutOfMemory (Err memory) = Unit {0}
FaultSeen faults.OutOfMemory (Ok outcome) = ⊥
FaultSeen fault (Ok outcome) = outcome ≡ fault_seen fault
FaultSeen fault (Err memory) = ⊥
