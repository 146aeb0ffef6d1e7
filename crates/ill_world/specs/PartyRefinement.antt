-- The code has a party as a desk in memory, its store and its sent messages. These definitions relate it to a party of
-- the two-party model.
use Rattle.std.specs.Prelude.{◌≡◌, ℕ, Bool, false, List, [], ◌∷◌, Option, Result, Ok, Err}
use Rattle.ill_values.specs.declared.apdu.Apdu.{Apdu}
use Rattle.ill_values.specs.TxnId.{Qualifiers}
use Rattle.ill_core.specs.Issued.{is_same_txn}
use Rattle.ill_values.specs.declared.apdu.BodyWith.TheVariants.{Cancel}
use Rattle.ill_der.specs.declared.fault.DerFault.{DerFault}
use Rattle.ill_record.specs.declared.fault.RecordFault.{RecordFault}
use Rattle.ill_record.specs.declared.side.Side.{Side}
use Rattle.ill_store.specs.declared.store.NextCall.TheVariants.{Works}
use Rattle.ill_record.specs.Side.{idle_of}
use Rattle.ill_store.specs.Store.{MemoryStoreState}
use Rattle.ill_saved.specs.Holdings.{DeskEntry, committed_live, whole}
use Rattle.ill_saved.specs.OneSide.{one_side}
use Rattle.ill_saved.specs.Desk.{DeskOf}
use Rattle.ill_world.specs.World.{Party}

-- ---- messages

-- This APDU represents bytes that are no APDU.
abbrev no_apdu : Apdu
no_apdu = record { txn = record { group = []; transaction = [] }; number = 0; body = Cancel }

-- Returns the APDU with which the bytes begin, or `no_apdu` if there is none.
abbrev pub apdu_of : Result (Apdu × List ℕ) DerFault → Apdu
apdu_of (Ok (a, rest)) = a
apdu_of (Err fault) = no_apdu

-- Returns true if the bytes are exactly one APDU, and it is of `txn`.
abbrev pub is_of : Qualifiers → Result (Apdu × List ℕ) DerFault → Bool
is_of txn (Ok (a, [])) = is_same_txn a.txn txn
is_of txn (Ok (a, byte ∷ rest)) = false
is_of txn (Err fault) = false

-- ---- parties

-- Returns the value that was read, or `live` if there was a fault. A correct store gives no fault.
abbrev pub read_or : {V : Type 0} → V → Result V RecordFault → V
read_or live (Ok committed) = committed
read_or live (Err fault) = live

-- Returns the side that is committed in the store of `desk`.
abbrev pub committed_of : DeskOf DeskEntry MemoryStoreState → Side
committed_of desk = (read_or desk.live (committed_live one_side desk.store.committed desk.live)).side

-- Returns the party of the model that `desk` and the messages `sent` from it represent.
abbrev pub party_of : DeskOf DeskEntry MemoryStoreState → List (Option Apdu) → Party
party_of desk sent =
    record { live = desk.live.side; committed = committed_of desk; released = desk.live.released; sent = sent }

-- The next call of the store works. The committed side can be read, and has the role and the transaction of the live
-- one. This holds between two events.
pub record IsReady (desk : DeskOf DeskEntry MemoryStoreState) : Type 0 where
  pub works : desk.store.next ≡ Works
  pub committed : committed_live one_side desk.store.committed desk.live ≡ Ok (whole (committed_of desk))
  pub idle : idle_of (committed_of desk) ≡ idle_of desk.live.side

-- ---- answers

-- After an event the result is the outcome of `expected`, and `new` is the party or world of `expected`. If memory runs
-- out, `new` is `old`, the value before the event.
abbrev pub GivesOutcome : {O M P : Type 0} → O × P → P → Result O M → P → Type 0
GivesOutcome expected old (Ok outcome) new = expected ≡ (outcome, new)
GivesOutcome expected old (Err memory) new = new ≡ old
