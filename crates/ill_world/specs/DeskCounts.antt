-- Each message finds room at its desk. For no desk has a transaction twice, and the requester's desk has all
-- transactions of the responder's.
use Rattle.std.specs.Prelude.{◌≡◌, ◌≤◌, Bool, true, false, List, [], ◌∷◌, length, map}
use Rattle.std.specs.List.{list_any}
use Rattle.ill_values.specs.TxnId.{Qualifiers}
use Rattle.ill_core.specs.Issued.{is_same_txn}
use Rattle.ill_record.specs.Side.{txn_of}
use Rattle.ill_saved.specs.ManySides.{txn_held}
use Rattle.ill_world.specs.Desks.{DeskParty, DeskParties}

-- ---- lists of transactions

-- Returns true if `txn` is one of `txns`.
abbrev pub is_one_of : Qualifiers → List Qualifiers → Bool
is_one_of txn txns = list_any (is_same_txn txn) txns

-- Each transaction of `these` is one of `those`.
abbrev pub AreAmong : List Qualifiers → List Qualifiers → Type 0
AreAmong these those = (txn : Qualifiers) → is_one_of txn these ≡ true → is_one_of txn those ≡ true

-- No transaction is twice in the list.
abbrev pub AreApart : List Qualifiers → Type 0
AreApart [] = Unit {0}
AreApart (txn ∷ txns) = (is_one_of txn txns ≡ false) × AreApart txns

-- ---- the transactions of a desk

-- Returns the transactions of the sides that a desk holds.
abbrev pub live_txns : DeskParty → List Qualifiers
live_txns p = map txn_held p.live.held

-- Returns the transactions of the sides of a desk that are committed.
abbrev pub committed_txns : DeskParty → List Qualifiers
committed_txns p = map txn_of p.committed.sides

-- No transaction is twice in `txns`, and `txns` are 1,000 at most.
abbrev pub AreFew : List Qualifiers → Type 0
AreFew txns = AreApart txns × (length txns ≤ 1000)

-- No transaction is twice in `txns`. Each is one of `live`, and one of `committed`.
abbrev pub AreKnown : List Qualifiers → List Qualifiers → List Qualifiers → Type 0
AreKnown live committed txns = AreApart txns × AreAmong txns live × AreAmong txns committed

-- The requester's desk has 1,000 transactions at most, live and committed. Both lists have each transaction of the
-- responder's two lists. No list has one twice.
abbrev pub Counts : List Qualifiers → List Qualifiers → List Qualifiers → List Qualifiers → Type 0
Counts live committed others others_committed =
    AreFew live × AreFew committed × AreKnown live committed others × AreKnown live committed others_committed

-- `Counts` holds of the live and the committed transactions of two desks.
abbrev pub DesksCount : DeskParties → Type 0
DesksCount w =
    Counts (live_txns w.requester) (committed_txns w.requester) (live_txns w.responder) (committed_txns w.responder)
