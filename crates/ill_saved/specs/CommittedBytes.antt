-- The copy of the committed record that a desk of one side has in memory (this profile's own).
use Rattle.std.specs.Prelude.{◌≡◌, ◌⊎◌, ℕ, ◌+◌, ◌≤◌, Bool, true, false, List, [], ◌++◌, length, take, drop, map, Option, Some}
use Rattle.std.specs.Prelude.{None}
use Rattle.ill_der.specs.ShortForm.{encoding}
use Rattle.ill_record.specs.declared.side.Side.{Side}
use Rattle.ill_record.specs.declared.side.Standing.{Standing}
use Rattle.ill_saved.specs.declared.committed_record.Place.{Place}
use Rattle.ill_record.specs.Layout.{encode_all}
use Rattle.ill_record.specs.Records.{record_encoding}
use Rattle.ill_record.specs.Ranges.{IsSide}
use Rattle.ill_record.specs.Side.{issued_of, standing_of, back_to, is_asked, IsPrefix}

-- The copy of a committed record: the standing of the side, the bytes, their part with the messages, and each message.
pub record CommittedBytes : Type 0 where
  pub standing : Option Standing
  pub bytes : List ℕ
  pub messages : List ℕ
  pub pieces : List (List ℕ)

-- The copy of a desk that knows of no committed record.
abbrev pub no_committed_record : CommittedBytes
no_committed_record = record { standing = None; bytes = []; messages = []; pieces = [] }

-- Returns the copy of the record of `side`: its standing, its bytes, and the encoding of each message it has issued.
abbrev pub committed_bytes_of : Side → CommittedBytes
committed_bytes_of side = record {
  standing = Some (standing_of side);
  bytes = record_encoding side;
  messages = encode_all encoding (issued_of side);
  pieces = map encoding (issued_of side);
}

-- `committed_record` is the copy of the record of `side`, which is consistent and in range.
abbrev pub IsCommittedRecord : CommittedBytes → Side → Type 0
IsCommittedRecord committed_record side = IsSide side × (committed_record ≡ committed_bytes_of side)

-- `side` has issued exactly the first `released` messages of the live side.
-- The live side can go back to `side`. If `side` has taken a request, the live side has taken one.
pub record IsReleased (live : Side) (released : ℕ) (side : Side) : Type 0 where
  pub prefix : IsPrefix (issued_of side) (issued_of live)
  pub all : released ≡ length (issued_of side)
  pub back : back_to (standing_of side) released live ≡ Some side
  pub asked : is_asked side ≡ true → is_asked live ≡ true

-- Either the desk knows of no committed record and nothing is released, or `committed_record` is the record of a side.
-- Then `IsReleased` relates this side to the live one.
abbrev pub HoldsReleased : CommittedBytes → Side → ℕ → Type 0
HoldsReleased committed_record live released =
    ((committed_record ≡ no_committed_record) × (released ≡ 0))
    ⊎ ((side : Side) × IsCommittedRecord committed_record side × IsReleased live released side)

-- If the answer is true, the loaded `bytes` are those of `committed_record`, and the live side goes back to its side.
-- If it is false, the live side is unchanged.
abbrev pub GoesBackTo : CommittedBytes → ℕ → List ℕ → Bool → Side → Side → Type 0
GoesBackTo committed_record released bytes true old new =
    (bytes ≡ committed_record.bytes) × IsCommittedRecord committed_record new × IsReleased old released new
GoesBackTo committed_record released bytes false old new = new ≡ old

-- Returns the part of `bytes` at `place`.
abbrev pub piece_at : List ℕ → Place → List ℕ
piece_at bytes place = take place.size (drop place.start bytes)

-- The place ends within the first `size` bytes.
abbrev pub IsWithin : ℕ → Place → Type 0
IsWithin size place = place.start + place.size ≤ size

-- `bytes` ends with `end`.
abbrev pub EndsWith : List ℕ → List ℕ → Type 0
EndsWith end bytes = (prefix : List ℕ) × (bytes ≡ prefix ++ end)
