-- The stamp of a loan. It is another one after each change of the loan, unless two records have one digest.
use Rattle.std.specs.Prelude.{ℕ, List, ◌++◌, length, codes, Option, Some, None}
use Rattle.std.specs.Fmt.{decimal}
use Rattle.sha2.specs.Sha256.{sha256}
use Rattle.hex.specs.Hex.{encode_lower}
use Rattle.ill_record.specs.declared.side.Side.{Side}
use Rattle.ill_record.specs.Side.{issued_of}
use Rattle.ill_record.specs.Records.{record_encoding}

-- Returns the stamp of a loan that is held: the digest of its record, and the number of its messages.
unfoldable pub side_stamp : Side → List ℕ
side_stamp side =
    encode_lower (sha256 (record_encoding side)) ++ (codes "-" ++ decimal (length (issued_of side)))

-- Returns the stamp of a loan, which may be one that the desk does not hold.
abbrev pub stamp_of : Option Side → List ℕ
stamp_of None = codes "new"
stamp_of (Some side) = side_stamp side
