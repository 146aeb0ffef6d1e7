-- The ledger that `writing::write_bytes` gives to `write_bytes_uncounted`. It exists in proofs alone.
use Rattle.ill_der.proofs.writing.write_bytes.Given as goal

-- The ledger has the name and the parts of the blank.
abbrev pub ghosts-write_bytes_uncounted : goal.ghosts-write_bytes_uncounted
ghosts-write_bytes_uncounted g a = record { name = a.blank.name; parts = a.blank.parts }
