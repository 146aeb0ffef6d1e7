-- The ledger that `writing::write_apdu` gives to `write_uncounted`. It exists in proofs alone.
use Rattle.ill_der.proofs.writing.write_apdu.Given as goal

-- The ledger has the name and the parts of the blank.
abbrev pub ghosts-write_uncounted : goal.ghosts-write_uncounted
ghosts-write_uncounted g a = record { name = a.blank.name; parts = a.blank.parts }
