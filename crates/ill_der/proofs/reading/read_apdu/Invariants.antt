-- The ledger that `reading::read_apdu` gives to `read_uncounted`. It exists in proofs alone.
use Rattle.ill_der.proofs.reading.read_apdu.Given as goal

-- The ledger has the name and the parts of the blank.
abbrev pub ghosts-read_uncounted : goal.ghosts-read_uncounted
ghosts-read_uncounted g a = record { name = a.blank.name; parts = a.blank.parts }
