-- Answers the contract of `mark_desk` (`src/retiring.rt`).
use Rattle.ill_place.specs.Place.{place_of}
use Rattle.ill_shelf.proofs.RetiringLemmas.{marks_desk}
use Rattle.ill_shelf.proofs.retiring.mark_desk.Goals as goal

-- Proves that the desk that was loaded from the place is marked in the store at the place of its mark.
pub returns-clause-marks : goal.returns-clause-marks
returns-clause-marks g c = λ at.
    marks_desk (place_of g.D.DeskStore.Store.state c.args.place.now.path.now) c.in_ok-desk.desk c.args.mark.now
    c.retire_desk.new.mark c.retire_desk.result c.in_ok-desk.ensures.starts at c.retire_desk.ensures.retires
