-- Answers the contract of `with_paths` (`src/taken_paths.rt`).
use Rattle.std.proofs.Common.{Option, [], ◌∷◌, ◌++◌, sym, subst}
use Rattle.ill_message_disk.specs.Spots.{SpotOf}
use Rattle.ill_message_disk.specs.TakenPaths.{AreKnown}
use Rattle.ill_message_disk.proofs.Taken.{known_still}
use Rattle.ill_message_disk.proofs.taken_paths.with_paths.Goals as goal

-- The run takes no care of the message file, and the sets stay.
pub returns-in-None : goal.returns-in-None
returns-in-None c = λ spots known. subst (λ (spot : Option SpotOf). AreKnown c.args.taken (spots ++ spot ∷ []))
    (sym c.in-None.is) (known_still c.args.taken spots known)
