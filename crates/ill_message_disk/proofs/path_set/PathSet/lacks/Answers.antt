-- Answers the contract of `PathSet::lacks` (`src/path_set.rt`).
use Rattle.std.proofs.Common.{◌∙◌, ap, not}
use Rattle.ill_message_disk.specs.Spots.{is_none_of}
use Rattle.ill_message_disk.proofs.Taken.{lacks_all}
use Rattle.ill_message_disk.proofs.path_set.PathSet.lacks.Goals as goal

-- The search among the keys says the same as `is_none_of` of the paths of the set.
pub returns : goal.returns
returns c = ap not c.contains.ensures ∙ lacks_all c.args.path.now c.self.inside.paths.keys
    ∙ ap (λ set. is_none_of set c.args.path.now) c.self.view_is
