-- Answers the contract of `PathSet::put` (`src/path_set.rt`).
use Rattle.ill_message_disk.proofs.Taken.{key_put}
use Rattle.ill_message_disk.proofs.path_set.PathSet.put.Goals as goal

-- The copy of the path was inserted as a key, so the set has got the path.
pub returns : goal.returns
returns c = key_put c.insert_into.result c.self.inside.paths.keys c.insert_into.new.paths.keys c.in_ok-path.path
    c.args.path.now c.args.self.now c.in_ok-path.ensures.items c.self.view_is c.insert_into.ensures
