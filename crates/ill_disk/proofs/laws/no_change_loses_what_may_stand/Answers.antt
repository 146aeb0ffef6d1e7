-- Proves the law `laws::no_change_loses_what_may_stand`: a list of names that might stand may stand after each change,
-- with the change and without it.
use Rattle.std.proofs.Common.{false, [], ◌∷◌, ◌++◌, length}
use Rattle.ill_disk.specs.Disk.{after_create, found_at, with_rename, with_name, without}
use Rattle.ill_disk.specs.BadDisk.{LosesNames, without_change, with_change}
use Rattle.ill_disk.proofs.BadDisk.{none_lost}
use Rattle.ill_disk.proofs.laws.no_change_loses_what_may_stand.Goals as goal

pub returns-clause-created : goal.returns-clause-created
returns-clause-created c path bytes d lost =
    none_lost (with_name path (length d.files))
    (record d { files = d.files ++ record { bytes = bytes; is_flushed = false } ∷ [] }) (still lost) where
      -- `d` with the new file has the lists of names of `d`. So a list that `d` loses is one that `d` with the new file
      -- loses.
      still : LosesNames (with_name path (length d.files)) d (after_create path bytes d) →
          LosesNames (with_name path (length d.files))
          (record d { files = d.files ++ record { bytes = bytes; is_flushed = false } ∷ [] }) (after_create path bytes d)
      still (without_change names stands missing) = without_change names stands missing
      still (with_change names stands missing) = with_change names stands missing

pub returns-clause-removed : goal.returns-clause-removed
returns-clause-removed c path d lost = none_lost (without path) d lost

pub returns-clause-renamed : goal.returns-clause-renamed
returns-clause-renamed c from to d lost = none_lost (with_rename from to (found_at from d.names)) d lost
