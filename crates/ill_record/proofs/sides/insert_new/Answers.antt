-- Proves the contract of `insert_new` (`src/sides.rt`).
use Rattle.std.proofs.Common.{◌∙◌}
use Rattle.indexmap.proofs.CallerLemmas.{insert_entry-new}
use Rattle.ill_core.specs.Issued.{is_same_txn}
use Rattle.ill_record.proofs.sides.insert_new.Goals as goal

-- If the key is new, the entry comes after the others.
pub returns-in-Ok-clause-done : goal.returns-in-Ok-clause-done
returns-in-Ok-clause-done g c =
    c.in-Ok.ensures.entries ∙ insert_entry-new is_same_txn c.args.map.now c.args.key c.args.value c.requires.new
