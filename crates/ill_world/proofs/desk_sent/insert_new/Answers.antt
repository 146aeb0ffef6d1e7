-- Proves the clause `done` of `insert_new` (`src/desk_sent.rt`). The map lacks the key, and so gets one entry more at
-- its end.
use Rattle.std.proofs.Common.{◌∙◌}
use Rattle.indexmap.proofs.CallerLemmas.{insert_entry-new}
use Rattle.ill_core.specs.Issued.{is_same_txn}
use Rattle.ill_world.proofs.desk_sent.insert_new.Goals as goal

pub returns-in-Ok-clause-done : goal.returns-in-Ok-clause-done
returns-in-Ok-clause-done g c =
    c.in-Ok.ensures.entries ∙ insert_entry-new is_same_txn c.args.map.now c.args.key c.args.value c.requires.new
