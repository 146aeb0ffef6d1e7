-- Answers the contract of `no_command_succeeds_away_from_its_group` (`src/laws.rt`). A command on a shelf is one at the
-- desk of a path, which is no command at another desk.
use Rattle.ill_commands.specs.Streams.{streams_of}
use Rattle.std.specs.Prelude.{Some}
use Rattle.ill_der.specs.ShortForm.{encoding}
use Rattle.ill_shelf.proofs.AwayLemmas.{none_acts, none_stays}
use Rattle.ill_shelf.proofs.laws.no_command_succeeds_away_from_its_group.Goals as goal

-- Proves the clause `slips`. The slip is one at the place of the group's desk, where none was loaded.
pub returns-clause-slips : goal.returns-clause-slips
returns-clause-slips g c = λ folder txn is_success before after nowhere written.
    c.no_command_succeeds_at_another_desk.ensures.slips written.0 txn is_success before after (nowhere written.0 written.1)
    written.2

-- Proves the clause `notes`. The note is one at the place of the group's desk, where none was loaded.
pub returns-clause-notes : goal.returns-clause-notes
returns-clause-notes g c = λ folder txn words is_success before after nowhere noted.
    c.no_command_succeeds_at_another_desk.ensures.notes noted.0 txn words is_success before after (nowhere noted.0 noted.1)
    noted.2

-- Proves the clause `sends`. The message is one at the place of the group's desk, where none was loaded.
pub returns-clause-sends : goal.returns-clause-sends
returns-clause-sends g c = λ folder message is_success before after nowhere sent.
    c.no_command_succeeds_at_another_desk.ensures.sends sent.0 message is_success before after (nowhere sent.0 sent.1) sent.2

-- Proves the clause `takes`. The APDU is taken at the desk of its group, or at the shelf's own desk.
pub returns-clause-takes : goal.returns-clause-takes
returns-clause-takes g c = λ apdu old new nowhere taken.
    c.no_command_succeeds_at_another_desk.ensures.takes taken.0 old.form taken.2
    (streams_of (Some (encoding apdu)) old.written) (streams_of taken.3 new.written) (nowhere taken.0 taken.1) taken.4

-- Proves the clause `acts`. Without a new group the action is one at the place of the group's desk, where none was
-- loaded.
pub returns-clause-acts : goal.returns-clause-acts
returns-clause-acts g c = λ folder asking is_long is_success before after nowhere acted.
    none_acts g.S.Store.state folder asking is_long is_success before after nowhere acted

-- Proves the clause `retires`. A group has an open loan only by a desk that was loaded from its path.
pub returns-clause-retires : goal.returns-clause-retires
returns-clause-retires g c = λ folder group before after nowhere retired.
    none_stays g.S.Store.state folder group before after nowhere retired
