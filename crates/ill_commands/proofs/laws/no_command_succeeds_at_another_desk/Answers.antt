-- Answers the contract of `no_command_succeeds_at_another_desk` (`src/laws.rt`).
use Rattle.ill_place.specs.Place.{place_of}
use Rattle.ill_commands.proofs.PlaceLaws.{acts_nowhere, notes_nowhere, sends_nowhere, shows_nowhere, slips_nowhere, takes_nowhere}
use Rattle.ill_commands.proofs.laws.no_command_succeeds_at_another_desk.Goals as goal

-- Proves the clause `acts` by `acts_nowhere`, since no desk starts at the place.
pub returns-clause-acts : goal.returns-clause-acts
returns-clause-acts g c = λ path asked is_long is_success before after elsewhere.
    acts_nowhere (place_of g.S.Store.state path) asked is_long is_success before after
    (λ desk. c.no_other_desk_starts_at_a_place.ensures path desk (elsewhere desk))

-- Proves the clause `takes` by `takes_nowhere`, since no desk starts at the place.
pub returns-clause-takes : goal.returns-clause-takes
returns-clause-takes g c = λ path form is_success old new elsewhere.
    takes_nowhere (place_of g.S.Store.state path) form is_success old new
    (λ desk. c.no_other_desk_starts_at_a_place.ensures path desk (elsewhere desk))

-- Proves the clause `sends` by `sends_nowhere`, since no desk starts at the place.
pub returns-clause-sends : goal.returns-clause-sends
returns-clause-sends g c = λ path message is_success before after elsewhere.
    sends_nowhere (place_of g.S.Store.state path) message is_success before after
    (λ desk. c.no_other_desk_starts_at_a_place.ensures path desk (elsewhere desk))

-- Proves the clause `shows` by `shows_nowhere`, since no desk starts at the place.
pub returns-clause-shows : goal.returns-clause-shows
returns-clause-shows g c = λ path form is_success before after elsewhere.
    shows_nowhere (place_of g.S.Store.state path) form is_success before after
    (λ desk. c.no_other_desk_starts_at_a_place.ensures path desk (elsewhere desk))

-- Proves the clause `slips` by `slips_nowhere`, since no desk starts at the place.
pub returns-clause-slips : goal.returns-clause-slips
returns-clause-slips g c = λ path txn is_success before after elsewhere.
    slips_nowhere (place_of g.S.Store.state path) txn is_success before after
    (λ desk. c.no_other_desk_starts_at_a_place.ensures path desk (elsewhere desk))

-- Proves the clause `notes` by `notes_nowhere`, since no desk starts at the place.
pub returns-clause-notes : goal.returns-clause-notes
returns-clause-notes g c = λ path txn words is_success before after elsewhere.
    notes_nowhere (place_of g.S.Store.state path) txn words is_success before after
    (λ desk. c.no_other_desk_starts_at_a_place.ensures path desk (elsewhere desk))
