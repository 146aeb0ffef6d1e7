-- Answers the contract of `no_night_succeeds_at_another_desk` (`src/laws.rt`).
use Rattle.ill_place.specs.Place.{place_of}
use Rattle.ill_exchange.proofs.PlaceLaws.{exchanges_nowhere, sends_nowhere, takes_nowhere}
use Rattle.ill_exchange.proofs.laws.no_night_succeeds_at_another_desk.Goals as goal

-- Proves the clause `takes` by `takes_nowhere`, since no desk starts at the place.
pub returns-clause-takes : goal.returns-clause-takes
returns-clause-takes g c = λ path is_success before after elsewhere.
    takes_nowhere (place_of g.S.Store.state path) is_success before after
    (λ desk. c.no_other_desk_starts_at_a_place.ensures path desk (elsewhere desk))

-- Proves the clause `sends` by `sends_nowhere`, since no desk starts at the place.
pub returns-clause-sends : goal.returns-clause-sends
returns-clause-sends g c = λ path has_folder is_success before after elsewhere.
    sends_nowhere (place_of g.S.Store.state path) has_folder is_success before after
    (λ desk. c.no_other_desk_starts_at_a_place.ensures path desk (elsewhere desk))

-- Proves the clause `exchanges` by `exchanges_nowhere`, since no desk starts at the place.
pub returns-clause-exchanges : goal.returns-clause-exchanges
returns-clause-exchanges g c = λ path asked is_success before after elsewhere.
    exchanges_nowhere (place_of g.S.Store.state path) asked is_success before after
    (λ desk. c.no_other_desk_starts_at_a_place.ensures path desk (elsewhere desk))
