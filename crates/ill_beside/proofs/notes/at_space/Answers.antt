-- Answers the contract of `at_space` (`src/notes.rt`).
use Rattle.std.proofs.Common.{◌+◌, take, ap, sym, ◌∙◌}
use Rattle.std.specs.Prelude.{option_map}
use Rattle.ill_beside.proofs.NoteKeysLemmas.{around, at_place}
use Rattle.ill_beside.proofs.NotesLemmas.{rest_whole}
use Rattle.ill_beside.proofs.ReadLemmas.{both}
use Rattle.ill_beside.proofs.notes.at_space.Goals as goal

-- Proves the contract of `at_space` if there is a space. By `at_place` the texts are those at its place.
pub returns-in-Some : goal.returns-in-Some
returns-in-Some c =
    let text = c.args.text.now in
    ap (both (take c.in-Some.place text)) (rest_whole (c.in-Some.place + 1) text)
    ∙ ap (option_map (around text)) (sym c.in-Some.is ∙ c.find_space.ensures.place)
    ∙ at_place text

-- Proves the contract of `at_space` if there is no space. Then it returns None.
pub returns-in-None : goal.returns-in-None
returns-in-None c =
    let text = c.args.text.now in
    ap (option_map (around text)) (sym c.in-None.is ∙ c.find_space.ensures.place) ∙ at_place text
