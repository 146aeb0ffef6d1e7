-- Answers the contract of `message_with` (`src/diary.rt`).
use Rattle.std.proofs.Common.{rules, tests, Bor, bytes_eq, option_map, ap, sym, ◌∙◌}
use Rattle.std.proofs.lemmas.Iterator.{YieldsList-from_slice}
use Rattle.std.proofs.lemmas.Iterator.Search.{find_from_yields_List}
use Rattle.ill_beside.specs.declared.diary.Message.{Message}
use Rattle.ill_beside.specs.Diary.{named}
use Rattle.ill_beside.proofs.DiaryLemmas.{find_mapped, mapped_twice}
use Rattle.ill_beside.proofs.diary.message_with.Goals as goal

-- Proves the contract of `message_with`. By `find_mapped` the first of the messages with the key, named, is the first
-- of their names with it.
pub returns : goal.returns
returns c =
    let key = c.args.key.now in
    let messages = c.args.messages.now in
    let found = find_from_yields_List (λ (message : Message). bytes_eq message.key.items key) _ _ c.find.result
    c.find.ensures.ran (YieldsList-from_slice messages cc) (λ x b q k. search (rules, tests)) in
    mapped_twice (λ (message : Bor Message). message.now) named c.find.result
    ∙ ap (option_map named) found
    ∙ sym (find_mapped named (λ name. bytes_eq name.key key) messages)
