-- Proves the contract of `perform` (`src/act.rt`), by what the entry has after the form.
use Rattle.std.proofs.Common.{Some, ap}
use Rattle.ill_text.specs.Diary.{DiaryState, diary_state}
use Rattle.ill_web.proofs.EntryLemmas.{enters_turn}
use Rattle.ill_web.proofs.act.perform.Goals as goal

-- By `enters_turn` the entry, which had entered nothing, has entered what `EntersTurn` says.
pub returns : goal.returns
returns g c =
    let entry = c.turn_entry-entry.result in
    let made = c.turn_entry-entry.ensures in
    let diary : DiaryState =
    diary_state (Some c.post.new.entry.diary.stream.entered.items) c.post.new.entry.diary.has_failed in (
      c.post.result,
      record { beside = entry.diary.stream.file.now; diary = diary },
      c.post.ensures.answers,
      enters_turn c.post.result c.args.file.now entry.diary.stream.file.now c.args.line.items entry.line.items
          entry.diary.stream.entered.items entry.diary.has_failed diary made.beside (ap (λ line. line.items) made.line) made.none
          made.fine c.post.ensures.entered,
      c.of_post.ensures,
    )
