-- Answers the contract of `KeyedDiary::last_day` (`src/keyed_diary.rt`).
use Rattle.std.proofs.Common.{ℕ, List, Vec, Global, map, ap, sym, ◌∙◌}
use Rattle.ill_beside.specs.Diary.{named}
use Rattle.ill_beside.specs.KeyedDiary.{latest_among}
use Rattle.ill_beside.specs.Since.{last_day}
use Rattle.ill_beside.proofs.KeyedDiaryLemmas.{day_of_line, kept_counts}
use Rattle.ill_beside.proofs.keyed_diary.KeyedDiary.last_day.Goals as goal

-- Proves the contract of `last_day`, if a line is found. By `kept_counts` its day is the last day.
pub returns-in-Some : goal.returns-in-Some
returns-in-Some c =
    let messages = c.args.messages.now in
    let by_key = c.self.inside.places.by_key.entries in
    sym (ap day_of_line c.in-Some.is)
    ∙ ap day_of_line (c.latest_among.ensures
    ∙ ap (λ (lines : List (Vec ℕ Global)). latest_among by_key lines messages) c.lines.ensures.whole)
    ∙ kept_counts by_key c.self.inside.lines.lines.items c.self.invariant messages
    ∙ ap (last_day (map named messages)) c.self.view_is

-- Proves the contract of `last_day`, if no line is found. By `kept_counts` there is no last day.
pub returns-in-None : goal.returns-in-None
returns-in-None c =
    let messages = c.args.messages.now in
    let by_key = c.self.inside.places.by_key.entries in
    sym (ap day_of_line c.in-None.is)
    ∙ ap day_of_line (c.latest_among.ensures
    ∙ ap (λ (lines : List (Vec ℕ Global)). latest_among by_key lines messages) c.lines.ensures.whole)
    ∙ kept_counts by_key c.self.inside.lines.lines.items c.self.invariant messages
    ∙ ap (last_day (map named messages)) c.self.view_is
