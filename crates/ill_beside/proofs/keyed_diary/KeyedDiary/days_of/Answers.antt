-- Answers the contract of `KeyedDiary::days_of` (`src/keyed_diary.rt`).
use Rattle.std.proofs.Common.{ℕ, List, Vec, Global, [], ap, ◌∙◌}
use Rattle.std.proofs.lemmas.Result.{IfOk-weaker}
use Rattle.ill_beside.specs.KeyedDiary.{days_named, looks_days}
use Rattle.ill_beside.specs.Places.{looked_up, places_of}
use Rattle.ill_beside.proofs.DaysLemmas.{days_kept}
use Rattle.ill_beside.proofs.keyed_diary.KeyedDiary.days_of.Goals as goal

-- Proves the contract of `days_of`. By `days_kept` the lines at the places of the key give the days of all lines.
pub returns : goal.returns
returns c =
    let by_key = c.self.inside.places.by_key.entries in
    let key = c.args.key.now in
    let found = λ (lines : List (Vec ℕ Global)) (places : List ℕ). looked_up (looks_days key.items) lines [] places in
    IfOk-weaker c.days_at.result _ _
    (λ days is. is
    ∙ ap (λ (text : List ℕ). looked_up (looks_days text) c.lines.result.now [] c.with_key.result.now) c.deref.ensures.value
    ∙ ap (λ (places : List ℕ). found c.lines.result.now places) c.with_key.ensures
    ∙ ap (λ (lines : List (Vec ℕ Global)). found lines (places_of by_key key)) c.lines.ensures.whole
    ∙ days_kept by_key c.self.inside.lines.lines.items c.self.invariant key
    ∙ ap (days_named key.items) c.self.view_is)
    c.days_at.ensures
