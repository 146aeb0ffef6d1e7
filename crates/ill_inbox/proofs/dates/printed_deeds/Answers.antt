-- Answers the contract of `printed_deeds` (`src/dates.rt`).
use Rattle.std.proofs.Common.{Bor, ap, sym, ◌∙◌}
use Rattle.std.specs.List.{flat_map}
use Rattle.std.proofs.lemmas.List.{take_all}
use Rattle.std.proofs.lemmas.List.Folds.{flat_map-map}
use Rattle.ill_inbox.specs.declared.due.Due.{Due}
use Rattle.ill_inbox.specs.Objects.{printed_deed}
use Rattle.ill_inbox.proofs.dates.printed_deeds.Goals as goal

-- Proves the contract of `printed_deeds`. After the loop, the deeds so far are all deeds.
pub returns : goal.returns
returns g c =
    let line = printed_deed c.args.form g.H.Held.effects c.args.desk.now.live in
    let done = c.args.done.now in
    let all = take_all c.loop-due.due-index done c.loop-due-test.false in
    c.loop-due.invariant.so_far ∙ ap (flat_map (λ (due : Bor Due). line due.now)) all
    ∙ sym (flat_map-map line (λ (due : Bor Due). due.now) done)
