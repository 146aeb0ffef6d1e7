-- Answers the contract of `push_status_at` (`src/status.rt`).
use Rattle.std.proofs.Common.{rules, ◌≡◌, ◌++◌, OnOk, ℕ, List, Some, None, ap, sym, subst, ◌∙◌}
use Rattle.std.specs.Prelude.{slice_get}
use Rattle.std.proofs.lemmas.List.{append-nil}
use Rattle.ill_record.specs.Side.{txn_of}
use Rattle.ill_saved.specs.ManySides.{held_for, sides_held}
use Rattle.ill_show.proofs.StatusLemmas.{lines_there, no_lines_there}
use Rattle.ill_show.proofs.status.push_status_at.Goals as goal

-- Proves the contract of `push_status_at` if a side is at `place`. By `lines_there` the side gives the text of the
-- entry.
pub returns-in-Some : goal.returns-in-Some
returns-in-Some g c =
    let live = c.args.desk.now.live in
    let side = c.in-Some.side.now in
    let there : slice_get (sides_held live).sides c.args.place ≡ Some side = search rules in
    let counted : c.released.result ≡ (held_for (txn_of side) live).released = search rules in
    subst (λ (lines : List ℕ). OnOk c.push_status_as.result (c.push_status_as.new.lines.items ≡ c.args.lines.now.items ++ lines))
    (lines_there c.args.form live c.args.place side c.released.result c.requires.apart there counted) c.push_status_as.ensures

-- Proves the contract of `push_status_at` if no side is at `place`. By `no_lines_there` no text is to be appended.
pub returns-in-None : goal.returns-in-None
returns-in-None g c =
    let live = c.args.desk.now.live in
    let none : slice_get (sides_held live).sides c.args.place ≡ None = search rules in
    sym (append-nil c.args.lines.now.items)
    ∙ ap (λ lines. c.args.lines.now.items ++ lines) (no_lines_there c.args.form live c.args.place none)
