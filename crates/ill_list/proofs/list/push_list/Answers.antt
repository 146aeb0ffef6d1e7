-- Answers the contract of `push_list` (`src/list.rt`).
use Rattle.std.proofs.Common.{◌≡◌, ◌++◌, List, Bor, OnOk, map, ap, subst, ◌∙◌}
use Rattle.ill_record.specs.declared.side.Side.{Side}
use Rattle.ill_list.specs.Seeking.{seeking_of}
use Rattle.ill_list.specs.Listing.{ordered_lines}
use Rattle.ill_list.proofs.list.push_list.Goals as goal

-- Proves the contract of `push_list`. `push_ordered` appends the lines of the sides that `most_urgent_first` returns.
pub returns : goal.returns
returns c =
    subst
    (λ (sides : List Side). OnOk c.push_ordered.result
    (c.push_ordered.new.lines.items
    ≡ c.args.lines.now.items ++ ordered_lines c.args.sought.now.wanted.now (seeking_of c.args.sought.now) sides))
    (ap (map (λ (side : Bor Side). side.now)) c.deref.ensures.value ∙ c.in_ok-sides.ensures)
    c.push_ordered.ensures
