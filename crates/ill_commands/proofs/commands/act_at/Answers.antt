-- Answers the contract of `act_at` (`src/commands.rt`).
use Rattle.std.proofs.Common.{Option, ap, subst, ◌∙◌}
use Rattle.ill_record.specs.declared.side.Side.{Side}
use Rattle.ill_record.specs.Sides.{SidesOf, side_with}
use Rattle.ill_show.specs.ItemLine.{item_of}
use Rattle.ill_commands.specs.AtFile.{PrintsItem}
use Rattle.ill_commands.proofs.commands.act_at.Goals as goal
use Rattle.ill_commands.proofs.commands.act_at.Goals.{then-is_ok, else-is_ok}

-- Proves the contract of `act_at`. The item is that of the side after the action (`printed`). In both branches the
-- writer stays as it is after the item: the line about numbers goes to the errors.
pub returns : goal.returns
returns g c =
    let found = c.get.ensures ∙ ap (λ (sides : SidesOf). side_with c.args.view.now.txn.now sides.sides) c.sides.ensures.value in
    let printed = subst (λ (side : Option Side). PrintsItem c.args.is_long (item_of side) c.act_and_enter-acted.result
    (g.W.Write.contents c.act_and_enter-acted.new.machine.writer) (g.W.Write.contents c.print_item-printed.new.writer)
    c.print_item-printed.result) found c.print_item-printed.ensures in
    elim c.if-is_ok.branch [
      | then-is_ok w ↦ rw w.machine-is (c.act_and_enter-acted.new.desk, (_, _, c.act_and_enter-acted.ensures, printed))
      | else-is_ok w ↦ rw w.machine-is (c.act_and_enter-acted.new.desk, (_, _, c.act_and_enter-acted.ensures, printed))
    ]
