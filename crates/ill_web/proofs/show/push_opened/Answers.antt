-- Proves the contract of `push_opened` (`src/show.rt`), by the news that `with_news` has found.
use Rattle.std.proofs.Common.{◌∙◌, ◌++◌, ap, option_map}
use Rattle.ill_beside.specs.Since.{AnnexRead}
use Rattle.ill_web.specs.Pages.{sides_part}
use Rattle.ill_web.proofs.DeskLemmas.{ok_implies}
use Rattle.ill_web.proofs.show.push_opened.Goals as goal

-- The part that `push_desk_part` appends has the annex that `with_news` returned.
pub returns : goal.returns
returns g c =
    let opened = c.args.opened.now in
    let find = option_map (λ words. words.now) opened.find in
    let sides = opened.sides.now in
    ok_implies c.push_desk_part.result
    (λ e. e ∙ ap (λ (annex : AnnexRead). c.args.page.now.items
    ++ sides_part c.args.house.now.operator.now.today find opened.file.now sides.role sides.sides annex)
    c.in_ok-told.ensures) c.push_desk_part.ensures
