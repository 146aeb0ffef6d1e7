-- Answers the contract of `run_desk_list` (`src/list.rt`).
use Rattle.std.proofs.Common.{◌++◌, sym, subst}
use Rattle.ill_record.specs.Sides.{SidesOf}
use Rattle.ill_saved.specs.ManySides.{sides_held}
use Rattle.ill_text.specs.Output.{WritesText}
use Rattle.ill_text.specs.declared.form.Form.{Form}
use Rattle.ill_list.specs.Seeking.{seeking_of}
use Rattle.ill_rows.specs.Heading.{between, gap, heading, file_printed}
use Rattle.ill_list.specs.Listing.{list_lines, list_objects, listed_desk}
use Rattle.ill_list.proofs.list.run_desk_list.Goals as goal

-- Proves the contract of `run_desk_list` in lines. `write_lines` lists the sides of the desk.
pub returns-in-Lines : goal.returns-in-Lines
returns-in-Lines g c =
    let listed = c.args.listed.now in
    let wanted = c.args.sought.now.wanted.now in
    let seeking = seeking_of c.args.sought.now in
    let held = sides_held c.args.desk.now.live in
    let before = g.W.Write.contents c.args.writer.now in
    let after = g.W.Write.contents c.write_lines.new.writer in
    let written = subst (λ (sides : SidesOf). WritesText before after (gap listed.is_first
    ++ (heading listed.is_headed listed.path.now ++ list_lines wanted seeking sides.sides)) c.write_lines.result)
    c.sides.ensures.value
    c.write_lines.ensures in
    subst (λ (form : Form). WritesText before after (between form listed.is_first
    ++ listed_desk form listed.is_headed wanted seeking listed.path.now held.sides) c.write_lines.result) (sym c.in-Lines.is)
    written

-- Proves the contract of `run_desk_list` in objects. `write_objects` lists the sides of the desk.
pub returns-in-Json : goal.returns-in-Json
returns-in-Json g c =
    let listed = c.args.listed.now in
    let wanted = c.args.sought.now.wanted.now in
    let seeking = seeking_of c.args.sought.now in
    let held = sides_held c.args.desk.now.live in
    let before = g.W.Write.contents c.args.writer.now in
    let after = g.W.Write.contents c.write_objects.new.writer in
    let written = subst (λ (sides : SidesOf). WritesText before after
    (list_objects (file_printed listed.is_headed listed.path.now) wanted seeking sides.sides) c.write_objects.result)
    c.sides-in-Json.ensures.value c.write_objects.ensures in
    subst (λ (form : Form). WritesText before after (between form listed.is_first
    ++ listed_desk form listed.is_headed wanted seeking listed.path.now held.sides) c.write_objects.result) (sym c.in-Json.is)
    written
