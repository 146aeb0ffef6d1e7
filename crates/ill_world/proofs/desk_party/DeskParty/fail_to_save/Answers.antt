-- Proves the invariant and the contract of `DeskParty::fail_to_save` (`src/desk_party.rt`) after a failed save. The
-- record in the store is read again as the saved sides (`again`). A desk that has read them holds them (`sides`).
use Rattle.std.proofs.Common.{rules, ◌≡◌, Ok, ap}
use Rattle.ill_saved.specs.Holdings.{map_ok}
use Rattle.ill_saved.specs.ManySides.{many_sides, sides_held, whole_of}
use Rattle.ill_record.specs.RecordsV2.{AreSides}
use Rattle.ill_saved.proofs.Contents.{sides_of_whole}
use Rattle.ill_world.proofs.desk_party.DeskParty.fail_to_save.Goals as goal

-- The desk is ready after the save, since the committed record can be read.
pub invariant_of-self : goal.invariant_of-self
invariant_of-self c =
    let live = c.self.inside.desk.live in
    let again : AreSides (sides_held live) → many_sides.read (many_sides.encoding live) ≡ Ok (whole_of (sides_held live)) = λ are.
    ap (map_ok whole_of) (c.sides_read_again.ensures (sides_held live) are) in
    let sides = sides_of_whole (sides_held live) in
    search (rules, again, sides)

-- The desk fails to save as the desk of the model does.
pub returns-in-Err-Store-Failed : goal.returns-in-Err-Store-Failed
returns-in-Err-Store-Failed c =
    let live = c.self.inside.desk.live in
    let again : AreSides (sides_held live) → many_sides.read (many_sides.encoding live) ≡ Ok (whole_of (sides_held live)) = λ are.
    ap (map_ok whole_of) (c.sides_read_again.ensures (sides_held live) are) in
    let sides = sides_of_whole (sides_held live) in
    search (rules, again, sides)
