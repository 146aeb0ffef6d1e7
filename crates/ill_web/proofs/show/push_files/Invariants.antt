-- States the loop invariant of `push_files` (`src/show.rt`).
use Rattle.std.proofs.Common.{map, take, option_map}
use Rattle.std.specs.Prelude.{string_bytes}
use Rattle.ill_web.specs.Pages.{AddsDesks}
use Rattle.ill_web.proofs.show.push_files.Given as goal

-- A part for each of the first `place` files is appended to the page.
abbrev pub invariant-loop-place : goal.invariant-loop-place
invariant-loop-place g l = record {
  told : AddsDesks l.house.operator.now.today (option_map (λ words. words.now) l.find)
      (take l.place (map (λ file. string_bytes file) l.house.files.now)) l.initial.page.items l.page.items;
}
