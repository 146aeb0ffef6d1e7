-- States the loop invariant of `push_lines` (`src/numbers.rt`).
use Rattle.std.proofs.Common.{◌≡◌, ◌++◌, ◌∷◌, [], take, Bor}
use Rattle.std.specs.List.{flat_map}
use Rattle.ill_record.specs.declared.side.Side.{Side}
use Rattle.ill_show.specs.Numbers.{numbers_lines}
use Rattle.ill_show.proofs.numbers.push_lines.Given as goal

-- For each side so far with few numbers left, its line is appended.
abbrev pub invariant-loop-side : goal.invariant-loop-side
invariant-loop-side l = record {
  printed : l.lines.items ≡ l.initial.lines.items
      ++ flat_map (λ (side : Bor Side). numbers_lines l.path (side.now ∷ [])) (take l.side-index l.sides);
}
