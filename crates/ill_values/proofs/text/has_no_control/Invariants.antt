-- The invariant of the loop in `text::has_no_control`, which tests one byte after another.
use Rattle.std.proofs.Common.{◌≡◌, ◌&&◌, drop}
use Rattle.std.specs.List.{list_all}
use Rattle.ill_values.specs.Text.{is_no_control}
use Rattle.ill_values.proofs.text.has_no_control.Given as goal

-- All bytes pass `is_no_control` if, and only if, `so_far` is true and the bytes from `byte-index` on pass.
abbrev pub invariant-loop-byte : goal.invariant-loop-byte
invariant-loop-byte l = list_all is_no_control l.text ≡ (l.so_far && list_all is_no_control (drop l.byte-index l.text))
