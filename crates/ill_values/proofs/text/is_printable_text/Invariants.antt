-- The invariant of the loop in `text::is_printable_text`, which tests one byte after another.
use Rattle.std.proofs.Common.{◌≡◌, ◌&&◌, drop}
use Rattle.std.specs.List.{list_all}
use Rattle.ill_values.specs.Text.{is_printable}
use Rattle.ill_values.proofs.text.is_printable_text.Given as goal

-- All bytes pass `is_printable` if, and only if, `so_far` is true and the bytes from `byte-index` on pass.
abbrev pub invariant-loop-byte : goal.invariant-loop-byte
invariant-loop-byte l = list_all is_printable l.text ≡ (l.so_far && list_all is_printable (drop l.byte-index l.text))
