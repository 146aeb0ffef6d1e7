-- States the loop invariant of `push_html` (`src/html.rt`).
use Rattle.std.proofs.Common.{◌≡◌, ◌++◌, take}
use Rattle.std.specs.List.{flat_map}
use Rattle.ill_text.specs.Html.{html_byte}
use Rattle.ill_text.proofs.html.push_html.Given as goal

-- The bytes so far are appended to the page, as `html_byte` has them.
abbrev pub invariant-loop-byte : goal.invariant-loop-byte
invariant-loop-byte l = record {
  shown : l.page.items ≡ l.initial.page.items ++ flat_map html_byte (take l.byte-index l.text);
}
