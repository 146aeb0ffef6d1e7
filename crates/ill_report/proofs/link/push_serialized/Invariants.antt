-- States the loop invariant of `push_serialized` (`src/link.rt`).
use Rattle.std.proofs.Common.{◌≡◌, ◌++◌}
use Rattle.form_urlencoded.specs.Form.{byte_serialize}
use Rattle.form_urlencoded.specs.Serialize.{serialized_text}
use Rattle.ill_report.proofs.link.push_serialized.Given as goal

-- The text so far, and the pieces that are left, are the old text and `value` as a form encodes it.
abbrev pub invariant-loop-piece : goal.invariant-loop-piece
invariant-loop-piece l =
    l.text.items ++ serialized_text l.piece-iterator ≡ l.initial.text.items ++ byte_serialize l.value
