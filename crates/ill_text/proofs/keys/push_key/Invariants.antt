-- States the loop invariant of `push_key` (`src/keys.rt`).
use Rattle.std.proofs.Common.{◌≡◌, ◌++◌, take}
use Rattle.ill_text.specs.Keys.{key}
use Rattle.ill_text.proofs.keys.push_key.Given as goal

-- The key of the bytes so far is appended to `line`.
abbrev pub invariant-loop-byte : goal.invariant-loop-byte
invariant-loop-byte l = record {
  appended : l.line.items ≡ l.initial.line.items ++ key (take l.byte-index l.text);
}
