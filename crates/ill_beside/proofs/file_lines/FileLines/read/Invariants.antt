-- States the loop invariant of `FileLines::read` (`src/file_lines.rt`).
use Rattle.std.proofs.Common.{◌≡◌, [], take}
use Rattle.std.specs.Prelude.{fold}
use Rattle.ill_beside.specs.FileLines.{lines_of, with_byte}
use Rattle.ill_beside.proofs.file_lines.FileLines.read.Given as goal

-- `read` has the lines of the bytes so far, and the bytes of the next line.
abbrev pub invariant-loop-byte : goal.invariant-loop-byte
invariant-loop-byte l = record {
  read : (lines_of l.read, l.read.next.items) ≡ fold with_byte ([], []) (take l.byte-index l.bytes);
}
