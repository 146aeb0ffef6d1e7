-- States the loop invariant of `seal_all` (`src/sealed.rt`).
use Rattle.std.proofs.Common.{◌≡◌, ◌++◌, map, drop}
use Rattle.ill_room.specs.Sealed.{message_file_of, sealed_message_file, sealing_of}
use Rattle.ill_room.proofs.sealed.seal_all.Given as goal

-- `letters`, and the letters of the texts that are left, are all letters.
abbrev pub invariant-loop-text : goal.invariant-loop-text
invariant-loop-text l = record {
  there : map message_file_of l.letters.items
      ++ map (sealed_message_file (sealing_of l.seal)) (map (λ text. text.items) (drop l.text-index l.texts))
      ≡ map (sealed_message_file (sealing_of l.seal)) (map (λ text. text.items) l.texts);
}
