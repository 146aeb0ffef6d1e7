-- States the loop invariant of `names` (`src/names.rt`).
use Rattle.std.proofs.Common.{◌≡◌, ◌++◌, map, drop}
use Rattle.ill_core.specs.Verbs.{verb_name}
use Rattle.ill_words.proofs.names.names.Given as goal

-- The names so far, and those of the verbs that are left, are the names of all verbs.
abbrev pub invariant-loop-verb : goal.invariant-loop-verb
invariant-loop-verb l = record {
  named : map (λ name. name.now) l.names.items ++ map verb_name (drop l.verb-index l.verbs) ≡ map verb_name l.verbs;
}
