-- Answers the contract of `find` of a disk in memory (`src/memory_message_disk.rt`).
use Rattle.std.proofs.Common.{◌≡◌, rules, length, slice_get, Some, None, option_map, Ok}
use Rattle.ill_disk.specs.Disk.{bytes_of, found_at}
use Rattle.ill_message_disk_kit.proofs.MemoryMessageFiles.{finds_none, finds_some}
use Rattle.ill_message_disk_kit.proofs.memory_message_disk.MemoryMessageDiskMessageDisk.find.Goals as goal
use Rattle.ill_message_disk_kit.proofs.memory_message_disk.MemoryMessageDiskMessageDisk.find.Goals.{in-None, in-Some}

-- If no file stands at the path, the answer is None. Else it has the number and the size of the file.
pub returns-clause-finds : goal.returns-clause-finds
returns-clause-finds c = elim c.match-find.branch [
  | in-None w ↦
      let none : found_at c.args.path.now c.args.self.now.names ≡ None = search rules in
      let is : c.match-find.result ≡ Ok None = search rules in
      finds_none c.args.path.now c.args.self.now c.burn.new.self c.match-find.result none is c.burn.ensures.same
  | in-Some w ↦
      let some : found_at c.args.path.now c.args.self.now.names ≡ Some w.in-Some.file = search rules in
      let is : c.match-find.result ≡ Ok w.found_file.result = search rules in
      let numbers : option_map (λ f. f.file) w.found_file.result
      ≡ option_map (λ f. w.in-Some.file) (slice_get c.args.self.now.files w.in-Some.file) = search rules in
      let sizes : option_map (λ f. f.size) w.found_file.result
      ≡ option_map length (bytes_of c.args.self.now.files (Some w.in-Some.file)) = search rules in
      finds_some c.args.path.now c.args.self.now c.burn.new.self c.match-find.result w.in-Some.file w.found_file.result some
      is numbers sizes c.burn.ensures.whole c.burn.ensures.same
]
