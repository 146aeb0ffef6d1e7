-- Lemmas on a disk in memory that has message files: each change leaves it whole, and a look answers as `Finds` says.
use Rattle.std.proofs.Common.{◌≡◌, refl, sym, ◌∙◌, ap, subst, arith, ℕ, zero, suc, ◌<◌, List, [], ◌∷◌, length, slice_get, Option}
use Rattle.std.proofs.Common.{Some, None, option_map, Result, Ok}
use Rattle.ill_disk.specs.Disk.{File, Name, Disk, AreMade, IsWhole, after_change, bytes_of, found_at, with_name, without}
use Rattle.ill_disk.proofs.Crashes.{in_map, in_mapped}
use Rattle.ill_disk.proofs.Names.{below_found}
use Rattle.ill_disk.proofs.Names.{IsBelow as IsFoundBelow}
use Rattle.ill_disk.proofs.Wholes.{change_whole, found_made, made_with, made_without}
use Rattle.ill_message_disk.specs.MessageFileCalls.{Finds, after_flush_name, with_found}
use Rattle.ill_message_disk.specs.declared.message_disk.Found.{Found}
use Rattle.ill_message_disk_kit.specs.MemoryMessageFiles.{IsBelow, IsMadeBy, names_after}
use Rattle.ill_message_disk_kit.specs.declared.memory_message_disk.Change.{Change}
use Rattle.ill_message_disk_kit.specs.declared.memory_message_disk.Change.TheVariants.{Make, Remove, Rename}

-- If a disk is whole, and the file of `change` was made, the disk is whole after `change`.
pub change_by_whole : (change : Change) (d : Disk) → IsMadeBy (length d.files) change → IsWhole d →
    IsWhole (after_change (names_after change) d)
change_by_whole (Make path file) d lt whole = change_whole (with_name path.now file) d
    (λ names made. made_with (length d.files) path.now file names lt made) whole
change_by_whole (Remove path) d lt whole = change_whole (without path.now) d (made_without (length d.files) path.now) whole
change_by_whole (Rename from to file) d lt whole = change_whole (λ names. with_name to.now file (without from.now names)) d
    (λ names made. made_with (length d.files) to.now file (without from.now names) lt
    (made_without (length d.files) from.now names made)) whole

-- If `names` and `found` are of the first `count` files, the names with `found` at `path` are too.
made_found_with : (count : ℕ) (path : List ℕ) (found : Option ℕ) (names : List Name) → IsBelow count found →
    AreMade count names → AreMade count (with_found path found names)
made_found_with count path None names below made = made_without count path names made
made_found_with count path (Some file) names below made = made_with count path file names below made

-- If `found` is of the first `count` files by `IsBelow` of `ill_disk`, it is so by `IsBelow` of this crate.
below_as : (count : ℕ) (found : Option ℕ) → IsFoundBelow count found → IsBelow count found
below_as count None below = tt
below_as count (Some file) below = below

-- On a whole disk a file that is found was made.
pub found_below : (path : List ℕ) (d : Disk) → IsWhole d → IsBelow (length d.files) (found_at path d.names)
found_below path d whole = below_as (length d.files) (found_at path d.names)
    (below_found (length d.files) path d.names (whole.made d.names whole.now))

-- A whole disk is whole after one of its names is flushed.
pub flush_name_whole : (path : List ℕ) (d : Disk) → IsWhole d → IsWhole (after_flush_name path d)
flush_name_whole path d whole =
    let below : IsBelow (length d.files) (found_at path d.names) = found_below path d whole in
    let settle : List Name → List Name = with_found path (found_at path d.names) in record {
      made = λ names stands.
          let from = in_map settle d.may_stand names stands in
          subst (λ (n : List Name). AreMade (length d.files) n) (sym from.2)
          (made_found_with (length d.files) path (found_at path d.names) from.0 below (whole.made from.0 from.1));
      now = in_mapped settle d.may_stand d.names whole.now;
    }

-- If `k` is below the number of files, there is a file at `k`. `option_map` then gives `number` in place of the file.
got_made : (files : List File) (k number : ℕ) → k < length files →
    option_map (λ f. number) (slice_get files k) ≡ Some number
got_made [] k number lt = absurd (omega (arith, lt))
got_made (f ∷ files) zero number lt = refl
got_made (f ∷ files) (suc k) number lt = got_made files k number (omega (arith, lt))

-- If no file stands at `path`, a look that answers None and changes nothing answers as `Finds` says.
pub finds_none : {E : Type 0} (path : List ℕ) (old new : Disk) (answer : Result (Option Found) E) →
    found_at path old.names ≡ None → answer ≡ Ok None → new ≡ old → Finds path old answer new
finds_none path old new answer none is same = subst (λ a. Finds path old a new) (sym is) (record {
  file = sym none;
  size = ap (λ (x : Option ℕ). option_map length (bytes_of old.files x)) (sym none);
  same = same;
})

-- If `file` stands at `path`, a look that answers its number and size, and changes nothing, answers as `Finds` says.
pub finds_some : {E : Type 0} (path : List ℕ) (old new : Disk) (answer : Result (Option Found) E) (file : ℕ)
    (found : Option Found) → found_at path old.names ≡ Some file → answer ≡ Ok found →
    option_map (λ f. f.file) found ≡ option_map (λ f. file) (slice_get old.files file) →
    option_map (λ f. f.size) found ≡ option_map length (bytes_of old.files (Some file)) → IsWhole old → new ≡ old →
    Finds path old answer new
finds_some path old new answer file found some is numbers sizes whole same =
    subst (λ a. Finds path old a new) (sym is) (record {
      file = numbers ∙ got_made old.files file file (found_made old path file whole some) ∙ sym some;
      size = sizes ∙ ap (λ (x : Option ℕ). option_map length (bytes_of old.files x)) (sym some);
      same = same;
    })
