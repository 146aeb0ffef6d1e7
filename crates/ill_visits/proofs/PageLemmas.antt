-- Proves how a page of the command `report` grows by the parts of desks, for `push_files` (`src/visits.rt`).
use Rattle.std.proofs.Common.{◌≡◌, ℕ, ◌+◌, ◌<◌, Bool, List, [], ◌∷◌, ◌++◌, length, map, fold, take, get_or, Result, Ok, Err, true}
use Rattle.std.proofs.Common.{refl, ap, sym, ◌∙◌, append_assoc, add-one}
use Rattle.std.specs.Prelude.{IfErr, Option}
use Rattle.std.specs.List.{flat_map}
use Rattle.std.proofs.Math.Seq.{take-suc}
use Rattle.std.proofs.lemmas.List.{append-nil, map-append}
use Rattle.std.proofs.lemmas.List.Sums.{fold-append}
use Rattle.std.proofs.lemmas.Grind.{flat_map-append}
use Rattle.ill_values.specs.Day.{Date}
use Rattle.ill_text.specs.declared.fault.ToolFault.{ToolFault}
use Rattle.ill_text.specs.declared.fault.ToolFault.TheVariants.{Arguments, Der, TooMany, Script, Desk, Key, Deferred, Read, Write}
use Rattle.ill_text.specs.declared.fault.ToolFault.TheVariants.{NotSealed, OutOfMemory}
use Rattle.ill_visits.specs.Parts.{AddsPart, AddsParts, Part, gravest_part, part_answer, part_text}
use Rattle.ill_text.specs.Visits.{graver}
use Rattle.ill_text.specs.Fault.{IsOpenFault}

-- An unchanged page has the parts of no desks added, and the answer true.
pub no_parts : (today : Date) (since : Option Date) (before : List ℕ) → AddsParts today since [] before before (Ok true)
no_parts today since before = ([], refl, sym (append-nil before), refl)

-- If `part` is appended to `parts`, the gravest fault is the graver of the old one and that of `part`.
graver_part : (parts : List Part) (part : Part)
    → gravest_part (parts ++ part ∷ []) ≡ graver (gravest_part parts) (part_answer part)
graver_part parts part =
    ap (λ answers. fold graver (Ok true) answers) (map-append part_answer parts (part ∷ []))
    ∙ fold-append graver (Ok true) (map part_answer parts) (part_answer part ∷ [])

-- If `part` is appended to `parts`, the text of the parts after `before` grows by its text.
longer_by_part : (today : Date) (since : Option Date) (before : List ℕ) (parts : List Part) (part : Part)
    → (before ++ flat_map (part_text today since) parts) ++ part_text today since part
    ≡ before ++ flat_map (part_text today since) (parts ++ part ∷ [])
longer_by_part today since before parts part =
    append_assoc before (flat_map (part_text today since) parts) (part_text today since part)
    ∙ ap (λ text. before ++ (flat_map (part_text today since) parts ++ text)) (sym (append-nil (part_text today since part)))
    ∙ ap (λ text. before ++ text) (sym (flat_map-append (part_text today since) parts (part ∷ [])))

-- If a page has the parts of the first `place` files, and then the next part, it has those of `place + 1` files.
-- `printed` proves this of the files, `text` of the page, and `graver_is` of the gravest fault.
pub one_more_part : (today : Date) (since : Option Date) (files : List (List ℕ)) (place : ℕ) (file before between after : List ℕ)
    (answer next : Result Bool ToolFault)
    → place < length files → file ≡ get_or files place file → AddsParts today since (take place files) before between answer
    → AddsPart today since file between after next
    → AddsParts today since (take (place + 1) files) before after (graver answer next)
one_more_part today since files place file before between after answer next within at so_far one =
    let parts = so_far.0 in
    let part = one.0 in
    let file_of : Part → List ℕ = λ part. part.0 in
    let printed : map file_of (parts ++ part ∷ []) ≡ take (place + 1) files =
    map-append file_of parts (part ∷ []) ∙ ap (λ done. done ++ file_of part ∷ []) so_far.1
    ∙ ap (λ file. take place files ++ file ∷ []) (one.1 ∙ at) ∙ sym (take-suc files place file within)
    ∙ ap (λ count. take count files) (sym (add-one place)) in
    let text = one.2 ∙ ap (λ page. page ++ part_text today since part) so_far.2 ∙ longer_by_part today since before parts part in
    let graver_is = ap (λ answer. graver answer next) so_far.3 ∙ ap (λ next. graver (gravest_part parts) next) one.3
    ∙ sym (graver_part parts part) in
    (parts ++ part ∷ [], printed, text, graver_is)

-- If each of two answers is Ok or a fault of opening, the graver of them is, too.
pub open_graver : (one other : Result Bool ToolFault) → IfErr one IsOpenFault → IfErr other IsOpenFault
    → IfErr (graver one other) IsOpenFault
open_graver (Ok one) (Ok other) first second = tt
open_graver (Ok one) (Err fault) first second = second
open_graver (Err Arguments) other first second = absurd first
open_graver (Err (Der fault)) other first second = absurd first
open_graver (Err TooMany) other first second = absurd first
open_graver (Err (Script line)) other first second = absurd first
open_graver (Err (Desk fault)) other first second = tt
open_graver (Err (Key fault)) other first second = absurd first
open_graver (Err NotSealed) other first second = absurd first
open_graver (Err Deferred) other first second = absurd first
open_graver (Err Read) other first second = absurd first
open_graver (Err Write) other first second = absurd first
open_graver (Err OutOfMemory) other first second = tt
