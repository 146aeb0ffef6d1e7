-- Proves how the page of all desks grows by the parts of desks.
use Rattle.std.proofs.Common.{◌≡◌, ℕ, ◌+◌, ◌<◌, List, [], ◌∷◌, ◌++◌, length, map, take, get_or, Option}
use Rattle.std.proofs.Common.{Result, Ok, Err, OnOk, refl, ap, sym, ◌∙◌, append_assoc, add-one}
use Rattle.std.specs.List.{flat_map}
use Rattle.std.proofs.Math.Seq.{take-suc}
use Rattle.std.proofs.lemmas.List.{append-nil, map-append}
use Rattle.std.proofs.lemmas.Grind.{flat_map-append}
use Rattle.ill_values.specs.Day.{Date}
use Rattle.ill_web.specs.Pages.{AddsDesk, AddsDesks, DeskRead, file_of, part_of}

-- An unchanged page has the parts of no desks added.
pub no_desks : (today : Date) (find : Option (List ℕ)) (before : List ℕ) → AddsDesks today find [] before before
no_desks today find before = ([], refl, sym (append-nil before))

-- Appending `desk` makes the text of some desks longer by its part.
longer_by_desk : (today : Date) (find : Option (List ℕ)) (before : List ℕ) (desks : List DeskRead) (desk : DeskRead)
    → (before ++ flat_map (part_of today find) desks) ++ part_of today find desk
    ≡ before ++ flat_map (part_of today find) (desks ++ desk ∷ [])
longer_by_desk today find before desks desk =
    append_assoc before (flat_map (part_of today find) desks) (part_of today find desk)
    ∙ ap (λ text. before ++ (flat_map (part_of today find) desks ++ text)) (sym (append-nil (part_of today find desk)))
    ∙ ap (λ text. before ++ text) (sym (flat_map-append (part_of today find) desks (desk ∷ [])))

-- If a page has the parts of the first `place` files, and then the next part, it has those of `place + 1` files. `told`
-- proves this of the files, and `text` of the page.
pub one_more_desk : (today : Date) (find : Option (List ℕ)) (files : List (List ℕ)) (place : ℕ)
    (file before between after : List ℕ) → place < length files → file ≡ get_or files place file
    → AddsDesks today find (take place files) before between → AddsDesk today find file between after
    → AddsDesks today find (take (place + 1) files) before after
one_more_desk today find files place file before between after within at so_far one =
    let desks = so_far.0 in
    let desk = one.0 in
    let told : map file_of (desks ++ desk ∷ []) ≡ take (place + 1) files =
    map-append file_of desks (desk ∷ []) ∙ ap (λ done. done ++ file_of desk ∷ []) so_far.1
    ∙ ap (λ file. take place files ++ file ∷ []) (one.1 ∙ at) ∙ sym (take-suc files place file within)
    ∙ ap (λ count. take count files) (sym (add-one place)) in
    let text = one.2 ∙ ap (λ page. page ++ part_of today find desk) so_far.2 ∙ longer_by_desk today find before desks desk in
    (desks ++ desk ∷ [], told, text)

-- If `P` gives `Q`, and `P` holds if `result` is Ok, `Q` holds if `result` is Ok.
pub ok_implies : {T E P Q : Type 0} (result : Result T E) → (P → Q) → OnOk result P → OnOk result Q
ok_implies (Ok value) next holds = next holds
ok_implies (Err fault) next holds = tt
