-- Proves what is found among the values of a list, for the contract of `first` (`src/field.rt`).
use Rattle.std.proofs.Common.{◌≡◌, ◌∙◌, ℕ, Bool, true, false, List, [], ◌∷◌, map, Option, Some, None, option_map, refl, ap}
use Rattle.std.specs.Prelude.{bytes_eq, string_bytes}
use Rattle.std.specs.List.{find}
use Rattle.ill_browser.specs.declared.field.Field.{Field}
use Rattle.ill_browser.specs.Fields.{Pair, field_shown, first_named}

-- If `find_mapped` holds for `items`, it holds for `item ∷ items`. `passes` is true if the value of `item` passes.
one_more : {X Y : Type 0} (value : X → Y) (test : Y → Bool) (item : X) (items : List X)
    → find test (map value items) ≡ option_map value (find (λ x. test (value x)) items)
    → (passes : Bool) → test (value item) ≡ passes
    → find test (value item ∷ map value items) ≡ option_map value (find (λ x. test (value x)) (item ∷ items))
one_more value test item items rest true passed = simp (passed) refl
one_more value test item items rest false failed = simp (failed) rest

-- The first value that passes is that of the first item whose value passes.
pub find_mapped : {X Y : Type 0} (value : X → Y) (test : Y → Bool) (items : List X)
    → find test (map value items) ≡ option_map value (find (λ x. test (value x)) items)
find_mapped value test [] = refl
find_mapped value test (item ∷ items) =
    one_more value test item items (find_mapped value test items) (test (value item)) refl

-- Two functions mapped over an option, one after the other, are one function mapped over it.
twice : {X Y Z : Type 0} (f : Y → Z) (g : X → Y) (o : Option X) → option_map f (option_map g o) ≡ option_map (λ x. f (g x)) o
twice f g None = refl
twice f g (Some x) = refl

-- The value of the first field with a name is that of the first `Field` of the code with this name.
pub first_is : (name : List ℕ) (fields : List Field)
    → first_named name (map field_shown fields)
    ≡ option_map (λ (field : Field). string_bytes field.value) (find (λ (field : Field). bytes_eq field.name.now name) fields)
first_is name fields =
    ap (option_map (λ (pair : Pair). pair.1)) (find_mapped field_shown (λ (pair : Pair). bytes_eq pair.0 name) fields)
    ∙ twice (λ (pair : Pair). pair.1) field_shown _
