-- Turns the first row that fits into a list of tests. Each row that contains the state is a test. Within it, each guard
-- that the row asks for is a test.
use Rattle.std.proofs.Common.{◌≡◌, ℕ, Bool, true, false, ◌&&◌, ◌||◌, ◌==◌, bit_and, List, [], ◌∷◌, ◌++◌, Option, Some, None}
use Rattle.std.proofs.Common.{if◌then◌else◌, refl, ap, sym, ◌∙◌}
use Rattle.std.specs.List.{find, list_all}
use Rattle.std.proofs.lemmas.Bool.{and_parts}
use Rattle.std.proofs.lemmas.List.Folds.{list_all-append}
use Rattle.ill_core.specs.declared.state.State.{State}
use Rattle.ill_core.specs.declared.table.Row.{Row}
use Rattle.ill_core.specs.Rules.{implies}
use Rattle.ill_core.specs.Tables.{Guard, has_state, are_met, fits}

-- Returns `hit` of the row, or `miss` if there is no row.
abbrev pub answer_of : {K A : Type 0} → (Row K → A) → A → Option (Row K) → A
answer_of hit miss None = miss
answer_of hit miss (Some row) = hit row

-- Returns `hit` if each guard whose bit is set in `asked` holds, and else `miss`. Each guard is a separate test.
abbrev pub if_guards_hold : {A : Type 0} → ℕ → List Guard → A → A → A
if_guards_hold asked [] hit miss = hit
if_guards_hold asked (f ∷ guards) hit miss =
    if bit_and asked f.bit == 0 then if_guards_hold asked guards hit miss
    else (if f.holds then if_guards_hold asked guards hit miss else miss)

-- Returns `hit` of the first row that contains `state` and whose guards hold, or `miss`. Each state and each guard is a
-- separate test.
abbrev pub by_tests : {K A : Type 0} → State → List Guard → (Row K → A) → A → List (Row K) → A
by_tests state guards hit miss [] = miss
by_tests state guards hit miss (row ∷ rows) =
    if has_state row.1 state then if_guards_hold row.2 guards (hit row) (by_tests state guards hit miss rows)
    else by_tests state guards hit miss rows

-- The test of a guard and of the others at once equals the test of each after the other. `is_unasked` says that the row
-- does not ask for the guard. `holds` and `others` say that the guard and the others hold.
guard_met : {A : Type 0} (is_unasked holds others : Bool) (hit miss : A)
    → (if (is_unasked || holds) && others then hit else miss)
    ≡ (if is_unasked then (if others then hit else miss) else (if holds then (if others then hit else miss) else miss))
guard_met true holds others hit miss = refl
guard_met false true others hit miss = refl
guard_met false false others hit miss = refl

-- The test of all guards at once equals the separate tests of each guard.
met_asked : {A : Type 0} (asked : ℕ) (guards : List Guard) (hit miss : A)
    → (if are_met asked guards then hit else miss) ≡ if_guards_hold asked guards hit miss
met_asked asked [] hit miss = refl
met_asked asked (f ∷ guards) hit miss =
    guard_met (bit_and asked f.bit == 0) f.holds (are_met asked guards) hit miss
    ∙ ap (λ others. if bit_and asked f.bit == 0 then others else (if f.holds then others else miss))
    (met_asked asked guards hit miss)

-- The test of a row equals the test `is_in` of its state, followed by the test `is_met` of its guards.
row_fits : {K A : Type 0} (is_in is_met : Bool) (hit : Row K → A) (miss : A) (row : Row K) (others : Option (Row K))
    → answer_of hit miss (if is_in && is_met then Some row else others)
    ≡ (if is_in then (if is_met then hit row else answer_of hit miss others) else answer_of hit miss others)
row_fits true true hit miss row others = refl
row_fits true false hit miss row others = refl
row_fits false is_met hit miss row others = refl

-- The answer of the first row that fits equals the separate tests of the rows, one after another.
pub found_by_tests : {K A : Type 0} (state : State) (guards : List Guard) (hit : Row K → A) (miss : A) (rows : List (Row K))
    → answer_of hit miss (find (fits state guards) rows) ≡ by_tests state guards hit miss rows
found_by_tests state guards hit miss [] = refl
found_by_tests state guards hit miss (row ∷ rows) =
    row_fits (has_state row.1 state) (are_met row.2 guards) hit miss row (find (fits state guards) rows)
    ∙ (ap (λ others. if has_state row.1 state then others else answer_of hit miss (find (fits state guards) rows))
    (met_asked row.2 guards (hit row) (answer_of hit miss (find (fits state guards) rows)))
    ∙ ap (λ others. if has_state row.1 state then if_guards_hold row.2 guards (hit row) others else others)
    (found_by_tests state guards hit miss rows))

-- If `asked` is 0, all guards with a bit in `asked` hold.
pub none_asked : (guards : List Guard) → are_met 0 guards ≡ true
none_asked [] = refl
none_asked (f ∷ guards) = none_asked guards

-- The guards of two lists hold together if, and only if, the guards of each list hold.
pub both_met : (asked : ℕ) (guards others : List Guard) (a b : Bool) → a ≡ are_met asked guards
    → b ≡ are_met asked others → (a && b) ≡ are_met asked (guards ++ others)
both_met asked guards others a b met met_too =
    ap (λ c. c && b) met ∙ (ap (λ c. are_met asked guards && c) met_too
    ∙ sym (list_all-append (λ f. (bit_and asked f.bit == 0) || f.holds) guards others))

-- If both branches of a choice are true, the choice is true.
either : (b here others : Bool) → here ≡ true → others ≡ true → (if b then here else others) ≡ true
either true here others h o = h
either false here others h o = o

-- If `here` and `others` are true, `if_guards_hold` returns true.
asked_true : (asked : ℕ) (guards : List Guard) (here others : Bool) → here ≡ true → others ≡ true
    → if_guards_hold asked guards here others ≡ true
asked_true asked [] here others h o = h
asked_true asked (f ∷ guards) here others h o =
    either (bit_and asked f.bit == 0) (if_guards_hold asked guards here others)
    (if f.holds then if_guards_hold asked guards here others else others) (asked_true asked guards here others h o)
    (either f.holds (if_guards_hold asked guards here others) others (asked_true asked guards here others h o) o)

-- If a row that contains the state gives true, and the others give true, the tests of all give true.
row_true : (is_in : Bool) (asked : ℕ) (guards : List Guard) (here others : Bool) → implies is_in here ≡ true → others ≡ true
    → (if is_in then if_guards_hold asked guards here others else others) ≡ true
row_true true asked guards here others h o = asked_true asked guards here others h o
row_true false asked guards here others h o = o

-- If `holds` is true of each row that contains the state, the tests of the rows give true.
pub tests_true : {K : Type 0} (state : State) (guards : List Guard) (holds : Row K → Bool) (rows : List (Row K))
    → list_all (λ row. implies (has_state row.1 state) (holds row)) rows ≡ true → by_tests state guards holds true rows ≡ true
tests_true state guards holds [] h = refl
tests_true state guards holds (row ∷ rows) h =
    row_true (has_state row.1 state) row.2 guards (holds row) (by_tests state guards holds true rows) (and_parts _ _ h).0
    (tests_true state guards holds rows (and_parts _ _ h).1)
