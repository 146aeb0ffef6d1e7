-- Proves that `VisitsEach` holds before the first visit to a desk, and after one more visit.
use Rattle.std.proofs.Common.{◌≡◌, ◌-◌, Bool, true, false, Result, Ok, Err, refl, arith, ℕ, zero, suc, ◌+◌, ◌<◌, ◌++◌, List, []}
use Rattle.std.proofs.Common.{◌∷◌, length, map, fold, take, get_or, Option, ap, sym, subst, ◌∙◌, add-one}
use Rattle.ill_text.specs.declared.fault.ToolFault.{ToolFault}
use Rattle.ill_text.specs.declared.fault.ToolFault.TheVariants.{Arguments, Der, TooMany, Script, Desk, Key, Deferred, Read, Write}
use Rattle.ill_text.specs.declared.fault.ToolFault.TheVariants.{NotSealed, OutOfMemory}
use Rattle.ill_text.specs.Visits.{graver, AreConsecutive, RunAtEach, Stop, VisitsEach, gravest}
use Rattle.std.specs.Prelude.{◌==◌}
use Rattle.std.proofs.Math.Seq.{take-suc}
use Rattle.std.proofs.lemmas.List.{map-append}
use Rattle.std.proofs.lemmas.List.Elements.{All-nil, All-push}
use Rattle.std.proofs.lemmas.List.Sums.{fold-append}

-- `graver answer (Ok true)` is `answer`.
pub graver_success : (answer : Result Bool ToolFault) → answer ≡ graver answer (Ok true)
graver_success (Ok true) = refl
graver_success (Ok false) = refl
graver_success (Err Arguments) = refl
graver_success (Err (Der fault)) = refl
graver_success (Err TooMany) = refl
graver_success (Err (Script line)) = refl
graver_success (Err (Desk fault)) = refl
graver_success (Err (Key fault)) = refl
graver_success (Err NotSealed) = refl
graver_success (Err Deferred) = refl
graver_success (Err Read) = refl
graver_success (Err Write) = refl
graver_success (Err OutOfMemory) = refl

-- Returns true if a list is empty.
abbrev is_nothing : {X : Type 0} → List X → Bool
is_nothing [] = true
is_nothing (item ∷ items) = false

-- `suc place` is not 0.
not_first : (place : ℕ) → (suc place == 0) ≡ false
not_first place = grind arith

-- If the paths of `stops` are the first `place` of `paths`, `stops` is empty exactly if `place` is 0.
first_visited : (paths : List (List ℕ)) (stops : List Stop) (place : ℕ) → place < length paths
    → map (λ (stop : Stop). stop.path) stops ≡ take place paths → is_nothing stops ≡ (place == 0)
first_visited [] stops place within is = absurd (omega (arith, within))
first_visited (path ∷ paths) [] zero within is = refl
first_visited (path ∷ paths) [] (suc place) within is = absurd cc
first_visited (path ∷ paths) (stop ∷ stops) zero within is = absurd cc
first_visited (path ∷ paths) (stop ∷ stops) (suc place) within is = sym (not_first place)

-- Let `stops` lead from the output `before` to `between`, and let `stop` begin with `between`. Then `stops` and then
-- `stop` lead from `before` to the output after `stop`.
follow_more : (before between : Option (List ℕ)) (stops : List Stop) (stop : Stop)
    → AreConsecutive before stops between → stop.before ≡ between → AreConsecutive before (stops ++ stop ∷ []) stop.after
unfolding AreConsecutive
follow_more before between [] stop is begins = (begins ∙ is, refl)
follow_more before between (first ∷ stops) stop follows begins =
    (follows.0, follow_more first.after between stops stop follows.1 begins)

-- If `Runs` holds at each of `stops` (`RunAtEach`), and at `stop` after them, it holds at each of all.
run_more : (Runs : Bool → Stop → Type 0) (stops : List Stop) (stop : Stop) → RunAtEach Runs stops
    → Runs (is_nothing stops) stop → RunAtEach Runs (stops ++ stop ∷ [])
run_more Runs [] stop each run = (run, All-nil (Runs false))
run_more Runs (first ∷ stops) stop each run = (each.0, All-push (Runs false) stops stop each.1 run)

-- Appending `stop` makes the gravest answer the graver of the old one and the answer of `stop`.
gravest_more : (stops : List Stop) (stop : Stop) → gravest (stops ++ stop ∷ []) ≡ graver (gravest stops) stop.answer
gravest_more stops stop =
    let answer : Stop → Result Bool ToolFault = λ stop. stop.answer in
    ap (λ answers. fold graver (Ok true) answers) (map-append answer stops (stop ∷ []))
    ∙ fold-append graver (Ok true) (map answer stops) (stop.answer ∷ [])

-- If the first `place` of `paths` were visited, and then the next one, the first `place + 1` were visited.
-- The answer of all is the graver of `answer` and `next`.
pub one_more_visit : (Runs : Bool → Stop → Type 0) (paths : List (List ℕ)) (place : ℕ) (path : List ℕ)
    (before between after : Option (List ℕ)) (answer next : Result Bool ToolFault)
    → place < length paths → path ≡ get_or paths place path → VisitsEach Runs (take place paths) before between answer
    → Runs (place == 0) (record { path = path; before = between; after = after; answer = next })
    → VisitsEach Runs (take (place + 1) paths) before after (graver answer next)
one_more_visit Runs paths place path before between after answer next within at so_far run =
    let stops = so_far.0 in
    let stop : Stop = record { path = path; before = between; after = after; answer = next } in
    let path_of : Stop → List ℕ = λ stop. stop.path in
    let visited : map path_of (stops ++ stop ∷ []) ≡ take (place + 1) paths =
    map-append path_of stops (stop ∷ []) ∙ ap (λ done. done ++ path ∷ []) so_far.1 ∙ ap (λ path. take place paths ++ path ∷ []) at
    ∙ sym (take-suc paths place path within) ∙ ap (λ count. take count paths) (sym (add-one place)) in
    let is_first = first_visited paths stops place within so_far.1 in
    let graver_is = ap (λ answer. graver answer next) so_far.4 ∙ sym (gravest_more stops stop) in (
      stops ++ stop ∷ [],
      visited,
      follow_more before between stops stop so_far.2 refl,
      run_more Runs stops stop so_far.3 (subst (λ (is_first : Bool). Runs is_first stop) (sym is_first) run),
      graver_is,
    )

-- Before the first visit, `VisitsEach` holds of no paths with the answer true.
pub no_visit : (Runs : Bool → Stop → Type 0) (before : Option (List ℕ)) → VisitsEach Runs [] before before (Ok true)
unfolding AreConsecutive
no_visit Runs before = ([], refl, refl, tt, refl)
