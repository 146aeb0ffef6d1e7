-- Visits of a command to desks, one after another. After a failure at one desk, the others are still visited.
use Rattle.std.specs.Prelude.{◌≡◌, All, ℕ, Bool, true, false, ◌&&◌, List, [], ◌∷◌, map, fold, Option, Result, Ok, Err}
use Rattle.ill_text.specs.declared.fault.ToolFault.{ToolFault}
use Rattle.ill_text.specs.declared.fault.ToolFault.TheVariants.{Deferred}

-- ---- answers

-- Returns the graver of two answers. A fault is the gravest, then message files that wait (`Deferred`), and then
-- something that wants a person (`Ok false`). Of two other faults it is the first.
abbrev pub graver : Result Bool ToolFault → Result Bool ToolFault → Result Bool ToolFault
graver (Err Deferred) (Err fault) = Err fault
graver (Err fault) other = Err fault
graver (Ok is_success) (Err fault) = Err fault
graver (Ok is_success) (Ok other) = Ok (is_success && other)

-- Returns the gravest of some answers, or true if there are none.
abbrev pub gravest_of : List (Result Bool ToolFault) → Result Bool ToolFault
gravest_of answers = fold graver (Ok true) answers

-- ---- visits

-- A visit to a desk: its path, the output before and after it, and its answer.
pub record Stop : Type 0 where
  pub path : List ℕ
  pub before : Option (List ℕ)
  pub after : Option (List ℕ)
  pub answer : Result Bool ToolFault

-- Each of the visits begins with the output of the one before it. The first begins with `before`, and the
-- last ends with `after`.
unfoldable pub AreConsecutive : Option (List ℕ) → List Stop → Option (List ℕ) → Type 0
AreConsecutive before [] after = after ≡ before
AreConsecutive before (stop ∷ stops) after = (stop.before ≡ before) × AreConsecutive stop.after stops after

-- Returns the gravest answer of the visits.
abbrev pub gravest : List Stop → Result Bool ToolFault
gravest stops = gravest_of (map (λ stop. stop.answer) stops)

-- `Runs true` holds of the first visit, and `Runs false` of each further one.
abbrev pub RunAtEach : (Bool → Stop → Type 0) → List Stop → Type 0
RunAtEach Runs [] = Unit {0}
RunAtEach Runs (stop ∷ stops) = Runs true stop × All (Runs false) stops

-- The desks at `paths` were visited one after another, as `Runs` tells of the first and of the others. `answer` is
-- the gravest of their answers.
abbrev pub VisitsEach : (Bool → Stop → Type 0) → List (List ℕ) → Option (List ℕ) → Option (List ℕ) →
    Result Bool ToolFault → Type 0
VisitsEach Runs paths before after answer =
    (stops : List Stop) × (map (λ stop. stop.path) stops ≡ paths) × AreConsecutive before stops after
    × RunAtEach Runs stops × (answer ≡ gravest stops)
