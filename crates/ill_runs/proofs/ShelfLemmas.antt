-- Proves that the desks of a group of two shelves have a history of their own.
use Rattle.std.proofs.Common.{◌≡◌, ℕ, Bool, true, false, if◌then◌else◌, List, [], ◌∷◌, refl, sym, ◌∙◌, subst}
use Rattle.std.specs.Prelude.{bytes_eq}
use Rattle.std.proofs.lemmas.Slice.Eq.{bytes_eq-Decides}
use Rattle.ill_runs.specs.Libraries.{Libraries, Happens, IsHistory, libraries_after}
use Rattle.ill_runs.specs.ShelfLibraries.{ShelfLibraries, GroupVisit, after_visit, IsShelfHistory, shelves_after, visits_of}

-- If `later` is a history from the libraries after a visit, both together are a history at `group`. If the visit is of
-- another group (`same` is false), `later` alone is a history.
visit_joins : (w : ShelfLibraries) (group : List ℕ) (visit : GroupVisit) (later : List Libraries) (same : Bool)
    → bytes_eq group visit.group ≡ same → Happens (w visit.group) visit.after
    → IsHistory (if same then visit.after else w group) later
    → IsHistory (w group) (if same then visit.after ∷ later else later)
unfolding IsHistory
visit_joins w group visit later true same happens history =
    (subst (λ g. Happens (w g) visit.after) (sym ((bytes_eq-Decides group visit.group).0 same)) happens, history)
visit_joins w group visit later false same happens history = history

-- The libraries after a visit and then `later` are those after `later`, from the libraries after the visit on. If
-- `same` is false, the visit is of another group, and changes nothing.
visit_leads : (w : ShelfLibraries) (group : List ℕ) (visit : GroupVisit) (later : List Libraries) (same : Bool)
    → libraries_after (if same then visit.after else w group) later
    ≡ libraries_after (w group) (if same then visit.after ∷ later else later)
unfolding libraries_after
visit_leads w group visit later true = refl
visit_leads w group visit later false = refl

-- The visits of a group are a history of its libraries.
pub group_history : (w : ShelfLibraries) (group : List ℕ) (visits : List GroupVisit) → IsShelfHistory w visits
    → IsHistory (w group) (visits_of group visits)
unfolding IsShelfHistory IsHistory
group_history w group [] history = tt
group_history w group (visit ∷ later) history =
    visit_joins w group visit (visits_of group later) (bytes_eq group visit.group) refl history.0
    (group_history (after_visit w visit) group later history.1)

-- The libraries of a group after visits are those after the visits of this group.
pub group_after : (w : ShelfLibraries) (group : List ℕ) (visits : List GroupVisit)
    → shelves_after w visits group ≡ libraries_after (w group) (visits_of group visits)
unfolding shelves_after libraries_after
group_after w group [] = refl
group_after w group (visit ∷ later) =
    group_after (after_visit w visit) group later
    ∙ visit_leads w group visit (visits_of group later) (bytes_eq group visit.group)
