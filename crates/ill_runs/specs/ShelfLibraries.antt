-- Two libraries with shelves between their commands. A shelf has a desk for each group. A command on it visits desks,
-- and at each it is a command of a library with one desk.
use Rattle.std.specs.Prelude.{bytes_eq, if◌then◌else◌, ℕ, List, [], ◌∷◌}
use Rattle.ill_runs.specs.Libraries.{Libraries, first_libraries, Happens}

-- Gives for each group the two libraries there: one desk of each.
abbrev pub ShelfLibraries : Type 0
ShelfLibraries = List ℕ → Libraries

-- Both libraries have just begun their shelves.
abbrev pub first_shelf_libraries : ShelfLibraries
first_shelf_libraries = λ group. first_libraries

-- A visit of the desk of a group, with both libraries at this group after it.
pub record GroupVisit : Type 0 where
  pub group : List ℕ
  pub after : Libraries

-- Returns the shelves after a visit. Only the desks of its group change.
abbrev pub after_visit : ShelfLibraries → GroupVisit → ShelfLibraries
after_visit w visit = λ group. if bytes_eq group visit.group then visit.after else w group

-- Each visit is a command of one of the two libraries at the group, one visit after another. A command on a shelf is
-- the visits of its desks.
unfoldable pub IsShelfHistory : ShelfLibraries → List GroupVisit → Type 0
IsShelfHistory w [] = Unit {0}
IsShelfHistory w (visit ∷ later) = Happens (w visit.group) visit.after × IsShelfHistory (after_visit w visit) later

-- Returns the shelves after these visits.
unfoldable pub shelves_after : ShelfLibraries → List GroupVisit → ShelfLibraries
shelves_after w [] = w
shelves_after w (visit ∷ later) = shelves_after (after_visit w visit) later

-- Returns the libraries of a group after each visit of it, in order.
abbrev pub visits_of : List ℕ → List GroupVisit → List Libraries
visits_of group [] = []
visits_of group (visit ∷ later) =
    let others = visits_of group later in
    if bytes_eq group visit.group then visit.after ∷ others else others
