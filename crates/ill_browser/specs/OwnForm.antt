-- A form of a page of this program.
use Rattle.std.specs.Prelude.{◌≡◌, ◌≤◌, ℕ, true, List, length}
use Rattle.ill_browser.specs.Visit.{RulesShown, VisitShown, has_user, is_form, is_own, is_post, is_root}

-- A page of this program sent this form to it, with a name of its sender unless the operator wants none.
pub record IsOwnForm (rules : RulesShown) (v : VisitShown) (body : List ℕ) : Type 0 where
  pub root : is_root v.path ≡ true
  pub post : is_post v ≡ true
  pub own : is_own rules v ≡ true
  pub user : has_user rules v ≡ true
  pub form : is_form v ≡ true
  pub few : length body ≤ 4096
