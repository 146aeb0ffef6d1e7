-- What a web server says of a request (RFC 3875, section 4.1), and what the operator says of all of them.
use Rattle.std.specs.Prelude.{ℕ, ◌+◌, ◌-◌, ◌*◌, nat_lt, Bool, ◌&&◌, ◌||◌, not, ◌==◌, if◌then◌else◌, List, length, fold, codes}
use Rattle.std.specs.Prelude.{Result, Ok, Err, bytes_eq}
use Rattle.std.specs.List.{list_all}
use Rattle.std.specs.Char.{is_ascii_digit}
use Rattle.ill_browser.specs.declared.fault.VisitFault.{VisitFault}
use Rattle.ill_browser.specs.declared.fault.VisitFault.TheVariants.{NoPage, Method, Foreign, NoUser, NoForm, NoLength, TooLong}
use Rattle.ill_browser.specs.declared.visit.Rules.{Rules}
use Rattle.ill_browser.specs.declared.visit.Visit.{Visit}

-- The texts of the environment that count: those of `Visit` (`src/visit.rt`). A text that is not there is empty.
pub record VisitShown : Type 0 where
  pub method : List ℕ
  pub path : List ℕ
  pub query : List ℕ
  pub site : List ℕ
  pub origin : List ℕ
  pub user : List ℕ
  pub content_type : List ℕ
  pub content_length : List ℕ

-- Returns the texts that a `Visit` of the code holds.
abbrev pub visit_shown : Visit → VisitShown
visit_shown v = record {
  method = v.method.now;
  path = v.path.now;
  query = v.query.now;
  site = v.site.now;
  origin = v.origin.now;
  user = v.user.now;
  content_type = v.content_type.now;
  content_length = v.content_length.now;
}

-- The operator's rules: the origin that browsers see, and if a form without a user is taken.
pub record RulesShown : Type 0 where
  pub origin : List ℕ
  pub is_open : Bool

-- Returns what a `Rules` of the code holds.
abbrev pub rules_shown : Rules → RulesShown
rules_shown rules = record { origin = rules.origin.now; is_open = rules.is_open }

-- Returns true if the path is that of the program itself.
abbrev pub is_root : List ℕ → Bool
is_root path = length path == 0 || bytes_eq path (codes "/")

-- Returns true if the request looks at a page.
abbrev pub is_look : VisitShown → Bool
is_look v = bytes_eq v.method (codes "GET")

-- Returns true if the request sends a form.
abbrev pub is_post : VisitShown → Bool
is_post v = bytes_eq v.method (codes "POST")

-- Returns true if `origin` is the operator's. If the operator names none, no origin is.
abbrev pub is_origin : RulesShown → List ℕ → Bool
is_origin rules origin = not (length rules.origin == 0) && bytes_eq origin rules.origin

-- Returns true if a page of this program sent the request. A browser says so by `Sec-Fetch-Site`, or else by `Origin`.
-- A request that says neither was sent by no page.
abbrev pub is_own : RulesShown → VisitShown → Bool
is_own rules v =
    if length v.site == 0 then is_origin rules v.origin else bytes_eq v.site (codes "same-origin")

-- Returns true if somebody is named who sent the request, or the operator wants no name.
abbrev pub has_user : RulesShown → VisitShown → Bool
has_user rules v = rules.is_open || not (length v.user == 0)

-- Returns true if the body is a form.
abbrev pub is_form : VisitShown → Bool
is_form v = bytes_eq v.content_type (codes "application/x-www-form-urlencoded")

-- Returns true if `text` has bytes, and each is a decimal digit.
abbrev pub is_numeral : List ℕ → Bool
is_numeral text = not (length text == 0) && list_all is_ascii_digit text

-- Returns the value of decimal digits.
abbrev pub decimal_value : List ℕ → ℕ
decimal_value digits = fold (λ value digit. 10 * value + (digit - 0x30)) 0 digits

-- Returns `size`, or its refusal if it is more than 4,096.
abbrev pub size_within : ℕ → Result ℕ VisitFault
size_within size = if nat_lt 4096 size then Err TooLong else Ok size

-- Returns the number that a text of decimal digits says, or its refusal. More than four digits are too long.
abbrev pub size_said : List ℕ → Result ℕ VisitFault
size_said text =
    if not (is_numeral text) then Err NoLength
    else if nat_lt 4 (length text) then Err TooLong
    else size_within (decimal_value text)

-- Returns the number of bytes that the request says its form has, or the refusal of the form.
abbrev pub form_size : RulesShown → VisitShown → Result ℕ VisitFault
form_size rules v =
    if not (is_own rules v) then Err Foreign
    else if not (has_user rules v) then Err NoUser
    else if not (is_form v) then Err NoForm
    else size_said v.content_length

-- Returns the number of bytes that are read of the body, or the refusal of the request.
abbrev pub body_size : RulesShown → VisitShown → Result ℕ VisitFault
body_size rules v =
    if not (is_root v.path) then Err NoPage
    else if is_look v then Ok 0
    else if is_post v then form_size rules v
    else Err Method
