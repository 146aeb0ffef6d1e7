-- Wrong readings of a request, as staff or an operator would say it.
use Rattle.std.specs.Prelude.{◌≡◌, ◌<◌, ℕ, Bool, true, false, List, [], ◌∷◌, length, codes, bytes_eq}
use Rattle.std.specs.Prelude.{Option, Some, Result, Ok}
use Rattle.std.specs.List.{list_any}
use Rattle.ill_values.specs.Day.{Date}
use Rattle.ill_browser.specs.declared.fault.VisitFault.{VisitFault}
use Rattle.ill_browser.specs.Fields.{fields_in, count_named, are_named, only_named}
use Rattle.ill_browser.specs.Visit.{RulesShown, VisitShown, is_post, is_look}
use Rattle.ill_browser.specs.Wanted.{Asked, LoanAsked, Desks, Loan, Slip, Figures, Note, act_names, note_names, day_named}
use Rattle.ill_browser.specs.Wanted.{is_change}

-- If a field of an act or a note has this name, no second field has it.
pub data IsOnce : List ℕ → Type 0 where
  desk : IsOnce (codes "desk")
  group : IsOnce (codes "group")
  transaction : IsOnce (codes "transaction")
  stamp : IsOnce (codes "stamp")
  note : IsOnce (codes "note")

-- A field of an act may have this name. No field of a note has it.
pub data IsOfActs : List ℕ → Type 0 where
  a_stamp : IsOfActs (codes "stamp")
  a_word : IsOfActs (codes "word")
  a_day : IsOfActs (codes "day")

-- The names of the fields in a query, whatever it asks for.
abbrev pub query_names : List (List ℕ)
query_names =
    codes "find" ∷ codes "desk" ∷ codes "group" ∷ codes "transaction" ∷ codes "page" ∷ codes "from" ∷ codes "to" ∷ []

-- Returns true if `name` is one of `names`.
abbrev pub is_among : List ℕ → List (List ℕ) → Bool
is_among name names = list_any (λ known. bytes_eq name known) names

-- The result is a wrong reading of this request under these rules.
pub data MisreadsVisit (rules : RulesShown) (v : VisitShown) (body : List ℕ) : Result Asked VisitFault → Type 0 where
  -- The request looks at a page. But it asks for an act, or for a note.
  look_changes : (asked : Asked) → is_change asked ≡ true → is_look v ≡ true → MisreadsVisit rules v body (Ok asked)
  -- The request sends a form. But it asks for a page, a slip or figures.
  form_shows : (asked : Asked) → is_change asked ≡ false → is_post v ≡ true → MisreadsVisit rules v body (Ok asked)
  -- A browser says that the form is of another site. But the form asks for something.
  foreign_site_asks : (asked : Asked) → is_post v ≡ true → bytes_eq v.site (codes "cross-site") ≡ true →
      MisreadsVisit rules v body (Ok asked)
  -- A browser does not say the site, and its origin is not the operator's. But the form asks for something.
  foreign_origin_asks : (asked : Asked) → is_post v ≡ true → length v.site ≡ 0 →
      bytes_eq v.origin rules.origin ≡ false → MisreadsVisit rules v body (Ok asked)
  -- Nothing says where the form came from. But it asks for something.
  silence_asks : (asked : Asked) → is_post v ≡ true → length v.site ≡ 0 → length v.origin ≡ 0 →
      MisreadsVisit rules v body (Ok asked)
  -- Nobody is named who sent the form, and the operator wants a name. But the form asks for something.
  nobody_asks : (asked : Asked) → is_post v ≡ true → length v.user ≡ 0 → rules.is_open ≡ false →
      MisreadsVisit rules v body (Ok asked)
  -- The body has more than 4,096 bytes. But the request asks for something.
  long_body_asks : (asked : Asked) → 4096 < length body → MisreadsVisit rules v body (Ok asked)
  -- The form has two fields with the name of its desk, group, transaction, stamp or note. But it asks for something.
  doubled_field_asks : (asked : Asked) (name : List ℕ) → is_post v ≡ true →
      IsOnce name → 1 < count_named name (fields_in body) → MisreadsVisit rules v body (Ok asked)
  -- A field has a name that no act has, and one has a name that no note has. But the form asks for something.
  stray_field_asks : (asked : Asked) → is_post v ≡ true → are_named act_names (fields_in body) ≡ false →
      are_named note_names (fields_in body) ≡ false → MisreadsVisit rules v body (Ok asked)
  -- The form has a note beside a stamp, a word or a day. But it asks for something.
  note_beside_act_asks : (asked : Asked) (name : List ℕ) → is_post v ≡ true → 0 < count_named (codes "note") (fields_in body) →
      IsOfActs name → 0 < count_named name (fields_in body) → MisreadsVisit rules v body (Ok asked)
  -- The form has a query beside its body. But it asks for something.
  query_asks : (asked : Asked) → is_post v ≡ true → 0 < length v.query → MisreadsVisit rules v body (Ok asked)
  -- A note is asked for. But its text is not that of the field `note`.
  other_note_is_kept : (loan : LoanAsked) (note : List ℕ) → is_post v ≡ true →
      (only_named (codes "note") (fields_in body) ≡ Some note → ⊥) → MisreadsVisit rules v body (Ok (Note loan note))
  -- The query has two fields with one name. But it asks for something.
  doubled_query_asks : (asked : Asked) (name : List ℕ) → is_look v ≡ true → 1 < count_named name (fields_in v.query) →
      MisreadsVisit rules v body (Ok asked)
  -- The query has a field with a name that none has. But it asks for something.
  stray_query_asks : (asked : Asked) (name : List ℕ) → is_look v ≡ true → 0 < count_named name (fields_in v.query) →
      is_among name query_names ≡ false → MisreadsVisit rules v body (Ok asked)
  -- The query has words to find beside another field. But it asks for something.
  words_beside_another_ask : (asked : Asked) (name : List ℕ) → is_look v ≡ true →
      0 < count_named (codes "find") (fields_in v.query) → 0 < count_named name (fields_in v.query) →
      bytes_eq name (codes "find") ≡ false → MisreadsVisit rules v body (Ok asked)
  -- The query has the first day of figures beside the desk of a loan. But it asks for something.
  figures_of_a_desk_ask : (asked : Asked) → is_look v ≡ true → 0 < count_named (codes "from") (fields_in v.query) →
      0 < count_named (codes "desk") (fields_in v.query) → MisreadsVisit rules v body (Ok asked)
  -- The query has words to find. But the page has all loans, or those with other words.
  other_words_are_found : (find : Option (List ℕ)) (words : List ℕ) → is_look v ≡ true →
      only_named (codes "find") (fields_in v.query) ≡ Some words → (find ≡ Some words → ⊥) →
      MisreadsVisit rules v body (Ok (Desks find))
  -- The query names a page that is no slip. But it asks for something.
  other_page_asks : (asked : Asked) (page : List ℕ) → is_look v ≡ true →
      only_named (codes "page") (fields_in v.query) ≡ Some page → bytes_eq page (codes "slip") ≡ false →
      MisreadsVisit rules v body (Ok asked)
  -- The query names a page of a loan. But it asks for the page without a name.
  page_is_passed_over : (loan : LoanAsked) → is_look v ≡ true → 0 < count_named (codes "page") (fields_in v.query) →
      MisreadsVisit rules v body (Ok (Loan loan))
  -- The query names no page. But it asks for a slip.
  slip_of_no_page : (loan : LoanAsked) → is_look v ≡ true → count_named (codes "page") (fields_in v.query) ≡ 0 →
      MisreadsVisit rules v body (Ok (Slip loan))
  -- The figures begin at another day than `from` says, or `from` says no day.
  figures_from_another_day : (from to : Date) → is_look v ≡ true →
      (day_named (codes "from") (fields_in v.query) ≡ Some from → ⊥) → MisreadsVisit rules v body (Ok (Figures from to))
  -- The figures end at another day than `to` says, or `to` says no day.
  figures_to_another_day : (from to : Date) → is_look v ≡ true →
      (day_named (codes "to") (fields_in v.query) ≡ Some to → ⊥) → MisreadsVisit rules v body (Ok (Figures from to))
