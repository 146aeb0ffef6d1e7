-- Proves what the query of a page asks for. So the wrong readings of a query are excluded.
use Rattle.std.proofs.Common.{◌≡◌, ◌∙◌, ◌<◌, ⊎_elim, ℕ, true, false, List, [], ◌∷◌, length, Option, Some, None}
use Rattle.std.proofs.Common.{Ok, Err, refl, sym, subst, ap, arith, rules}
use Rattle.std.specs.Prelude.{◌==◌, bytes_eq, codes}
use Rattle.std.specs.List.{list_all}
use Rattle.std.proofs.lemmas.Bool.{or_from}
use Rattle.ill_values.specs.Day.{Date}
use Rattle.ill_browser.specs.declared.fault.VisitFault.{VisitFault}
use Rattle.ill_browser.specs.BadAsking.{is_among, query_names}
use Rattle.ill_browser.specs.Fields.{Pair, are_named, count_named, only_named}
use Rattle.ill_browser.specs.Wanted.{Asked, LoanAsked, Desks, Loan, Slip, Figures, ◌>>=◌, day_named, figures_named, figures_names}
use Rattle.ill_browser.specs.Wanted.{find_names, found_named, is_change, is_slip, loan_named, loan_names, asked_by_query}
use Rattle.ill_browser.specs.Wanted.{or_fields}
use Rattle.ill_browser.specs.Wanted.{page_named, slip_named, slip_names}
use Rattle.ill_browser.proofs.NamingLemmas.{are_once, bind_gave, choice_gave, has_loan, if_some, named_by, no_doubled}
use Rattle.ill_browser.proofs.NamingLemmas.{no_stranger}
use Rattle.ill_browser.proofs.NamingLemmas.{not_both, on_field_is_among, only_counts, only_once, within}

-- The fields of a query ask for `asked`: for one of five pages. Each case says what the fields then have.
pub data LooksAt (fields : List Pair) (asked : Asked) : Type 0 where
  -- There are no fields: all loans.
  at_desks : fields ≡ [] → asked ≡ Desks None → LooksAt fields asked
  -- All fields have the name `find`, and its only value is `words`.
  at_found : (words : List ℕ) → are_named find_names fields ≡ true → only_named (codes "find") fields ≡ Some words
      → asked ≡ Desks (Some words) → LooksAt fields asked
  -- All fields have names of a loan, and they name `loan`.
  at_loan : (loan : LoanAsked) → are_named loan_names fields ≡ true → loan_named fields ≡ Some loan → asked ≡ Loan loan
      → LooksAt fields asked
  -- All fields have names of a slip, and they name `loan` and the page "slip".
  at_slip : (loan : LoanAsked) (page : List ℕ) → are_named slip_names fields ≡ true
      → only_named (codes "page") fields ≡ Some page → bytes_eq page (codes "slip") ≡ true → loan_named fields ≡ Some loan
      → asked ≡ Slip loan → LooksAt fields asked
  -- All fields have names of figures, and they name two days.
  at_figures : (from to : Date) → are_named figures_names fields ≡ true → day_named (codes "from") fields ≡ Some from
      → day_named (codes "to") fields ≡ Some to → asked ≡ Figures from to → LooksAt fields asked

-- A list of no items is empty.
empty : {X : Type 0} (items : List X) → (length items == 0) ≡ true → items ≡ []
empty [] none = refl
empty (item ∷ items) none = search rules

-- If `Some one` equals `Some other`, `other` equals `one`.
same : {X : Type 0} (one other : X) → Some one ≡ Some other → other ≡ one
same one other e = search rules

-- If `is_slip` is true, a page is named, and its name is "slip".
slip_is : (named : Option (List ℕ)) → is_slip named ≡ true → (page : List ℕ)
    × ((named ≡ Some page) × (bytes_eq page (codes "slip") ≡ true))
slip_is (Some page) is = (page, (refl, is))
slip_is None is = search rules

-- A query without fields asks for the page of the desks.
desks : (fields : List Pair) (asked : Asked) → (length fields == 0) ≡ true → or_fields (Some (Desks None)) ≡ Ok asked
    → LooksAt fields asked
desks fields asked none e = at_desks (empty fields none) (same (Desks None) asked (named_by (Some (Desks None)) asked e))

-- If the fields have the name `find` alone, and `found_named` gives `asked`, they ask for words to find.
found : (fields : List Pair) (asked : Asked) → are_named find_names fields ≡ true → or_fields (found_named fields) ≡ Ok asked
    → LooksAt fields asked
found fields asked named e =
    let words = bind_gave (only_named (codes "find") fields) _ asked (named_by (found_named fields) asked e) in
    at_found words.0 named words.1.0 (same _ asked words.1.1)

-- If the fields have names of a loan alone, and `page_named` gives `asked`, they ask for its page.
page : (fields : List Pair) (asked : Asked) → are_named loan_names fields ≡ true → or_fields (page_named fields) ≡ Ok asked
    → LooksAt fields asked
page fields asked named e =
    let loan = bind_gave (loan_named fields) _ asked (named_by (page_named fields) asked e) in
    at_loan loan.0 named loan.1.0 (same _ asked loan.1.1)

-- If the fields have names of a slip alone, and `slip_named` gives `asked`, they ask for the slip.
slip : (fields : List Pair) (asked : Asked) → are_named slip_names fields ≡ true → or_fields (slip_named fields) ≡ Ok asked
    → LooksAt fields asked
slip fields asked named e =
    let slip = if_some (is_slip (only_named (codes "page") fields)) (loan_named fields >>= λ loan. Some (Slip loan)) asked
    (named_by (slip_named fields) asked e) in
    let page = slip_is (only_named (codes "page") fields) slip.0 in
    let loan = bind_gave (loan_named fields) _ asked slip.1 in
    at_slip loan.0 page.0 named page.1.0 page.1.1 loan.1.0 (same _ asked loan.1.1)

-- If the fields have names of figures alone, and `figures_named` gives `asked`, they ask for figures.
figures : (fields : List Pair) (asked : Asked) → are_named figures_names fields ≡ true
    → or_fields (figures_named fields) ≡ Ok asked → LooksAt fields asked
figures fields asked named e =
    let first = bind_gave (day_named (codes "from") fields) _ asked (named_by (figures_named fields) asked e) in
    let last = bind_gave (day_named (codes "to") fields) _ asked first.1.1 in
    at_figures first.0 last.0 named first.1.0 last.1.0 (same _ asked last.1.1)

-- A refusal asks for nothing: it is never `Ok asked`.
refused : (fields : List Pair) (asked : Asked) (refusal : VisitFault) → Err refusal ≡ Ok asked → LooksAt fields asked
refused fields asked refusal e = search rules

-- If `asked_by_query fields` is `Ok asked`, the fields ask for `asked` as one of the five pages (`LooksAt`). The tests
-- of `asked_by_query` are taken in their order.
pub looks_at : (fields : List Pair) (asked : Asked) → asked_by_query fields ≡ Ok asked → LooksAt fields asked
looks_at fields asked e =
    ⊎_elim (λ at. desks fields asked at.0 at.1) (λ e.
    ⊎_elim (λ at. found fields asked at.0 at.1) (λ e.
    ⊎_elim (λ at. page fields asked at.0 at.1) (λ e.
    ⊎_elim (λ at. slip fields asked at.0 at.1) (λ e.
    ⊎_elim (λ at. figures fields asked at.0 at.1) (λ e. refused fields asked _ e)
    (choice_gave (are_named figures_names fields) (or_fields (figures_named fields)) _ asked e))
    (choice_gave (are_named slip_names fields) (or_fields (slip_named fields)) _ asked e))
    (choice_gave (are_named loan_names fields) (or_fields (page_named fields)) _ asked e))
    (choice_gave (are_named find_names fields) (or_fields (found_named fields)) _ asked e))
    (choice_gave (length fields == 0) (or_fields (Some (Desks None))) _ asked e)

-- If the fields of a query ask for `asked`, it is no change.
pub looks_change_nothing : (fields : List Pair) (asked : Asked) → LooksAt fields asked → is_change asked ≡ false
looks_change_nothing fields asked (at_desks none is) = ap is_change is
looks_change_nothing fields asked (at_found words named found is) = ap is_change is
looks_change_nothing fields asked (at_loan loan named loaned is) = ap is_change is
looks_change_nothing fields asked (at_slip loan page named paged slips loaned is) = ap is_change is
looks_change_nothing fields asked (at_figures from to named first last is) = ap is_change is

-- All fields have names of `names`. Each of these is on one field, and is known in queries.
pub record IsTidy (fields : List Pair) : Type 0 where
  pub names : List (List ℕ)
  pub named : are_named names fields ≡ true
  pub once : are_once names fields ≡ true
  pub known : list_all (λ name. is_among name query_names) names ≡ true

-- If the fields name a day by `name`, one field alone has this name.
day_once : (name : List ℕ) (fields : List Pair) (day : Date) → day_named name fields ≡ Some day
    → (count_named name fields == 1) ≡ true
day_once name fields day e =
    let text = bind_gave (only_named name fields) _ day e in only_once name fields text.0 text.1.0

-- If the fields of a query ask for something, they are tidy. For each page, `names` are those of its fields.
is_tidy : (fields : List Pair) (asked : Asked) → LooksAt fields asked → IsTidy fields
is_tidy fields asked (at_desks none is) =
    record { names = []; named = subst (λ fields. are_named [] fields ≡ true) (sym none) refl; once = refl; known = refl }
is_tidy fields asked (at_found words named found is) =
    let words_once = only_once (codes "find") fields words found in
    record { names = find_names; named = named; once = simp (words_once) refl; known = refl }
is_tidy fields asked (at_loan loan named loaned is) =
    let has = has_loan fields loan loaned in
    let desk = has.desk in
    let group = has.group in
    let transaction = has.transaction in
    record { names = loan_names; named = named; once = simp (desk, group, transaction) refl; known = refl }
is_tidy fields asked (at_slip loan page named paged slips loaned is) =
    let has = has_loan fields loan loaned in
    let desk = has.desk in
    let group = has.group in
    let transaction = has.transaction in
    let page_once = only_once (codes "page") fields page paged in
    record { names = slip_names; named = named; once = simp (desk, group, transaction, page_once) refl; known = refl }
is_tidy fields asked (at_figures from to named first last is) =
    let from_once = day_once (codes "from") fields from first in
    let to_once = day_once (codes "to") fields to last in
    record { names = figures_names; named = named; once = simp (from_once, to_once) refl; known = refl }

-- A query with two fields of one name asks for nothing.
pub doubled_looks_at_nothing : (fields : List Pair) (asked : Asked) (name : List ℕ) → LooksAt fields asked
    → 1 < count_named name fields → ⊥
doubled_looks_at_nothing fields asked name looks more =
    let tidy = is_tidy fields asked looks in no_doubled tidy.names name fields tidy.named tidy.once more

-- A query with a field of a name that is not known asks for nothing.
pub stray_looks_at_nothing : (fields : List Pair) (asked : Asked) (name : List ℕ) → LooksAt fields asked
    → 0 < count_named name fields → is_among name query_names ≡ false → ⊥
stray_looks_at_nothing fields asked name looks some stray =
    let tidy = is_tidy fields asked looks in
    let one = on_field_is_among tidy.names name fields tidy.named some in
    not_both (is_among name query_names) (within tidy.names query_names name tidy.known one) stray

-- If there are no fields, none has `name`.
pub none_counts : (fields : List Pair) (name : List ℕ) → fields ≡ [] → 0 < count_named name fields → ⊥
none_counts fields name none some =
    let none_here : 0 < count_named name [] = subst (λ fields. 0 < count_named name fields) none some in
    search (arith, rules)

-- A query with words to find and another field asks for nothing.
pub words_stand_alone : (fields : List Pair) (asked : Asked) (name : List ℕ) → LooksAt fields asked
    → 0 < count_named (codes "find") fields → 0 < count_named name fields → bytes_eq name (codes "find") ≡ false → ⊥
words_stand_alone fields asked name (at_desks none is) words other apart = none_counts fields name none other
words_stand_alone fields asked name (at_found words named found is) some other apart =
    no_stranger find_names name fields named other (or_from _ _ apart refl)
words_stand_alone fields asked name (at_loan loan named loaned is) words other apart =
    no_stranger loan_names (codes "find") fields named words refl
words_stand_alone fields asked name (at_slip loan page named paged slips loaned is) words other apart =
    no_stranger slip_names (codes "find") fields named words refl
words_stand_alone fields asked name (at_figures from to named first last is) words other apart =
    no_stranger figures_names (codes "find") fields named words refl

-- A query with the first day of figures and a desk asks for nothing.
pub figures_have_no_desk : (fields : List Pair) (asked : Asked) → LooksAt fields asked → 0 < count_named (codes "from") fields
    → 0 < count_named (codes "desk") fields → ⊥
figures_have_no_desk fields asked (at_desks none is) day desk = none_counts fields (codes "desk") none desk
figures_have_no_desk fields asked (at_found words named found is) day desk =
    no_stranger find_names (codes "from") fields named day refl
figures_have_no_desk fields asked (at_loan loan named loaned is) day desk =
    no_stranger loan_names (codes "from") fields named day refl
figures_have_no_desk fields asked (at_slip loan page named paged slips loaned is) day desk =
    no_stranger slip_names (codes "from") fields named day refl
figures_have_no_desk fields asked (at_figures from to named first last is) day desk =
    no_stranger figures_names (codes "desk") fields named desk refl

-- Two values of one option are one value.
one_value : {X : Type 0} (o : Option X) (one other : X) → o ≡ Some one → o ≡ Some other → one ≡ other
one_value (Some x) one other first second = search rules
one_value None one other first second = search rules

-- If a query asks for the desks, and its only field `find` has `words`, `find` is these words.
pub finds_these : (fields : List Pair) (find : Option (List ℕ)) (words : List ℕ) → LooksAt fields (Desks find)
    → only_named (codes "find") fields ≡ Some words → find ≡ Some words
finds_these fields find words (at_desks none is) here =
    absurd (none_counts fields (codes "find") none (only_counts (codes "find") fields words here))
finds_these fields find words (at_found found named only is) here =
    let these : find ≡ Some found = search (rules, is) in
    these ∙ ap Some (one_value (only_named (codes "find") fields) found words only here)
finds_these fields find words (at_loan loan named loaned is) here = search (rules, is)
finds_these fields find words (at_slip loan page named paged slips loaned is) here = search (rules, is)
finds_these fields find words (at_figures from to named first last is) here = search (rules, is)

-- If a query asks for something, and its only field `page` has the text `page`, this text is "slip".
pub page_is_slip : (fields : List Pair) (asked : Asked) (page : List ℕ) → LooksAt fields asked
    → only_named (codes "page") fields ≡ Some page → bytes_eq page (codes "slip") ≡ true
page_is_slip fields asked page (at_desks none is) here =
    absurd (none_counts fields (codes "page") none (only_counts (codes "page") fields page here))
page_is_slip fields asked page (at_found words named found is) here =
    absurd (no_stranger find_names (codes "page") fields named (only_counts (codes "page") fields page here) refl)
page_is_slip fields asked page (at_loan loan named loaned is) here =
    absurd (no_stranger loan_names (codes "page") fields named (only_counts (codes "page") fields page here) refl)
page_is_slip fields asked page (at_slip loan other named paged slips loaned is) here =
    subst (λ text. bytes_eq text (codes "slip") ≡ true) (one_value (only_named (codes "page") fields) other page paged here) slips
page_is_slip fields asked page (at_figures from to named first last is) here =
    absurd (no_stranger figures_names (codes "page") fields named (only_counts (codes "page") fields page here) refl)

-- If a query asks for the page of a loan, it has no field `page`.
pub loan_has_no_page : (fields : List Pair) (loan : LoanAsked) → LooksAt fields (Loan loan)
    → 0 < count_named (codes "page") fields → ⊥
loan_has_no_page fields loan (at_desks none is) page = none_counts fields (codes "page") none page
loan_has_no_page fields loan (at_found words named found is) page =
    no_stranger find_names (codes "page") fields named page refl
loan_has_no_page fields loan (at_loan other named loaned is) page =
    no_stranger loan_names (codes "page") fields named page refl
loan_has_no_page fields loan (at_slip other name named paged slips loaned is) page = search (rules, is)
loan_has_no_page fields loan (at_figures from to named first last is) page =
    no_stranger figures_names (codes "page") fields named page refl

-- If a query asks for a slip, it has a field `page`.
pub slip_has_page : (fields : List Pair) (loan : LoanAsked) → LooksAt fields (Slip loan) → 0 < count_named (codes "page") fields
slip_has_page fields loan (at_desks none is) = search (rules, is)
slip_has_page fields loan (at_found words named found is) = search (rules, is)
slip_has_page fields loan (at_loan other named loaned is) = search (rules, is)
slip_has_page fields loan (at_slip other page named paged slips loaned is) = only_counts (codes "page") fields page paged
slip_has_page fields loan (at_figures from to named first last is) = search (rules, is)

-- The days of figures are those of the only fields `from` and `to`.
pub figures_have_days : (fields : List Pair) (from to : Date) → LooksAt fields (Figures from to)
    → (day_named (codes "from") fields ≡ Some from) × (day_named (codes "to") fields ≡ Some to)
figures_have_days fields from to (at_desks none is) = search (rules, is)
figures_have_days fields from to (at_found words named found is) = search (rules, is)
figures_have_days fields from to (at_loan loan named loaned is) = search (rules, is)
figures_have_days fields from to (at_slip loan page named paged slips loaned is) = search (rules, is)
figures_have_days fields from to (at_figures begin end named first last is) =
    let begins : begin ≡ from = search (rules, is) in
    let ends : end ≡ to = search (rules, is) in
    (first ∙ ap Some begins, last ∙ ap Some ends)
