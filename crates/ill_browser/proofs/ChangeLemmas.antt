-- Proves what a form asks for. A form of a page of this program alone asks for a change.
use Rattle.std.proofs.Common.{◌≡◌, ◌∙◌, ◌<◌, ⊎_elim, ℕ, true, false, List, Some}
use Rattle.std.proofs.Common.{Ok, Err, refl, ap, arith, rules}
use Rattle.std.specs.Prelude.{codes}
use Rattle.ill_browser.specs.declared.fault.VisitFault.{VisitFault}
use Rattle.ill_browser.specs.BadAsking.{IsOfActs, IsOnce, a_stamp, a_word, a_day}
use Rattle.ill_browser.specs.BadAsking as names
use Rattle.ill_browser.specs.Fields.{Pair, are_named, count_named, fields_in, only_named, words_in}
use Rattle.ill_browser.specs.OwnForm.{IsOwnForm}
use Rattle.ill_browser.specs.Visit.{RulesShown, VisitShown, is_look, is_post}
use Rattle.ill_browser.specs.Wanted.{Asked, LoanAsked, Act, Note, act_named, act_names, is_change, loan_named, note_named}
use Rattle.ill_browser.specs.Wanted.{note_names, or_fields, asked_by_form, wanted_of}
use Rattle.ill_browser.proofs.AskingLemmas.{asks_by_form, asks_by_query, look_or_post}
use Rattle.ill_browser.proofs.LookLemmas.{looks_at, looks_change_nothing}
use Rattle.ill_browser.proofs.NamingLemmas.{bind_gave, choice_gave, has_loan, named_by, no_stranger, not_both, not_twice}
use Rattle.ill_browser.proofs.NamingLemmas.{only_once}

-- The fields of a form ask for `asked`: for an act or for a note. Each case says what the fields then have.
pub data Posts (fields : List Pair) (asked : Asked) : Type 0 where
  -- All fields have names of an act, and they name a loan and a stamp.
  an_act : (loan : LoanAsked) (stamp : List ℕ) → are_named act_names fields ≡ true → loan_named fields ≡ Some loan
      → only_named (codes "stamp") fields ≡ Some stamp → asked ≡ Act loan stamp (words_in fields) → Posts fields asked
  -- All fields have names of a note, and they name a loan and a text.
  a_note : (loan : LoanAsked) (note : List ℕ) → are_named note_names fields ≡ true → loan_named fields ≡ Some loan
      → only_named (codes "note") fields ≡ Some note → asked ≡ Note loan note → Posts fields asked

-- If `Some one` equals `Some other`, `other` equals `one`.
same : {X : Type 0} (one other : X) → Some one ≡ Some other → other ≡ one
same one other e = search rules

-- If the fields have names of an act alone, and `act_named` gives `asked`, they ask for an act (`Posts`).
act_posted : (fields : List Pair) (asked : Asked) → are_named act_names fields ≡ true → or_fields (act_named fields) ≡ Ok asked
    → Posts fields asked
act_posted fields asked named e =
    let loan = bind_gave (loan_named fields) _ asked (named_by (act_named fields) asked e) in
    let stamp = bind_gave (only_named (codes "stamp") fields) _ asked loan.1.1 in
    an_act loan.0 stamp.0 named loan.1.0 stamp.1.0 (same _ asked stamp.1.1)

-- If the fields have names of a note alone, and `note_named` gives `asked`, they ask for a note (`Posts`).
note : (fields : List Pair) (asked : Asked) → are_named note_names fields ≡ true → or_fields (note_named fields) ≡ Ok asked
    → Posts fields asked
note fields asked named e =
    let loan = bind_gave (loan_named fields) _ asked (named_by (note_named fields) asked e) in
    let text = bind_gave (only_named (codes "note") fields) _ asked loan.1.1 in
    a_note loan.0 text.0 named loan.1.0 text.1.0 (same _ asked text.1.1)

-- A refusal asks for nothing: it is never `Ok asked`.
refused : (fields : List Pair) (asked : Asked) (refusal : VisitFault) → Err refusal ≡ Ok asked → Posts fields asked
refused fields asked refusal e = search rules

-- If `asked_by_form fields` is `Ok asked`, the fields ask for `asked` as an act or as a note (`Posts`). The tests of
-- `asked_by_form` are taken in their order.
pub posts : (fields : List Pair) (asked : Asked) → asked_by_form fields ≡ Ok asked → Posts fields asked
posts fields asked e =
    ⊎_elim (λ at. act_posted fields asked at.0 at.1) (λ e.
    ⊎_elim (λ at. note fields asked at.0 at.1) (λ e. refused fields asked _ e)
    (choice_gave (are_named note_names fields) (or_fields (note_named fields)) _ asked e))
    (choice_gave (are_named act_names fields) (or_fields (act_named fields)) _ asked e)

-- If the fields of a form ask for `asked`, it is a change.
pub posts_change : (fields : List Pair) (asked : Asked) → Posts fields asked → is_change asked ≡ true
posts_change fields asked (an_act loan stamp named loaned stamped is) = ap is_change is
posts_change fields asked (a_note loan note named loaned noted is) = ap is_change is

-- A count above 1 is above 0.
at_least_one : (count : ℕ) → 1 < count → 0 < count
at_least_one count more = omega (arith, more)

-- A form with two fields of `name` asks for nothing, if acts and notes have `name` once (`IsOnce`). In each case it is
-- on one field alone, or on none.
pub doubled_posts_nothing : (fields : List Pair) (asked : Asked) (name : List ℕ) → Posts fields asked → IsOnce name
    → 1 < count_named name fields → ⊥
doubled_posts_nothing fields asked _ (an_act loan stamp named loaned stamped is) names.desk more =
    not_twice _ (has_loan fields loan loaned).desk more
doubled_posts_nothing fields asked _ (an_act loan stamp named loaned stamped is) names.group more =
    not_twice _ (has_loan fields loan loaned).group more
doubled_posts_nothing fields asked _ (an_act loan stamp named loaned stamped is) names.transaction more =
    not_twice _ (has_loan fields loan loaned).transaction more
doubled_posts_nothing fields asked _ (an_act loan stamp named loaned stamped is) names.stamp more =
    not_twice _ (only_once (codes "stamp") fields stamp stamped) more
doubled_posts_nothing fields asked _ (an_act loan stamp named loaned stamped is) names.note more =
    no_stranger act_names (codes "note") fields named (at_least_one _ more) refl
doubled_posts_nothing fields asked _ (a_note loan note named loaned noted is) names.desk more =
    not_twice _ (has_loan fields loan loaned).desk more
doubled_posts_nothing fields asked _ (a_note loan note named loaned noted is) names.group more =
    not_twice _ (has_loan fields loan loaned).group more
doubled_posts_nothing fields asked _ (a_note loan note named loaned noted is) names.transaction more =
    not_twice _ (has_loan fields loan loaned).transaction more
doubled_posts_nothing fields asked _ (a_note loan note named loaned noted is) names.stamp more =
    no_stranger note_names (codes "stamp") fields named (at_least_one _ more) refl
doubled_posts_nothing fields asked _ (a_note loan note named loaned noted is) names.note more =
    not_twice _ (only_once (codes "note") fields note noted) more

-- A form with a name that no act has, and one that no note has, asks for nothing.
pub stray_posts_nothing : (fields : List Pair) (asked : Asked) → Posts fields asked → are_named act_names fields ≡ false
    → are_named note_names fields ≡ false → ⊥
stray_posts_nothing fields asked (an_act loan stamp named loaned stamped is) stray other = not_both _ named stray
stray_posts_nothing fields asked (a_note loan note named loaned noted is) other stray = not_both _ named stray

-- If the fields have names of a note alone, none has a `name` that acts alone have (`IsOfActs`).
note_has_no_act : (fields : List Pair) (name : List ℕ) → are_named note_names fields ≡ true → IsOfActs name
    → 0 < count_named name fields → ⊥
note_has_no_act fields _ named a_stamp some = no_stranger note_names (codes "stamp") fields named some refl
note_has_no_act fields _ named a_word some = no_stranger note_names (codes "word") fields named some refl
note_has_no_act fields _ named a_day some = no_stranger note_names (codes "day") fields named some refl

-- A form with a field `note` and a field of a `name` that acts alone have asks for nothing.
pub both_post_nothing : (fields : List Pair) (asked : Asked) (name : List ℕ) → Posts fields asked
    → 0 < count_named (codes "note") fields → IsOfActs name → 0 < count_named name fields → ⊥
both_post_nothing fields asked name (an_act loan stamp named loaned stamped is) noted acts some =
    no_stranger act_names (codes "note") fields named noted refl
both_post_nothing fields asked name (a_note loan note named loaned only is) noted acts some =
    note_has_no_act fields name named acts some

-- If the fields of a form ask for a note, its text is that of the only field `note`.
pub note_has_text : (fields : List Pair) (loan : LoanAsked) (note : List ℕ) → Posts fields (Note loan note)
    → only_named (codes "note") fields ≡ Some note
note_has_text fields loan note (an_act other stamp named loaned stamped is) = search (rules, is)
note_has_text fields loan note (a_note other text named loaned noted is) =
    let this : text ≡ note = search (rules, is) in noted ∙ ap Some this

-- If the fields of a form ask for an act, its words are those of the fields.
pub act_has_words : (fields : List Pair) (loan : LoanAsked) (stamp : List ℕ) (words : List (List ℕ))
    → Posts fields (Act loan stamp words) → words ≡ words_in fields
act_has_words fields loan stamp words (an_act other stamp' named loaned stamped is) = search (rules, is)
act_has_words fields loan stamp words (a_note other text named loaned noted is) = search (rules, is)

-- If a request looks at a page and asks for `asked`, `asked` is no change.
pub look_changes_nothing : (rules : RulesShown) (v : VisitShown) (body : List ℕ) (asked : Asked) → is_look v ≡ true
    → wanted_of rules v body ≡ Ok asked → is_change asked ≡ true → ⊥
look_changes_nothing rules v body asked look e change =
    let looked = asks_by_query rules v body asked look e in
    not_both _ change (looks_change_nothing (fields_in v.query) asked (looks_at (fields_in v.query) asked looked))

-- If a request asks for a change, its method is POST.
change_is_posted : (rules : RulesShown) (v : VisitShown) (body : List ℕ) (asked : Asked) → wanted_of rules v body ≡ Ok asked
    → is_change asked ≡ true → is_post v ≡ true
change_is_posted rules v body asked e change =
    ⊎_elim (λ look. absurd (look_changes_nothing rules v body asked look e change)) (λ post. post)
    (look_or_post rules v body asked e)

-- If a request asks for a change, a page of this program sent it as a form (`IsOwnForm`).
pub change_is_of_own_form : (rules : RulesShown) (v : VisitShown) (body : List ℕ) (asked : Asked)
    → wanted_of rules v body ≡ Ok asked → is_change asked ≡ true → IsOwnForm rules v body
change_is_of_own_form rules v body asked e change =
    let post = change_is_posted rules v body asked e change in
    let asks = asks_by_form rules v body asked post e in
    record { root = asks.root; post = post; own = asks.own; user = asks.user; form = asks.form; few = asks.few }

-- If a form asks for `asked`, the fields of its body ask for it (`Posts`).
pub asks_posts : (rules : RulesShown) (v : VisitShown) (body : List ℕ) (asked : Asked) → is_post v ≡ true
    → wanted_of rules v body ≡ Ok asked → Posts (fields_in body) asked
asks_posts rules v body asked post e = posts (fields_in body) asked (asks_by_form rules v body asked post e).posts

-- If a request asks for an act, it is an own form. The words of the act are those of its fields.
pub act_is_of_own_form : (rules : RulesShown) (v : VisitShown) (body : List ℕ) (loan : LoanAsked) (stamp : List ℕ)
    (words : List (List ℕ)) → wanted_of rules v body ≡ Ok (Act loan stamp words)
    → IsOwnForm rules v body × (words ≡ words_in (fields_in body))
act_is_of_own_form rules v body loan stamp words e =
    let asked = Act loan stamp words in
    let post = change_is_posted rules v body asked e refl in (
      change_is_of_own_form rules v body asked e refl,
      act_has_words (fields_in body) loan stamp words (asks_posts rules v body asked post e),
    )

-- If a request asks for a note, it is an own form. The text of the note is that of the only field `note`.
pub note_is_of_own_form : (rules : RulesShown) (v : VisitShown) (body : List ℕ) (loan : LoanAsked) (note : List ℕ)
    → wanted_of rules v body ≡ Ok (Note loan note)
    → IsOwnForm rules v body × (only_named (codes "note") (fields_in body) ≡ Some note)
note_is_of_own_form rules v body loan note e =
    let asked = Note loan note in
    let post = change_is_posted rules v body asked e refl in (
      change_is_of_own_form rules v body asked e refl,
      note_has_text (fields_in body) loan note (asks_posts rules v body asked post e),
    )
