-- Proves that the meaning of a request excludes the wrong readings of `BadAsking.antt`.
use Rattle.std.proofs.Common.{◌≡◌, ◌<◌, ◌≤◌, ℕ, Bool, true, false, List, [], ◌∷◌, length, Result, Ok, refl}
use Rattle.std.proofs.Common.{sym, subst, arith, rules}
use Rattle.std.specs.Prelude.{◌==◌, ◌&&◌, ◌||◌, not, if◌then◌else◌, bytes_eq, codes}
use Rattle.std.proofs.lemmas.Bool.Decides.{nat_tests}
use Rattle.std.proofs.lemmas.Slice.Eq.{bytes_eq-Decides}
use Rattle.ill_browser.specs.declared.fault.VisitFault.{VisitFault}
use Rattle.ill_browser.specs.BadAsking.{MisreadsVisit, look_changes, form_shows, foreign_site_asks, foreign_origin_asks}
use Rattle.ill_browser.specs.BadAsking.{silence_asks, nobody_asks, long_body_asks, doubled_field_asks, stray_field_asks}
use Rattle.ill_browser.specs.BadAsking.{note_beside_act_asks, query_asks, other_note_is_kept, doubled_query_asks}
use Rattle.ill_browser.specs.BadAsking.{stray_query_asks, words_beside_another_ask, figures_of_a_desk_ask}
use Rattle.ill_browser.specs.BadAsking.{other_words_are_found, other_page_asks, page_is_passed_over, slip_of_no_page}
use Rattle.ill_browser.specs.BadAsking.{figures_from_another_day, figures_to_another_day}
use Rattle.ill_browser.specs.Fields.{fields_in}
use Rattle.ill_browser.specs.Visit.{RulesShown, VisitShown, is_look}
use Rattle.ill_browser.specs.Wanted.{Asked, Desks, Loan, Slip, Figures, Note, wanted_of}
use Rattle.ill_browser.proofs.AskingLemmas.{asks_by_form, asks_by_query, asks_few}
use Rattle.ill_browser.proofs.ChangeLemmas.{asks_posts, both_post_nothing, doubled_posts_nothing, look_changes_nothing}
use Rattle.ill_browser.proofs.ChangeLemmas.{note_has_text, posts_change, stray_posts_nothing}
use Rattle.ill_browser.proofs.LookLemmas.{LooksAt, doubled_looks_at_nothing, figures_have_days, figures_have_no_desk}
use Rattle.ill_browser.proofs.LookLemmas.{finds_these, loan_has_no_page, looks_at, page_is_slip, slip_has_page}
use Rattle.ill_browser.proofs.LookLemmas.{stray_looks_at_nothing, words_stand_alone}
use Rattle.ill_browser.proofs.NamingLemmas.{not_both}

-- If the site is "cross-site", the test of `is_own` fails, whatever `origin` says.
cross_site : (site : List ℕ) (origin : Bool) → bytes_eq site (codes "cross-site") ≡ true
    → (if length site == 0 then origin else bytes_eq site (codes "same-origin")) ≡ false
cross_site site origin cross =
    let is = (bytes_eq-Decides site (codes "cross-site")).0 cross in
    subst (λ s. (if length s == 0 then origin else bytes_eq s (codes "same-origin")) ≡ false) (sym is) refl

-- If the site has length 0 and the origin is not the operator's, the test of `is_own` fails.
no_site_is_foreign : (site : ℕ) (origin same : Bool) → site ≡ 0 → origin ≡ false → (if site == 0 then origin else same) ≡ false
no_site_is_foreign site origin same none other = simp (none, other) refl

-- If the origins are not the same, the test of `is_origin` fails.
other_origin : (named same : Bool) → same ≡ false → (named && same) ≡ false
other_origin true same other = other
other_origin false same other = refl

-- If `origin` is empty, it is not `own`, that of the operator: the test of `is_origin` fails.
empty_origin_is_foreign : (own origin : List ℕ) → length origin ≡ 0 → (not (length own == 0) && bytes_eq origin own) ≡ false
empty_origin_is_foreign [] origin none = refl
empty_origin_is_foreign (first ∷ more) [] none = other_origin _ _ refl
empty_origin_is_foreign (first ∷ more) (byte ∷ bytes) none = search rules

-- If the operator wants a name and `user` has length 0, the test of `has_user` fails.
no_user : (is_open : Bool) (user : ℕ) → is_open ≡ false → user ≡ 0 → (is_open || not (user == 0)) ≡ false
no_user is_open user closed nobody = simp (closed, nobody) refl

-- No number is above a limit and at most the limit.
too_long : (size : ℕ) → 4096 < size → size ≤ 4096 → ⊥
too_long size long few = omega (arith, long, few)

-- A size above 0 is not found equal to 0.
positive_is_not_zero : (size : ℕ) → 0 < size → (size == 0) ≡ true → ⊥
positive_is_not_zero size some none = grind (arith, nat_tests, some, none)

-- A count that is above 0 is not 0.
not_none : (count : ℕ) → count ≡ 0 → 0 < count → ⊥
not_none count none some = omega (arith, none, some)

-- If a request looks at a page and asks for `asked`, the fields of its query ask for it (`LooksAt`).
query_looks_at : (rules : RulesShown) (v : VisitShown) (body : List ℕ) (asked : Asked) → is_look v ≡ true
    → Ok asked ≡ wanted_of rules v body → LooksAt (fields_in v.query) asked
query_looks_at rules v body asked look e =
    looks_at (fields_in v.query) asked (asks_by_query rules v body asked look (sym e))

-- If `result` is what a request asks for, it is no wrong reading. Each case cites the lemma that excludes it.
is_no_misreading : (rules : RulesShown) (v : VisitShown) (body : List ℕ) (result : Result Asked VisitFault)
    → MisreadsVisit rules v body result → result ≡ wanted_of rules v body → ⊥
is_no_misreading r v body _ (look_changes asked change look) e = look_changes_nothing r v body asked look (sym e) change
is_no_misreading r v body _ (form_shows asked shows post) e =
    not_both _ (posts_change (fields_in body) asked (asks_posts r v body asked post (sym e))) shows
is_no_misreading r v body _ (foreign_site_asks asked post cross) e =
    let asks = asks_by_form r v body asked post (sym e) in
    not_both _ asks.own (cross_site v.site _ cross)
is_no_misreading r v body _ (foreign_origin_asks asked post none other) e =
    let asks = asks_by_form r v body asked post (sym e) in
    not_both _ asks.own (no_site_is_foreign (length v.site) _ _ none (other_origin _ _ other))
is_no_misreading r v body _ (silence_asks asked post none silent) e =
    let asks = asks_by_form r v body asked post (sym e) in
    not_both _ asks.own (no_site_is_foreign (length v.site) _ _ none (empty_origin_is_foreign r.origin v.origin silent))
is_no_misreading r v body _ (nobody_asks asked post nobody closed) e =
    let asks = asks_by_form r v body asked post (sym e) in
    not_both _ asks.user (no_user r.is_open (length v.user) closed nobody)
is_no_misreading r v body _ (long_body_asks asked long) e =
    let few = asks_few r v body asked (sym e) in
    too_long (length body) long few
is_no_misreading r v body _ (doubled_field_asks asked name post once more) e =
    doubled_posts_nothing (fields_in body) asked name (asks_posts r v body asked post (sym e)) once more
is_no_misreading r v body _ (stray_field_asks asked post stray other) e =
    stray_posts_nothing (fields_in body) asked (asks_posts r v body asked post (sym e)) stray other
is_no_misreading r v body _ (note_beside_act_asks asked name post noted acts some) e =
    both_post_nothing (fields_in body) asked name (asks_posts r v body asked post (sym e)) noted acts some
is_no_misreading r v body _ (other_note_is_kept loan note post other) e =
    other (note_has_text (fields_in body) loan note (asks_posts r v body (Note loan note) post (sym e)))
is_no_misreading r v body _ (query_asks asked post query) e =
    let asks = asks_by_form r v body asked post (sym e) in positive_is_not_zero (length v.query) query asks.no_query
is_no_misreading r v body _ (doubled_query_asks asked name look more) e =
    doubled_looks_at_nothing (fields_in v.query) asked name (query_looks_at r v body asked look e) more
is_no_misreading r v body _ (stray_query_asks asked name look some stray) e =
    stray_looks_at_nothing (fields_in v.query) asked name (query_looks_at r v body asked look e) some stray
is_no_misreading r v body _ (words_beside_another_ask asked name look words other apart) e =
    words_stand_alone (fields_in v.query) asked name (query_looks_at r v body asked look e) words other apart
is_no_misreading r v body _ (figures_of_a_desk_ask asked look day desk) e =
    figures_have_no_desk (fields_in v.query) asked (query_looks_at r v body asked look e) day desk
is_no_misreading r v body _ (other_words_are_found find words look here other) e =
    other (finds_these (fields_in v.query) find words (query_looks_at r v body (Desks find) look e) here)
is_no_misreading r v body _ (other_page_asks asked page look here other) e =
    not_both _ (page_is_slip (fields_in v.query) asked page (query_looks_at r v body asked look e) here) other
is_no_misreading r v body _ (page_is_passed_over loan look page) e =
    loan_has_no_page (fields_in v.query) loan (query_looks_at r v body (Loan loan) look e) page
is_no_misreading r v body _ (slip_of_no_page loan look none) e =
    not_none _ none (slip_has_page (fields_in v.query) loan (query_looks_at r v body (Slip loan) look e))
is_no_misreading r v body _ (figures_from_another_day from to look other) e =
    other (figures_have_days (fields_in v.query) from to (query_looks_at r v body (Figures from to) look e)).0
is_no_misreading r v body _ (figures_to_another_day from to look other) e =
    other (figures_have_days (fields_in v.query) from to (query_looks_at r v body (Figures from to) look e)).1

-- What a request asks for is no wrong reading.
pub not_misread : (rules : RulesShown) (v : VisitShown) (body : List ℕ) → MisreadsVisit rules v body (wanted_of rules v body) → ⊥
not_misread rules v body misreads = is_no_misreading rules v body (wanted_of rules v body) misreads refl
