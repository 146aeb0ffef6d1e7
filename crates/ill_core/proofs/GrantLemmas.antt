-- Proves the order of days, and that a responder's granted due dates follow this order.
use Rattle.std.proofs.Common.{rules, arith, ◌≡◌, ◌⊎◌, inl, inr, ℕ, zero, suc, ◌<◌, Bool, true, false, if◌then◌else◌, ◌==◌, nat_lt}
use Rattle.std.proofs.Common.{List, [], ◌∷◌, Option, Some, None, refl, sym, ap, ◌∙◌, subst}
use Rattle.std.specs.Prelude.{slice_get}
use Rattle.std.specs.List.{filter_map, cons_option, last_or}
use Rattle.std.proofs.lemmas.Bool.{and_parts, and_from, cases_order, eqb-true, eq-eqb, ne_eqb, ltb-true, lt-ltb}
use Rattle.std.proofs.lemmas.Bool.{false_from_ne_true}
use Rattle.std.proofs.lemmas.Option.{same_Some}
use Rattle.ill_values.specs.Day.{Date}
use Rattle.ill_values.specs.declared.apdu.Apdu.{Apdu}
use Rattle.ill_core.specs.Dates.{is_same_day, is_before}
use Rattle.ill_core.specs.Issued.{message, last_of, granted_day}
use Rattle.ill_core.specs.Responder.{are_rising, rise_from}

-- ---- the order of days

-- One number is less than the other, or they are equal and the third argument holds.
abbrev Less : ℕ → ℕ → Type 0 → Type 0
Less p q Rest = (p < q) ⊎ ((p ≡ q) × Rest)

-- Returns true if `p` is less than `q`, or if they are equal and `rest` is true.
abbrev less : ℕ → ℕ → Bool → Bool
less p q rest = if p == q then rest else nat_lt p q

-- If the test `less` is true, the order `Less` holds.
less_is : (p q : ℕ) (rest : Bool) → less p q rest ≡ true → Less p q (rest ≡ true)
less_is p q rest h = go (p == q) refl h
  where
    -- `same` is the value of the test `p == q`, and decides which case of `Less` holds.
    go : (same : Bool) → (p == q) ≡ same → (if same then rest else nat_lt p q) ≡ true → Less p q (rest ≡ true)
    go true e h = inr (eqb-true p q e, h)
    go false e h = inl (ltb-true p q h)

-- If the order `Less` holds, the test `less` is true.
is_less : (p q : ℕ) (rest : Bool) → Less p q (rest ≡ true) → less p q rest ≡ true
is_less p q rest (inl lt) =
    let other : p ≡ q → ⊥ = λ e. omega (arith, e, lt) in
    ap (λ (same : Bool). if same then rest else nat_lt p q) (ne_eqb p q other) ∙ lt-ltb p q lt
is_less p q rest (inr both) = ap (λ (same : Bool). if same then rest else nat_lt p q) (eq-eqb p q both.0) ∙ both.1

-- Day `a` is before day `b`: by year, then by month, then by day.
abbrev Before : Date → Date → Type 0
Before a b = Less a.year b.year (Less a.month b.month (a.day < b.day))

-- If the test `is_before` is true, day `a` is before day `b`.
before_is : (a b : Date) → is_before a b ≡ true → Before a b
before_is a b h =
    elim (less_is a.year b.year (less a.month b.month (nat_lt a.day b.day)) h) [
      | inl lt ↦ inl lt
      | inr both ↦
          inr (
            both.0,
            elim (less_is a.month b.month (nat_lt a.day b.day) both.1)
                [ inl lt ↦ inl lt | inr days ↦ inr (days.0, ltb-true a.day b.day days.1) ],
          )
    ]

-- If day `a` is before day `b`, the test `is_before` is true.
is_before_by : (a b : Date) → Before a b → is_before a b ≡ true
is_before_by a b (inl lt) = is_less a.year b.year _ (inl lt)
is_before_by a b (inr (year, inl lt)) = is_less a.year b.year _ (inr (year, is_less a.month b.month _ (inl lt)))
is_before_by a b (inr (year, inr (month, day))) =
    is_less a.year b.year _ (inr (year, is_less a.month b.month _ (inr (month, lt-ltb a.day b.day day))))

-- If `A` and `B` together imply `C`, `Less p q A` and `Less q r B` imply `Less p r C`.
less_chains : (p q r : ℕ) (A B C : Type 0) → (A → B → C) → Less p q A → Less q r B → Less p r C
less_chains p q r A B C on (inl lt) (inl lt') = inl (omega (arith, lt, lt'))
less_chains p q r A B C on (inl lt) (inr both) = inl (omega (arith, lt, both.0))
less_chains p q r A B C on (inr both) (inl lt) = inl (omega (arith, both.0, lt))
less_chains p q r A B C on (inr one) (inr two) = inr (one.0 ∙ two.0, on one.1 two.1)

-- If `p` is less than `q`, and `q` less than `r`, `p` is less than `r`.
day_chains : (p q r : ℕ) → p < q → q < r → p < r
day_chains p q r one two = omega (arith, one, two)

-- If `a` is before `b`, and `b` before `c`, `a` is before `c`.
pub before_chains : (a b c : Date) → is_before a b ≡ true → is_before b c ≡ true → is_before a c ≡ true
before_chains a b c one two =
    is_before_by a c
    (less_chains a.year b.year c.year _ _ _ (less_chains a.month b.month c.month _ _ _ (day_chains a.day b.day c.day))
    (before_is a b one)
    (before_is b c two))

-- If `p` equals `q` and `A` is false, `Less p q A` is false.
equal_is_not_less : (p q : ℕ) (A : Type 0) → p ≡ q → (A → ⊥) → Less p q A → ⊥
equal_is_not_less p q A same never (inl lt) = omega (arith, same, lt)
equal_is_not_less p q A same never (inr both) = never both.1

-- A day is not before an equal day.
pub not_before_same : (a b : Date) → is_same_day a b ≡ true → is_before a b ≡ true → ⊥
not_before_same a b same h =
    let years = and_parts _ _ same in
    let days = and_parts _ _ years.1 in
    equal_is_not_less a.year b.year _ (eqb-true a.year b.year years.0)
    (equal_is_not_less a.month b.month _ (eqb-true a.month b.month days.0) (λ lt. omega (arith, eqb-true a.day b.day days.1, lt)))
    (before_is a b h)

-- A day equals itself.
pub same_itself : (a : Date) → is_same_day a a ≡ true
same_itself a = and_from _ _ (eq-eqb a.year a.year refl) (and_from _ _ (eq-eqb a.month a.month refl) (eq-eqb a.day a.day refl))

-- A day is not before itself.
pub not_before_itself : (a : Date) → is_before a a ≡ true → ⊥
not_before_itself a h = not_before_same a a (same_itself a) h

-- The test `is_before` of a day and itself is false.
pub itself_not_before : (a : Date) → is_before a a ≡ false
itself_not_before a = false_from_ne_true (is_before a a) (not_before_itself a)

-- If `d` is before `c`, and `e` is not before `c`, then `e` is not before `d`.
not_before_earlier : (d c e : Date) → is_before d c ≡ true → is_before e c ≡ false → is_before e d ≡ false
not_before_earlier d c e earlier not_before =
    false_from_ne_true (is_before e d)
    (λ h. let no : true ≡ false = sym (before_chains e d c h earlier) ∙ not_before in search rules)

-- If `A` implies `B` or `C`, `Less p r A` implies `Less p q B` or `Less q r C`.
less_either : (p q r : ℕ) (A B C : Type 0) → (A → B ⊎ C) → Less p r A → (Less p q B) ⊎ (Less q r C)
less_either p q r A B C either h = go (cases_order p q) h
  where
    -- The first argument compares `p` with `q`: they are equal, or one is less.
    go : (p ≡ q) ⊎ ((p < q) ⊎ (q < p)) → Less p r A → (Less p q B) ⊎ (Less q r C)
    go (inr (inl below)) less = inl (inl below)
    go (inr (inr above)) (inl lt) = inr (inl (omega (arith, above, lt)))
    go (inr (inr above)) (inr both) = inr (inl (omega (arith, above, both.0)))
    go (inl same) (inl lt) = inr (inl (omega (arith, same, lt)))
    go (inl same) (inr both) = elim (either both.1) [ inl b ↦ inl (inr (same, b)) | inr c ↦ inr (inr (sym same ∙ both.0, c)) ]

-- If `p` is less than `r`, then `p` is less than `q`, or `q` is less than `r`.
day_either : (p q r : ℕ) → p < r → (p < q) ⊎ (q < r)
day_either p q r lt = go (cases_order p q)
  where
    -- The first argument compares `p` with `q`: they are equal, or one is less.
    go : (p ≡ q) ⊎ ((p < q) ⊎ (q < p)) → (p < q) ⊎ (q < r)
    go (inl same) = inr (omega (arith, same, lt))
    go (inr (inl below)) = inl below
    go (inr (inr above)) = inr (omega (arith, above, lt))

-- If `a` is before `c` but not before `b`, then `b` is before `c`.
pub before_later : (a b c : Date) → is_before a b ≡ false → is_before a c ≡ true → is_before b c ≡ true
before_later a b c not_before before =
    go (less_either a.year b.year c.year _ _ _ (less_either a.month b.month c.month _ _ _ (day_either a.day b.day c.day))
    (before_is a c before))
  where
    -- By `less_either`, `a` is before `b`, which is excluded, or `b` is before `c`.
    go : Before a b ⊎ Before b c → is_before b c ≡ true
    go (inl first) = let both : true ≡ false = sym (is_before_by a b first) ∙ not_before in search rules
    go (inr second) = is_before_by b c second

-- ---- the dates that were granted

-- If dates rise after `d`, the last of them is not before `d`. If there are no dates, `d` counts as the last.
rise_above : (d : Date) (dates : List Date) → rise_from (Some d) dates ≡ true
    → (e : Date) × (last_or (Some d) dates ≡ Some e) × (is_before e d ≡ false)
unfolding rise_from
rise_above d [] rises = (d, refl, itself_not_before d)
rise_above d (c ∷ dates) rises =
    let parts = and_parts _ _ rises in
    let later = rise_above c dates parts.1 in
    (later.0, later.1, not_before_earlier d c later.0 parts.0 later.2)

-- If `dates`, with the date `o` first if there is one, rise after `last`, `dates` rise after some `next`.
rise_rest : (last : Option Date) (o : Option Date) (dates : List Date) → rise_from last (cons_option o dates) ≡ true
    → (next : Option Date) × (rise_from next dates ≡ true)
unfolding rise_from
rise_rest last None dates rises = (last, rises)
rise_rest last (Some d) dates rises = (Some d, (and_parts _ _ rises).1)

-- Let `dates` with `o` first rise after `last`, and `o` be `d`. Then a last date exists, and is not before `d`. `p`
-- would be the last if there were no date.
last_not_before_first : (last : Option Date) (o : Option Date) (dates : List Date) (d : Date) (p : Option Date) → o ≡ Some d
    → rise_from last (cons_option o dates) ≡ true
    → (e : Date) × (last_or p (cons_option o dates) ≡ Some e) × (is_before e d ≡ false)
unfolding rise_from
last_not_before_first last None dates d p is rises = search rules
last_not_before_first last (Some c) dates d p is rises =
    let same : c ≡ d = search rules in
    subst (λ x. (e : Date) × (last_or (Some c) dates ≡ Some e) × (is_before e x ≡ false)) same
    (rise_above c dates (and_parts _ _ rises).1)

-- If `dates` have a last one that is not before `d`, `dates` with `o` first have one, too. `p` stands for the last if
-- there are no dates.
last_skips : (o : Option Date) (dates : List Date) (d : Date) (p : Option Date)
    → ((p : Option Date) → (e : Date) × (last_or p dates ≡ Some e) × (is_before e d ≡ false))
    → (e : Date) × (last_or p (cons_option o dates) ≡ Some e) × (is_before e d ≡ false)
last_skips None dates d p last = last p
last_skips (Some c) dates d p last = last (Some c)

-- Let the granted dates rise, and the APDU at index `i` grant `d`. Then a last date exists, and is not before `d`. `p`
-- would be the last if no date were granted.
last_is_latest : (last : Option Date) (apdus : List Apdu) (i : ℕ) (a : Apdu) (d : Date) (p : Option Date)
    → rise_from last (filter_map granted_day apdus) ≡ true → slice_get apdus i ≡ Some a
    → granted_day a ≡ Some d → (e : Date) × (last_or p (filter_map granted_day apdus) ≡ Some e) × (is_before e d ≡ false)
last_is_latest last [] i a d p rises e is = search rules
last_is_latest last (b ∷ apdus) zero a d p rises e is =
    last_not_before_first last (granted_day b) (filter_map granted_day apdus) d p (ap granted_day (same_Some b a e) ∙ is) rises
last_is_latest last (b ∷ apdus) (suc i) a d p rises e is =
    let rest = rise_rest last (granted_day b) (filter_map granted_day apdus) rises in
    last_skips (granted_day b) (filter_map granted_day apdus) d p (λ q. last_is_latest rest.0 apdus i a d q rest.1 e is)

-- If the granted dates rise, and message `n` grants `d`, there is a due date that is not before `d`.
pub granted_not_later : (apdus : List Apdu) (n : ℕ) (a : Apdu) (d : Date)
    → are_rising (filter_map granted_day apdus) ≡ true → message apdus n ≡ Some a → granted_day a ≡ Some d
    → (e : Date) × (last_of granted_day apdus ≡ Some e) × (is_before e d ≡ false)
granted_not_later apdus zero a d rises e is = search rules
granted_not_later apdus (suc i) a d rises e is = last_is_latest None apdus i a d None rises e is
