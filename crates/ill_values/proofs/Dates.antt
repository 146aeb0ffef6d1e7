-- Proves that a date text is read as its day, and that no other text is read as that day.
use Rattle.std.proofs.Common.{◌≡◌, ℕ, ◌+◌, ◌-◌, ◌*◌, ◌/◌, ◌%◌, ◌≤◌, Bool, true, false, cond, ◌&&◌, eqb, leb, List, [], ◌∷◌}
use Rattle.std.proofs.Common.{length, Result, Ok, Err, refl, sym, ap, subst, ◌∙◌, arith}
use Rattle.std.specs.List.{list_all}
use Rattle.std.specs.Char.{is_ascii_digit}
use Rattle.std.specs.Int.{IsInRange}
use Rattle.std.proofs.lemmas.Bool.{and_parts, and_from, le-leb, leb-true, eqb-true}
use Rattle.std.proofs.lemmas.Grind.{common_steps}
use Rattle.ill_values.specs.declared.fault.DayFault.{DayFault}
use Rattle.ill_values.specs.declared.fault.DayFault.TheVariants.{NotDigits, OutOfRange, NotADate}
use Rattle.ill_values.specs.Day.{Date, IsDate, is_year, is_in_year, days_in_month, date_of, date_text, eight_digits}
use Rattle.ill_values.specs.Day.{two_digits_at, read_date}

-- If `cond b r (Err fault)` is `Ok x`, `b` is true and `r` is `Ok x`.
passed : {A : Type 0} (b : Bool) (r : Result A DayFault) (fault : DayFault) (x : A) → cond b r (Err fault) ≡ Ok x
    → (b ≡ true) × (r ≡ Ok x)
passed true r fault x e = (refl, e)
passed false r fault x e = absurd cc

-- Returns `Ok d` as a result with the faults of days.
abbrev found : Date → Result Date DayFault
found d = Ok d

-- If `Ok x` equals `Ok y`, `x` equals `y`.
ok_is : (x y : Date) → found x ≡ found y → x ≡ y
ok_is x y e = cc

-- If both tests of `n` are true, `n` is at least `low` and at most `high`.
between : (low high n : ℕ) → (leb low n && leb n high) ≡ true → (low ≤ n) × (n ≤ high)
between low high n e =
    let p = and_parts (leb low n) (leb n high) e in
    (leb-true low n p.0, leb-true n high p.1)

-- If `date_of` returns `d`, `d` is in range, and has this year, month and day.
date_found : (year month day : ℕ) (d : Date) → date_of year month day ≡ Ok d
    → IsDate d × (record { year = year; month = month; day = day } ≡ d)
date_found year month day d e =
    let made : Date = record { year = year; month = month; day = day } in
    let outer = passed (is_year year) (cond (is_in_year year month day) (Ok made) (Err NotADate)) OutOfRange d e in
    let inner = passed (is_in_year year month day) (Ok made) NotADate d outer.1 in
    let is : made ≡ d = ok_is made d inner.1 in
    let years = between 1900 9999 year outer.0 in
    let a = and_parts (leb 1 month && leb month 12 && leb 1 day) (leb day (days_in_month year month)) inner.0 in
    let b = and_parts (leb 1 month && leb month 12) (leb 1 day) a.0 in
    let months = between 1 12 month b.0 in
    let whole : IsDate made = record {
      from_1900 = years.0;
      to_9999 = years.1;
      from_january = months.0;
      to_december = months.1;
      from_first = leb-true 1 day b.1;
      to_last = leb-true day (days_in_month year month) a.1;
    } in
    (subst IsDate is whole, is)

-- Two ASCII digits `a` and `b` are the digits of their decimal value.
two_digits : (a b : ℕ) → IsInRange 48 57 a → IsInRange 48 57 b
    → let n = 10 * (a - 48) + (b - 48) in (a ≡ 48 + n / 10 % 10) × (b ≡ 48 + n % 10)
two_digits a b ha hb = (omega arith, omega arith)

-- Four ASCII digits are the digits of their decimal value.
four_digits : (a b c e : ℕ) → IsInRange 48 57 a → IsInRange 48 57 b → IsInRange 48 57 c → IsInRange 48 57 e
    → let n = (10 * (a - 48) + (b - 48)) * 100 + (10 * (c - 48) + (e - 48)) in
    (a ≡ 48 + n / 1000 % 10) × (b ≡ 48 + n / 100 % 10) × (c ≡ 48 + n / 10 % 10) × (e ≡ 48 + n % 10)
four_digits a b c e ha hb hc he = (omega arith, omega arith, omega arith, omega arith)

-- If `x ∷ rest` has only ASCII digits, `x` is from 48 to 57, and `rest` has only ASCII digits.
digit_range : (x : ℕ) (rest : List ℕ) → list_all is_ascii_digit (x ∷ rest) ≡ true
    → IsInRange 48 57 x × (list_all is_ascii_digit rest ≡ true)
digit_range x rest e =
    let p = and_parts (is_ascii_digit x) (list_all is_ascii_digit rest) e in
    (between 48 57 x p.0, p.1)

-- Eight ASCII digits are the date text of the year, the month and the day with these values.
-- By `digit_range` each byte from `a` to `i` is a digit, one after another.
eight_encoded : (a b c e f g h i : ℕ) → list_all is_ascii_digit (a ∷ b ∷ c ∷ e ∷ f ∷ g ∷ h ∷ i ∷ []) ≡ true
    → a ∷ b ∷ c ∷ e ∷ f ∷ g ∷ h ∷ i ∷ []
    ≡ date_text (record {
      year = (10 * (a - 48) + (b - 48)) * 100 + (10 * (c - 48) + (e - 48));
      month = 10 * (f - 48) + (g - 48);
      day = 10 * (h - 48) + (i - 48);
    })
eight_encoded a b c e f g h i digits =
    let pa = digit_range a (b ∷ c ∷ e ∷ f ∷ g ∷ h ∷ i ∷ []) digits in
    let pb = digit_range b (c ∷ e ∷ f ∷ g ∷ h ∷ i ∷ []) pa.1 in
    let pc = digit_range c (e ∷ f ∷ g ∷ h ∷ i ∷ []) pb.1 in
    let pe = digit_range e (f ∷ g ∷ h ∷ i ∷ []) pc.1 in
    let pf = digit_range f (g ∷ h ∷ i ∷ []) pe.1 in
    let pg = digit_range g (h ∷ i ∷ []) pf.1 in
    let ph = digit_range h (i ∷ []) pg.1 in
    let pi = digit_range i [] ph.1 in
    let year = four_digits a b c e pa.0 pb.0 pc.0 pe.0 in
    let month = two_digits f g pf.0 pg.0 in
    let day = two_digits h i ph.0 pi.0 in
    cc

-- If `text` has `n + 1` elements, it is one element followed by a list of `n`.
first_of : (text : List ℕ) (n : ℕ) → length text ≡ n + 1 → (x : ℕ) × (rest : List ℕ) × (text ≡ x ∷ rest) × (length rest ≡ n)
first_of [] n e = absurd (omega arith)
first_of (x ∷ rest) n e = (x, rest, refl, omega arith)

-- A list of length 0 is empty.
none_left : (text : List ℕ) → length text ≡ 0 → text ≡ []
none_left [] e = refl
none_left (x ∷ rest) e = absurd (omega arith)

-- If `text` is read as `d`, it is the date text of `d`, which is in range.
abbrev IsRead : Date → List ℕ → Type 0
IsRead d text = read_date text ≡ Ok d → IsDate d × (text ≡ date_text d)

-- If a text of eight bytes is read as `d`, it is the date text of `d`, which is in range.
eight_read : (d : Date) (a b c e f g h i : ℕ) → IsRead d (a ∷ b ∷ c ∷ e ∷ f ∷ g ∷ h ∷ i ∷ [])
eight_read d a b c e f g h i found =
    let text = a ∷ b ∷ c ∷ e ∷ f ∷ g ∷ h ∷ i ∷ [] in
    let year = (10 * (a - 48) + (b - 48)) * 100 + (10 * (c - 48) + (e - 48)) in
    let month = 10 * (f - 48) + (g - 48) in
    let day = 10 * (h - 48) + (i - 48) in
    let tested = passed (eight_digits text) (date_of year month day) NotDigits d found in
    let digits = and_parts (eqb (length text) 8) (list_all is_ascii_digit text) tested.0 in
    let made = date_found year month day d tested.1 in
    (made.0, eight_encoded a b c e f g h i digits.1 ∙ ap date_text made.1)

-- If `text` is read as `d`, it is the date text of `d`, which is in range.
-- By `first_of` its eight bytes are taken off one after another, and `eight_read` proves it for them.
pub date_read : (text : List ℕ) (d : Date) → IsRead d text
date_read text d found =
    let tested = passed (eight_digits text)
    (date_of (two_digits_at text 0 * 100 + two_digits_at text 2) (two_digits_at text 4) (two_digits_at text 6)) NotDigits d
    found in
    let digits = and_parts (eqb (length text) 8) (list_all is_ascii_digit text) tested.0 in
    let a = first_of text 7 (eqb-true (length text) 8 digits.0) in
    let b = first_of a.1 6 a.3 in
    let c = first_of b.1 5 b.3 in
    let e = first_of c.1 4 c.3 in
    let f = first_of e.1 3 e.3 in
    let g = first_of f.1 2 f.3 in
    let h = first_of g.1 1 g.3 in
    let i = first_of h.1 0 h.3 in
    let ended = none_left i.1 i.3 in
    let whole : text ≡ a.0 ∷ b.0 ∷ c.0 ∷ e.0 ∷ f.0 ∷ g.0 ∷ h.0 ∷ i.0 ∷ [] = cc in
    subst (IsRead d) (sym whole) (eight_read d a.0 b.0 c.0 e.0 f.0 g.0 h.0 i.0) found

-- A month has at most 31 days.
month_at_most : (year month : ℕ) → days_in_month year month ≤ 31
month_at_most year month = grind (arith, common_steps)

-- The sum of 48 and a last decimal digit is an ASCII digit.
is_digit : (n : ℕ) → is_ascii_digit (48 + n % 10) ≡ true
is_digit n = and_from (leb 48 (48 + n % 10)) (leb (48 + n % 10) 57) (le-leb 48 (48 + n % 10) (omega arith))
    (le-leb (48 + n % 10) 57 (omega arith))

-- If `d` is in range, `date_of` of its year, month and day returns `d`.
pub date_made : (d : Date) → IsDate d → date_of d.year d.month d.day ≡ Ok d
date_made d is =
    rw (
      le-leb 1900 d.year is.from_1900,
      le-leb d.year 9999 is.to_9999,
      le-leb 1 d.month is.from_january,
      le-leb d.month 12 is.to_december,
      le-leb 1 d.day is.from_first,
      le-leb d.day (days_in_month d.year d.month) is.to_last,
    ) refl

-- The date text of a day in range is read as that day.
-- By `year`, `month` and `day` the digits of the text have the values of these fields. `last` bounds the day.
pub date_again : (d : Date) → IsDate d → read_date (date_text d) ≡ Ok d
date_again d is =
    let year : (10 * (48 + d.year / 1000 % 10 - 48) + (48 + d.year / 100 % 10 - 48)) * 100
    + (10 * (48 + d.year / 10 % 10 - 48) + (48 + d.year % 10 - 48)) ≡ d.year = omega (arith, is.to_9999) in
    let month : 10 * (48 + d.month / 10 % 10 - 48) + (48 + d.month % 10 - 48) ≡ d.month = omega (arith, is.to_december) in
    let last : d.day ≤ 31 = omega (arith, is.to_last, month_at_most d.year d.month) in
    let day : 10 * (48 + d.day / 10 % 10 - 48) + (48 + d.day % 10 - 48) ≡ d.day = omega (arith, last) in
    rw (
      is_digit (d.year / 1000),
      is_digit (d.year / 100),
      is_digit (d.year / 10),
      is_digit d.year,
      is_digit (d.month / 10),
      is_digit d.month,
      is_digit (d.day / 10),
      is_digit d.day,
      year,
      month,
      day,
    ) (date_made d is)
