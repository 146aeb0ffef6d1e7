-- Proves which messages came since a day.
use Rattle.std.proofs.Common.{◌≡◌, ℕ, suc, ◌+◌, ◌-◌, Bool, true, false, cond, not, List, [], ◌∷◌, ◌++◌, ap, refl, sym, ◌∙◌}
use Rattle.std.proofs.Common.{length}
use Rattle.std.proofs.Common.{drop, take}
use Rattle.std.proofs.Common.{append_assoc, arith, reverse, ◌&&◌, ◌≤◌, Option, None, Some, subst, true≢false}
use Rattle.std.specs.Prelude.{bytes_eq, filter, if◌then◌else◌}
use Rattle.std.specs.List.{after_last, list_any, prefix_len, suffix_len}
use Rattle.std.proofs.Math.Seq.{drop-append_seam}
use Rattle.std.proofs.lemmas.Bool.{or_parts}
use Rattle.std.proofs.lemmas.Slice.Eq.{bytes_eq-Decides}
use Rattle.std.proofs.lemmas.List.Elements.{filter-append}
use Rattle.std.proofs.lemmas.List.{drop-append-le, length-append, length-drop, length-reverse, reverse-append, take_all}
use Rattle.std.proofs.lemmas.List.Folds.{list_any-append}
use Rattle.ill_values.specs.Day.{Date}
use Rattle.ill_values.specs.declared.apdu.Apdu.{Apdu}
use Rattle.ill_news.specs.CameSince.{came_before, came_key, came_since, is_earlier, is_named_before, is_named_since, is_new}
use Rattle.ill_record.specs.Ranges.{Each}
use Rattle.ill_beside.specs.Diary.{Said, has_key, is_named, said_by}
use Rattle.ill_beside.specs.KeyedDiary.{day_if, days_named}

-- If `x` passes `p`, one more item passes at the end with `x` than at the end of `before`. If `x` fails, none does.
pub suffix_last : {X : Type 0} (p : X → Bool) (before : List X) (x : X)
    → suffix_len p (before ++ x ∷ []) ≡ cond (p x) (1 + suffix_len p before) 0
suffix_last p before x = ap (prefix_len p) (reverse-append before (x ∷ []))

-- Let `rest` be `before` and then `x`. If the invariant of `past_of` holds of `rest`, and `x` passes `p`, the
-- invariant holds of `before`.
pub past_goes_on : {X : Type 0} (p : X → Bool) (all rest before : List X) (x : X) → rest ≡ before ++ x ∷ [] → p x ≡ true
    → length rest + suffix_len p all ≡ length all + suffix_len p rest
    → length before + suffix_len p all ≡ length all + suffix_len p before
past_goes_on p all rest before x is passes left =
    let many : suffix_len p rest ≡ 1 + suffix_len p before =
    ap (suffix_len p) is ∙ suffix_last p before x ∙ ap (λ b. cond b (1 + suffix_len p before) 0) passes in
    let long : length rest ≡ length before + 1 = ap length is ∙ length-append before (x ∷ []) in
    omega (arith, many, long, left)

-- Let the invariant of `past_of` hold of `rest`, whose last item is `x`. If `x` fails `p`, the items after `rest` are
-- those at the end of `all` that pass.
pub past_ends_here : {X : Type 0} (p : X → Bool) (all rest before : List X) (x : X) → rest ≡ before ++ x ∷ [] → p x ≡ false
    → length rest + suffix_len p all ≡ length all + suffix_len p rest → length rest + suffix_len p all ≡ length all
past_ends_here p all rest before x is fails left =
    let none : suffix_len p rest ≡ 0 =
    ap (suffix_len p) is ∙ suffix_last p before x ∙ ap (λ b. cond b (1 + suffix_len p before) 0) fails in
    omega (arith, none, left)

-- If the invariant of `past_of` holds of `rest`, and `rest` is empty, all items of `all` pass `p`.
pub past_is_none : {X : Type 0} (p : X → Bool) (all rest : List X) → rest ≡ []
    → length rest + suffix_len p all ≡ length all + suffix_len p rest → suffix_len p all ≡ length all
past_is_none p all rest none left =
    let empty : suffix_len p rest ≡ 0 = ap (suffix_len p) none in
    let long : length rest ≡ 0 = ap length none in
    omega (arith, empty, long, left)

-- If no item of `xs` passes `f`, the first items that fail it are all of `xs`.
none_pass : {X : Type 0} (f : X → Bool) (xs : List X) → list_any f xs ≡ false → prefix_len (λ x. not (f x)) xs ≡ length xs
none_pass f [] none = refl
none_pass f (x ∷ xs) none =
    let both = or_parts (f x) (list_any f xs) none in
    rw (both.0, none_pass f xs both.1) (omega arith)

-- If `x` passes `f` and none of `before` does, the first items that fail it are those of `before`.
none_before : {X : Type 0} (f : X → Bool) (before : List X) (x : X) (after : List X) → f x ≡ true → list_any f before ≡ false
    → prefix_len (λ x. not (f x)) (before ++ x ∷ after) ≡ length before
none_before f [] x after passes none = rw passes refl
none_before f (y ∷ before) x after passes none =
    let both = or_parts (f y) (list_any f before) none in
    rw (both.0, none_before f before x after passes both.1) (omega arith)

-- If no item passes a test, none does in the other order.
none_reversed : {X : Type 0} (f : X → Bool) (xs : List X) → list_any f xs ≡ false → list_any f (reverse xs) ≡ false
none_reversed f [] none = refl
none_reversed f (x ∷ xs) none =
    let both = or_parts (f x) (list_any f xs) none in
    ap (list_any f) (reverse-append (x ∷ []) xs) ∙ list_any-append f (reverse xs) (x ∷ [])
    ∙ rw (none_reversed f xs both.1, both.0) refl

-- If no item of `xs` passes `f`, `after_last f` returns all of them.
pub all_after : {X : Type 0} (f : X → Bool) (xs : List X) → list_any f xs ≡ false → after_last f xs ≡ xs
all_after f xs none =
    let all : suffix_len (λ x. not (f x)) xs ≡ length xs =
    none_pass f (reverse xs) (none_reversed f xs none) ∙ length-reverse xs in
    let cut : length xs - suffix_len (λ x. not (f x)) xs ≡ 0 = omega (arith, all) in
    ap (λ n. drop n xs) cut

-- If `x` passes `f` and none of `after` does, the items after the last one that passes are `after`.
pub after_it : {X : Type 0} (f : X → Bool) (before : List X) (x : X) (after : List X) → f x ≡ true → list_any f after ≡ false
    → after_last f (before ++ x ∷ after) ≡ after
after_it f before x after passes none =
    let xs = before ++ x ∷ [] in
    let joined : before ++ x ∷ after ≡ xs ++ after = sym (append_assoc before (x ∷ []) after) in
    let turned : reverse (xs ++ after) ≡ reverse after ++ x ∷ reverse before =
    reverse-append xs after ∙ ap (λ ys. reverse after ++ ys) (reverse-append before (x ∷ [])) in
    let many : suffix_len (λ x. not (f x)) (xs ++ after) ≡ length after =
    ap (prefix_len (λ x. not (f x))) turned
    ∙ none_before f (reverse after) x (reverse before) passes (none_reversed f after none)
    ∙ length-reverse after in
    let cut : length (xs ++ after) - suffix_len (λ x. not (f x)) (xs ++ after) ≡ length xs =
    omega (arith, many, length-append xs after) in
    ap (after_last f) joined
    ∙ ap (λ n. drop n (xs ++ after)) cut
    ∙ drop-append_seam xs after

-- If none of `before` passes `f`, the first items that fail `f` are `before` and the first of `after` that fail.
fail_over : {X : Type 0} (f : X → Bool) (before after : List X) → list_any f before ≡ false
    → prefix_len (λ x. not (f x)) (before ++ after) ≡ length before + prefix_len (λ x. not (f x)) after
fail_over f [] after none = omega arith
fail_over f (x ∷ before) after none =
    let both = or_parts (f x) (list_any f before) none in
    rw (both.0, fail_over f before after both.1) (omega arith)

-- The first items of `xs` that pass `p` are at most as many as `xs` has.
few_first : {X : Type 0} (p : X → Bool) (xs : List X) → prefix_len p xs ≤ length xs
few_first p [] = omega arith
few_first p (x ∷ xs) = go (p x) (few_first p xs)
  where
    -- `passes` is true if the first item passes.
    go : (passes : Bool) → prefix_len p xs ≤ length xs → cond passes (1 + prefix_len p xs) 0 ≤ suc (length xs)
    go true few = omega (arith, few)
    go false few = omega arith

-- If none of `later` passes `f`, `after_last f` of `xs ++ later` is `after_last f xs`, and then `later`.
pub after_more : {X : Type 0} (f : X → Bool) (xs later : List X) → list_any f later ≡ false
    → after_last f (xs ++ later) ≡ after_last f xs ++ later
after_more {X} f xs later none =
    let fails : X → Bool = λ (x : X). not (f x) in
    let many : suffix_len fails (xs ++ later) ≡ length later + suffix_len fails xs =
    ap (prefix_len fails) (reverse-append xs later)
    ∙ fail_over f (reverse later) (reverse xs) (none_reversed f later none)
    ∙ ap (λ n. n + suffix_len fails xs) (length-reverse later) in
    let few : suffix_len fails xs ≤ length xs =
    subst (λ n. suffix_len fails xs ≤ n) (length-reverse xs) (few_first fails (reverse xs)) in
    let cut : length (xs ++ later) - suffix_len fails (xs ++ later) ≡ length xs - suffix_len fails xs =
    omega (arith, many, few, length-append xs later) in
    ap (λ n. drop n (xs ++ later)) cut ∙ drop-append-le (length xs - suffix_len fails xs) xs later (omega arith)

-- Let `past` messages stand before the longest end of `came` in which none came before `day`. Then that end has the
-- messages after the last one that came before `day`.
pub printed_from : (day : Date) (lines : List (List ℕ)) (came : List Apdu) (past : ℕ)
    → past + suffix_len (λ a. not (came_before day lines a)) came ≡ length came
    → take (length came - past) (drop past came) ≡ after_last (came_before day lines) came
printed_from day lines came past is =
    let cut : past ≡ length came - suffix_len (λ a. not (came_before day lines a)) came = omega (arith, is) in
    take_all (length came - past) (drop past came) (omega (arith, length-drop past came)) ∙ ap (λ n. drop n came) cut

-- If no message of `came` came before the day, all of them but repeats are printed.
pub all_printed : (day : Date) (lines : List (List ℕ)) (came : List Apdu) → list_any (came_before day lines) came ≡ false
    → came_since (Some day) lines came ≡ filter (is_new day lines) came
all_printed day lines came none = ap (filter (is_new day lines)) (all_after (came_before day lines) came none)

-- If `a` came before `day` and none of `later` did, `later` without repeats is printed, and no other message.
pub later_printed : (day : Date) (lines : List (List ℕ)) (came later : List Apdu) (a : Apdu) → came_before day lines a ≡ true
    → list_any (came_before day lines) later ≡ false
    → came_since (Some day) lines (came ++ a ∷ later) ≡ filter (is_new day lines) later
later_printed day lines came later a before none =
    ap (filter (is_new day lines)) (after_it (came_before day lines) came a later before none)

-- A message that a line of the day or later names did not come before the day.
pub named_printed : (day : Date) (lines : List (List ℕ)) (a : Apdu) → is_named_since day (came_key a) lines ≡ true
    → came_before day lines a ≡ false
named_printed day lines a named = go (is_named_before day (came_key a) lines)
  where
    -- `is` is true if a line of an earlier day names the message.
    go : (is : Bool) → (is && not (is_named_since day (came_key a) lines)) ≡ false
    go true = rw named refl
    go false = refl

-- ---- messages that no line names, and repeats

-- If what a line `said` names no message with this `key`, the line gives no day of it.
no_day : (key : List ℕ) (said : Option Said) → has_key key said ≡ false → day_if key said ≡ []
no_day key None none = refl
no_day key (Some said) none = ap (λ (same : Bool). if same then said.day ∷ [] else []) none

-- If no line names the message with this `key`, `days_named` returns no day of it.
no_days : (key : List ℕ) (lines : List (List ℕ)) → is_named key lines ≡ false → days_named key lines ≡ []
no_days key [] none = refl
no_days key (line ∷ lines) none =
    let both = or_parts (has_key key (said_by line)) (is_named key lines) none in
    ap (λ days. days ++ days_named key lines) (no_day key (said_by line) both.0) ∙ no_days key lines both.1

-- If no line names the message with this `key`, no line of an earlier day than `day` does.
unnamed_before : (day : Date) (key : List ℕ) (lines : List (List ℕ)) → is_named key lines ≡ false
    → is_named_before day key lines ≡ false
unnamed_before day key lines none = ap (list_any (is_earlier day)) (no_days key lines none)

-- A message that no line names did not come before the day.
pub unnamed_printed : (day : Date) (lines : List (List ℕ)) (a : Apdu) → is_named (came_key a) lines ≡ false
    → came_before day lines a ≡ false
unnamed_printed day lines a none = rw (unnamed_before day (came_key a) lines none) refl

-- If no item passes both `f` and `p`, none of the items that pass `p` passes `f`.
pub none_kept : {X : Type 0} (f p : X → Bool) (xs : List X) → ((x : X) → f x ≡ true → p x ≡ false)
    → list_any f (filter p xs) ≡ false
none_kept f p [] apart = refl
none_kept f p (x ∷ xs) apart = go (p x) (f x) refl refl (none_kept f p xs apart)
  where
    -- `keeps` is true if `x` passes `p`, and `is` if it passes `f`.
    go : (keeps is : Bool) → p x ≡ keeps → f x ≡ is → list_any f (filter p xs) ≡ false
        → list_any f (cond keeps (x ∷ filter p xs) (filter p xs)) ≡ false
    go false is kept one rest = rest
    go true true kept one rest = absurd (true≢false (sym kept ∙ apart x one))
    go true false kept one rest = rw (one, rest) refl

-- If a line of an earlier day names `a`, no message with its key is among what came since `day`.
pub no_repeat : (day : Date) (lines : List (List ℕ)) (came : List Apdu) (a : Apdu)
    → is_named_before day (came_key a) lines ≡ true
    → list_any (λ b. bytes_eq (came_key b) (came_key a)) (came_since (Some day) lines came) ≡ false
no_repeat day lines came a named =
    none_kept (λ b. bytes_eq (came_key b) (came_key a)) (is_new day lines) (after_last (came_before day lines) came)
    (λ b same. ap not (ap (λ key. is_named_before day key lines) ((bytes_eq-Decides (came_key b) (came_key a)).0 same) ∙ named))

-- If lines of the day or later name each message of `later`, none of these came before the day.
none_before_day : (day : Date) (lines : List (List ℕ)) (later : List Apdu)
    → Each (λ b. is_named_since day (came_key b) lines ≡ true) later → list_any (came_before day lines) later ≡ false
unfolding Each
none_before_day day lines [] each = refl
none_before_day day lines (b ∷ later) each =
    rw (named_printed day lines b each.0, none_before_day day lines later each.1) refl

-- If no line names `a`, and lines of `day` or later name each of `repeats` after it, `a` is printed.
pub not_hidden : (day : Date) (lines : List (List ℕ)) (came repeats : List Apdu) (a : Apdu) → is_named (came_key a) lines ≡ false
    → Each (λ b. is_named_since day (came_key b) lines ≡ true) repeats
    → (before after : List Apdu) × (came_since (Some day) lines (came ++ a ∷ repeats) ≡ before ++ a ∷ after)
not_hidden day lines came repeats a unnamed each =
    let none : list_any (came_before day lines) (a ∷ repeats) ≡ false =
    rw (unnamed_printed day lines a unnamed, none_before_day day lines repeats each) refl in
    let kept : is_new day lines a ≡ true = ap not (unnamed_before day (came_key a) lines unnamed) in
    let before = after_last (came_before day lines) came in (
      filter (is_new day lines) before,
      filter (is_new day lines) repeats,
      ap (filter (is_new day lines)) (after_more (came_before day lines) came (a ∷ repeats) none)
          ∙ filter-append (is_new day lines) before (a ∷ repeats)
          ∙ ap (λ rest. filter (is_new day lines) before ++ rest) (rw kept refl),
    )
