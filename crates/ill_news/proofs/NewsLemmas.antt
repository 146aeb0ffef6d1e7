-- Proves the laws of what came to a desk (`src/laws.rt`).
use Rattle.std.proofs.Common.{◌≡◌, Bool, true, false, cond, not, ◌&&◌, ◌||◌, List, [], ◌∷◌, ◌++◌, fold}
use Rattle.std.proofs.Common.{rules, true≢false, refl, ap, sym, ◌∙◌}
use Rattle.std.specs.List.{list_any}
use Rattle.std.proofs.lemmas.List.Folds.{list_any-append}
use Rattle.std.proofs.lemmas.Grind.{fold-append}
use Rattle.ill_values.specs.declared.apdu.Apdu.{Apdu}
use Rattle.ill_core.proofs.IssuedLemmas.{same_txn}
use Rattle.ill_record.specs.declared.side.Side.{Side}
use Rattle.ill_news.specs.News.{heard_at, is_same, is_printed, news_of, with_news}

-- ---- what was taken is printed

-- `is_same` holds of a message and itself.
same_as_itself : (a : Apdu) → is_same a a ≡ true
same_as_itself a = search (rules, same_txn a.txn)

-- If `a` is printed among `news`, it is printed after one more message `b` came.
printed_stays : (sides : List Side) (news : List Apdu) (a b : Apdu) → is_printed news a ≡ true
    → is_printed (with_news sides news b) a ≡ true
printed_stays sides news a b printed = go (heard_at sides b && not (is_printed news b))
  where
    -- `is_new` is true if `b` is appended.
    go : (is_new : Bool) → is_printed (cond is_new (news ++ b ∷ []) news) a ≡ true
    go true = list_any-append (λ (c : Apdu). is_same c a) news (b ∷ []) ∙ ap (λ first. first || is_printed (b ∷ []) a) printed
    go false = printed

-- If `a` is printed among `news`, it is printed after the messages `came` too.
printed_for_good : (sides : List Side) (news came : List Apdu) (a : Apdu) → is_printed news a ≡ true
    → is_printed (fold (with_news sides) news came) a ≡ true
printed_for_good sides news [] a printed = printed
printed_for_good sides news (b ∷ came) a printed =
    printed_for_good sides (with_news sides news b) came a (printed_stays sides news a b printed)

-- If the record of its loan shows that `a` was taken, `a` is printed after it came.
printed_now : (sides : List Side) (news : List Apdu) (a : Apdu) → heard_at sides a ≡ true
    → is_printed (with_news sides news a) a ≡ true
printed_now sides news a heard = go (heard_at sides a) (is_printed news a) heard refl
  where
    -- `is_heard` is true if `a` was taken, and `is_there` if it is printed already.
    go : (is_heard is_there : Bool) → is_heard ≡ true → is_printed news a ≡ is_there
        → is_printed (cond (is_heard && not is_there) (news ++ a ∷ []) news) a ≡ true
    go true true heard there = there
    go true false heard there =
        list_any-append (λ (c : Apdu). is_same c a) news (a ∷ [])
        ∙ ap (λ first. first || is_printed (a ∷ []) a) there ∙ ap (λ same. same || false) (same_as_itself a)
    go false is_there heard there = absurd (true≢false (sym heard))

-- A message that came is printed if the record of its loan shows that it was taken.
pub taken_is_printed : (sides : List Side) (before after : List Apdu) (a : Apdu) → heard_at sides a ≡ true
    → is_printed (news_of sides (before ++ a ∷ after)) a ≡ true
taken_is_printed sides before after a heard =
    let so_far = fold (with_news sides) [] before in
    ap (λ (news : List Apdu). is_printed news a) (fold-append (with_news sides) [] before (a ∷ after))
    ∙ printed_for_good sides (with_news sides so_far a) after a (printed_now sides so_far a heard)

-- ---- nothing else is printed

-- Returns true if the message came, and the record of its loan shows that it was taken.
abbrev came_and_taken : List Side → List Apdu → Apdu → Bool
came_and_taken sides came a = list_any (λ b. is_same b a && heard_at sides b) came

-- If `a` is printed after one more message `b`, it was printed before, or it is `b`, which was taken.
printed_or_new : (sides : List Side) (news : List Apdu) (a b : Apdu) → is_printed (with_news sides news b) a ≡ true
    → (is_printed news a || (is_same b a && heard_at sides b)) ≡ true
printed_or_new sides news a b = go (heard_at sides b) (is_printed news b) refl
  where
    -- `is_heard` is true if `b` was taken, and `is_there` if it was printed already.
    go : (is_heard is_there : Bool) → heard_at sides b ≡ is_heard
        → is_printed (cond (is_heard && not is_there) (news ++ b ∷ []) news) a ≡ true
        → (is_printed news a || (is_same b a && is_heard)) ≡ true
    go true false heard printed = search (rules, printed, list_any-append (λ (c : Apdu). is_same c a) news (b ∷ []))
    go true true heard printed = search (rules, printed)
    go false is_there heard printed = search (rules, printed)

-- If `now` or `later` holds, and `now` gives `before` or `new`, one of `before`, `new` and `later` holds.
one_of_three : (now before new later : Bool) → (now ≡ true → (before || new) ≡ true) → (now || later) ≡ true
    → (before || (new || later)) ≡ true
one_of_three now true new later so one = refl
one_of_three now false true later so one = refl
one_of_three now false false true so one = refl
one_of_three true false false false so one = so refl
one_of_three false false false false so one = one

-- If `a` is printed after the messages `came`, it was printed before, or `came` has it and it was taken.
printed_or_came : (sides : List Side) (news came : List Apdu) (a : Apdu) → is_printed (fold (with_news sides) news came) a ≡ true
    → (is_printed news a || came_and_taken sides came a) ≡ true
printed_or_came sides news [] a printed = search (rules, printed)
printed_or_came sides news (b ∷ came) a printed =
    one_of_three (is_printed (with_news sides news b) a) (is_printed news a) (is_same b a && heard_at sides b)
    (came_and_taken sides came a) (printed_or_new sides news a b) (printed_or_came sides (with_news sides news b) came a printed)

-- What is printed came, and the record of its loan shows that it was taken.
pub printed_was_taken : (sides : List Side) (came : List Apdu) (a : Apdu) → is_printed (news_of sides came) a ≡ true
    → came_and_taken sides came a ≡ true
printed_was_taken sides came a printed = printed_or_came sides [] came a printed
