-- Proves that an open answer stays news, and that one which is done does not (`src/laws.rt`).
use Rattle.std.proofs.Common.{◌≡◌, ℕ, Bool, true, false, not, ◌&&◌, ◌||◌, List, [], ◌∷◌, ◌++◌, Option}
use Rattle.std.proofs.Common.{ap, append_assoc, refl, sym, true≢false, ◌∙◌}
use Rattle.std.specs.Prelude.{filter, nat_eq}
use Rattle.std.specs.List.{list_any}
use Rattle.std.proofs.lemmas.Bool.{and_parts, or_parts}
use Rattle.std.proofs.lemmas.List.Folds.{list_any-append}
use Rattle.ill_values.specs.Day.{Date}
use Rattle.ill_values.specs.TxnId.{Qualifiers}
use Rattle.ill_values.specs.declared.apdu.Apdu.{Apdu}
use Rattle.ill_core.specs.Issued.{is_same_txn}
use Rattle.ill_record.specs.declared.side.Side.{Side}
use Rattle.ill_record.proofs.Finding.{same_is}
use Rattle.ill_beside.specs.Notes.{note_of}
use Rattle.ill_news.specs.Deeds.{deeds_since}
use Rattle.ill_news.specs.News.{heard_at, is_same, is_printed, news_of}
use Rattle.ill_news.specs.OpenAnswers.{is_asking, is_left, is_open, left_open, says_done}
use Rattle.ill_news.specs.PrintedNews.{recent_of, printed_since, with_open}
use Rattle.ill_news.proofs.CameSinceLemmas.{none_kept}
use Rattle.ill_news.proofs.DeedLemmas.{kept_within}
use Rattle.ill_news.proofs.NewsLemmas.{taken_is_printed, printed_was_taken}

-- If `other` is false, `one` and `other` do not both hold.
and_false_right : (one other : Bool) → other ≡ false → (one && other) ≡ false
and_false_right true other off = off
and_false_right false other off = refl

-- `a` is printed in `news ++ more` if, and only if, it is printed in `news` or in `more`.
printed_in_both : (news more : List Apdu) (a : Apdu) → is_printed (news ++ more) a ≡ (is_printed news a || is_printed more a)
printed_in_both news more a = list_any-append (λ (b : Apdu). is_same b a) news more

-- If `other` is true, `one` or `other` holds.
or_true_right : (one other : Bool) → other ≡ true → (one || other) ≡ true
or_true_right true other on = refl
or_true_right false other on = on

-- If `one` is false, `one` and `other` do not both hold.
and_false_left : (one other : Bool) → one ≡ false → (one && other) ≡ false
and_false_left true other off = absurd (true≢false off)
and_false_left false other off = refl

-- ---- what is open stays news

-- If an open answer was taken and is not printed as recent, it is printed among the open answers.
left_printed : (notes : List (List ℕ)) (sides : List Side) (recent before after : List Apdu) (a : Apdu)
    → heard_at sides a ≡ true → is_left notes recent a ≡ true
    → is_printed (news_of sides (left_open notes recent (before ++ a ∷ after))) a ≡ true
left_printed notes sides recent before after a heard left =
    let keeps = is_left notes recent in
    ap (λ (came : List Apdu). is_printed (news_of sides came) a) (kept_within keeps before after a left)
    ∙ taken_is_printed sides (filter keeps before) (filter keeps after) a heard

-- If an answer was taken and is open (`is_kept`), it is printed among the open answers or as recent.
printed_with_open : (notes : List (List ℕ)) (sides : List Side) (recent before after : List Apdu) (a : Apdu)
    → heard_at sides a ≡ true → is_open notes a ≡ true
    → is_printed (with_open notes sides recent (before ++ a ∷ after)) a ≡ true
printed_with_open notes sides recent before after a heard is_kept =
    let left = news_of sides (left_open notes recent (before ++ a ∷ after)) in
    printed_in_both left recent a ∙ go (is_printed recent a) refl
  where
    -- `is` is true if `a` is printed as recent.
    go : (is : Bool) → is_printed recent a ≡ is
        → (is_printed (news_of sides (left_open notes recent (before ++ a ∷ after))) a || is_printed recent a) ≡ true
    go true is = or_true_right (is_printed (news_of sides (left_open notes recent (before ++ a ∷ after))) a) (is_printed recent a)
        is
    go false is =
        ap (λ first. first || is_printed recent a)
        (left_printed notes sides recent before after a heard (ap (λ b. b && not (is_printed recent a)) is_kept ∙ ap not is))

-- If an answer was taken and is open (`is_kept`), it is printed.
pub open_printed : (since : Option Date) (notes lines : List (List ℕ)) (sides : List Side) (before after : List Apdu) (a : Apdu)
    → heard_at sides a ≡ true → is_open notes a ≡ true
    → is_printed (printed_since since notes lines sides (before ++ a ∷ after)) a ≡ true
open_printed since notes lines sides before after a heard is_kept =
    let came = before ++ a ∷ after in
    let recent = recent_of since lines sides came in
    let deeds = deeds_since since lines sides in
    printed_in_both (with_open notes sides recent came) deeds a
    ∙ ap (λ first. first || is_printed deeds a) (printed_with_open notes sides recent before after a heard is_kept)

-- ---- messages that are not open are printed as recent or as deeds alone

-- No message of a loan whose note says `done` is open.
done_shut : (notes : List (List ℕ)) (a : Apdu) → says_done (note_of notes a.txn) ≡ true → is_open notes a ≡ false
done_shut notes a done = and_false_right (is_asking a.body) (not (says_done (note_of notes a.txn))) (ap not done)

-- Let the note of the loan of `a` say `done`. If a message `b` is the same as `a` and was taken, it is not left open.
done_not_left : (notes : List (List ℕ)) (sides : List Side) (recent : List Apdu) (a b : Apdu)
    → says_done (note_of notes a.txn) ≡ true → (is_same b a && heard_at sides b) ≡ true → is_left notes recent b ≡ false
done_not_left notes sides recent a b done named =
    let same = and_parts (is_same b a) (heard_at sides b) named in
    let txn : b.txn ≡ a.txn =
    same_is b.txn a.txn (and_parts (is_same_txn b.txn a.txn) (nat_eq b.number a.number) same.0).0 in
    and_false_left (is_open notes b) (not (is_printed recent b))
    (done_shut notes b (ap (λ (t : Qualifiers). says_done (note_of notes t)) txn ∙ done))

-- If the note of the loan of `a` says `done`, `a` is not printed as an open answer.
not_left : (notes : List (List ℕ)) (sides : List Side) (recent came : List Apdu) (a : Apdu)
    → says_done (note_of notes a.txn) ≡ true → is_printed (news_of sides (left_open notes recent came)) a ≡ false
not_left notes sides recent came a done = go (is_printed (news_of sides left) a) refl
  where
    -- The open answers in `came` that `recent` lacks.
    left : List Apdu
    left = left_open notes recent came

    -- No message of `left` is the same as `a` and was taken.
    none : list_any (λ b. is_same b a && heard_at sides b) left ≡ false
    none = none_kept (λ b. is_same b a && heard_at sides b) (is_left notes recent) came
        (λ b named. done_not_left notes sides recent a b done named)

    -- `is` is true if `a` is printed among the messages of `left`. By `printed_was_taken` one of them would be the same
    -- as `a` and taken then.
    go : (is : Bool) → is_printed (news_of sides left) a ≡ is → is_printed (news_of sides left) a ≡ false
    go false is = is
    go true is = absurd (true≢false (sym (printed_was_taken sides left a is) ∙ none))

-- If the note of the loan of `a` says `done`, `a` is printed as recent, as a deed, or not at all.
pub done_printed : (since : Option Date) (notes lines : List (List ℕ)) (sides : List Side) (came : List Apdu) (a : Apdu)
    → says_done (note_of notes a.txn) ≡ true
    → is_printed (printed_since since notes lines sides came) a
    ≡ is_printed (recent_of since lines sides came ++ deeds_since since lines sides) a
done_printed since notes lines sides came a done =
    let recent = recent_of since lines sides came in
    let deeds = deeds_since since lines sides in
    let left = news_of sides (left_open notes recent came) in
    ap (λ (news : List Apdu). is_printed news a) (append_assoc left recent deeds)
    ∙ printed_in_both left (recent ++ deeds) a
    ∙ ap (λ first. first || is_printed (recent ++ deeds) a) (not_left notes sides recent came a done)

-- If no message is open, none is left open.
none_left : (notes : List (List ℕ)) (news came : List Apdu) → list_any (is_open notes) came ≡ false
    → left_open notes news came ≡ []
none_left notes news [] none = refl
none_left notes news (a ∷ came) none =
    let both = or_parts (is_open notes a) (list_any (is_open notes) came) none in
    rw (and_false_left (is_open notes a) (not (is_printed news a)) both.0) (none_left notes news came both.1)

-- If no message is open, what is printed is recent, or a date made it due.
pub none_printed : (since : Option Date) (notes lines : List (List ℕ)) (sides : List Side) (came : List Apdu)
    → list_any (is_open notes) came ≡ false
    → printed_since since notes lines sides came ≡ recent_of since lines sides came ++ deeds_since since lines sides
none_printed since notes lines sides came none =
    let recent = recent_of since lines sides came in
    ap (λ (left : List Apdu). (news_of sides left ++ recent) ++ deeds_since since lines sides)
    (none_left notes recent came none)
