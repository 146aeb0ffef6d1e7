-- Proves that the lines of `news` are objects of JSON, since what is printed are messages in range.
use Rattle.std.proofs.Common.{ℕ, zero, suc, ◌-◌, Bool, true, false, cond, not, ◌&&◌, List, [], ◌∷◌, ◌++◌, drop, fold, length}
use Rattle.std.proofs.Common.{map}
use Rattle.std.proofs.Common.{Option, Some, None, IsUtf8, IfSome}
use Rattle.ill_values.specs.Day.{Date}
use Rattle.ill_values.specs.TxnId.{Qualifiers}
use Rattle.ill_values.specs.declared.apdu.Apdu.{Apdu}
use Rattle.ill_values.specs.Apdu.{IsApdu}
use Rattle.ill_core.specs.Issued.{is_same_txn}
use Rattle.ill_record.specs.declared.side.Side.{Side}
use Rattle.ill_record.specs.declared.side.Side.TheVariants as sides
use Rattle.ill_record.specs.Side.{txn_of}
use Rattle.ill_record.specs.Ranges.{Each, IsSide}
use Rattle.ill_record.specs.RecordsV2.{AreSides}
use Rattle.ill_record.specs.Sides.{SidesOf, found_by, side_with}
use Rattle.ill_text.specs.declared.form.Form.TheVariants as forms
use Rattle.ill_text.specs.ApduObject.{object_line}
use Rattle.ill_rows.specs.Heading.{between, file_printed}
use Rattle.ill_news.specs.News.{heard_at, is_printed, last_of, news_desk, news_fields, news_of, news_objects, with_news}
use Rattle.ill_news.specs.News.{words_at}
use Rattle.ill_news.specs.CameSince.{came_since, is_new}
use Rattle.ill_news.specs.Deeds.{deeds_at, deeds_since, is_deed_since}
use Rattle.ill_news.specs.OpenAnswers.{is_left, left_open}
use Rattle.ill_news.specs.PrintedNews.{recent_of, printed_since, with_open}
use Rattle.ill_rows.specs.Heading.{file_fields}
use Rattle.ill_json.specs.Lines.{fields_of_news}
use Rattle.ill_json.specs.Objects.{AreObjectLines, IsObjectLine}
use Rattle.ill_json.proofs.HistoryLines.{filter_each}
use Rattle.ill_json.proofs.LineLemmas.{line_is, lines_each}
use Rattle.ill_json.proofs.NewsTexts.{words_by_utf8}
use Rattle.ill_json.proofs.Sides.{each_append, file_reads, news_apart, printed_reads}
use Rattle.ill_json.proofs.Values.{FieldReads}

-- ---- the news

-- If `P` holds of each of `sides`, it holds of the side of `txn` among them, if there is one.
found_each : (P : Side → Type 0) (txn : Qualifiers) (sides : List Side) → Each P sides → IfSome (side_with txn sides) P
unfolding Each side_with
found_each P txn [] each = tt
found_each P txn (side ∷ sides) each = go (is_same_txn txn (txn_of side)) (found_each P txn sides each.1)
  where
    -- The first side is that of `txn`, or it is sought among the others.
    go : (is_it : Bool) → IfSome (found_by txn_of txn sides) P → IfSome (cond is_it (Some side) (found_by txn_of txn sides)) P
    go true rest = each.0
    go false rest = rest

-- If `P` holds of each message that came, it holds of each that is printed.
news_each : (P : Apdu → Type 0) (sides : List Side) (news came : List Apdu) → Each P news → Each P came
    → Each P (fold (with_news sides) news came)
unfolding Each
news_each P sides news [] printed each = printed
news_each P sides news (a ∷ came) printed each =
    news_each P sides (with_news sides news a) came (go (heard_at sides a && not (is_printed news a))) each.1
  where
    -- The message `a` is printed, or not.
    go : (is_new : Bool) → Each P (cond is_new (news ++ a ∷ []) news)
    go true = each_append P news (a ∷ []) printed (each.0, tt)
    go false = printed

-- If `P` holds of each item, it holds of each item after the first `n`.
dropped_each : (P : Apdu → Type 0) (n : ℕ) (apdus : List Apdu) → Each P apdus → Each P (drop n apdus)
unfolding Each
dropped_each P zero apdus each = each
dropped_each P (suc n) [] each = tt
dropped_each P (suc n) (a ∷ apdus) each = dropped_each P n apdus each.1

-- If `P` holds of each message, it holds of each of the last ones.
last_each : (P : Apdu → Type 0) (last : Option ℕ) (news : List Apdu) → Each P news → Each P (last_of last news)
last_each P None news each = each
last_each P (Some count) news each = dropped_each P (length news - count) news each

-- ---- lines

-- The line of a message is an object line.
news_line : (file : Option (List ℕ)) (sides : List Side) (a : Apdu) → IfSome file IsUtf8 → Each IsSide sides → IsApdu a
    → IsObjectLine (object_line (fields_of_news file sides a)) (fields_of_news file sides a)
news_line file sides a u each is =
    line_is (fields_of_news file sides a)
    (each_append (FieldReads 2) (news_fields sides a) (file_fields file)
    (printed_reads (side_with a.txn sides) (words_at sides a) a (found_each IsSide a.txn sides each) (words_by_utf8 _ a.body) is)
    (file_reads file u)) (news_apart file sides a)

-- The objects of messages are object lines.
objects_are : (file : Option (List ℕ)) (sides : List Side) (shown : List Apdu) → IfSome file IsUtf8 → Each IsSide sides
    → Each IsApdu shown → AreObjectLines (news_objects file sides shown) (map (fields_of_news file sides) shown)
unfolding Each
objects_are file sides shown u each are = lines_each (fields_of_news file sides) shown (go shown are)
  where
    -- The line of each message is an object line.
    go : (shown : List Apdu) → Each IsApdu shown
        → Each (λ a. IsObjectLine (object_line (fields_of_news file sides a)) (fields_of_news file sides a)) shown
    go [] are = tt
    go (a ∷ shown) are = (news_line file sides a u each are.0, go shown are.1)

-- The text of `news` is object lines, at the first desk and at others, with its path and without it.
pub news_are : (is_first is_headed : Bool) (last : Option ℕ) (path : List ℕ) (held : SidesOf) (news : List Apdu) → IsUtf8 path
    → AreSides held → Each IsApdu news
    → AreObjectLines (between forms.Json is_first ++ news_desk forms.Json is_headed last path held.sides news)
    (map (fields_of_news (file_printed is_headed path) held.sides) (last_of last news))
news_are is_first false last path held news u are each =
    objects_are None held.sides (last_of last news) tt are.each (last_each IsApdu last news each)
news_are is_first true last path held news u are each =
    objects_are (Some path) held.sides (last_of last news) u are.each (last_each IsApdu last news each)

-- ---- what is printed

-- If each message that came is in range, so is each that came since a day.
since_each : (since : Option Date) (lines : List (List ℕ)) (came : List Apdu) → Each IsApdu came
    → Each IsApdu (came_since since lines came)
since_each None lines came each = each
since_each (Some day) lines came each = filter_each IsApdu (is_new day lines) _ (dropped_each IsApdu _ came each)

-- Each message of a side that a date has made due is in range.
deeds_at_each : (day : Date) (lines : List (List ℕ)) (side : Side) → IsSide side → Each IsApdu (deeds_at day lines side)
unfolding Each
deeds_at_each day lines (sides.Requester x) is = tt
deeds_at_each day lines (sides.Responder y) is = filter_each IsApdu (is_deed_since day lines) y.issued is.1.issued

-- Each message of the sides of a desk that a date has made due is in range.
deeds_each : (since : Option Date) (lines : List (List ℕ)) (sides : List Side) → Each IsSide sides
    → Each IsApdu (deeds_since since lines sides)
unfolding Each
deeds_each None lines sides each = tt
deeds_each (Some day) lines [] each = tt
deeds_each (Some day) lines (side ∷ sides) each =
    each_append IsApdu (deeds_at day lines side) (deeds_since (Some day) lines sides)
    (deeds_at_each day lines side each.0) (deeds_each (Some day) lines sides each.1)

-- If each message that came is in range, so is each that is printed of the desk.
pub printed_each : (since : Option Date) (notes lines : List (List ℕ)) (held : SidesOf) (came : List Apdu) → AreSides held
    → Each IsApdu came → Each IsApdu (printed_since since notes lines held.sides came)
unfolding Each
printed_each since notes lines held came are each =
    let recent = recent_of since lines held.sides came in
    let left = left_open notes recent came in
    each_append IsApdu (with_open notes held.sides recent came) (deeds_since since lines held.sides)
    (each_append IsApdu (news_of held.sides left) recent
    (news_each IsApdu held.sides [] left tt (filter_each IsApdu (is_left notes recent) came each))
    (news_each IsApdu held.sides [] (came_since since lines came) tt (since_each since lines came each)))
    (deeds_each since lines held.sides are.each)
