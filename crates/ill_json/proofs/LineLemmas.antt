-- Proves that the lines of each command are objects of JSON.
use Rattle.std.proofs.Common.{◌≡◌, ℕ, suc, ◌≤◌, Bool, true, false, cond, List, [], ◌∷◌, ◌++◌, map, length, Option, Some, None}
use Rattle.std.proofs.Common.{option_map, refl, sym, ap, ap₂, ◌∙◌, ◌<◌, ◌^◌, decimal, subst, arith, append-nil}
use Rattle.std.proofs.Common.{IsUtf8, IfSome}
use Rattle.std.specs.Prelude.{filter}
use Rattle.std.specs.List.{flat_map}
use Rattle.std.proofs.lemmas.List.Concat.{flat_map-append}
use Rattle.json.specs.Json.{item, document, array, string, number, boolean, null}
use Rattle.ill_values.specs.Day.{Date, iso_text}
use Rattle.ill_values.specs.declared.apdu.Apdu.{Apdu}
use Rattle.ill_values.specs.Apdu.{IsApdu}
use Rattle.ill_record.specs.declared.side.Side.{Side}
use Rattle.ill_saved.specs.Holdings.{DeskEntry, whole}
use Rattle.ill_record.specs.Ranges.{Each, IsSide}
use Rattle.ill_record.specs.RecordsV2.{AreSides}
use Rattle.ill_record.specs.Side.{txn_of}
use Rattle.ill_record.specs.Sides.{SidesOf, most_sides}
use Rattle.ill_text.specs.declared.form.Form.TheVariants as forms
use Rattle.ill_text.specs.ApduObject.{object_line, line_fields, apdu_text}
use Rattle.ill_text.specs.Json as texts
use Rattle.ill_text.specs.Json.{Field, flag, quoted}
use Rattle.ill_words.specs.Waiting.{placed, ordered, is_more_urgent, most_urgent_first}
use Rattle.ill_show.specs.declared.loan.LoanForm.TheVariants.{Object}
use Rattle.ill_list.specs.declared.wanted.Wanted.{Wanted}
use Rattle.ill_work.specs.declared.work.Work.{Work}
use Rattle.ill_work.specs.Work.{all_work}
use Rattle.ill_list.specs.List.{counts_of, has_work, is_listed, listed_of}
use Rattle.ill_list.specs.Seeking.{Seeking}
use Rattle.ill_rows.specs.Finding.{is_found}
use Rattle.ill_rows.specs.Heading.{between, file_printed}
use Rattle.ill_list.specs.Listing.{chosen_of, list_objects, listed, listed_desk, section, sections}
use Rattle.ill_list.specs.Listing.{work_objects}
use Rattle.ill_beside.specs.Diary.{PrintedPart, history_fields, history_of, messages_of, part_fields, part_object}
use Rattle.ill_beside.specs.Notes.{note_fields, note_of}
use Rattle.ill_beside.specs.Since.{AnnexRead, since_fields, since_of}
use Rattle.ill_show.specs.Loan.{loan_text}
use Rattle.ill_show.specs.Objects.{came_fields, kept_fields, loan_fields}
use Rattle.ill_list.specs.ListObjects.{counts_fields, counts_object}
use Rattle.ill_rows.specs.Heading.{file_fields}
use Rattle.ill_list.specs.ListedNews.{listed_news_fields}
use Rattle.ill_show.specs.Objects.{message_object, names_of}
use Rattle.ill_list.specs.ListObjects.{dated_fields, full_row_fields, noted_fields, row_fields, row_object}
use Rattle.ill_show.specs.Objects.{status_of_desk}
use Rattle.ill_json.specs.Lines.{ArePrintedNews, IsEntry, fields_of_list, fields_of_loan, fields_of_message, fields_in_order}
use Rattle.ill_json.specs.Lines.{fields_of_row}
use Rattle.ill_json.specs.Lines.{fields_of_status, fields_of_work}
use Rattle.ill_json.specs.Objects.{AreObjectLines, IsObject, IsObjectLine, items_of, strings}
use Rattle.ill_json.proofs.Labels.{labels, are_apart}
use Rattle.ill_json.proofs.Values.{FieldReads, HasValue, object_reads, are_members, document_of, items_read, array_reads}
use Rattle.ill_json.proofs.Values.{members_read}
use Rattle.ill_json.proofs.Values.{string_reads, number_reads, flag_reads, null_reads}
use Rattle.ill_json.proofs.Fields.{day_utf8}
use Rattle.ill_json.proofs.Sides.{each_append, counts_apart, line_apart, line_reads, loan_apart, message_apart, message_reads}
use Rattle.ill_json.proofs.Sides.{messages_values, row_apart, status_reads, loan_reads, came_reads, file_reads, row_reads}
use Rattle.ill_json.proofs.Sides.{counts_reads, note_reads, since_reads}
use Rattle.ill_json.proofs.NoteLemmas.{note_utf8}
use Rattle.ill_json.proofs.HistoryLines.{IsPrinted, history_reads, history_printed, part_reads}
use Rattle.ill_json.proofs.ListedNewsLines.{listed_news_reads}

-- ---- lines

-- An object of fields that are read as members is an object with these members, if its labels differ.
pub object_is : (most : ℕ) (fields : List Field) → Each (FieldReads most) fields → are_apart (labels fields) ≡ true
    → most ≤ 127 → IsObject (texts.object fields) fields
object_is most fields each apart few =
    let reads = object_reads most fields each apart in
    record {
      members = members_read most fields each;
      are = are_members most fields each (omega arith);
      read = document_of (suc most) (texts.object fields) _ (omega arith) reads;
      unique = reads.unique;
      utf8 = reads.shown.utf8;
      seen = reads.shown.seen;
    }

-- If fields are read as members, and their labels differ, their line is an object line.
pub line_is : (fields : List Field) → Each (FieldReads 2) fields → are_apart (labels fields) ≡ true
    → IsObjectLine (object_line fields) fields
line_is fields each apart = record {
  text = texts.object fields;
  ended = refl;
  object = object_is 2 fields each apart (omega arith);
}

-- If `text` has the lines `lines`, and `more` has `others`, both together have the lines of both.
lines_append : (text more : List ℕ) (lines others : List (List Field)) → AreObjectLines text lines → AreObjectLines more others
    → AreObjectLines (text ++ more) (lines ++ others)
lines_append text more lines others are also = record {
  whole = ap₂ (λ a b. a ++ b) are.whole also.whole ∙ sym (flat_map-append object_line lines others);
  each = each_append (λ fields. IsObjectLine (object_line fields) fields) lines others are.each also.each;
}

-- If the line of some fields is an object line, its text has just this line.
lines_one : (fields : List Field) → IsObjectLine (object_line fields) fields → AreObjectLines (object_line fields) (fields ∷ [])
unfolding Each
lines_one fields is = record { whole = sym (append-nil (object_line fields)); each = (is, tt) }

-- If the text of each value has its lines, the texts of `xs` together have the lines of all.
lines_flat : {X : Type 0} (text : X → List ℕ) (lines : X → List (List Field)) (xs : List X)
    → ((x : X) → AreObjectLines (text x) (lines x)) → AreObjectLines (flat_map text xs) (flat_map lines xs)
unfolding Each
lines_flat text lines [] are = record { whole = refl; each = tt }
lines_flat text lines (x ∷ xs) are = lines_append (text x) (flat_map text xs) (lines x) _ (are x) (lines_flat text lines xs are)

-- If the line of each value is an object line, the lines of `xs` together are a line for each.
pub lines_each : {X : Type 0} (fields : X → List Field) (xs : List X)
    → Each (λ x. IsObjectLine (object_line (fields x)) (fields x)) xs
    → AreObjectLines (flat_map (λ x. object_line (fields x)) xs) (map fields xs)
unfolding Each
lines_each fields [] each = record { whole = refl; each = tt }
lines_each fields (x ∷ xs) each =
    lines_append (object_line (fields x)) _ (fields x ∷ []) (map fields xs) (lines_one (fields x) each.0)
    (lines_each fields xs each.1)

-- ---- lists

-- If `P` is true of `x` and of `xs`, it is true of each after `x` is placed among them.
placed_each : {X : Type 0} (P : X → Type 0) (before : X → X → Bool) (x : X) (xs : List X) → P x → Each P xs
    → Each P (placed before x xs)
unfolding Each
placed_each P before x [] is each = (is, tt)
placed_each P before x (y ∷ xs) is each = go (before y x) (placed_each P before x xs is each.1)
  where
    -- The item `x` is placed after `y`, or before it.
    go : (b : Bool) → Each P (placed before x xs) → Each P (cond b (y ∷ placed before x xs) (x ∷ y ∷ xs))
    go true later = (each.0, later)
    go false later = (is, each)

-- If `P` is true of each item of a list, it is true of each item of the ordered list.
ordered_each : {X : Type 0} (P : X → Type 0) (before : X → X → Bool) (xs : List X) → Each P xs → Each P (ordered before xs)
unfolding Each
ordered_each P before [] each = tt
ordered_each P before (x ∷ xs) each = placed_each P before x (ordered before xs) each.0 (ordered_each P before xs each.1)

-- After `x` is placed, the list is longer by one.
placed_length : {X : Type 0} (before : X → X → Bool) (x : X) (xs : List X) → length (placed before x xs) ≡ suc (length xs)
placed_length before x [] = refl
placed_length before x (y ∷ xs) = go (before y x) (placed_length before x xs)
  where
    -- The item `x` is placed after `y`, or before it.
    go : (b : Bool) → length (placed before x xs) ≡ suc (length xs)
        → length (cond b (y ∷ placed before x xs) (x ∷ y ∷ xs)) ≡ suc (suc (length xs))
    go true later = ap suc later
    go false later = refl

-- A list that was put in order has as many items as before.
ordered_length : {X : Type 0} (before : X → X → Bool) (xs : List X) → length (ordered before xs) ≡ length xs
ordered_length before [] = refl
ordered_length before (x ∷ xs) = placed_length before x (ordered before xs) ∙ ap suc (ordered_length before xs)

-- If `P` implies `Q`, and `P` is true of each item, `Q` is true of each item that is kept.
kept_each : {X : Type 0} (P Q : X → Type 0) (keeps : X → Bool) (xs : List X) → ((x : X) → P x → Q x) → Each P xs
    → Each Q (filter keeps xs)
unfolding Each
kept_each P Q keeps [] so each = tt
kept_each P Q keeps (x ∷ xs) so each = go (keeps x) (kept_each P Q keeps xs so each.1)
  where
    -- The first item is kept, or not.
    go : (b : Bool) → Each Q (filter keeps xs) → Each Q (cond b (x ∷ filter keeps xs) (filter keeps xs))
    go true rest = (so x each.0, rest)
    go false rest = rest

-- The line of a listed loan is an object line.
row_is : (file : Option (List ℕ)) (annex : AnnexRead) (today : Option Date) (work : Work) (side : Side)
    → IfSome file IsUtf8 → ArePrintedNews annex → IsSide side
    → IsObjectLine (row_object file annex today work side) (fields_of_row file annex today work side)
unfolding row_object
row_is file annex today work side u printed is =
    line_is (fields_of_row file annex today work side)
    (each_append (FieldReads 2) (full_row_fields annex today work side) (file_fields file)
    (each_append (FieldReads 2) (dated_fields annex today work side) (listed_news_fields annex.news side)
    (each_append (FieldReads 2) (noted_fields annex.notes today work side) (since_fields (since_of annex side))
    (each_append (FieldReads 2) (row_fields work side (names_of today side)) (note_fields (note_of annex.notes (txn_of side)))
    (row_reads today work side is.1) (note_reads _ (note_utf8 annex.notes (txn_of side))))
    (since_reads (since_of annex side))) (listed_news_reads annex.news side printed)) (file_reads file u))
    (row_apart file annex today work side)

-- The rows of one kind of work are object lines.
rows_are : (file : Option (List ℕ)) (annex : AnnexRead) (wanted : Wanted) (shown : List Side) → IfSome file IsUtf8
    → ArePrintedNews annex → Each IsSide shown → (work : Work)
    → AreObjectLines (section (work_objects file annex) wanted shown work) (fields_of_work file annex wanted shown work)
unfolding row_object
rows_are file annex wanted shown u printed each work =
    lines_each (fields_of_row file annex wanted.today work) (filter (has_work wanted work) shown)
    (kept_each IsSide
    (λ side. IsObjectLine (row_object file annex wanted.today work side) (fields_of_row file annex wanted.today work side))
    (has_work wanted work) shown (λ side is. row_is file annex wanted.today work side u printed is) each)

-- The text of a list of the sides `held`, in their order, has object lines.
ordered_are : (file : Option (List ℕ)) (wanted : Wanted) (seeking : Seeking) (held : List Side) → IfSome file IsUtf8
    → ArePrintedNews seeking.annex → Each IsSide held → length held ≤ most_sides
    → AreObjectLines (listed (work_objects file seeking.annex) (counts_object file) wanted seeking held)
    (fields_in_order file wanted seeking held)
ordered_are file wanted seeking held u printed each few =
    let shown = chosen_of wanted seeking held in
    let objects = work_objects file seeking.annex in
    let fields = fields_of_work file seeking.annex wanted shown in
    let listed_each = kept_each IsSide IsSide (is_listed wanted seeking.annex.news) held (λ side is. is) each in
    lines_append (sections objects wanted shown) _ (flat_map fields all_work) _
    (lines_flat (section objects wanted shown) fields all_work
    (rows_are file seeking.annex wanted shown u printed
    (kept_each IsSide IsSide (is_found seeking.find seeking.annex.notes) (listed_of wanted seeking.annex.news held)
    (λ side is. is) listed_each)))
    (lines_one _ (line_is _ (each_append (FieldReads 2) (counts_fields (counts_of wanted held)) (file_fields file)
    (counts_reads wanted held few) (file_reads file u)) (counts_apart file wanted held)))

-- The text of `list` for one desk has object lines, the most urgent loans first.
objects_are : (file : Option (List ℕ)) (wanted : Wanted) (seeking : Seeking) (held : SidesOf) → IfSome file IsUtf8
    → ArePrintedNews seeking.annex → AreSides held
    → AreObjectLines (list_objects file wanted seeking held.sides) (fields_of_list file wanted seeking held.sides)
objects_are file wanted seeking held u printed are =
    ordered_are file wanted seeking (most_urgent_first held.sides) u printed
    (ordered_each IsSide is_more_urgent held.sides are.each)
    (subst (λ n. n ≤ most_sides) (sym (ordered_length is_more_urgent held.sides)) are.few)

-- The text of `list` is object lines, at the first desk and at others, with its path and without it.
pub list_are : (is_first is_headed : Bool) (wanted : Wanted) (seeking : Seeking) (path : List ℕ) (held : SidesOf) → IsUtf8 path
    → AreSides held → ArePrintedNews seeking.annex
    → AreObjectLines (between forms.Json is_first ++ listed_desk forms.Json is_headed wanted seeking path held.sides)
    (fields_of_list (file_printed is_headed path) wanted seeking held.sides)
list_are is_first false wanted seeking path held u are printed = objects_are None wanted seeking held tt printed are
list_are is_first true wanted seeking path held u are printed = objects_are (Some path) wanted seeking held u printed are

-- ---- other commands

-- The text of `status` is object lines.
pub status_are : (entries : List DeskEntry) → Each IsEntry entries
    → AreObjectLines (status_of_desk forms.Json entries) (map fields_of_status entries)
unfolding Each
status_are entries each = lines_each fields_of_status entries (each_line entries each)
  where
    -- The line of each entry is an object line.
    each_line : (entries : List DeskEntry) → Each IsEntry entries
        → Each (λ entry. IsObjectLine (object_line (fields_of_status entry)) (fields_of_status entry)) entries
    each_line [] each = tt
    each_line (entry ∷ entries) each = (
      line_is (fields_of_status entry) (status_reads entry.side entry.released each.0.side.1 each.0.released) refl,
      each_line entries each.1,
    )

-- The text of `loan` is an object line.
pub loan_is : (notes diary : List (List ℕ)) (entry : DeskEntry) (came : List Apdu) → IsEntry entry → Each IsApdu came
    → IsObjectLine (loan_text Object (note_of notes (txn_of entry.side)) diary entry came)
    (fields_of_loan (note_of notes (txn_of entry.side)) diary entry came)
loan_is notes diary entry came is each =
    let words = note_of notes (txn_of entry.side) in
    let history = history_of (messages_of entry.side came) diary in
    line_is (fields_of_loan words diary entry came)
    (each_append (FieldReads 2) (kept_fields entry came ++ note_fields words) (history_fields history)
    (each_append (FieldReads 2) (kept_fields entry came) (note_fields words)
    (each_append (FieldReads 2) (loan_fields entry.side entry.released) (came_fields came)
    (loan_reads entry.side entry.released is.side.1 is.released) (came_reads came each))
    (note_reads words (note_utf8 notes (txn_of entry.side))))
    (history_reads history (history_printed entry.side came diary is.side.1 each)))
    (loan_apart words diary entry.side entry.released came)

-- Each part of the history of a loan is an object with the fields of the part.
pub parts_are : (side : Side) (kept : List Apdu) (diary : List (List ℕ)) → IsSide side → Each IsApdu kept
    → Each (λ part. IsObject (part_object part) (part_fields part)) (history_of (messages_of side kept) diary)
unfolding Each
parts_are side kept diary is each = go (history_of (messages_of side kept) diary) (history_printed side kept diary is.1 each)
  where
    -- Each part is an object, since `IsPrinted` holds of it.
    go : (parts : List PrintedPart) → Each IsPrinted parts → Each (λ part. IsObject (part_object part) (part_fields part)) parts
    go [] printed = tt
    go (part ∷ parts) printed =
        (object_is 0 (part_fields part) (part_reads 0 part printed.0) refl (omega arith), go parts printed.1)

-- The texts of APDUs are object lines.
pub apdus_are : (apdus : List Apdu) → Each IsApdu apdus
    → AreObjectLines (flat_map (apdu_text forms.Json) apdus) (map line_fields apdus)
unfolding Each
apdus_are apdus each = lines_each line_fields apdus (each_line apdus each)
  where
    -- The line of each APDU is an object line.
    each_line : (apdus : List Apdu) → Each IsApdu apdus
        → Each (λ a. IsObjectLine (object_line (line_fields a)) (line_fields a)) apdus
    each_line [] each = tt
    each_line (a ∷ apdus) each = (line_is (line_fields a) (line_reads 2 a each.0) (line_apart a), each_line apdus each.1)

-- ---- values, entries and the messages of a loan

-- A quoted text is read as a string with this text.
pub text_is : (text : List ℕ) → IsUtf8 text → document (quoted text) ≡ Some (string text)
text_is text u = document_of 0 (quoted text) _ (omega arith) (string_reads 0 text u)

-- The text of a day is read as a string.
pub day_is : (d : Date) → document (texts.day d) ≡ Some (string (iso_text d))
day_is d = text_is (iso_text d) (day_utf8 d)

-- The digits of a number are read as this number.
pub number_is : (n : ℕ) → n < 2 ^ 64 → document (decimal n) ≡ Some (number (decimal n))
number_is n small = document_of 0 (decimal n) _ (omega arith) (number_reads 0 n small)

-- The text of a Bool is read as this Bool.
pub flag_is : (holds : Bool) → document (flag holds) ≡ Some (boolean holds)
flag_is holds = document_of 0 (flag holds) _ (omega arith) (flag_reads 0 holds)

-- The text of no value is read as null.
pub null_is : document texts.null ≡ Some null
null_is = document_of 0 texts.null _ (omega arith) (null_reads 0)

-- A side that a desk may hold is an entry, with all of its messages released.
pub entry_is : (side : Side) → IsSide side → IsEntry (whole side)
entry_is side is = record { side = is; released = is.1.few }

-- The texts of strings are read as these strings.
strings_read : (words : List (List ℕ)) (each : Each IsUtf8 words)
    → (values : Each (λ word. HasValue 0 (quoted word)) words) × (items_read quoted 0 words values ≡ strings words)
unfolding Each
strings_read [] each = (tt, refl)
strings_read (word ∷ words) each =
    let rest = strings_read words each.1 in
    ((record { value = string word; reads = string_reads 0 word each.0 }, rest.0), ap (item (string word)) rest.1)

-- An array of texts is read as an array of strings.
pub words_are : (words : List (List ℕ)) → Each IsUtf8 words → document (texts.array quoted words) ≡ Some (array (strings words))
words_are words each =
    let read = strings_read words each in
    document_of 1 (texts.array quoted words) _ (omega arith) (array_reads quoted 0 words read.0)
    ∙ ap (λ items. Some (array items)) read.1

-- The object of a message is an object with the fields of the message.
pub message_is : (released : Option ℕ) (a : Apdu) → IsApdu a → IsObject (message_object released a) (fields_of_message released a)
message_is released a is =
    object_is 0 (fields_of_message released a) (message_reads 0 released a is) (message_apart released a) (omega arith)

-- The items of texts are those that they are read as.
items_are : {A : Type 0} (text : A → List ℕ) (most : ℕ) (values : List A)
    (each : Each (λ value. HasValue most (text value)) values)
    → most ≤ 128 → items_of (map text values) ≡ Some (items_read text most values each)
unfolding Each
items_are text most [] each few = refl
items_are text most (v ∷ values) each few =
    rw (document_of most (text v) each.0.value few each.0.reads, items_are text most values each.1 few) refl

-- An array of messages is read as an array of their objects.
pub messages_are : (released : Option ℕ) (apdus : List Apdu) → Each IsApdu apdus
    → document (texts.array (message_object released) apdus) ≡ option_map array (items_of (map (message_object released) apdus))
messages_are released apdus each =
    let values = messages_values 0 released apdus each in
    document_of 2 (texts.array (message_object released) apdus) _ (omega arith)
    (array_reads (message_object released) 1 apdus values)
    ∙ ap (option_map array) (sym (items_are (message_object released) 1 apdus values (omega arith)))
