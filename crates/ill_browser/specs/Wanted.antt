-- What a browser asks for: the meaning of a request and its body.
use Rattle.std.specs.Prelude.{◌≡◌, ◌⊎◌, ℕ, ◌<◌, Bool, true, false, ◌==◌, if◌then◌else◌, List, [], ◌∷◌, length, map, codes}
use Rattle.std.specs.Prelude.{Option, Some, None, option_map, Result, Ok, Err, bytes_eq, string_bytes}
use Rattle.std.specs.Result.{result_ok}
use Rattle.std.specs.Io.KnownBytes.{Consumes}
use Rattle.ill_values.specs.Day.{Date}
use Rattle.ill_days.specs.Days.{day_of_text}
use Rattle.ill_values.specs.TxnId.{Qualifiers, txn_id_of}
use Rattle.ill_browser.specs.declared.fault.VisitFault.{VisitFault}
use Rattle.ill_browser.specs.declared.fault.VisitFault.TheVariants.{Cut, Fields, OutOfMemory}
use Rattle.ill_browser.specs.declared.wanted.Wanted.{Wanted}
use Rattle.ill_browser.specs.declared.wanted.Wanted.TheVariants as wants
use Rattle.ill_browser.specs.declared.wanted.LoanName.{LoanName}
use Rattle.ill_browser.specs.Fields.{Pair, fields_in, only_named, are_named, words_in}
use Rattle.ill_browser.specs.Visit.{RulesShown, VisitShown, body_size, is_look}

-- A loan, and the text that names its desk.
pub record LoanAsked : Type 0 where
  pub desk : List ℕ
  pub txn : Qualifiers

-- What a browser asks for.
pub data Asked : Type 0 where
  -- The page of the desks, with the loans that have these words, or with all loans.
  Desks : (find : Option (List ℕ)) → Asked
  -- The page of a loan.
  Loan : (loan : LoanAsked) → Asked
  -- The slip of a loan.
  Slip : (loan : LoanAsked) → Asked
  -- The figures of the days from one to another.
  Figures : (from to : Date) → Asked
  -- An act in a loan as its page was stamped.
  Act : (loan : LoanAsked) → (stamp : List ℕ) → (words : List (List ℕ)) → Asked
  -- A note on a loan.
  Note : (loan : LoanAsked) → (note : List ℕ) → Asked

-- Returns true if a request asks to change a desk, or what is kept beside it.
abbrev pub is_change : Asked → Bool
is_change (Act loan stamp words) = true
is_change (Note loan note) = true
is_change other = false

-- Returns the loan that a `LoanName` of the code names.
abbrev pub loan_asked : LoanName → LoanAsked
loan_asked loan = record { desk = loan.desk.items; txn = loan.txn }

-- Returns what a `Wanted` of the code asks for.
abbrev pub asked_of : Wanted → Asked
asked_of (wants.Desks find) = Desks (option_map string_bytes find)
asked_of (wants.Loan loan) = Loan (loan_asked loan)
asked_of (wants.Slip loan) = Slip (loan_asked loan)
asked_of (wants.Figures from to) = Figures from to
asked_of (wants.Act loan stamp words) = Act (loan_asked loan) stamp.items (map (λ word. word.items) words.items)
asked_of (wants.Note loan note) = Note (loan_asked loan) (string_bytes note)

-- The names of the fields in a query that finds loans.
abbrev pub find_names : List (List ℕ)
find_names = codes "find" ∷ []

-- The names of the fields in the query of a loan.
abbrev pub loan_names : List (List ℕ)
loan_names = codes "desk" ∷ codes "group" ∷ codes "transaction" ∷ []

-- The names of the fields in the query of a slip.
abbrev pub slip_names : List (List ℕ)
slip_names = codes "desk" ∷ codes "group" ∷ codes "transaction" ∷ codes "page" ∷ []

-- The names of the fields in the query of figures.
abbrev pub figures_names : List (List ℕ)
figures_names = codes "from" ∷ codes "to" ∷ []

-- The names of the fields in the form of an act.
abbrev pub act_names : List (List ℕ)
act_names = codes "desk" ∷ codes "group" ∷ codes "transaction" ∷ codes "stamp" ∷ codes "word" ∷ codes "day" ∷ []

-- The names of the fields in the form of a note.
abbrev pub note_names : List (List ℕ)
note_names = codes "desk" ∷ codes "group" ∷ codes "transaction" ∷ codes "note" ∷ []

infixl 10 ◌>>=◌
-- Returns `next` of a value, or None if there is no value.
abbrev pub ◌>>=◌ : {A B : Type 0} → Option A → (A → Option B) → Option B
Some value >>= next = next value
None >>= next = None

-- Returns the loan that the fields name. Each part of it is in one field alone.
abbrev pub loan_named : List Pair → Option LoanAsked
loan_named fields = do
  desk ← only_named (codes "desk") fields
  group ← only_named (codes "group") fields
  transaction ← only_named (codes "transaction") fields
  txn ← result_ok (txn_id_of group transaction)
  Some (record { desk = desk; txn = txn })

-- Returns the act that the fields of a form name.
abbrev pub act_named : List Pair → Option Asked
act_named fields = do
  loan ← loan_named fields
  stamp ← only_named (codes "stamp") fields
  Some (Act loan stamp (words_in fields))

-- Returns the note that the fields of a form name.
abbrev pub note_named : List Pair → Option Asked
note_named fields = do
  loan ← loan_named fields
  note ← only_named (codes "note") fields
  Some (Note loan note)

-- Returns the page of a loan that the fields of a query name.
abbrev pub page_named : List Pair → Option Asked
page_named fields = do
  loan ← loan_named fields
  Some (Loan loan)

-- Returns true if the page that a query names is the slip.
abbrev pub is_slip : Option (List ℕ) → Bool
is_slip (Some page) = bytes_eq page (codes "slip")
is_slip None = false

-- Returns the slip that the fields of a query name.
abbrev pub slip_named : List Pair → Option Asked
slip_named fields =
    if is_slip (only_named (codes "page") fields) then (loan_named fields >>= λ loan. Some (Slip loan)) else None

-- Returns the words to find that the fields of a query name.
abbrev pub found_named : List Pair → Option Asked
found_named fields = do
  words ← only_named (codes "find") fields
  Some (Desks (Some words))

-- Returns the day in the only field with this name.
abbrev pub day_named : List ℕ → List Pair → Option Date
day_named name fields = do
  text ← only_named name fields
  day_of_text text

-- Returns the figures that the fields of a query name.
abbrev pub figures_named : List Pair → Option Asked
figures_named fields = do
  from ← day_named (codes "from") fields
  to ← day_named (codes "to") fields
  Some (Figures from to)

-- Returns what is asked for, or the refusal `Fields` if nothing is.
abbrev pub or_fields : Option Asked → Result Asked VisitFault
or_fields (Some asked) = Ok asked
or_fields None = Err Fields

-- Returns the slip or the figures that a query asks for, or the refusal `Fields` if it asks for neither.
abbrev pub slip_or_figures : List Pair → Result Asked VisitFault
slip_or_figures fields =
    if are_named slip_names fields then or_fields (slip_named fields)
    else if are_named figures_names fields then or_fields (figures_named fields)
    else Err Fields

-- Returns the page that a query asks for, or the refusal `Fields`. A query without fields asks for the page of the
-- desks.
abbrev pub asked_by_query : List Pair → Result Asked VisitFault
asked_by_query fields =
    if length fields == 0 then Ok (Desks None)
    else if are_named find_names fields then or_fields (found_named fields)
    else if are_named loan_names fields then or_fields (page_named fields)
    else slip_or_figures fields

-- Returns the act or the note that the fields of a form ask for.
abbrev pub asked_by_form : List Pair → Result Asked VisitFault
asked_by_form fields =
    if are_named act_names fields then or_fields (act_named fields)
    else if are_named note_names fields then or_fields (note_named fields)
    else Err Fields

-- Returns what a request with this body asks for, by its fields alone.
unfoldable pub asked_by : VisitShown → (body : List ℕ) → Result Asked VisitFault
asked_by v body =
    if is_look v then asked_by_query (fields_in v.query)
    else if length v.query == 0 then asked_by_form (fields_in body)
    else Err Fields

-- Returns what a request with `body` asks for if the length of `body` is the size, or else `Cut`. A refusal in place of
-- the size stays.
abbrev pub asked_with : Result ℕ VisitFault → VisitShown → (body : List ℕ) → Result Asked VisitFault
asked_with (Ok size) v body = if length body == size then asked_by v body else Err Cut
asked_with (Err refusal) v body = Err refusal

-- Returns what a request asks for, or its refusal. `body` has the bytes that came of its body.
abbrev pub wanted_of : RulesShown → VisitShown → (body : List ℕ) → Result Asked VisitFault
wanted_of rules v body = asked_with (body_size rules v) v body

-- If the result has a value, `asked` is Ok with what this value asks for. If it has a refusal, `asked` has that
-- refusal. `OutOfMemory` says nothing of `asked`.
abbrev pub Reads : Result Asked VisitFault → Result Wanted VisitFault → Type 0
Reads asked (Ok wanted) = asked ≡ Ok (asked_of wanted)
Reads asked (Err OutOfMemory) = Unit {0}
Reads asked (Err refusal) = asked ≡ Err refusal

-- The result is `Cut`, and the body was to have bytes. Or it is `OutOfMemory`, and nothing was read.
abbrev pub BreaksOff : {X : Type 0} → (size : ℕ) → (left rest : Option (List ℕ)) → Result X VisitFault → Type 0
BreaksOff size left rest (Err Cut) = 0 < size
BreaksOff size left rest (Err OutOfMemory) = rest ≡ left
BreaksOff size left rest other = ⊥

-- The `size` bytes of the body were read, and the result is what `wanted` gives for them. Or the body broke off.
abbrev pub ReadsBody : (size : ℕ) → (List ℕ → Result Asked VisitFault) → (left rest : Option (List ℕ)) →
    Result Wanted VisitFault → Type 0
ReadsBody size wanted left rest result =
    ((body : List ℕ) × (length body ≡ size) × Consumes left rest body × Reads (wanted body) result)
    ⊎ BreaksOff size left rest result

-- If the first argument is a refusal, it is the result, and nothing was read. If it is a size, a body of that size was
-- read, or it broke off.
abbrev pub Answers : Result ℕ VisitFault → (List ℕ → Result Asked VisitFault) → (left rest : Option (List ℕ)) →
    Result Wanted VisitFault → Type 0
Answers (Err refusal) wanted left rest result = (result ≡ Err refusal) × (rest ≡ left)
Answers (Ok size) wanted left rest result = ReadsBody size wanted left rest result

-- If the result has a value, `named` is what it shows. If it is `Fields`, `named` is None. Else memory ran out.
abbrev pub ReadsNamed : {X V : Type 0} → (shown : X → V) → Option V → Result X VisitFault → Type 0
ReadsNamed shown named (Ok value) = named ≡ Some (shown value)
ReadsNamed shown named (Err Fields) = named ≡ None
ReadsNamed shown named (Err OutOfMemory) = Unit {0}
ReadsNamed shown named (Err other) = ⊥
