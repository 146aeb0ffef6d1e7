-- The texts of figures: lines for people, and records of CSV (RFC 4180).
use Rattle.std.specs.Prelude.{ℕ, ◌/◌, ◌%◌, Bool, true, false, ◌==◌, if◌then◌else◌, List, [], ◌∷◌, ◌++◌, codes, Option, None, Some}
use Rattle.std.specs.Prelude.{option_map}
use Rattle.std.specs.List.{flat_map}
use Rattle.std.specs.Fmt.{decimal}
use Rattle.ill_values.specs.Day.{iso_text}
use Rattle.ill_rows.specs.Heading.{gap, heading}
use Rattle.ill_figures.specs.declared.count.Count.{Count}
use Rattle.ill_figures.specs.declared.count.Count.TheVariants as counts
use Rattle.ill_figures.specs.declared.days.Span.{Span}
use Rattle.ill_figures.specs.declared.figures.FiguresView.{FiguresView}
use Rattle.ill_figures.specs.declared.loan_figures.Loan.{Loan}
use Rattle.ill_figures.specs.declared.means.Wait.{Wait}
use Rattle.ill_figures.specs.declared.means.Wait.TheVariants as waits
use Rattle.ill_figures.specs.Figures.{Figures, counted, mean, outcomes, reasons, waited}

-- ---- what is shown

-- All counts, in the order of their lines and fields.
abbrev pub all_counts : List Count
all_counts = counts.Asked ∷ (outcomes ++ reasons)

-- All waits, in the order of their lines and fields.
abbrev pub all_waits : List Wait
all_waits = waits.Answer ∷ waits.Arrive ∷ waits.Out ∷ []

-- Returns tenths as a decimal number.
abbrev pub tenths_text : ℕ → List ℕ
tenths_text tenths = decimal (tenths / 10) ++ (codes "." ++ decimal (tenths % 10))

-- ---- lines

-- Returns the text before a count. The reasons of a refusal are set in under it.
abbrev pub count_label : Count → List ℕ
count_label counts.Asked = codes "  asked                 "
count_label counts.Filled = codes "  filled                "
count_label counts.Open = codes "  open                  "
count_label counts.Cancelled = codes "  cancelled             "
count_label counts.Refused = codes "  refused               "
count_label counts.Unfilled = codes "    unfilled            "
count_label counts.Retry = codes "    retry               "
count_label counts.Estimate = codes "    estimate            "
count_label counts.LocationsProvided = codes "    locations-provided  "
count_label counts.Expired = codes "    expired             "
count_label counts.Unknown = codes "    unknown             "

-- Returns the text before the mean of a wait.
abbrev pub wait_label : Wait → List ℕ
wait_label waits.Answer = codes "  days to answer        "
wait_label waits.Arrive = codes "  days to arrive        "
wait_label waits.Out = codes "  days out              "

-- Returns the line of a number.
abbrev pub number_line : (label : List ℕ) → ℕ → List ℕ
number_line label number = label ++ (decimal number ++ codes "\n")

-- Returns the line of a count.
abbrev pub count_line : (asked : List Loan) → Count → List ℕ
count_line asked count = number_line (count_label count) (counted asked count)

-- Returns the mean of a wait for people, and the number of loans that it is of. Without a loan it is a dash.
abbrev pub mean_text : Option ℕ → (of : ℕ) → List ℕ
mean_text None of = codes "-"
mean_text (Some tenths) of = tenths_text tenths ++ (codes " of " ++ decimal of)

-- Returns the line of a wait.
abbrev pub wait_line : (asked : List Loan) → Wait → List ℕ
wait_line asked wait = wait_label wait ++ (mean_text (mean asked wait) (waited asked wait) ++ codes "\n")

-- Returns the line of the span.
unfoldable pub span_line : Span → List ℕ
span_line span = codes "  from " ++ (iso_text span.first ++ (codes " to " ++ (iso_text span.last ++ codes "\n")))

-- Returns the lines of all counts.
unfoldable pub count_lines : (asked : List Loan) → List ℕ
count_lines asked = flat_map (count_line asked) all_counts

-- Returns the lines of all waits.
unfoldable pub wait_lines : (asked : List Loan) → List ℕ
wait_lines asked = flat_map (wait_line asked) all_waits

-- Returns the line of the number of loans without a day of asking.
unfoldable pub undated_line : ℕ → List ℕ
undated_line undated = number_line (codes "  without a day         ") undated

-- Returns the lines of figures.
unfoldable pub figures_lines : Span → Figures → List ℕ
figures_lines span figures =
    span_line span ++ (count_lines figures.asked ++ (wait_lines figures.asked ++ undated_line figures.undated))

-- ---- records of CSV

-- The names of the fields.
abbrev pub field_names : List (List ℕ)
field_names =
    codes "desk" ∷ codes "from" ∷ codes "to" ∷ codes "asked" ∷ codes "filled" ∷ codes "open" ∷ codes "cancelled"
    ∷ codes "refused" ∷ codes "unfilled" ∷ codes "retry" ∷ codes "estimate" ∷ codes "locations_provided"
    ∷ codes "expired" ∷ codes "unknown" ∷ codes "answered" ∷ codes "days_to_answer" ∷ codes "arrived"
    ∷ codes "days_to_arrive" ∷ codes "returned" ∷ codes "days_out" ∷ codes "without_a_day" ∷ []

-- Returns a byte within quotes. A quote is doubled.
abbrev pub quoted_byte : ℕ → List ℕ
quoted_byte byte = if byte == 0x22 then codes "\"\"" else byte ∷ []

-- Returns the text of a field from these bytes on, up to the quote that ends both. Two quotes stand for one. If
-- `is_after` is true, a quote is before the bytes, and may be the last. If no quote ends the bytes and the field, it
-- returns `None`.
unfoldable pub within : (is_after : Bool) → List ℕ → Option (List ℕ)
within false [] = None
within true [] = Some []
within false (byte ∷ rest) =
    if byte == 0x22 then within true rest else option_map (λ text. byte ∷ text) (within false rest)
within true (byte ∷ rest) = if byte == 0x22 then option_map (λ text. 0x22 ∷ text) (within false rest) else None

-- Returns a text as a field in quotes.
abbrev pub quoted : List ℕ → List ℕ
quoted text = codes "\"" ++ (flat_map quoted_byte text ++ codes "\"")

-- Returns the text of a field in quotes, if it is one.
abbrev pub unquoted : List ℕ → Option (List ℕ)
unquoted [] = None
unquoted (first ∷ rest) = if first == 0x22 then within false rest else None

-- Returns a field that is not the first, with the comma before it.
unfoldable pub next_field : List ℕ → List ℕ
next_field field = codes "," ++ field

-- Returns the record of these fields.
abbrev pub csv_record : List (List ℕ) → List ℕ
csv_record [] = codes "\r\n"
csv_record (field ∷ fields) = field ++ (flat_map next_field fields ++ codes "\r\n")

-- Returns the mean of a wait, or no text if there is none.
abbrev pub mean_field : Option ℕ → List ℕ
mean_field None = []
mean_field (Some tenths) = tenths_text tenths

-- Returns the fields of both days of a span, each with the comma before it.
unfoldable pub day_fields : Span → List ℕ
day_fields span = next_field (iso_text span.first) ++ next_field (iso_text span.last)

-- Returns the field of a count, with the comma before it.
abbrev pub count_field : (asked : List Loan) → Count → List ℕ
count_field asked count = next_field (decimal (counted asked count))

-- Returns the fields of all counts.
unfoldable pub count_fields : (asked : List Loan) → List ℕ
count_fields asked = flat_map (count_field asked) all_counts

-- Returns the fields of a wait: the number of loans whose days are known, and their mean.
abbrev pub wait_field : (asked : List Loan) → Wait → List ℕ
wait_field asked wait = next_field (decimal (waited asked wait)) ++ next_field (mean_field (mean asked wait))

-- Returns the fields of all waits.
unfoldable pub wait_fields : (asked : List Loan) → List ℕ
wait_fields asked = flat_map (wait_field asked) all_waits

-- Returns the last field: the number of loans without a day of asking.
unfoldable pub undated_field : ℕ → List ℕ
undated_field undated = next_field (decimal undated)

-- Returns the record of figures of the desk at `path`.
unfoldable pub figures_record : (path : List ℕ) → Span → Figures → List ℕ
figures_record path span figures =
    quoted path ++ (day_fields span ++ (count_fields figures.asked ++ (wait_fields figures.asked
    ++ (undated_field figures.undated ++ codes "\r\n"))))

-- ---- a desk

-- Returns the text before the first desk: in CSV the names of the fields.
abbrev pub head_text : (is_csv : Bool) → List ℕ
head_text is_csv = if is_csv then csv_record field_names else []

-- Returns the text of figures of the desk at `path`. In lines the path is a heading, if `is_headed` is true: several
-- desks are visited.
abbrev pub figures_text : FiguresView → (is_headed is_first : Bool) → (path : List ℕ) → Figures → List ℕ
figures_text view is_headed is_first path figures =
    if view.is_csv then figures_record path view.span figures
    else gap is_first ++ heading is_headed path ++ figures_lines view.span figures
