-- The forms of what may be done with a loan.
use Rattle.std.specs.Prelude.{ℕ, Bool, true, false, List, [], ◌++◌, codes, Result, Ok, Err}
use Rattle.std.specs.List.{flat_map}
use Rattle.ill_values.specs.Day.{Date, day_after, iso_text}
use Rattle.ill_values.specs.declared.fault.DayFault.{DayFault}
use Rattle.ill_core.specs.declared.verb.Verb.{Verb}
use Rattle.ill_core.specs.Verbs.{verb_name}
use Rattle.ill_text.specs.Html.{html_escaped}
use Rattle.ill_report.specs.Link.{PlaceShown, place_shown}
use Rattle.ill_page.specs.declared.forms.FormView.{FormView}
use Rattle.ill_page.specs.declared.forms.TheConstants.{LOAN_DAYS}
use Rattle.ill_page.specs.declared.parts.Inputs.{Inputs}
use Rattle.ill_page.specs.declared.parts.TheConstants.{FORM, FORM_END, HIDDEN, VALUE, HIDDEN_END, PURPOSE, PURPOSE_END}
use Rattle.ill_page.specs.declared.words.TheConstants.{NOTE}
use Rattle.ill_page.specs.Parts.{after, before, has_day, inputs_of, meaning}

-- What all forms of a loan have: the loan, its stamp, and the day of the page.
pub record FormShown : Type 0 where
  pub place : PlaceShown
  pub stamp : List ℕ
  pub today : Date

-- Returns what a `FormView` of the code holds.
abbrev pub form_shown : FormView → FormShown
form_shown view = record { place = place_shown view.place; stamp = view.stamp.now; today = view.today }

-- ---- the fields that a browser sends unseen

-- Returns the field with this name and value, which a browser sends unseen.
unfoldable pub hidden_text : List ℕ → List ℕ → List ℕ
hidden_text name value = HIDDEN.now ++ (name ++ (VALUE.now ++ (html_escaped value ++ HIDDEN_END.now)))

-- Returns the fields that name a loan.
unfoldable pub loan_fields : PlaceShown → List ℕ
loan_fields place =
    hidden_text (codes "desk") place.desk
    ++ (hidden_text (codes "group") place.txn.group ++ hidden_text (codes "transaction") place.txn.transaction)

-- Returns the fields with the stamp of a loan and the verb of an action.
unfoldable pub act_fields : (stamp : List ℕ) → Verb → List ℕ
act_fields stamp verb = hidden_text (codes "stamp") stamp ++ hidden_text (codes "word") (verb_name verb)

-- ---- the inputs

-- Returns the text of a day with hyphens, or the empty text after a fault.
abbrev pub day_or_none : Result Date DayFault → List ℕ
day_or_none (Ok day) = iso_text day
day_or_none (Err fault) = []

-- Returns the text of the day that is proposed on the day `today`: 28 days later. It is empty if `has_day` is false.
abbrev pub day_proposed : (today : Date) → (has_day : Bool) → List ℕ
day_proposed today false = []
day_proposed today true = day_or_none (day_after LOAN_DAYS today)

-- Returns inputs, with the day that is proposed on the day `today`.
unfoldable pub inputs_text : (today : Date) → Inputs → List ℕ
inputs_text today inputs = before inputs ++ (day_proposed today (has_day inputs) ++ after inputs)

-- Returns what a form of `verb` shows: its purpose, its inputs and its end.
unfoldable pub shown_text : (today : Date) → Verb → Inputs → List ℕ
shown_text today verb inputs =
    PURPOSE.now ++ (meaning verb ++ (PURPOSE_END.now ++ (inputs_text today inputs ++ FORM_END.now)))

-- ---- the forms

-- Returns a form of `verb` with these inputs.
unfoldable pub form_text : FormShown → Verb → Inputs → List ℕ
form_text form verb inputs =
    FORM.now ++ (loan_fields form.place ++ (act_fields form.stamp verb ++ shown_text form.today verb inputs))

-- Returns the forms of `verb`, one for each of its inputs.
abbrev pub verb_text : FormShown → Verb → List ℕ
verb_text form verb = flat_map (form_text form verb) (inputs_of verb)

-- Returns the forms of these verbs, in their order.
abbrev pub forms_text : FormShown → List Verb → List ℕ
forms_text form verbs = flat_map (verb_text form) verbs

-- Returns the form of a note on a loan.
unfoldable pub note_text : PlaceShown → List ℕ
note_text place = FORM.now ++ (loan_fields place ++ (NOTE.now ++ FORM_END.now))
