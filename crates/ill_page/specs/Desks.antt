-- The page of all desks. Texts that people wrote go into it by `html_text` and `html_escaped`.
use Rattle.std.specs.Prelude.{ℕ, ◌+◌, ◌-◌, List, [], ◌++◌, codes, length, slice_get}
use Rattle.std.specs.Prelude.{Option, Some, None, option_map}
use Rattle.std.specs.Fmt.{decimal}
use Rattle.ill_values.specs.Day.{Date, date_text}
use Rattle.ill_core.specs.declared.verb.Verb.TheVariants.{Request}
use Rattle.ill_record.specs.declared.role.Role.{Role}
use Rattle.ill_record.specs.declared.role.Role.TheVariants.{Requester, Responder}
use Rattle.ill_record.specs.declared.side.Side.{Side}
use Rattle.ill_record.specs.Side.{txn_of}
use Rattle.ill_text.specs.Html.{html_escaped, html_text}
use Rattle.ill_report.specs.Report.{PageShown, desk_text, page_head_with}
use Rattle.ill_beside.specs.Since.{AnnexRead, annex_of}
use Rattle.ill_page.specs.declared.desks.DeskShown.{DeskShown}
use Rattle.ill_page.specs.declared.parts.TheConstants.{BEGUN, END, FORM, STYLE}
use Rattle.ill_page.specs.declared.words.TheConstants.{BEGIN, BEGIN_END, FIGURES, FOUND, FOUND_END}
use Rattle.ill_page.specs.declared.words.TheConstants.{GROUP, NUMBER, SEARCH, SEARCH_END}
use Rattle.ill_page.specs.Forms.{act_fields, hidden_text}

-- ---- the search

-- Returns the form of the search, with these words.
unfoldable pub search_text : (find : List ℕ) → List ℕ
search_text find = SEARCH.now ++ (html_escaped find ++ SEARCH_END.now)

-- Returns the line that says which words are sought, if there are any.
abbrev pub sought_text : (find : Option (List ℕ)) → List ℕ
sought_text None = []
sought_text (Some words) = FOUND.now ++ (html_text words ++ FOUND_END.now)

-- Returns the words that are sought, or the empty text if there are none.
abbrev pub or_none : (find : Option (List ℕ)) → List ℕ
or_none None = []
or_none (Some words) = words

-- Returns the beginning of the page of all desks.
unfoldable pub desks_begin : Date → (find : Option (List ℕ)) → List ℕ
desks_begin today find = page_head_with STYLE.now today ++ (search_text (or_none find) ++ sought_text find)

-- ---- a new loan

-- Returns the group of a loan as the value of an input, or no text if there is no loan.
abbrev pub group_of : Option Side → List ℕ
group_of None = []
group_of (Some side) = html_escaped (txn_of side).group

-- Returns the group that is proposed for a new loan: that of the last loan. Without a loan it is empty.
abbrev pub known_group : List Side → List ℕ
known_group sides = group_of (slice_get sides (length sides - 1))

-- Returns the number that is proposed for a new loan: the day, and the count of all loans with the new one.
unfoldable pub next_number : Date → List Side → List ℕ
next_number today sides = date_text today ++ (codes "-" ++ decimal (length sides + 1))

-- Returns the inputs that name a new loan, with what is proposed for them, and all that follows.
unfoldable pub proposed_text : Date → List Side → List ℕ
proposed_text today sides =
    GROUP.now ++ (known_group sides ++ (NUMBER.now ++ (next_number today sides ++ BEGIN_END.now)))

-- Returns the form that begins a loan at the desk in `file`.
unfoldable pub begin_form : Date → (file : List ℕ) → List Side → List ℕ
begin_form today file sides =
    FORM.now ++ (hidden_text (codes "desk") file ++ (act_fields (codes "new") Request ++ proposed_text today sides))

-- Returns the form that begins a loan, below the name of its desk.
unfoldable pub begin_text : Date → (file : List ℕ) → List Side → List ℕ
begin_text today file sides = BEGIN.now ++ (html_text file ++ (BEGUN.now ++ begin_form today file sides))

-- Returns the form of a new loan, at the desk of a requester.
abbrev pub new_text : Date → (file : List ℕ) → Role → List Side → List ℕ
new_text today file Requester sides = begin_text today file sides
new_text today file Responder sides = []

-- ---- a desk

-- A desk that is shown: the day, the words that are sought, if any are, its file, its role, its sides and its annex.
pub record DeskSeen : Type 0 where
  pub today : Date
  pub find : Option (List ℕ)
  pub file : List ℕ
  pub role : Role
  pub sides : List Side
  pub annex : AnnexRead

-- Returns what a `DeskShown` of the code holds.
abbrev pub desk_seen : DeskShown → DeskSeen
desk_seen shown = record {
  today = shown.today;
  find = option_map (λ words. words.now) shown.find;
  file = shown.file.now;
  role = shown.sides.now.role;
  sides = shown.sides.now.sides;
  annex = annex_of shown.annex.now;
}

-- Returns the view of the loans of a desk: each has a link to its page.
abbrev pub view_of : DeskSeen → PageShown
view_of seen = record { today = seen.today; find = seen.find; linked = Some seen.file }

-- Returns the part of a desk: its loans, each with a link to its page, and the form of a new loan.
unfoldable pub desk_part : DeskSeen → List ℕ
desk_part seen =
    desk_text (view_of seen) seen.file seen.sides seen.annex ++ new_text seen.today seen.file seen.role seen.sides

-- The end of the page of all desks: the form that asks for figures.
unfoldable pub desks_end : List ℕ
desks_end = FIGURES.now ++ END.now
