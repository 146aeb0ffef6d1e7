-- The fields of each line of the commands that write objects of JSON, in the order of the lines.
use Rattle.std.specs.Prelude.{ℕ, ◌≤◌, ◌<◌, ◌^◌, List, [], ◌∷◌, ◌++◌, map, filter, Option, IfSome}
use Rattle.std.specs.List.{flat_map}
use Rattle.ill_values.specs.Day.{Date}
use Rattle.ill_values.specs.declared.apdu.Apdu.{Apdu}
use Rattle.ill_der.specs.Faults.{place_of}
use Rattle.ill_saved.specs.declared.shown.Shown.{Shown}
use Rattle.ill_record.specs.declared.side.Side.{Side}
use Rattle.ill_saved.specs.Holdings.{DeskEntry}
use Rattle.ill_values.specs.Apdu.{IsApdu}
use Rattle.ill_record.specs.Ranges.{Each, IsSide}
use Rattle.ill_text.specs.Json.{Field}
use Rattle.ill_text.specs.ApduObject.{apdu_fields}
use Rattle.ill_words.specs.Waiting.{most_urgent_first}
use Rattle.ill_list.specs.declared.wanted.Wanted.{Wanted}
use Rattle.ill_work.specs.declared.work.Work.{Work}
use Rattle.ill_work.specs.Work.{all_work}
use Rattle.ill_beside.specs.Diary.{history_fields, history_of, messages_of}
use Rattle.ill_list.specs.Seeking.{Seeking}
use Rattle.ill_list.specs.List.{has_work, counts_of}
use Rattle.ill_list.specs.Listing.{chosen_of}
use Rattle.ill_beside.specs.Notes.{note_fields}
use Rattle.ill_news.specs.News.{news_fields}
use Rattle.ill_beside.specs.Since.{AnnexRead}
use Rattle.ill_show.specs.Objects.{status_fields, kept_fields}
use Rattle.ill_inbox.specs.declared.tally.Tally.{Tally}
use Rattle.ill_night.specs.declared.verdict.Unfit.{Unfit}
use Rattle.ill_night.specs.declared.verdict.Unfit.TheVariants.{NoMessage}
use Rattle.ill_list.specs.ListObjects.{full_row_fields, counts_fields}
use Rattle.ill_rows.specs.Heading.{file_fields}
use Rattle.ill_show.specs.Objects.{leaves_fields}

-- ---- `list`

-- If news are printed in a list, each of their messages is in range.
abbrev pub ArePrintedNews : AnnexRead → Type 0
ArePrintedNews annex = IfSome annex.news (Each IsApdu)

-- Returns the fields in the line of a listed loan with this work. `file` is the path of its desk, if it is printed.
abbrev pub fields_of_row : Option (List ℕ) → AnnexRead → Option Date → Work → Side → List Field
fields_of_row file annex today work side = full_row_fields annex today work side ++ file_fields file

-- Returns the fields in the line of each of the `listed` loans that have this work.
abbrev pub fields_of_work : Option (List ℕ) → AnnexRead → Wanted → List Side → Work → List (List Field)
fields_of_work file annex wanted listed work =
    map (fields_of_row file annex wanted.today work) (filter (has_work wanted work) listed)

-- Returns the fields in the line of the counts.
abbrev pub fields_of_counts : Option (List ℕ) → Wanted → List Side → List Field
fields_of_counts file wanted sides = counts_fields (counts_of wanted sides) ++ file_fields file

-- Returns the fields in each line of a list of `sides`, kind of work by kind of work. The counts come last.
abbrev pub fields_in_order : Option (List ℕ) → Wanted → Seeking → List Side → List (List Field)
fields_in_order file wanted seeking sides =
    flat_map (fields_of_work file seeking.annex wanted (chosen_of wanted seeking sides)) all_work
    ++ fields_of_counts file wanted sides ∷ []

-- Returns the fields in each line of `list`. Loans with one kind of work are in the order of their deadlines.
abbrev pub fields_of_list : Option (List ℕ) → Wanted → Seeking → List Side → List (List Field)
fields_of_list file wanted seeking sides = fields_in_order file wanted seeking (most_urgent_first sides)

-- ---- `news`

-- Returns the fields in the line of a message that is printed in the news of a desk with `sides`.
abbrev pub fields_of_news : Option (List ℕ) → List Side → Apdu → List Field
fields_of_news file sides a = news_fields sides a ++ file_fields file

-- ---- `status` and `loan`

-- A desk may hold the side of `entry`. The number of its released messages is a byte.
pub record IsEntry (entry : DeskEntry) : Type 0 where
  pub side : IsSide entry.side
  pub released : entry.released ≤ 255

-- Returns the fields in the line of `status` for a side.
abbrev pub fields_of_status : DeskEntry → List Field
fields_of_status entry = status_fields entry.side entry.released

-- Returns the fields in the line of `loan` with a note and a history by a diary. `came` are the messages that came.
abbrev pub fields_of_loan : (words : Option (List ℕ)) → (diary : List (List ℕ)) → DeskEntry → List Apdu → List Field
fields_of_loan words diary entry came =
    kept_fields entry came ++ note_fields words ++ history_fields (history_of (messages_of entry.side came) diary)

-- Returns the fields of a message within the line of `loan`. If the number of released messages is given, the field
-- `leaves` is among them.
abbrev pub fields_of_message : Option ℕ → Apdu → List Field
fields_of_message released a = apdu_fields a ++ leaves_fields released a

-- ---- `exchange`

-- A side is shown with at most 255 issued and 255 released messages.
pub record IsStanding (now : Shown) : Type 0 where
  pub released : now.released ≤ 255
  pub issued : now.issued ≤ 255

-- If a message file has no message for a fault in its bytes, the offset of this fault has 32 bits.
abbrev pub HasNearPlace : Unfit → Type 0
HasNearPlace (NoMessage fault) = IfSome (place_of fault) (λ at. at < 2 ^ 32)
HasNearPlace unfit = Unit {0}

-- Each count of message files has 64 bits. `further` message files wait.
pub record AreFew (tally : Tally) (further : ℕ) : Type 0 where
  pub taken : tally.taken < 2 ^ 64
  pub repeat : tally.repeat < 2 ^ 64
  pub stale : tally.stale < 2 ^ 64
  pub conflict : tally.conflict < 2 ^ 64
  pub unknown : tally.unknown < 2 ^ 64
  pub quarantined : tally.quarantined < 2 ^ 64
  pub left : tally.left < 2 ^ 64
  pub waiting : further < 2 ^ 64
