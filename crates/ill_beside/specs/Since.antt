-- Since when a loan stands as it does: the day of the last line of a diary that names a message of its record.
use Rattle.std.specs.Prelude.{ℕ, if◌then◌else◌, List, [], ◌∷◌, ◌++◌, codes, fold, find, map, bytes_eq, Option, Some, None}
use Rattle.std.specs.Prelude.{option_map}
use Rattle.std.specs.Option.{option_or}
use Rattle.ill_values.specs.Day.{Date, date_text}
use Rattle.ill_values.specs.declared.apdu.Apdu.{Apdu}
use Rattle.ill_record.specs.declared.side.Side.{Side}
use Rattle.ill_record.specs.Side.{txn_of}
use Rattle.ill_words.specs.Words.{◌>>=◌}
use Rattle.ill_text.specs.Json.{Field, day, optional}
use Rattle.ill_text.specs.Lines.{line}
use Rattle.ill_beside.specs.declared.annex.Annex.{Annex}
use Rattle.ill_beside.specs.Diary.{Named, Said, messages_of, said_by}
use Rattle.ill_beside.specs.Kept.{kept_of}

-- The annex of a desk: the lines of the notes of staff and of the diary, and the messages that came. If news are told,
-- `news` are those of the messages that are told.
pub record AnnexRead : Type 0 where
  pub notes : List (List ℕ)
  pub diary : List (List ℕ)
  pub came : List Apdu
  pub news : Option (List Apdu)

-- Returns the annex that was read.
abbrev pub annex_of : Annex → AnnexRead
annex_of annex = record {
  notes = annex.notes;
  diary = annex.diary;
  came = annex.came;
  news = annex.news;
}

-- Returns the annex with its notes alone, and the news that are told.
abbrev pub notes_alone : AnnexRead → AnnexRead
notes_alone annex = record { notes = annex.notes; diary = []; came = []; news = annex.news }

-- Returns the day of what a line says, if the line names one of `messages`.
abbrev pub day_said : (messages : List Named) → Said → Option Date
day_said messages says =
    option_map (λ message. says.day) (find (λ message. bytes_eq message.key says.message) messages)

-- Returns the day that a line tells: its own day, if the line names one of `messages`. Else returns None.
abbrev pub day_printed : (messages : List Named) → List ℕ → Option Date
day_printed messages text = said_by text >>= day_said messages

-- Returns the day of the last of `lines` that names one of `messages`, if one does.
abbrev pub last_day : (messages : List Named) → (lines : List (List ℕ)) → Option Date
last_day messages lines = fold (λ found line. option_or (day_printed messages line) found) None lines

-- Returns the day since which a loan stands as it does, if the annex tells it.
unfoldable pub since_of : AnnexRead → Side → Option Date
since_of annex side = last_day (messages_of side (kept_of (txn_of side) annex.came)) annex.diary

-- Returns the line in `list` of the day since which a loan stands as it does, below the line of the loan. It is empty
-- if no day is known.
abbrev pub since_line : Option Date → List ℕ
since_line None = []
since_line (Some d) = line (codes "    since") (date_text d)

-- Returns the field of the day since which a loan stands as it does. The field is `null` if no day is known.
abbrev pub since_fields : Option Date → List Field
since_fields since = (codes "since", optional day since) ∷ []
