-- These definitions give the meaning of a line of a script of two sides. They are this profile's own.
use Rattle.std.specs.Prelude.{ℕ, Bool, false, not, ◌==◌, if◌then◌else◌, List, [], ◌∷◌, length, bytes_eq, codes, Option, Some}
use Rattle.std.specs.Prelude.{None, option_map}
use Rattle.std.specs.List.{slice_split, filter}
use Rattle.ill_record.specs.declared.role.Role.{Role}
use Rattle.ill_world.specs.declared.event.Event.{Event}
use Rattle.ill_world.specs.declared.event.Event.TheVariants.{Wish, Deed, Save, SaveFault, Send, Deliver, Noise, Restart}
use Rattle.ill_script.specs.declared.script_line.ScriptLine.{ScriptLine}
use Rattle.ill_script.specs.declared.script_line.ScriptLine.TheVariants as lines
use Rattle.ill_words.specs.Words.{◌>>=◌, named, who_named, committed_named, day_of, number_of, bytes_of, wish_of, deed_of}

-- Returns the words of a line: its nonempty parts between spaces.
unfoldable pub words_of : List ℕ → List (List ℕ)
words_of line = filter (λ word. not (length word == 0)) (slice_split (λ byte. byte == 0x20) line)

-- Returns the event of the words after `responder`: a day, and a deed. No due day is counted from another day.
abbrev pub deed_event : List (List ℕ) → Option Event
deed_event [] = None
deed_event (today ∷ words) = do
  day ← day_of today
  deed ← deed_of None words
  Some (Deed deed day)

-- Returns the event of a verb and the side `who`, without further words, if they say one.
abbrev pub bare_event : List ℕ → Role → Option Event
bare_event verb who = named ((codes "save", Save who) ∷ (codes "restart", Restart who) ∷ []) verb

-- Returns the event of a verb, the side `who` and one more word, if they say one.
abbrev pub event_with : List ℕ → List ℕ → Role → Option Event
event_with verb word who =
    if bytes_eq verb (codes "save-fault") then option_map (SaveFault who) (committed_named word)
    else if bytes_eq verb (codes "send") then option_map (Send who) (number_of word)
    else if bytes_eq verb (codes "deliver") then option_map (Deliver who) (number_of word)
    else if bytes_eq verb (codes "noise") then option_map (Noise who) (bytes_of word)
    else None

-- Returns the event of a verb and the words after it, if they say one. The first of these words names a side.
abbrev pub side_event : List ℕ → List (List ℕ) → Option Event
side_event verb (side ∷ []) = who_named side >>= bare_event verb
side_event verb (side ∷ word ∷ []) = who_named side >>= event_with verb word
side_event verb words = None

-- Returns the event of `words`, if they say one.
unfoldable pub event_of : List (List ℕ) → Option Event
event_of [] = None
event_of (first ∷ words) =
    if bytes_eq first (codes "requester") then option_map Wish (wish_of words)
    else if bytes_eq first (codes "responder") then deed_event words
    else side_event first words

-- Returns a line with this event, or a bad line if there is none.
abbrev pub line_with : Option Event → ScriptLine Event
line_with (Some event) = lines.Event event
line_with None = lines.Bad

-- Returns the meaning of the words of a line. A line without words is skipped.
abbrev pub line_of : List (List ℕ) → ScriptLine Event
line_of [] = lines.Skipped
line_of (word ∷ words) = line_with (event_of (word ∷ words))

-- Returns true if a line is a remark: its first byte is the number sign.
abbrev pub is_remark : List ℕ → Bool
is_remark [] = false
is_remark (byte ∷ bytes) = byte == 0x23

-- Returns the meaning of a line. A remark is skipped.
unfoldable pub meaning : List ℕ → ScriptLine Event
meaning line = if is_remark line then lines.Skipped else line_of (words_of line)
