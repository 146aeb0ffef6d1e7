-- Proves that the day of the last line that names one of some messages is the day of the latest of their last lines.
use Rattle.std.proofs.Common.{◌≡◌, ℕ, suc, Bool, true, false, nat_lt, if◌then◌else◌, List, [], ◌∷◌, fold, map}
use Rattle.std.proofs.Common.{bytes_eq, Option, Some, None, IfSome, option_map, refl, sym, ap, ◌∙◌, lt_trans, le_of_lt}
use Rattle.std.proofs.Common.{lt-suc_self, Vec, Global}
use Rattle.std.specs.Prelude.{cond, find}
use Rattle.std.specs.Option.{option_or}
use Rattle.std.proofs.lemmas.Bool.{le-ltb, lt-ltb, ltb-true}
use Rattle.std.proofs.lemmas.Slice.Eq.{bytes_eq-Decides}
use Rattle.ill_values.specs.Day.{Date}
use Rattle.ill_words.specs.Words.{◌>>=◌}
use Rattle.ill_beside.specs.declared.diary.Message.{Message}
use Rattle.ill_beside.specs.declared.keyed_diary.LastLine.{LastLine}
use Rattle.ill_beside.specs.Diary.{Named, Said, named, said_by}
use Rattle.ill_beside.specs.KeyedDiary.{key_said, last_after, last_kept, last_named, later, latest, latest_among, looks_last}
use Rattle.ill_beside.specs.KeyedDiary.{with_line}
use Rattle.ill_beside.specs.Places.{ArePlaces, ByKey, has_key}
use Rattle.ill_beside.specs.Since.{day_said, day_printed, last_day}
use Rattle.ill_beside.proofs.PlacesLemmas.{counted, kept_enough}

-- ---- keys: they may be compared in either order

-- If `one` is true exactly if `other` is, they are equal.
same_test : (one other : Bool) → (one ≡ true → other ≡ true) → (other ≡ true → one ≡ true) → one ≡ other
same_test true other there back = sym (there refl)
same_test false true there back = back refl
same_test false false there back = refl

-- `bytes_eq` gives the same for `one` and `other` as for `other` and `one`.
bytes_eq_swapped : (one other : List ℕ) → bytes_eq one other ≡ bytes_eq other one
bytes_eq_swapped one other =
    same_test (bytes_eq one other) (bytes_eq other one)
    (λ is. (bytes_eq-Decides other one).1 (sym ((bytes_eq-Decides one other).0 is)))
    (λ is. (bytes_eq-Decides one other).1 (sym ((bytes_eq-Decides other one).0 is)))

-- ---- the later of two lines

-- Returns the day of a line, if there is one.
abbrev pub day_of_line : Option LastLine → Option Date
day_of_line found = option_map (λ last. last.day) found

-- If a line is `found`, it stands before `place`.
abbrev pub IsBefore : (place : ℕ) → Option LastLine → Type 0
IsBefore place found = IfSome found (λ last. nat_lt last.place place ≡ true)

-- If `P` holds of `one` and of `other`, it holds of the one that `test` chooses.
chosen : {A : Type 0} (P : A → Type 0) (test : Bool) (one other : A) → P one → P other → P (if test then one else other)
chosen P true one other first second = first
chosen P false one other first second = second

-- If both lines stand before a place, the later does.
later_before : (place : ℕ) (one other : Option LastLine) → IsBefore place one → IsBefore place other
    → IsBefore place (later one other)
later_before place None other first second = second
later_before place (Some one) None first second = first
later_before place (Some one) (Some other) first second =
    chosen (IsBefore place) (nat_lt other.place one.place) (Some one) (Some other) first second

-- A line that stands before a place stands before the next one.
next_before : (place : ℕ) (found : Option LastLine) → IsBefore place found → IsBefore (suc place) found
next_before place None before = tt
next_before place (Some last) before =
    lt-ltb last.place (suc place) (lt_trans (ltb-true last.place place before) (lt-suc_self place))

-- If the line `found` stands before `place`, the last line after that at `place` stands before the next place.
after_before : (key : List ℕ) (place : ℕ) (says : Option Said) (found : Option LastLine) → IsBefore place found
    → IsBefore (suc place) (last_after key place says found)
after_before key place None found before = next_before place found before
after_before key place (Some says) found before =
    chosen (IsBefore (suc place)) (bytes_eq says.message key) (Some (record { place = place; day = says.day })) found
    (lt-ltb place (suc place) (lt-suc_self place)) (next_before place found before)

-- ---- one more line

-- `last` gives the last line of each key so far. Each is `before` the line `new`, which names the keys of which
-- `names` is true.
module _ (last : List ℕ → Option LastLine) (names : List ℕ → Bool) (new : LastLine)
    (before : (key : List ℕ) → IsBefore new.place (last key)) where
  -- Returns the last line of each key: the new one for those that it names.
  abbrev with_new : List ℕ → Option LastLine
  with_new key = if names key then Some new else last key

  -- If a line is `found` before the new one, the later of both is the new one.
  new_is_later : (found : Option LastLine) → IsBefore new.place found → later found (Some new) ≡ Some new
  new_is_later None is = refl
  new_is_later (Some one) is =
      ap (λ (test : Bool). if test then Some one else Some new)
      (le-ltb new.place one.place (le_of_lt (ltb-true one.place new.place is)))

  -- If the `other` line is before the new one, the later of both is the new one.
  new_stays : (other : Option LastLine) → IsBefore new.place other → later (Some new) other ≡ Some new
  new_stays None is = refl
  new_stays (Some other) is = ap (λ (test : Bool). if test then Some new else Some other) is

  -- The new line is not later than itself.
  new_is_itself : (test : Bool) → (if test then Some new else Some new) ≡ Some new
  new_is_itself true = refl
  new_is_itself false = refl

  -- The later of the new line and the last line of `key` is the new line. `named_so` is true if the new line names
  -- `key`.
  new_is_later_for : (key : List ℕ) (named_so : Bool) → later (Some new) (if named_so then Some new else last key) ≡ Some new
  new_is_later_for key true = new_is_itself (nat_lt new.place new.place)
  new_is_later_for key false = new_stays (last key) (before key)

  -- Returns the latest of the last lines of `messages` and the line found so far.
  abbrev latest_from : (List ℕ → Option LastLine) → Option LastLine → List Named → Option LastLine
  latest_from of found messages = fold (λ found message. later found (of message.key)) found messages

  -- The latest of the new line and the last lines of `messages` is the new line.
  stays : (messages : List Named) → latest_from with_new (Some new) messages ≡ Some new
  stays [] = refl
  stays (message ∷ messages) =
      ap (λ (found : Option LastLine). latest_from with_new found messages) (new_is_later_for message.key (names message.key))
      ∙ stays messages

  -- `new_counts` holds with `message` before `messages`, if it holds of `messages` (the premise). If the new line
  -- names `message` (`named_so`), it is the latest.
  new_counts_with : (found : Option LastLine) → IsBefore new.place found → (message : Named) (messages : List Named)
      → option_or (option_map (λ message. new.day) (find (λ message. names message.key) messages))
      (day_of_line (latest_from last (later found (last message.key)) messages))
      ≡ day_of_line (latest_from with_new (later found (last message.key)) messages)
      → (named_so : Bool)
      → option_or
      (option_map (λ message. new.day) (cond named_so (Some message) (find (λ message. names message.key) messages)))
      (day_of_line (latest_from last (later found (last message.key)) messages))
      ≡ day_of_line (latest_from with_new (later found (if named_so then Some new else last message.key)) messages)
  new_counts_with found is message messages others true =
      sym (ap day_of_line
      (ap (λ (so_far : Option LastLine). latest_from with_new so_far messages) (new_is_later found is) ∙ stays messages))
  new_counts_with found is message messages others false = others

  -- If the new line names one of `messages`, its day is that of the latest line. Else the latest line is what it was
  -- without the new one.
  new_counts : (found : Option LastLine) → IsBefore new.place found → (messages : List Named)
      → option_or (option_map (λ message. new.day) (find (λ message. names message.key) messages))
      (day_of_line (latest_from last found messages))
      ≡ day_of_line (latest_from with_new found messages)
  new_counts found is [] = refl
  new_counts found is (message ∷ messages) =
      new_counts_with found is message messages
      (new_counts (later found (last message.key)) (later_before new.place found (last message.key) is (before message.key))
      messages)
      (names message.key)

-- ---- all lines: the last day is the day of the latest of the last lines

-- `messages` are the messages of the record of a loan.
module _ (messages : List Named) where
  -- Let all lines so far stand before `place`. The line there changes the last day as it changes the day of the latest
  -- line.
  line_counts : (place : ℕ) (last : List ℕ → Option LastLine) → ((key : List ℕ) → IsBefore place (last key))
      → (says : Option Said) → option_or (says >>= day_said messages) (day_of_line (latest last messages))
      ≡ day_of_line (latest (λ key. last_after key place says (last key)) messages)
  line_counts place last before None = refl
  line_counts place last before (Some says) =
      ap (λ (names : List ℕ → Bool). option_or (option_map (λ message. says.day) (find (λ message. names message.key) messages))
      (day_of_line (latest last messages))) (λ i key. bytes_eq_swapped key says.message i)
      ∙ new_counts last (λ key. bytes_eq says.message key) (record { place = place; day = says.day }) before None tt messages

  -- Let `day` be the day of the latest line so far. After `lines` the last day is again that of the latest line.
  lines_count : (place : ℕ) (last : List ℕ → Option LastLine) → ((key : List ℕ) → IsBefore place (last key))
      → (day : Option Date) → day ≡ day_of_line (latest last messages) → (lines : List (List ℕ))
      → fold (λ found line. option_or (day_printed messages line) found) day lines
      ≡ day_of_line (latest (λ key. (fold (with_line key) (place, last key) lines).1) messages)
  lines_count place last before day is [] = is
  lines_count place last before day is (line ∷ lines) =
      lines_count (suc place) (λ key. last_after key place (said_by line) (last key))
      (λ key. after_before key place (said_by line) (last key) (before key))
      (option_or (day_printed messages line) day)
      (ap (option_or (day_printed messages line)) is ∙ line_counts place last before (said_by line)) lines

  -- The day of the latest of the last lines of `messages` is the last day of `lines`.
  pub latest_counts : (lines : List (List ℕ)) → day_of_line (latest (last_named lines) messages) ≡ last_day messages lines
  latest_counts lines = sym (lines_count 0 (λ key. None) (λ key. tt) None (none messages) lines)
    where
      -- Before the first line, no message has a last line.
      none : (messages : List Named) → None ≡ day_of_line (latest (λ key. None) messages)
      none [] = refl
      none (message ∷ messages) = none messages

-- ---- the lines at the places that are kept: they give the last line and the last day of all lines

-- If `line` names no message with this `key`, the last line `found` stays.
of_another : (key : List ℕ) (found : Option LastLine) (place : ℕ) (line : Vec ℕ Global) → has_key key (key_said line) ≡ false
    → looks_last key found place (Some line) ≡ found
of_another key found place line = go (said_by line.items)
  where
    -- A line that says nothing is no last line, and neither is one with another key.
    go : (says : Option Said) → has_key key (option_map (λ s. s.message) says) ≡ false → last_after key place says found ≡ found
    go None other = refl
    go (Some says) other = ap (λ (same : Bool). if same then Some (record { place = place; day = says.day }) else found) other

-- A walk that counts `lines` gives what one over their bytes gives (`with_line`).
lines_counted : (key : List ℕ) (place : ℕ) (found : Option LastLine) (lines : List (Vec ℕ Global))
    → fold (counted (looks_last key)) (place, found) lines ≡ fold (with_line key) (place, found) (map (λ line. line.items) lines)
lines_counted key place found [] = refl
lines_counted key place found (line ∷ lines) =
    lines_counted key (suc place) (last_after key place (said_by line.items) found) lines

-- `by_key` has the places of `lines`, by the messages that they name.
module _ (by_key : ByKey) (lines : List (Vec ℕ Global)) (are : ArePlaces key_said by_key lines) where
  -- Returns the bytes of the lines.
  abbrev all_lines : List (List ℕ)
  all_lines = map (λ line. line.items) lines

  -- The last of the lines at the places of a key is the last one that names its message.
  last_is : (key : Vec ℕ Global) → last_kept by_key lines key ≡ last_named all_lines key.items
  last_is key =
      kept_enough key_said by_key lines are key (looks_last key.items) (of_another key.items) None
      ∙ ap (λ (all : ℕ × Option LastLine). all.1) (lines_counted key.items 0 None lines)

  -- From the line `found` on, the latest line at the places of `messages` is the latest of their last lines.
  kept_from : (found : Option LastLine) (messages : List Message)
      → fold (λ found message. later found (last_kept by_key lines message.key)) found messages
      ≡ fold (λ found message. later found (last_named all_lines message.key)) found (map named messages)
  kept_from found [] = refl
  kept_from found (message ∷ messages) =
      ap (λ (last : Option LastLine).
      fold (λ found message. later found (last_kept by_key lines message.key)) (later found last) messages)
      (last_is message.key)
      ∙ kept_from (later found (last_named all_lines message.key.items)) messages

  -- The day of the latest line at the places of `messages` is their last day in all lines.
  pub kept_counts : (messages : List Message)
      → day_of_line (latest_among by_key lines messages) ≡ last_day (map named messages) all_lines
  kept_counts messages = ap day_of_line (kept_from None messages) ∙ latest_counts (map named messages) all_lines
