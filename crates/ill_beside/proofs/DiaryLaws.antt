-- Proves which lines of a diary are in the history of a loan.
use Rattle.std.proofs.Common.{◌≡◌, ℕ, Bool, true, false, true≢false, List, [], ◌∷◌, ◌++◌, Option, Some, None, IfSome, is_some}
use Rattle.std.proofs.Common.{refl, sym, ap, subst, ◌∙◌}
use Rattle.std.specs.Prelude.{cond, find, bytes_eq, option_map, option_to_list, if◌then◌else◌, ◌&&◌, ◌||◌, ◌==◌}
use Rattle.std.specs.List.{list_any}
use Rattle.std.proofs.lemmas.Bool.{eq-eqb}
use Rattle.std.proofs.lemmas.Option.{same_Some}
use Rattle.std.proofs.lemmas.Slice.Eq.{bytes_eq-Decides}
use Rattle.ill_record.specs.Ranges.{Each}
use Rattle.ill_words.specs.Words.{◌>>=◌}
use Rattle.ill_beside.specs.Diary.{Named, Said, PrintedPart, history_of, is_named, is_of_record, part_at}
use Rattle.ill_beside.specs.Diary.{part_of, part_said, said_by, tells_of}

-- ---- one line: what it adds to the history

-- A line tells nothing if a later one names its message.
pub older_tells_nothing : (messages : List Named) (line : List ℕ) (later : List (List ℕ)) (says : Said) → said_by line ≡ Some says
    → is_named says.message later ≡ true → history_of messages (line ∷ later) ≡ history_of messages later
unfolding history_of
older_tells_nothing messages line later says is named =
    ap (λ (found : Option Said). option_to_list (found >>= part_said messages later) ++ history_of messages later) is
    ∙ ap (λ (later_names : Bool). option_to_list (if later_names then None
    else option_map (part_of says) (find (λ message. bytes_eq message.key says.message) messages))
    ++ history_of messages later) named

-- If a line names `message` of the record, and no later line names it, the line's part comes first in the history.
pub last_tells : (messages : List Named) (line : List ℕ) (later : List (List ℕ)) (says : Said) (message : Named)
    → said_by line ≡ Some says → is_named says.message later ≡ false
    → find (λ message. bytes_eq message.key says.message) messages ≡ Some message
    → history_of messages (line ∷ later) ≡ part_of says message ∷ history_of messages later
unfolding history_of
last_tells messages line later says message is last found =
    ap (λ (said : Option Said). option_to_list (said >>= part_said messages later) ++ history_of messages later) is
    ∙ ap (λ (later_names : Bool). option_to_list (if later_names then None
    else option_map (part_of says) (find (λ message. bytes_eq message.key says.message) messages))
    ++ history_of messages later) last
    ∙ ap (λ (met : Option Named). option_to_list (option_map (part_of says) met) ++ history_of messages later) found

-- ---- all lines: each part of a history tells of a message of the record

-- A part tells of the message from which it has its word and its number.
tells_its_own : (says : Said) (message : Named) → tells_of (part_of says message) message ≡ true
tells_its_own says message =
    ap (λ (same : Bool). same && message.number == message.number) ((bytes_eq-Decides message.what message.what).1 refl)
    ∙ eq-eqb message.number message.number refl

-- One of two tests passes if the second does.
or_true : (a : Bool) {b : Bool} → b ≡ true → (a || b) ≡ true
or_true true is = refl
or_true false is = is

-- If `message` is found among `first` and `others`, its part tells of one of them. The first premise is the statement
-- for `others` alone.
found_here : (says : Said) (test : Named → Bool) (first : Named) (others : List Named) (message : Named) (passes : Bool)
    → (find test others ≡ Some message → list_any (tells_of (part_of says message)) others ≡ true)
    → cond passes (Some first) (find test others) ≡ Some message
    → list_any (tells_of (part_of says message)) (first ∷ others) ≡ true
found_here says test first others message true later met =
    ap (λ (b : Bool). b || list_any (tells_of (part_of says message)) others)
    (subst (λ (m : Named). tells_of (part_of says m) first ≡ true) (same_Some first message met) (tells_its_own says first))
found_here says test first others message false later met = or_true (tells_of (part_of says message) first) (later met)

-- If `message` is the first of `messages` that passes `test`, its part tells of one of `messages`.
found_there : (says : Said) (test : Named → Bool) (messages : List Named) (message : Named) → find test messages ≡ Some message
    → list_any (tells_of (part_of says message)) messages ≡ true
found_there says test [] message is = absurd (true≢false (ap is_some (sym is)))
found_there says test (first ∷ others) message is =
    found_here says test first others message (test first) (found_there says test others message) is

-- `messages` are the messages of the record of a loan.
module _ (messages : List Named) where
  -- The part is ours: it tells of one of `messages`.
  abbrev pub IsOurs : PrintedPart → Type 0
  IsOurs part = is_of_record messages part ≡ true

  -- If a part is ours, and the others are, all are.
  with_one : (part : Option PrintedPart) (others : List PrintedPart) → IfSome part IsOurs → Each IsOurs others
      → Each IsOurs (option_to_list part ++ others)
  unfolding Each
  with_one None others ours each = each
  with_one (Some part) others ours each = (ours, each)

  -- The part that a line tells is ours.
  line_ours : (later : List (List ℕ)) (line : List ℕ) → IfSome (part_at messages later line) IsOurs
  line_ours later line = go (said_by line)
    where
      -- If no later line names the message of `says`, and it is `found` among `messages`, its part is ours.
      pick : (says : Said) (later_names : Bool) (found : Option Named)
          → find (λ message. bytes_eq message.key says.message) messages ≡ found
          → IfSome (if later_names then None else option_map (part_of says) found) IsOurs
      pick says true found is = tt
      pick says false None is = tt
      pick says false (Some message) is = found_there says (λ other. bytes_eq other.key says.message) messages message is

      -- A line that says nothing tells no part.
      go : (said : Option Said) → IfSome (said >>= part_said messages later) IsOurs
      go None = tt
      go (Some says) = pick says (is_named says.message later) _ refl

  -- All parts of a history are ours.
  pub all_ours : (lines : List (List ℕ)) → Each IsOurs (history_of messages lines)
  unfolding Each history_of
  all_ours [] = tt
  all_ours (line ∷ later) =
      with_one (part_at messages later line) (history_of messages later) (line_ours later line) (all_ours later)
