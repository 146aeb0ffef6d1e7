-- Defines the order of loans by their kinds of work, and the number of loans of each kind. Both are this profile's own.
use Rattle.std.specs.Prelude.{ℕ, Bool, nat_lt, List, [], ◌∷◌, count_by}
use Rattle.ill_values.specs.Day.{Date}
use Rattle.ill_record.specs.declared.side.Side.{Side}
use Rattle.ill_words.specs.Waiting.{ordered, most_urgent_first}
use Rattle.ill_work.specs.declared.work.Work.{Work}
use Rattle.ill_work.specs.Work.{is_work_among, urgency_of}
use Rattle.ill_work.specs.Table.{kind_of_work}

-- Returns the urgency of the work with `side` on the day `today`. A due date is soon if it is at most `ahead` days
-- away.
abbrev pub urgency_on : Date → ℕ → Side → ℕ
urgency_on today ahead side = urgency_of (kind_of_work today ahead side)

-- Returns true if the work with `side` on the day `today` is more pressing than the work with `other`. A due date is
-- soon if it is at most `ahead` days away.
abbrev pub is_more_pressing : Date → ℕ → Side → Side → Bool
is_more_pressing today ahead side other = nat_lt (urgency_on today ahead side) (urgency_on today ahead other)

-- Returns the loans in the order of their kinds of work on the day `today`, the most pressing first. Loans of one kind
-- are in the order of their deadlines, and loans without a deadline last. A due date is soon if it is at most `ahead`
-- days away.
abbrev pub most_pressing_first : Date → ℕ → List Side → List Side
most_pressing_first today ahead sides = ordered (is_more_pressing today ahead) (most_urgent_first sides)

-- Returns true if `work` is the work with `side` on the day `today`. A due date is soon if it is at most `ahead` days
-- away.
abbrev pub has_work : Date → ℕ → Work → Side → Bool
has_work today ahead work side = is_work_among (work ∷ []) (kind_of_work today ahead side)

-- Returns the number of `sides` with the work `work` on the day `today`. A due date is soon if it is at most `ahead`
-- days away.
abbrev pub count_of : Date → ℕ → Work → List Side → ℕ
count_of today ahead work sides = count_by (has_work today ahead work) sides
