-- The loans in the output of `list`, their work, the line of each, and the line of the counts.
use Rattle.std.specs.Prelude.{ℕ, ◌-◌, max, Bool, true, false, ◌&&◌, ◌||◌, if◌then◌else◌, List, [], ◌∷◌, ◌++◌, length, fold}
use Rattle.std.specs.Prelude.{count_by, filter, Option, Some, None, is_none, not, codes}
use Rattle.std.specs.List.{join_by}
use Rattle.std.specs.Fmt.{decimal}
use Rattle.ill_values.specs.Day.{Date}
use Rattle.ill_values.specs.declared.apdu.Apdu.{Apdu}
use Rattle.ill_core.specs.declared.state.State.{State}
use Rattle.ill_core.specs.State.{is_among, state_name}
use Rattle.ill_core.specs.Verbs.{verb_name}
use Rattle.ill_record.specs.declared.side.Side.{Side}
use Rattle.ill_record.specs.Side.{txn_of, state_of, due_date_of}
use Rattle.ill_record.specs.Sides.{most_sides}
use Rattle.ill_words.specs.Shown.{due_text}
use Rattle.ill_list.specs.declared.wanted.Which.{Which}
use Rattle.ill_list.specs.declared.wanted.Which.TheVariants.{All, Open, Mine}
use Rattle.ill_list.specs.declared.wanted.Wanted.{Wanted}
use Rattle.ill_list.specs.declared.counts.Counts.{Counts}
use Rattle.ill_list.specs.declared.row.Columns.{Columns}
use Rattle.ill_list.specs.ListedNews.{has_news}
use Rattle.ill_rows.specs.Cells.{cell, column, title_text}
use Rattle.ill_words.specs.Possible.{possible_on, request_of, item_asked}
use Rattle.ill_words.specs.Waiting.{is_sooner, waits_by_date}
use Rattle.ill_work.specs.declared.work.Work.{Work}
use Rattle.ill_work.specs.declared.work.Work.TheVariants.{Over}
use Rattle.ill_work.specs.Work.{is_work_among, wants_a_hand}
use Rattle.ill_work.specs.Table.{work_on}

-- ---- the work with a loan

-- Returns the kind of work with a loan on the day of the list. Without a day no date is past, and none is soon.
abbrev pub work_of : Wanted → Side → Work
work_of wanted side = work_on wanted.today wanted.ahead side

-- Returns true if `work` is the kind of work with the loan.
abbrev pub has_work : Wanted → Work → Side → Bool
has_work wanted work side = is_work_among (work ∷ []) (work_of wanted side)

-- Returns true if the loan wants a hand.
abbrev pub is_to_do : Wanted → Side → Bool
is_to_do wanted side = wants_a_hand (work_of wanted side)

-- Returns true if loans with this work are listed. `Mine` lists the work that wants a hand, and `Open` all but `Over`.
abbrev pub lists : Which → Work → Bool
lists All work = true
lists Open work = not (is_work_among (Over ∷ []) work)
lists Mine work = wants_a_hand work

-- Returns true for `Mine`, the list of the loans that want a hand or have news.
abbrev pub is_mine : Which → Bool
is_mine All = false
is_mine Open = false
is_mine Mine = true

-- ---- the loans that are listed

-- Returns true if the due date `due` is before the wanted day, or no day is wanted.
abbrev pub is_due_before : Option Date → Option Date → Bool
is_due_before None due = true
is_due_before (Some day) due = is_sooner due (Some day)

-- Returns true if `state` is the wanted state, or no state is wanted.
abbrev pub is_in : Option State → State → Bool
is_in None state = true
is_in (Some wanted) state = is_among (wanted ∷ []) state

-- Returns true if a loan meets the conditions on its due date and its state.
abbrev pub is_wanted : Wanted → Side → Bool
is_wanted wanted side =
    is_due_before wanted.due_before (due_date_of side) && is_in wanted.state (state_of side)

-- Returns true if a list has the loan for its work. The list of what wants a hand has it for its news too.
abbrev pub is_of_list : Wanted → (news : Option (List Apdu)) → Side → Bool
is_of_list wanted news side =
    lists wanted.which (work_of wanted side) || (is_mine wanted.which && has_news news side)

-- Returns true if a list has the loan, and the loan meets the conditions on its due date and its state.
abbrev pub is_listed : Wanted → (news : Option (List Apdu)) → Side → Bool
is_listed wanted news side = is_of_list wanted news side && is_wanted wanted side

-- Returns the loans that are listed, in the order of `sides`.
abbrev pub listed_of : Wanted → (news : Option (List Apdu)) → List Side → List Side
listed_of wanted news sides = filter (is_listed wanted news) sides

-- ---- the line of a loan

-- Returns the actions that the side may do on the day `today`, with a comma between two of them. If `today` is
-- `None`, these are the actions that it may do on some day.
abbrev pub verbs_text : Option Date → Side → List ℕ
verbs_text today side = join_by verb_name (codes ",") (possible_on today side)

-- Returns the actions of `verbs_text`, if the Bool is true: the list has a column of them.
abbrev pub actions_text : Bool → Option Date → Side → List ℕ
actions_text false today side = []
actions_text true today side = verbs_text today side

-- Returns the column of the actions of `verbs_text`, if the list has one.
abbrev pub actions_cell : Columns → Option Date → Side → List ℕ
actions_cell columns today side =
    if columns.has_actions then cell columns.actions (verbs_text today side) else []

-- Returns columns without a width.
abbrev pub no_columns : Bool → Columns
no_columns has_actions = record { has_actions = has_actions; state = 0; group = 0; transaction = 0; actions = 0 }

-- Returns `columns`, each made as wide as the text of `side` in it at least. Its actions are those of the day
-- `today`.
abbrev pub widened : Option Date → Columns → Side → Columns
widened today columns side = record {
  has_actions = columns.has_actions;
  state = max columns.state (length (state_name (state_of side)));
  group = max columns.group (length (column (txn_of side).group));
  transaction = max columns.transaction (length (column (txn_of side).transaction));
  actions = max columns.actions (length (actions_text columns.has_actions today side));
}

-- Returns the columns of a list: each is as wide as its longest text.
abbrev pub columns_of : Wanted → List Side → Columns
columns_of wanted listed = fold (widened wanted.today) (no_columns wanted.has_actions) listed

-- Returns the column of the due date of a loan.
abbrev pub due_cell : Side → List ℕ
due_cell side = cell 8 (due_text (due_date_of side))

-- Returns the columns of the name of a loan, and of its actions on the day `today` if the list has them.
unfoldable pub name_cells : Columns → Option Date → Side → List ℕ
name_cells columns today side =
    cell columns.group (column (txn_of side).group) ++ cell columns.transaction (column (txn_of side).transaction)
    ++ actions_cell columns today side

-- Returns the columns of a loan before its title: its state, its due date, and then those that `name_cells` returns.
unfoldable pub standing : Columns → Option Date → Side → List ℕ
standing columns today side =
    cell columns.state (state_name (state_of side)) ++ due_cell side ++ name_cells columns today side

-- Returns the line of a loan: its columns and its title.
unfoldable pub row : Columns → Option Date → Side → List ℕ
row columns today side =
    codes "  " ++ standing columns today side ++ title_text (item_asked (request_of side)) ++ codes "\n"

-- ---- the loans that a list without a day leaves out

-- Returns true if a list is of what wants a hand (`Mine`), and no day is given.
abbrev pub lacks_day : Wanted → Bool
lacks_day wanted = is_mine wanted.which && is_none wanted.today

-- Returns true if the loan is not listed without a day, and may want a hand by its date. It meets the other conditions.
abbrev pub is_left_out : Wanted → (news : Option (List Apdu)) → Side → Bool
is_left_out wanted news side = not (is_of_list wanted news side) && waits_by_date side && is_wanted wanted side

-- Returns the number of loans that a list leaves out since no day is given.
abbrev pub left_out : Wanted → (news : Option (List Apdu)) → List Side → ℕ
left_out wanted news sides = if lacks_day wanted then count_by (is_left_out wanted news) sides else 0

-- ---- counts

-- Returns the counts of a desk: all loans, open loans, loans that want a hand, and the room for further loans.
-- `wanted` has the day on which loans want a hand.
abbrev pub counts_of : Wanted → List Side → Counts
counts_of wanted sides = record {
  loans = length sides;
  open_loans = length sides - count_by (has_work wanted Over) sides;
  to_do = count_by (is_to_do wanted) sides;
  room = most_sides - length sides;
}

-- Returns the line of the counts.
unfoldable pub counts_line : Counts → List ℕ
counts_line counts =
    codes "loans " ++ decimal counts.loans ++ codes ", open " ++ decimal counts.open_loans
    ++ codes ", to do " ++ decimal counts.to_do ++ codes ", room for " ++ decimal counts.room ++ codes "\n"
