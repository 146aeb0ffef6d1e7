-- The requests of command lines: each is read from the words after the word of a command (this profile's
-- own).
use Rattle.std.specs.Prelude.{◌≡◌, ℕ, Bool, true, false, ◌||◌, if◌then◌else◌, List, map, codes, Option, None, Some, option_map}
use Rattle.std.specs.Prelude.{is_none, is_some, Result, Ok, Err, is_ok, ◌-◌, ◌&&◌, ◌==◌, not, [], ◌∷◌, length, slice_get, take}
use Rattle.std.specs.List.{list_any}
use Rattle.std.specs.Result.{result_ok}
use Rattle.std.specs.Str.{bytes_eq}
use Rattle.clap.specs.Words.{Row, Text, first_of, all_of}
use Rattle.ill_values.specs.Day.{Date, day_after}
use Rattle.ill_values.specs.Text.{qualifier_check}
use Rattle.ill_values.specs.TxnId.{Qualifiers, txn_id_of}
use Rattle.ill_core.specs.declared.state.State.{State}
use Rattle.ill_record.specs.declared.role.Role.{Role}
use Rattle.ill_days.specs.Days.{day_of_text}
use Rattle.ill_words.specs.Words.{◌>>=◌, who_named, number_of}
use Rattle.ill_values.specs.declared.fault.TextFault.{TextFault}
use Rattle.ill_text.specs.declared.fault.ToolFault.{ToolFault}
use Rattle.ill_text.specs.declared.fault.ToolFault.TheVariants.{Arguments, OutOfMemory}
use Rattle.ill_desk.specs.ActAs.{Asking}
use Rattle.ill_desk.specs.declared.take.TakeForm.{TakeForm}
use Rattle.ill_key.specs.declared.key.KeyDeed.{KeyDeed}
use Rattle.ill_key.specs.declared.key.KeyDeed.TheVariants as deeds
use Rattle.ill_figures.specs.Days.{span_between}
use Rattle.ill_figures.specs.declared.days.Span.{Span}
use Rattle.ill_figures.specs.declared.figures.FiguresView.{FiguresView}
use Rattle.ill_show.specs.Loan.{loan_form}
use Rattle.ill_beside.specs.Notes.{is_note, note_text}
use Rattle.ill_show.specs.declared.loan.LoanForm.{LoanForm}
use Rattle.ill_text.specs.Diary.{Stamped, is_name, stamped}
use Rattle.ill_text.specs.declared.form.Form.{Form}
use Rattle.ill_text.specs.declared.form.Form.TheVariants as forms
use Rattle.ill_night.specs.declared.night.Dates.{Dates}
use Rattle.ill_list.specs.declared.wanted.Which.{Which}
use Rattle.ill_list.specs.declared.wanted.Which.TheVariants as loans
use Rattle.ill_rows.specs.declared.soon.TheConstants.{SOON}
use Rattle.ill_list.specs.declared.wanted.Wanted.{Wanted}
use Rattle.ill_line.specs.declared.request.Refusal.{Refusal}
use Rattle.ill_line.specs.declared.request.Refusal.TheVariants.{Usage, Fault}
use Rattle.ill_line.specs.declared.request.Request.{Request}
use Rattle.ill_line.specs.declared.request.Request.TheVariants as requests
use Rattle.ill_line.specs.declared.command_line.Name.{Name}
use Rattle.ill_line.specs.declared.command_line.Name.TheVariants as names
use Rattle.ill_line.specs.declared.command_line.Argument.{Argument}
use Rattle.ill_line.specs.declared.command_line.Argument.TheVariants as arguments
use Rattle.ill_line.specs.declared.command_line.Argument.TheVariants.{NewFile, File, Folder, Group, Transaction, Today}
use Rattle.ill_line.specs.declared.command_line.Argument.TheVariants.{Words, Number, Long, Keep, Picture, Open, Mine, Json, Paths}
use Rattle.ill_line.specs.declared.command_line.Argument.TheVariants.{OnDay, DueBefore, InState, ReportDay, OutFolder, Stream, In}
use Rattle.ill_line.specs.declared.command_line.Argument.TheVariants.{Out, NightDay, Overdue, Expire, Copy, Heartbeat, NewGroup}
use Rattle.ill_line.specs.declared.command_line.Argument.TheVariants.{Ahead}
use Rattle.ill_line.specs.declared.command_line.Argument.TheVariants.{By, DryRun, Seen}
use Rattle.ill_line.specs.declared.command_line.Argument.TheVariants.{Actions, Last, Since, Title, NoteWords, Find, Notes}
use Rattle.ill_line.specs.declared.command_line.Argument.TheVariants.{SinceWhen, NightKey}
use Rattle.ill_line.specs.declared.command_line.Argument.TheVariants.{KeyFile, ShowKey, ReadKey, From, To, Csv}
use Rattle.ill_line.specs.CommandLine.{name_read, id_of, is_option}
use Rattle.ill_files.specs.Paths.{is_beside}
use Rattle.ill_core.specs.State.{state_named}

-- ---- the arguments

-- The arguments that `clap` found after the word of a command.
abbrev pub Found : Type 0
Found = List Row

-- Returns the text of `argument`, if the line has one.
abbrev pub text_of : Argument → Found → Option (List ℕ)
text_of argument found = first_of (id_of argument) found

-- Returns the role that the argument `Role` names, or None if it names no role.
abbrev pub role_of : Found → Option Role
role_of found = text_of arguments.Role found >>= who_named

-- Returns the transaction in the arguments, if both qualifiers are valid.
abbrev pub loan_of : Found → Option Qualifiers
loan_of found = do
  group ← text_of Group found
  transaction ← text_of Transaction found
  result_ok (txn_id_of group transaction)

-- Returns `text` if the Bool is true, and None if it is false.
abbrev pub text_if : Bool → List ℕ → Option (List ℕ)
text_if true text = Some text
text_if false text = None

-- Returns the group in the arguments, if it is a valid qualifier.
abbrev pub group_of : Found → Option (List ℕ)
group_of found = text_of Group found >>= λ group. text_if (is_ok (qualifier_check group)) group

-- Returns the path of a new desk or shelf, or of a key, if it has no ending of a file beside a desk.
abbrev pub new_file_of : Argument → Found → Option (List ℕ)
new_file_of argument found = text_of argument found >>= λ file. text_if (not (is_beside file)) file

-- Returns the texts of `argument`, which may have several, if the line has one.
abbrev pub texts_of : Argument → Found → Option (List (List ℕ))
texts_of argument found = all_of (id_of argument) found

-- Returns `words` if the Bool is true, and None if it is false.
abbrev pub words_if : Bool → List (List ℕ) → Option (List (List ℕ))
words_if true words = Some words
words_if false words = None

-- Returns the words of a note in the arguments, if a note may have them.
abbrev pub note_words_of : Found → Option (List (List ℕ))
note_words_of found = texts_of NoteWords found >>= λ words. words_if (is_note (note_text words)) words

-- Returns the day that an optional word encodes, with hyphens or without. It is Some None without a word, and None if
-- the word is no day.
abbrev pub day_said : Option (List ℕ) → Option (Option Date)
day_said None = Some None
day_said (Some word) = option_map Some (day_of_text word)

-- Returns the day of the optional argument `argument`, as `day_said` does.
abbrev pub day_in : Argument → Found → Option (Option Date)
day_in argument found = day_said (text_of argument found)

-- Returns the name that an optional word encodes. It is Some None without a word, and None if the word is no name. None
-- too if a name is given without a day.
abbrev pub name_said : (has_day : Bool) → Option (List ℕ) → Option (Option (List ℕ))
name_said has_day None = Some None
name_said has_day (Some word) = option_map Some (text_if (has_day && is_name word) word)

-- Returns the name of the person who gives the command, as `name_said` does.
abbrev pub name_in : (has_day : Bool) → Found → Option (Option (List ℕ))
name_in has_day found = name_said has_day (text_of By found)

-- Returns the day in `argument`, and the name of the person who gives the command, if they are valid.
abbrev pub day_and_name_of : Argument → Found → Option (Option Date × Option (List ℕ))
day_and_name_of argument found =
    day_in argument found >>= λ today. option_map (λ by. (today, by)) (name_in (is_some today) found)

-- Returns the stamp of a day and a name, if there is a day.
abbrev pub stamp_on : Option Date × Option (List ℕ) → Option Stamped
stamp_on (None, by) = None
stamp_on (Some day, by) = Some (record { day = day; by = by })

-- Returns the stamp of the lines of the diary. It is Some None if no day is given.
abbrev pub stamp_of : Found → Option (Option Stamped)
stamp_of found = option_map stamp_on (day_and_name_of NightDay found)

-- Returns the optional stamp. It is None if there is a stamp and `is_kept` is false: no message is kept.
abbrev pub stamp_unless : (is_kept : Bool) → Option Stamped → Option (Option Stamped)
stamp_unless is_kept None = Some None
stamp_unless true (Some stamp) = Some (Some stamp)
stamp_unless false (Some stamp) = None

-- Returns the stamp of the lines of the diary, as `stamp_of` does. Only a command that keeps messages may have one.
abbrev pub stamp_if : (is_kept : Bool) → Found → Option (Option Stamped)
stamp_if is_kept found = stamp_of found >>= stamp_unless is_kept

-- Returns the day of an argument that must be given. It is None if the argument is missing or is no day.
abbrev pub day_given : Argument → Found → Option Date
day_given argument found = text_of argument found >>= day_of_text

-- Returns the span of figures, if both days are valid and the last is not before the first.
abbrev pub span_of : Found → Option Span
span_of found = day_given From found >>= λ first. day_given To found >>= span_between first

-- Returns the state that an optional word names. It is Some None without a word, and None if the word is no
-- state.
abbrev pub state_said : Option (List ℕ) → Option (Option State)
state_said None = Some None
state_said (Some word) = option_map Some (state_named word)

-- Returns the state of the option `--state`, as `state_said` does.
abbrev pub state_in : Found → Option (Option State)
state_in found = state_said (text_of InState found)

-- Returns the number that an optional word encodes, from 1 to 255. It is Some None without a word, and None if the word
-- is no number.
abbrev pub number_said : Option (List ℕ) → Option (Option ℕ)
number_said None = Some None
number_said (Some word) = option_map Some (number_of word)

-- Returns the number of the option `--last`, as `number_said` does.
abbrev pub last_in : Found → Option (Option ℕ)
last_in found = number_said (text_of Last found)

-- Returns the number of a message in the arguments, from 1 to 255. It is None if the argument is no such number.
abbrev pub number_of_message : Found → Option ℕ
number_of_message found = text_of Number found >>= number_of

-- Returns true if the text of a flag is `true`. `clap` gives this text to a flag in the command line.
abbrev pub is_true : Option (List ℕ) → Bool
is_true None = false
is_true (Some text) = bytes_eq text (codes "true")

-- Returns true if `flag` is in the command line.
abbrev pub is_set : Argument → Found → Bool
is_set flag found = is_true (text_of flag found)

-- Returns the loans to list, by their work. If both flags are set, `--mine` decides.
abbrev pub which_of : Found → Which
which_of found =
    if is_set Mine found then loans.Mine else (if is_set Open found then loans.Open else loans.All)

-- Returns the number of days that an optional word encodes, from 1 to 255. It is `SOON` without a word.
abbrev pub days_said : Option (List ℕ) → Option ℕ
days_said None = Some SOON
days_said (Some word) = number_of word

-- Returns the number of days of the option `--ahead`, as `days_said` does.
abbrev pub ahead_in : Found → Option ℕ
ahead_in found = days_said (text_of Ahead found)

-- Returns the day that is as many days after `today` as `digits` say. It is None if they are no number from 1 to 255,
-- or if the calendar has no such day.
abbrev pub days_on : Date → List ℕ → Option Date
days_on today digits = number_of digits >>= λ days. result_ok (day_after days today)

-- Returns the day of a word. It is a day or, if `today` is given, a plus sign and a number of days after it.
abbrev pub day_or_days : Option Date → List ℕ → Option Date
day_or_days None word = day_of_text word
day_or_days (Some today) [] = day_of_text []
day_or_days (Some today) (byte ∷ digits) =
    if byte == 0x2B then days_on today digits else day_of_text (byte ∷ digits)

-- Returns the day of an optional word, as `day_or_days` does. It is Some None without a word, and None if the word says
-- no day.
abbrev pub due_said : Option Date → Option (List ℕ) → Option (Option Date)
due_said today None = Some None
due_said today (Some word) = option_map Some (day_or_days today word)

-- Returns the day of the option `--due-before`, as `due_said` does.
abbrev pub due_in : Option Date → Found → Option (Option Date)
due_in today found = due_said today (text_of DueBefore found)

-- Returns the conditions on the loans to list on the day `today`, if each argument is valid. A listed loan meets all of
-- them. News are told from the day `since` on.
abbrev pub wanted_on : (today since : Option Date) → Found → Option Wanted
wanted_on today since found = do
  ahead ← ahead_in found
  due_before ← due_in today found
  state ← state_in found
  Some (record {
    which = which_of found;
    today = today;
    ahead = ahead;
    due_before = due_before;
    state = state;
    has_actions = is_set Actions found;
    has_notes = is_set Notes found;
    has_since = is_set SinceWhen found;
    since = since;
  })

-- Returns the conditions on the loans to list, if each argument is valid. The day of the work and the day of the news
-- are optional arguments.
abbrev pub wanted_of : Found → Option Wanted
wanted_of found = day_in OnDay found >>= λ today. day_in Since found >>= λ since. wanted_on today since found

-- Returns the form of the output.
abbrev pub form_of : Found → Form
form_of found = if is_set Json found then forms.Json else forms.Lines

-- Returns the outlet of messages: Some of a folder, or Some None for the output. It is None unless exactly one of two
-- is given: the folder, or the flag for the output (the Bool).
abbrev pub outlet : Bool → Option (List ℕ) → Option (Option (List ℕ))
outlet false (Some folder) = Some (Some folder)
outlet true None = Some None
outlet is_stream folder = None

-- Returns the outlet in the arguments, as `outlet` does.
abbrev pub outlet_of : Found → Option (Option (List ℕ))
outlet_of found = outlet (is_set Stream found) (text_of OutFolder found)

-- Returns the key of letters. It is Some None if none is given, and None if one is given for messages that are
-- streamed.
abbrev pub key_if : (is_streamed : Bool) → Option (List ℕ) → Option (Option (List ℕ))
key_if true (Some key) = None
key_if true None = Some None
key_if false key = Some key

-- Returns the key of the letters that leave, as `key_if` does.
abbrev pub key_of_outlet : Found → Option (Option (List ℕ))
key_of_outlet found = key_if (is_set Stream found) (text_of NightKey found)

-- Returns the deeds that the flags `--overdue` and `--expire` ask of a responder.
abbrev pub wanted_dates : Found → Dates
wanted_dates found = record { overdue = is_set Overdue found; expire = is_set Expire found }

-- Returns the day with the deeds that `dates` wants. It is Some None if no deed is wanted, and None if a deed is wanted
-- without a day.
abbrev pub dates_on : Dates → Option Date → Option (Option (Date × Dates))
dates_on dates None = if dates.overdue || dates.expire then None else Some None
dates_on dates (Some today) = if dates.overdue || dates.expire then Some (Some (today, dates)) else Some None

-- Returns the day and the deeds in the arguments, as `dates_on` does.
abbrev pub dates_of : Found → Option (Option (Date × Dates))
dates_of found = day_in NightDay found >>= dates_on (wanted_dates found)

-- Returns the deeds of a night with their day, and the stamp of the lines of the diary.
abbrev pub dates_and_stamp_of : Found → Option (Option (Date × Dates) × Option Stamped)
dates_and_stamp_of found = dates_of found >>= λ dates. option_map (λ stamp. (dates, stamp)) (stamp_of found)

-- Returns what `key` does, by its flags. It is None if both are set.
abbrev pub deed_by : (is_shown is_read : Bool) → Option KeyDeed
deed_by true true = None
deed_by true false = Some deeds.Show
deed_by false true = Some deeds.Read
deed_by false false = Some deeds.Make

-- Returns what the arguments ask of `key`, as `deed_by` does.
abbrev pub deed_of : Found → Option KeyDeed
deed_of found = deed_by (is_set ShowKey found) (is_set ReadKey found)

-- ---- the requests of the commands

-- The request of a command line, with its arguments as texts and values. `Request` in `src/request.rt` has the same
-- variants, and says of each field what it is.
pub data Asked : Type 0 where
  Show : (form : Form) → Asked
  Check : Asked
  Simulate : (group transaction : List ℕ) → Asked
  SimulateDesks : Asked
  New : (file : List ℕ) → (role : Role) → Asked
  Act : (file : List ℕ) → (asking : Asking) → (by : Option (List ℕ)) → (is_long is_new_group : Bool) → Asked
  Take : (file : List ℕ) → (form : TakeForm) → (stamp : Option Stamped) → (key : Option (List ℕ)) → Asked
  Inbox : (file folder : List ℕ) → (stamp : Option Stamped) → (key : Option (List ℕ)) → Asked
  Outbox : (file : List ℕ) → (folder key : Option (List ℕ)) → Asked
  Exchange : (file incoming outgoing : List ℕ) → (form : Form) → (dates : Option (Date × Dates)) → (stamp : Option Stamped) →
      (copy heartbeat key : Option (List ℕ)) → Asked
  Key : (file : List ℕ) → (deed : KeyDeed) → Asked
  Send : (file : List ℕ) → (txn : Qualifiers) → (number : ℕ) → (key : Option (List ℕ)) → Asked
  Listing : (paths : List (List ℕ)) → (wanted : Wanted) → (find : Option (List ℕ)) → (form : Form) → Asked
  News : (paths : List (List ℕ)) → (last : Option ℕ) → (since : Option Date) → (form : Form) → Asked
  Figures : (paths : List (List ℕ)) → (view : FiguresView) → Asked
  Status : (file : List ℕ) → (form : Form) → Asked
  Loan : (file : List ℕ) → (txn : Qualifiers) → (form : LoanForm) → Asked
  Note : (file : List ℕ) → (txn : Qualifiers) → (words : List (List ℕ)) → Asked
  Slip : (file : List ℕ) → (txn : Qualifiers) → Asked
  Report : (paths : List (List ℕ)) → (today : Date) → (since : Option Date) → Asked
  Retire : (file group : List ℕ) → Asked
  Verify : (file : List ℕ) → (form : Form) → Asked

-- Returns the request that a `Request` of the code holds.
abbrev pub asked : Request → Asked
asked (requests.Show form) = Show form
asked requests.Check = Check
asked (requests.Simulate group transaction) = Simulate group.now transaction.now
asked requests.SimulateDesks = SimulateDesks
asked (requests.New file role) = New file.now role
asked (requests.Act file txn today by seen is_trial is_long is_new_group words) =
    Act file.now (record {
      txn = txn;
      today = today;
      words = map (λ word. word.now) words.items;
      seen = option_map (λ text. text.now) seen;
      is_trial = is_trial;
    }) (option_map (λ name. name.now) by) is_long is_new_group
asked (requests.Take file form stamp key) =
    Take file.now form (option_map stamped stamp) (option_map (λ text. text.now) key)
asked (requests.Inbox file folder stamp key) =
    Inbox file.now folder.now (option_map stamped stamp) (option_map (λ text. text.now) key)
asked (requests.Outbox file folder key) =
    Outbox file.now (option_map (λ text. text.now) folder) (option_map (λ text. text.now) key)
asked (requests.Exchange file night key) =
    Exchange file.now night.incoming.now night.outgoing.now night.form night.dates (option_map stamped night.stamp)
    (option_map (λ text. text.now) night.copy) (option_map (λ text. text.now) night.heartbeat) (option_map (λ text. text.now) key)
asked (requests.Key file deed) = Key file.now deed
asked (requests.Send file txn number key) = Send file.now txn number (option_map (λ text. text.now) key)
asked (requests.List paths wanted find form) =
    Listing (map (λ path. path.now) paths.items) wanted (option_map (λ text. text.now) find) form
asked (requests.News paths last since form) = News (map (λ path. path.now) paths.items) last since form
asked (requests.Figures paths view) = Figures (map (λ path. path.now) paths.items) view
asked (requests.Status file form) = Status file.now form
asked (requests.Loan file txn form) = Loan file.now txn form
asked (requests.Note file txn words) = Note file.now txn (map (λ word. word.now) words.items)
asked (requests.Slip file txn) = Slip file.now txn
asked (requests.Report paths today since) = Report (map (λ path. path.now) paths.items) today since
asked (requests.Retire file group) = Retire file.now group.now
asked (requests.Verify file form) = Verify file.now form

-- Returns the file of the desk that a request may change or from which it sends. `Note` keeps a note beside this file.
-- Of `Key` it returns the file of the key, and of each other request None.
abbrev pub desk_at_stake : Asked → Option (List ℕ)
desk_at_stake (New file role) = Some file
desk_at_stake (Act file asking by is_long is_new_group) = Some file
desk_at_stake (Take file form stamp key) = Some file
desk_at_stake (Inbox file folder stamp key) = Some file
desk_at_stake (Outbox file folder key) = Some file
desk_at_stake (Exchange file incoming outgoing form dates stamp copy heartbeat key) = Some file
desk_at_stake (Key file deed) = Some file
desk_at_stake (Send file txn number key) = Some file
desk_at_stake (Note file txn words) = Some file
desk_at_stake other = None

-- Returns the request of the command with these arguments, if each of them is valid.
abbrev pub asked_of : Name → Found → Option Asked
asked_of names.Show found = Some (Show (form_of found))
asked_of names.Check found = Some Check
asked_of names.Simulate found = do
  group ← text_of Group found
  transaction ← text_of Transaction found
  Some (Simulate group transaction)
asked_of names.SimulateDesks found = Some SimulateDesks
asked_of names.New found = do
  file ← new_file_of NewFile found
  role ← role_of found
  Some (New file role)
asked_of names.Act found = do
  file ← text_of File found
  both ← day_and_name_of Today found
  txn ← loan_of found
  words ← texts_of Words found
  Some (Act file (record {
    txn = txn;
    today = both.0;
    words = words;
    seen = text_of Seen found;
    is_trial = is_set DryRun found;
  }) both.1 (is_set Title found) (is_set NewGroup found))
asked_of names.Take found = do
  file ← text_of File found
  stamp ← stamp_if (is_set Keep found) found
  Some (Take file (record { is_long = is_set Long found; is_kept = is_set Keep found }) stamp (text_of arguments.Key found))
asked_of names.Inbox found = do
  file ← text_of File found
  folder ← text_of Folder found
  stamp ← stamp_of found
  Some (Inbox file folder stamp (text_of NightKey found))
asked_of names.Outbox found = do
  file ← text_of File found
  folder ← outlet_of found
  key ← key_of_outlet found
  Some (Outbox file folder key)
asked_of names.Exchange found = do
  file ← text_of File found
  incoming ← text_of In found
  outgoing ← text_of Out found
  both ← dates_and_stamp_of found
  Some (Exchange file incoming outgoing (form_of found) both.0 both.1 (text_of Copy found) (text_of Heartbeat found)
      (text_of NightKey found))
asked_of names.Key found = do
  file ← new_file_of KeyFile found
  deed ← deed_of found
  Some (Key file deed)
asked_of names.Send found = do
  file ← text_of File found
  txn ← loan_of found
  number ← number_of_message found
  Some (Send file txn number (text_of arguments.Key found))
asked_of names.List found = do
  paths ← texts_of Paths found
  wanted ← wanted_of found
  Some (Listing paths wanted (text_of Find found) (form_of found))
asked_of names.News found = do
  paths ← texts_of Paths found
  last ← last_in found
  since ← day_in Since found
  Some (News paths last since (form_of found))
asked_of names.Figures found = do
  paths ← texts_of Paths found
  span ← span_of found
  Some (Figures paths (record { span = span; is_csv = is_set Csv found }))
asked_of names.Status found = do
  file ← text_of File found
  Some (Status file (form_of found))
asked_of names.Loan found = do
  file ← text_of File found
  txn ← loan_of found
  Some (Loan file txn (loan_form (form_of found) (is_set Picture found)))
asked_of names.Note found = do
  file ← text_of File found
  txn ← loan_of found
  words ← note_words_of found
  Some (Note file txn words)
asked_of names.Slip found = do
  file ← text_of File found
  txn ← loan_of found
  Some (Slip file txn)
asked_of names.Report found = do
  paths ← texts_of Paths found
  since ← day_in Since found
  today ← day_given ReportDay found
  Some (Report paths today since)
asked_of names.Retire found = do
  file ← text_of File found
  group ← group_of found
  Some (Retire file group)
asked_of names.Verify found = do
  file ← text_of File found
  Some (Verify file (form_of found))

-- Returns the request of the command with the word `word` and these arguments.
abbrev pub asked_by : List ℕ → Found → Option Asked
asked_by word found = name_read word >>= λ name. asked_of name found

-- Returns the request of a word with its arguments, if there is a word.
abbrev pub asked_in : Option (Text × Found) → Option Asked
asked_in None = None
asked_in (Some said) = asked_by said.0 said.1

-- ---- the command line itself

-- Returns true if the words of a command line ask for the command line itself. The first is the name of the program.
abbrev pub asks_for_help : List (List ℕ) → Bool
asks_for_help (program ∷ command ∷ form ∷ []) = bytes_eq command (codes "help") && bytes_eq form (codes "--json")
asks_for_help words = false

-- ---- options among the words of an action or of a note

-- Returns true if `word` is `--`, after which no word is an option.
abbrev pub is_dashes : Option (List ℕ) → Bool
is_dashes None = false
is_dashes (Some word) = bytes_eq word (codes "--")

-- Returns true if the last of `words` is `--`.
abbrev pub end_with_dashes : List (List ℕ) → Bool
end_with_dashes words = is_dashes (slice_get words (length words - 1))

-- Returns true if an option of the program is among `action`, the words with which the command line `words` ends.
-- If `--` stands right before them, none is an option.
abbrev pub has_option : (words action : List (List ℕ)) → Bool
has_option words action =
    not (end_with_dashes (take (length words - length action) words)) && list_any is_option action

-- Returns the request of the command line `words`, unless an option is among the words of its action or its note.
abbrev pub unless_option : (words : List (List ℕ)) → Asked → Option Asked
unless_option words (Act file asking by is_long is_new_group) =
    if has_option words asking.words then None else Some (Act file asking by is_long is_new_group)
unless_option words (Note file txn note) = if has_option words note then None else Some (Note file txn note)
unless_option words other = Some other

-- Returns the request `said`, if there is one, unless an option is among the words of its action or its note.
abbrev pub said_free : (words : List (List ℕ)) → Option Asked → Option Asked
said_free words said = said >>= unless_option words

-- ---- the results of the reading: values and justified refusals

-- The refusal is justified: the arguments say nothing valid (`is_nothing`), or memory ran out. No other fault is
-- justified.
abbrev pub IsRefusal : Bool → Refusal → Type 0
IsRefusal is_nothing (Usage error) = is_nothing ≡ true
IsRefusal is_nothing (Fault Arguments) = is_nothing ≡ true
IsRefusal is_nothing (Fault OutOfMemory) = Unit {0}
IsRefusal is_nothing (Fault other) = ⊥

-- If the result is Ok, `said` is Some of its `value`. If it is a refusal, it is justified: `said` is None, or memory
-- ran out. `said` is what the arguments say.
abbrev pub ReadsValue : {A B : Type 0} → (B → A) → Option A → Result B Refusal → Type 0
ReadsValue value said (Ok read) = said ≡ Some (value read)
ReadsValue value said (Err refusal) = IsRefusal (is_none said) refusal

-- The second result is the transaction id of the first, or the fault that memory ran out. If the first has no id, the
-- second is the fault `Arguments`.
abbrev pub GivesId : Result Qualifiers TextFault → Result Qualifiers ToolFault → Type 0
GivesId (Ok txn) (Ok made) = made ≡ txn
GivesId (Ok txn) (Err fault) = fault ≡ OutOfMemory
GivesId (Err fault) (Ok made) = ⊥
GivesId (Err fault) (Err tool) = tool ≡ Arguments
