-- The words of the commands, and the names of their arguments for `clap`.
use Rattle.std.specs.Prelude.{ℕ, Bool, List, [], ◌∷◌, codes, Option, find, bytes_eq, ◌==◌}
use Rattle.std.specs.List.{before_first, list_any}
use Rattle.ill_line.specs.declared.command_line.Name.{Name}
use Rattle.ill_line.specs.declared.command_line.Name.TheVariants.{New, Act, Take, Inbox, Outbox, Exchange, Send, Status, Loan}
use Rattle.ill_line.specs.declared.command_line.Name.TheVariants.{Slip, Report, Retire, Verify, Show, Check, Simulate, News}
use Rattle.ill_line.specs.declared.command_line.Name.TheVariants.{Figures}
use Rattle.ill_line.specs.declared.command_line.Name.TheVariants.{SimulateDesks, Note, Key}
use Rattle.ill_line.specs.declared.command_line.Name.TheVariants as names
use Rattle.ill_line.specs.declared.command_line.Argument.{Argument}
use Rattle.ill_line.specs.declared.command_line.Argument.TheVariants.{NewFile, File, Folder, Role, Group, Transaction, Today}
use Rattle.ill_line.specs.declared.command_line.Argument.TheVariants.{Words, Number, Long, Keep, Picture, Open, Mine, Json, Paths}
use Rattle.ill_line.specs.declared.command_line.Argument.TheVariants.{OnDay, DueBefore, InState, ReportDay, OutFolder, Stream, In}
use Rattle.ill_line.specs.declared.command_line.Argument.TheVariants.{Out, NightDay, Overdue, Expire, Copy, Heartbeat, NewGroup}
use Rattle.ill_line.specs.declared.command_line.Argument.TheVariants.{Ahead}
use Rattle.ill_line.specs.declared.command_line.Argument.TheVariants.{By, DryRun, Seen}
use Rattle.ill_line.specs.declared.command_line.Argument.TheVariants.{Actions, Last, Since, Title, NoteWords, Find, Notes}
use Rattle.ill_line.specs.declared.command_line.Argument.TheVariants.{SinceWhen, NightKey}
use Rattle.ill_line.specs.declared.command_line.Argument.TheVariants.{KeyFile, ShowKey, ReadKey, From, To, Csv, Explain}
use Rattle.ill_line.specs.declared.command_line.Argument.TheVariants as arguments

-- Returns the word of a command on the command line.
abbrev pub word_of : Name → List ℕ
word_of New = codes "new"
word_of Act = codes "act"
word_of Take = codes "take"
word_of Inbox = codes "inbox"
word_of Outbox = codes "outbox"
word_of Exchange = codes "exchange"
word_of Key = codes "key"
word_of Send = codes "send"
word_of names.List = codes "list"
word_of News = codes "news"
word_of Figures = codes "figures"
word_of Status = codes "status"
word_of Loan = codes "loan"
word_of Note = codes "note"
word_of Slip = codes "slip"
word_of Report = codes "report"
word_of Retire = codes "retire"
word_of Verify = codes "verify"
word_of Show = codes "show"
word_of Check = codes "check"
word_of Simulate = codes "simulate"
word_of SimulateDesks = codes "simulate-desks"

-- Returns the command that has the word `word`.
abbrev pub name_read : List ℕ → Option Name
name_read word = find (λ name. bytes_eq (word_of name) word)
    (New ∷ Act ∷ names.List ∷ News ∷ Loan ∷ Note ∷ Slip ∷ Status ∷ Report ∷ Figures ∷ Take ∷ Send ∷ Inbox ∷ Outbox ∷ Exchange
    ∷ Key ∷ Verify ∷ Show ∷ Check ∷ Simulate ∷ SimulateDesks ∷ Retire ∷ [])

-- Returns the name that `clap` has for an argument. Arguments of different commands may have the same name.
abbrev pub id_of : Argument → List ℕ
id_of NewFile = codes "FILE"
id_of File = codes "FILE"
id_of Folder = codes "FOLDER"
id_of Role = codes "ROLE"
id_of Group = codes "GROUP"
id_of Transaction = codes "TRANSACTION"
id_of Today = codes "today"
id_of Words = codes "WORDS"
id_of NoteWords = codes "WORDS"
id_of Number = codes "NUMBER"
id_of Long = codes "long"
id_of Title = codes "long"
id_of Keep = codes "keep"
id_of Picture = codes "picture"
id_of Open = codes "open"
id_of Mine = codes "mine"
id_of Json = codes "json"
id_of Paths = codes "PATH"
id_of OnDay = codes "today"
id_of DueBefore = codes "due-before"
id_of InState = codes "state"
id_of ReportDay = codes "today"
id_of OutFolder = codes "FOLDER"
id_of Stream = codes "stream"
id_of In = codes "IN"
id_of Out = codes "OUT"
id_of NightDay = codes "today"
id_of Overdue = codes "overdue"
id_of Expire = codes "expire"
id_of Copy = codes "copy"
id_of Heartbeat = codes "beat"
id_of NewGroup = codes "new-group"
id_of By = codes "by"
id_of Seen = codes "seen"
id_of DryRun = codes "dry-run"
id_of Ahead = codes "ahead"
id_of Find = codes "find"
id_of Actions = codes "actions"
id_of Notes = codes "notes"
id_of SinceWhen = codes "since-when"
id_of Since = codes "since"
id_of Last = codes "last"
id_of From = codes "from"
id_of To = codes "to"
id_of Csv = codes "csv"
id_of arguments.Key = codes "key"
id_of NightKey = codes "key"
id_of KeyFile = codes "KEYFILE"
id_of ShowKey = codes "show"
id_of ReadKey = codes "read"
id_of Explain = codes "explain"

-- All options of the program, also those that `clap` adds.
abbrev pub options : List (List ℕ)
options =
    codes "--today" ∷ codes "--by" ∷ codes "--seen" ∷ codes "--dry-run" ∷ codes "--ahead" ∷ codes "--due-before"
    ∷ codes "--state" ∷ codes "--find"
    ∷ codes "--copy" ∷ codes "--beat"
    ∷ codes "--stream" ∷ codes "--overdue" ∷ codes "--expire" ∷ codes "--long" ∷ codes "--keep" ∷ codes "--picture"
    ∷ codes "--open" ∷ codes "--mine" ∷ codes "--actions" ∷ codes "--notes" ∷ codes "--since-when" ∷ codes "--json"
    ∷ codes "--new-group" ∷ codes "--since"
    ∷ codes "--last" ∷ codes "--from" ∷ codes "--to" ∷ codes "--csv" ∷ codes "--key" ∷ codes "--show" ∷ codes "--read"
    ∷ codes "--explain" ∷ codes "--help" ∷ codes "--version" ∷ codes "-h" ∷ codes "-V" ∷ []

-- Returns `word` before its first `=`, which is the byte 61.
abbrev pub name_in : List ℕ → List ℕ
name_in word = before_first (λ byte. byte == 61) word

-- Returns true if `word` is an option of the program, also with a value after `=`.
abbrev pub is_option : List ℕ → Bool
is_option word = list_any (λ option. bytes_eq option (name_in word)) options
