-- The effect of each command that visits desks in files. Nothing is known of the content of such a file, so the sides
-- of a desk are any.
use Rattle.std.specs.Prelude.{◌≡◌, ◌⊎◌, ℕ, Bool, nat_lt, List, ◌++◌, length, map, Option, option_map, Result, Ok}
use Rattle.std.specs.Prelude.{Err, IfErr}
use Rattle.ill_values.specs.Day.{Date}
use Rattle.ill_record.specs.declared.side.Side.{Side}
use Rattle.ill_text.specs.declared.fault.ToolFault.{ToolFault}
use Rattle.ill_text.specs.declared.fault.ToolFault.TheVariants.{OutOfMemory}
use Rattle.ill_files.specs.Folders.{AreFoundAt}
use Rattle.ill_files.specs.Opening.{Succeeds, FailsToOpen, after_writing, names_answer}
use Rattle.ill_text.specs.Fault.{IsOpenFault}
use Rattle.ill_text.specs.Output.{WritesPrefix, WritesText}
use Rattle.ill_figures.specs.Figures.{figures_of}
use Rattle.ill_figures.specs.Texts.{figures_text, head_text}
use Rattle.ill_figures.specs.declared.figures.FiguresView.{FiguresView}
use Rattle.ill_list.specs.declared.wanted.Wanted.{Wanted}
use Rattle.ill_rows.specs.Heading.{between}
use Rattle.ill_list.specs.Listing.{listed_desk}
use Rattle.ill_rows.specs.Messages.{WritesNews}
use Rattle.ill_news.specs.News.{news_desk}
use Rattle.ill_news.specs.PrintedNews.{news_since, printed_since}
use Rattle.ill_beside.specs.Since.{AnnexRead}
use Rattle.ill_visits.specs.Parts.{Part, gravest_part, report_page}
use Rattle.ill_text.specs.declared.form.Form.{Form}
use Rattle.ill_text.specs.Visits.{Stop, VisitsEach, graver}
use Rattle.ill_visits.specs.declared.visit.Visit.{Visit}
use Rattle.ill_visits.specs.declared.visit.Visit.TheVariants as visits

-- The wanted sides of a desk were listed in a visit, with what came to them since the wanted day. If there are words
-- `find`, only sides that have them were listed. If `is_first`, no desk is before this one. If `is_headed`, the path is
-- written first. Or a file could not be opened, and nothing was written.
abbrev pub ListsDesk : Form → Wanted → (find : Option (List ℕ)) → (is_headed is_first : Bool) → Stop → Type 0
ListsDesk form wanted find is_headed is_first stop =
    FailsToOpen stop.before stop.after stop.answer
    ⊎ ((sides : List Side) × (annex : AnnexRead) × (annex.news ≡ news_since wanted.since annex sides)
    × Succeeds (WritesText stop.before stop.after
    (between form is_first ++ listed_desk form is_headed wanted (record { find = find; annex = annex }) stop.path sides))
    stop.answer)

-- What came to a desk was printed in a visit, as `news_desk` does. If `since` is given, this is the open answers and
-- what came since that day. If `last` is given, only so many of the last messages are shown. If `is_first`, no desk is
-- before this one. If `is_headed`, the path is written. Or a file could not be opened, and nothing was written.
abbrev pub PrintsDesk : Form → Option ℕ → (since : Option Date) → (is_headed is_first : Bool) → Stop → Type 0
PrintsDesk form last since is_headed is_first stop =
    FailsToOpen stop.before stop.after stop.answer
    ⊎ ((sides : List Side) × (came : List ℕ) × (notes lines : List (List ℕ))
    × Succeeds (WritesNews (λ apdus. between form is_first
    ++ news_desk form is_headed last stop.path sides (printed_since since notes lines sides apdus)) came stop.before stop.after)
    stop.answer)

-- The figures of a desk were written in a visit, as `view` asks, from its diary and what came. `is_headed` and
-- `is_first` are as in `ListsDesk`. Or a file could not be opened, and nothing was written.
abbrev pub CountsDesk : FiguresView → (is_headed is_first : Bool) → Stop → Type 0
CountsDesk view is_headed is_first stop =
    FailsToOpen stop.before stop.after stop.answer
    ⊎ ((sides : List Side) × (diary : List (List ℕ)) × (bytes : List ℕ)
    × Succeeds (WritesNews (λ came. figures_text view is_headed is_first stop.path (figures_of view.span diary sides came)) bytes
    stop.before stop.after) stop.answer)

-- A stop of the visit has the effect of its command at one desk: a list, news or figures.
abbrev pub RunsVisit : Visit → Form → (is_headed is_first : Bool) → Stop → Type 0
RunsVisit (visits.List wanted find) form = ListsDesk form wanted.now (option_map (λ words. words.now) find)
RunsVisit (visits.News last since) form = PrintsDesk form last since
RunsVisit (visits.Figures view) form = CountsDesk view.now

-- Returns true if there are several desks to visit.
abbrev pub are_several : List (List ℕ) → Bool
are_several files = nat_lt 1 (length files)

-- The desks in `files` were visited, one after another. `answer` is the gravest of their answers.
abbrev pub VisitsFiles : (Bool → Bool → Stop → Type 0) → List (List ℕ) → Option (List ℕ) → Option (List ℕ) →
    Result Bool ToolFault → Type 0
VisitsFiles Runs files before after answer = VisitsEach (Runs (are_several files)) files before after answer

-- Desks that are found at `paths` were visited, one after another. The result is the gravest of their answers. A name
-- in a folder that is no text is a fault too. Or memory ran out before the first desk.
abbrev pub VisitsPaths : (Bool → Bool → Stop → Type 0) → (paths : List (List ℕ)) → Option (List ℕ) → Option (List ℕ) →
    Result Bool ToolFault → Type 0
VisitsPaths Runs paths before after result =
    ((result ≡ Err OutOfMemory) × (after ≡ before))
    ⊎ ((files : List (List ℕ)) × (are_texts : Bool) × (answer : Result Bool ToolFault) × AreFoundAt paths files
    × VisitsFiles Runs files before after answer × (result ≡ graver answer (names_answer are_texts)))

-- After the text before the first desk, which was written with the result `written`, the desks at `paths` were visited.
-- If `written` is a fault, none was.
abbrev pub VisitsAfter : (written : Result (Unit {0}) ToolFault) → (Bool → Bool → Stop → Type 0) → (paths : List (List ℕ)) →
    Option (List ℕ) → Option (List ℕ) → Result Bool ToolFault → Type 0
VisitsAfter (Ok done) Runs paths between after result = VisitsPaths Runs paths between after result
VisitsAfter (Err fault) Runs paths between after result = (result ≡ Err fault) × (after ≡ between)

-- The figures of the desks at `paths` were written. In CSV the names of the fields come first.
abbrev pub CountsPaths : FiguresView → (paths : List (List ℕ)) → Option (List ℕ) → Option (List ℕ) → Result Bool ToolFault →
    Type 0
CountsPaths view paths before after result =
    (between : Option (List ℕ)) × (written : Result (Unit {0}) ToolFault)
    × WritesPrefix before between (head_text view.is_csv) written
    × VisitsAfter written (CountsDesk view) paths between after result

-- A page of the desks at `paths` was written, with a part for each, and news if a day `since` is given. The result is
-- the gravest of the faults of desks. A name in a folder that is no text is a fault too. A failure of the output is
-- graver. Or memory ran out before the page.
abbrev pub ReportsPaths : Date → (since : Option Date) → (paths : List (List ℕ)) → Option (List ℕ) → Option (List ℕ) →
    Result Bool ToolFault → Type 0
ReportsPaths today since paths before after result =
    ((result ≡ Err OutOfMemory) × (after ≡ before))
    ⊎ ((parts : List Part) × (are_texts : Bool) × (written : Result (Unit {0}) ToolFault)
    × AreFoundAt paths (map (λ part. part.0) parts)
    × IfErr (gravest_part parts) IsOpenFault × WritesText before after (report_page today since parts) written
    × (result ≡ after_writing written (graver (gravest_part parts) (names_answer are_texts))))
