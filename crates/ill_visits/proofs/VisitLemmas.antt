-- Proves that a visit may write nothing if the writer has failed (`src/visit.rt`).
use Rattle.std.proofs.Common.{◌≡◌, ℕ, Bool, List, [], Option, Some, option_map, Result, Ok, Err, refl, inr}
use Rattle.std.proofs.KnownBytes.{Appends-nil}
use Rattle.ill_der.specs.ShortForm.{header_at, outer_at, apdu_at}
use Rattle.ill_text.specs.Input.{AreIn}
use Rattle.ill_news.specs.PrintedNews.{printed_since}
use Rattle.ill_beside.specs.Since.{AnnexRead}
use Rattle.ill_text.specs.declared.fault.ToolFault.{ToolFault}
use Rattle.ill_text.specs.declared.fault.ToolFault.TheVariants.{Write}
use Rattle.ill_text.specs.declared.form.Form.{Form}
use Rattle.ill_visits.specs.declared.visit.Visit.{Visit}
use Rattle.ill_visits.specs.declared.visit.Visit.TheVariants as visits
use Rattle.ill_visits.specs.Visits.{RunsVisit}

-- An empty list of bytes has no messages.
nothing_in : AreIn [] []
unfolding apdu_at outer_at header_at
nothing_in = (Ok [], ([], record { encoded = tt; parts = refl }, (refl, refl)))

-- If the answer is `Write`, `RunsVisit` allows that nothing was written: the output is unchanged. Each case takes a
-- desk without sides, and the empty prefix of its text.
pub nothing_written : (visit : Visit) (form : Form) (is_headed is_first : Bool) (path : List ℕ) (written : Option (List ℕ))
    (answer : Result Bool ToolFault) → answer ≡ Err Write
    → RunsVisit visit form is_headed is_first
    (record { path = path; before = written; after = written; answer = answer })
nothing_written (visits.List wanted find) form is_headed is_first path written answer failed =
    let news = option_map (λ day. printed_since (Some day) [] [] [] []) wanted.now.since in
    let annex : AnnexRead = record { notes = []; diary = []; came = []; news = news } in
    inr ([], annex, refl, (Err Write, (0, Appends-nil written), failed))
nothing_written (visits.News last since) form is_headed is_first path written answer failed =
    inr ([], [], [], [], (Err Write, ([], nothing_in, (0, Appends-nil written)), failed))
nothing_written (visits.Figures view) form is_headed is_first path written answer failed =
    inr ([], [], [], (Err Write, ([], nothing_in, (0, Appends-nil written)), failed))
