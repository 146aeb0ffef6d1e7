-- Proves how the command `inbox` ends a run.
use Rattle.std.proofs.Common.{◌≡◌, ℕ, ◌+◌, List, ◌++◌, Result, Ok, Err, IfOk, refl, ap}
use Rattle.std.proofs.Common.{◌∙◌}
use Rattle.ill_saved.specs.ManySides.{DeskContents, many_sides}
use Rattle.ill_night.specs.declared.verdict.Verdict.{Verdict}
use Rattle.ill_inbox.specs.declared.tally.Tally.{Tally}
use Rattle.ill_desk.specs.Performing.{CommandState}
use Rattle.ill_text.specs.declared.fault.ToolFault.{ToolFault}
use Rattle.ill_inbox.specs.Inbox.{Arrived, Succeeded, RunsInbox, Sorting, answered_with, concluded, inbox_text}
use Rattle.ill_inbox.specs.Inbox.{tally_of}
use Rattle.ill_inbox.specs.Objects.{printed_tally}

-- If `sorted` is `end`, and `printed` is its text and then the counts, `sorted` with `printed` is
-- `concluded waiting end`. `tally` has the counts of its verdicts.
pub concluded_is : {L : Type 0} (waiting : ℕ) (sorted end : Sorting L) (verdicts : List Verdict) (tally : Tally)
    (printed : List ℕ)
    → sorted ≡ end → verdicts ≡ sorted.verdicts → tally ≡ tally_of verdicts
    → printed ≡ sorted.printed ++ printed_tally sorted.form tally waiting
    → record { form = sorted.form; live = sorted.live; verdicts = sorted.verdicts; printed = printed; kept = sorted.kept }
    ≡ concluded waiting end
concluded_is waiting sorted end verdicts tally printed is all counted text =
    let whole : printed ≡ inbox_text sorted waiting =
    text ∙ ap (λ tally. sorted.printed ++ printed_tally sorted.form tally waiting) (counted ∙ ap tally_of all) in
    ap (λ printed. record {
      form = sorted.form;
      live = sorted.live;
      verdicts = sorted.verdicts;
      printed = printed;
      kept =
          sorted.kept;
    })
    whole
    ∙ ap (concluded waiting) is

-- If a run of `inbox` over the message files that arrived returns verdicts, it has ended well.
pub ended_if_ok : {X : Type 0} (items : X → List Verdict) (arrived : Arrived) (old new : CommandState DeskContents)
    (result : Result X ToolFault)
    → RunsInbox many_sides arrived old (answered_with items result) new
    → IfOk result (λ verdicts. Succeeded arrived.message_files (items verdicts) new.desk)
unfolding Succeeded
ended_if_ok items arrived old new (Ok verdicts) runs = (arrived.form, arrived.waiting, old, new, runs, refl)
ended_if_ok items arrived old new (Err fault) runs = tt
