-- Answers the contract of `push_file_verdict` (`src/letters.rt`).
use Rattle.std.proofs.Common.{◌≡◌, ◌++◌, None, Bor, ap, sym, ◌∙◌}
use Rattle.std.specs.Prelude.{slice_get, option_map}
use Rattle.std.specs.List.{zip}
use Rattle.std.proofs.lemmas.List.{append-nil}
use Rattle.ill_night.specs.declared.verdict.MessageFile.{MessageFile}
use Rattle.ill_night.specs.declared.verdict.Verdict.{Verdict}
use Rattle.ill_room.specs.Letters.{verdict_at}
use Rattle.ill_room.proofs.LettersLemmas.{item_at, no_verdict}
use Rattle.ill_room.proofs.letters.push_file_verdict.Goals as goal

-- There is no verdict at `place`. Then nothing is appended, and `verdict_at` is empty.
pub returns-in_default : goal.returns-in_default
returns-in_default c =
    let items = c.args.settled.now.items in
    let message_file = slice_get c.args.message_files.now c.args.place in
    let all = zip c.args.message_files.now c.args.verdicts.now in
    let none : slice_get c.args.verdicts.now c.args.place ≡ None =
    sym (item_at c.args.verdicts.now c.args.place c.get-2.result c.get-2.ensures.lookup)
    ∙ ap (option_map (λ (verdict : Bor Verdict). verdict.now)) c.in_default.is-1 in
    sym (append-nil items) ∙ ap (λ more. items ++ more)
    (sym (ap (verdict_at all message_file) none ∙ no_verdict all message_file))

-- There is no message file at `place`. Then nothing is appended, and `verdict_at` is empty.
pub returns-in_default-2 : goal.returns-in_default-2
returns-in_default-2 c =
    let items = c.args.settled.now.items in
    let verdict = slice_get c.args.verdicts.now c.args.place in
    let all = zip c.args.message_files.now c.args.verdicts.now in
    let none : slice_get c.args.message_files.now c.args.place ≡ None =
    sym (item_at c.args.message_files.now c.args.place c.get.result c.get.ensures.lookup)
    ∙ ap (option_map (λ (message_file : Bor MessageFile). message_file.now)) c.in_default.is-0 in
    sym (append-nil items) ∙ ap (λ more. items ++ more) (sym (ap (λ message_file. verdict_at all message_file verdict) none))
