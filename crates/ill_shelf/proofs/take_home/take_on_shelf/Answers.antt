-- Answers the contract of `take_on_shelf` (`src/take_home.rt`).
use Rattle.std.proofs.Common.{◌≡◌, ℕ, List, inr, Ok, Err, refl, ap, subst, ◌∙◌}
use Rattle.ill_text.specs.Input.{ReadsInput}
use Rattle.ill_files.specs.declared.machine.Machine.{Machine}
use Rattle.ill_shelf.specs.declared.take_home.TakesHome.{TakesHome}
use Rattle.ill_shelf.specs.Shelf.{ShelfTaking, shelf_taking, TakesAtHome}
use Rattle.ill_shelf.proofs.ShelfLemmas.{taken_home}
use Rattle.ill_shelf.proofs.take_home.take_on_shelf.Goals as goal

-- Proves the contract of `take_on_shelf` if the input ends well. By `taken_home` the views of the states show the
-- effect.
pub returns-in-Ok : goal.returns-in-Ok
returns-in-Ok g c =
    let state = g.D.DeskStore.Store.state in
    let view : TakesHome _ × Machine _ _ _ → ShelfTaking = λ s. record {
      folder = s.0.shelf.folder.now;
      form = s.0.view.form;
      all_fine = s.0.all_fine;
      written = g.W.Write.contents s.1.writer;
    } in
    let begun : TakesHome _ × _ = (c.new-taken.result.handler, c.args.machine.now) in
    let ended : TakesHome _ × _ = (c.handle_input.new.counted.handler, c.handle_input.new.context) in
    let left = g.R.Read.remaining c.args.reader.now in
    let rest = g.R.Read.remaining c.handle_input.new.reader in
    let taken = taken_home state view left rest begun ended (Ok c.in-Ok.field-0) c.in-Ok.ensures in
    let written = g.W.Write.contents c.args.machine.now.writer in
    let opened : view begun ≡ shelf_taking c.in_ok-shelf.shelf.folder.now c.args.view.now.form written =
    ap (λ (taking : TakesHome _). view (taking, c.args.machine.now)) c.new-taken.ensures.handler in
    let start = opened
    ∙ ap (λ (folder : List ℕ). shelf_taking folder c.args.view.now.form written) c.in_ok-shelf.ensures.folder in
    inr (
      Ok c.in-Ok.field-0,
      view ended,
      subst (λ (first : ShelfTaking). ReadsInput (TakesAtHome state) left rest first (Ok c.in-Ok.field-0) (view ended)) start
          taken,
      refl,
      refl,
    )

-- Proves the contract of `take_on_shelf` if the input ends with a fault. By `taken_home` the views show the effect.
pub returns-in-Err : goal.returns-in-Err
returns-in-Err g c =
    let state = g.D.DeskStore.Store.state in
    let view : TakesHome _ × Machine _ _ _ → ShelfTaking = λ s. record {
      folder = s.0.shelf.folder.now;
      form = s.0.view.form;
      all_fine = s.0.all_fine;
      written = g.W.Write.contents s.1.writer;
    } in
    let begun : TakesHome _ × _ = (c.new-taken.result.handler, c.args.machine.now) in
    let ended : TakesHome _ × _ = (c.handle_input.new.counted.handler, c.handle_input.new.context) in
    let left = g.R.Read.remaining c.args.reader.now in
    let rest = g.R.Read.remaining c.handle_input.new.reader in
    let taken = taken_home state view left rest begun ended (Err c.in-Err.fault) c.in-Err.ensures in
    let written = g.W.Write.contents c.args.machine.now.writer in
    let opened : view begun ≡ shelf_taking c.in_ok-shelf.shelf.folder.now c.args.view.now.form written =
    ap (λ (taking : TakesHome _). view (taking, c.args.machine.now)) c.new-taken.ensures.handler in
    let start = opened
    ∙ ap (λ (folder : List ℕ). shelf_taking folder c.args.view.now.form written) c.in_ok-shelf.ensures.folder in
    inr (
      Err c.in-Err.fault,
      view ended,
      subst (λ (first : ShelfTaking). ReadsInput (TakesAtHome state) left rest first (Err c.in-Err.fault) (view ended)) start
          taken,
      refl,
      refl,
    )
