-- Answers the contract of `handle` of `TakesHome` (`src/take_home.rt`).
use Rattle.std.proofs.Common.{◌≡◌, ℕ, Bool, ◌&&◌, List, Some, Result, inl, inr, refl, rules, ap, subst, sym, ◌∙◌}
use Rattle.ill_text.specs.declared.fault.ToolFault.{ToolFault}
use Rattle.ill_der.specs.ShortForm.{encoding}
use Rattle.ill_commands.specs.AtFile.{TakesAtFile}
use Rattle.ill_commands.specs.Streams.{streams_of}
use Rattle.ill_files.specs.ShelfNames.{own_path}
use Rattle.ill_place.specs.Place.{place_of}
use Rattle.ill_shelf.specs.Home.{IsDeskFor}
use Rattle.ill_shelf.specs.Shelf.{ShelfTaking}
use Rattle.ill_shelf.proofs.take_home.TakesHomeHandlerMachine.handle.Goals as goal
use Rattle.ill_shelf.proofs.take_home.TakesHomeHandlerMachine.handle.Goals.{then-self, else-self}

-- Proves the contract if `desk_for` fails. The group is retired, its desk is lost or cannot be made, or memory runs
-- out. No desk is opened, and `TakesAtHome` holds with the path of the own desk.
pub returns-in-Err : goal.returns-in-Err
returns-in-Err g c = (
  own_path c.args.self.now.shelf.folder.now,
  inr refl,
  Some (encoding c.args.apdu.now),
  inl ((c.in-Err.ensures.faults, refl), refl),
)

-- Proves the contract if memory runs out for the bytes of the APDU. No desk is opened then either.
pub returns-in-Err-encoded : goal.returns-in-Err-encoded
returns-in-Err-encoded g c =
    (own_path c.args.self.now.shelf.folder.now, inr refl, Some (encoding c.args.apdu.now), inl ((tt, refl), refl))

-- Proves the contract if the desk answers with a fault. The APDU was taken at `path` up to the fault (`took`). The desk
-- at `path` is one for the APDU (`here`).
pub returns : goal.returns
returns g c =
    let path = c.as_str.result.now in
    let here = subst (λ (path : List ℕ). IsDeskFor c.args.self.now.shelf.folder.now c.args.apdu.now.txn.group path)
    (sym c.as_str.ensures.value) c.in-Ok.ensures.desk in
    let place = place_of g.D.DeskStore.Store.state path in
    let form = c.args.self.now.view.form in
    let before = g.W.Write.contents c.args.machine.now.writer in
    let new = streams_of (Some c.take.new.reader.now) (g.W.Write.contents c.take.new.machine.writer) in
    let ran = subst (λ (input : List ℕ). TakesAtFile place form (streams_of (Some input) before) c.take.result new)
    (c.as_slice-input.ensures.value ∙ c.in-Ok-encoded.ensures) c.take.ensures in
    let took = subst (λ (answer : Result Bool ToolFault).
    TakesAtFile place form (streams_of (Some (encoding c.args.apdu.now)) before) answer new) c.in-Err-take.is ran in
    (path, here, Some c.take.new.reader.now, took)

-- Proves the contract if the desk has taken the APDU, or refused it (`took`). The desk at `path` is one for the APDU
-- (`here`). The lemma `all_fine` says that the flag stays true only if the APDU went well.
pub returns-in-Ok-take : goal.returns-in-Ok-take
returns-in-Ok-take g c =
    let path = c.as_str.result.now in
    let here = subst (λ (path : List ℕ). IsDeskFor c.args.self.now.shelf.folder.now c.args.apdu.now.txn.group path)
    (sym c.as_str.ensures.value) c.in-Ok.ensures.desk in
    let place = place_of g.D.DeskStore.Store.state path in
    let form = c.args.self.now.view.form in
    let before = g.W.Write.contents c.args.machine.now.writer in
    let after = g.W.Write.contents c.take.new.machine.writer in
    let new = streams_of (Some c.take.new.reader.now) after in
    let ran = subst (λ (input : List ℕ). TakesAtFile place form (streams_of (Some input) before) c.take.result new)
    (c.as_slice-input.ensures.value ∙ c.in-Ok-encoded.ensures) c.take.ensures in
    let took = subst (λ (answer : Result Bool ToolFault).
    TakesAtFile place form (streams_of (Some (encoding c.args.apdu.now)) before) answer new) c.in-Ok-take.is ran in
    let all_fine : c.if-self.self ≡ (c.args.self.now.all_fine && c.in-Ok-take.is_success) = elim c.if-self.branch [
      | then-self w ↦ search rules
      | else-self w ↦ search rules
    ] in
    let taking : Bool → ShelfTaking = λ fine. record {
      folder = c.args.self.now.shelf.folder.now;
      form = form;
      all_fine = fine;
      written = after;
    } in
    (path, here, c.in-Ok-take.is_success, Some c.take.new.reader.now, took, ap taking all_fine)
