-- Proves the contract of `Sides::put` (`src/sides.rt`).
-- A side that is not refused has a new transaction, so its entry is appended.
use Rattle.std.proofs.Common.{◌≡◌, None, sym, ap, ◌∙◌}
use Rattle.ill_record.specs.Sides.{put_refusal}
use Rattle.ill_record.proofs.DeskEntry.{handed_back, no_fault, is_new, filed_more, filed_still}
use Rattle.ill_record.proofs.sides.Sides.put.Goals.{in-Ok-insert_new, in-Err}
use Rattle.ill_record.proofs.sides.Sides.put.Goals as goal

-- A side that is refused is returned, and nothing changes.
pub returns-in-Some : goal.returns-in-Some
returns-in-Some c = handed_back c.args.self.now c.args.side c.in-Some.fault (sym c.refusal.ensures ∙ c.in-Some.is)

-- No entry has the transaction of a side that is not refused.
pub insert_new-requires : goal.insert_new-requires
insert_new-requires c =
    let none : put_refusal c.args.self.now c.args.side ≡ None =
    sym c.refusal.ensures ∙ no_fault c.refusal.result c.in_default.not-Some in
    record {
      new = is_new c.self.inside.role c.self.inside.map.entries c.args.side c.self.invariant
          (ap (λ held. put_refusal held c.args.side) c.self.view_is ∙ none) c.in-Ok.txn (c.in-Ok.ensures ∙ c.txn.ensures);
    }

-- All entries satisfy `AreFiled` after the side is put, and if memory runs out.
pub invariant_of-self : goal.invariant_of-self
invariant_of-self c =
    let none : put_refusal c.args.self.now c.args.side ≡ None =
    sym c.refusal.ensures ∙ no_fault c.refusal.result c.in_default.not-Some in
    let seen = ap (λ held. put_refusal held c.args.side) c.self.view_is ∙ none in
    elim c.match-insert_new.branch [
      | in-Ok-insert_new w ↦ filed_more c.self.inside.role c.self.inside.map.entries c.args.side c.self.invariant seen c.in-Ok.txn
          (c.in-Ok.ensures ∙ c.txn.ensures) c.insert_new.new.map.entries w.in-Ok-insert_new.ensures.done
      | in-Err w ↦ filed_still c.self.inside.role c.self.inside.map.entries c.args.side c.self.invariant seen
          c.insert_new.new.map.entries w.in-Err.ensures.unchanged
    ]
