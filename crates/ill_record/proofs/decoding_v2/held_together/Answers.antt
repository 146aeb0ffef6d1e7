-- Proves the contract of `held_together` (`src/decoding_v2.rt`).
-- Each side may be put after the sides before it exactly if all may be held together.
use Rattle.std.proofs.Common.{rules, ◌≡◌, ◌++◌, ◌∷◌, ap, sym, ◌∙◌}
use Rattle.ill_record.proofs.Together.{put_fails}
use Rattle.ill_record.proofs.decoding_v2.held_together.Goals as goal

-- If a side cannot be put, the fault is right for all sides together. `held` are the sides that were put, and `rest`
-- the sides after the one that cannot be put.
pub returns-in_err-put : goal.returns-in_err-put
returns-in_err-put c =
    let held = c.loop-side.sides in
    let rest = c.next.new.self.rest.items in
    let prefix : c.loop-side.side-iterator.rest.items ≡ c.in-Some.side ∷ rest = search rules in
    let all : held.sides ++ c.in-Some.side ∷ rest ≡ c.args.read.items =
    ap (λ sides. held.sides ++ sides) (sym prefix) ∙ c.loop-side.invariant.all in
    search (
      rules,
      put_fails c.args.role c.args.read.items held c.in-Some.side rest c.in_err-put.field-0.0 c.put.new.sides
          c.loop-side.invariant.role all c.requires.few c.in_err-put.ensures,
    )
