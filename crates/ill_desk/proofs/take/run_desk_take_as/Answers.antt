-- Answers the contract of `run_desk_take_as` (`src/take.rt`).
use Rattle.std.proofs.Common.{rules, ◌≡◌, subst}
use Rattle.ill_desk.specs.declared.take.TakeForm.{TakeForm}
use Rattle.ill_desk.specs.Performing.{command_state, view_of, with_input, with_kept}
use Rattle.ill_desk.specs.Take.{RunsTaking}
use Rattle.ill_desk.specs.Telling.{wording}
use Rattle.ill_desk.proofs.take.run_desk_take_as.Goals as goal

module _ {T V D B : Type 0} (view : T → V) (kept : D → B) (P : V → V → B → B → Type 0) where
  -- If `P` holds of the views of some values, it holds of the views of equal values.
  at_same : (a x b y : T) (p q r s : D) → a ≡ x → b ≡ y → p ≡ q → r ≡ s → P (view a) (view b) (kept p) (kept r)
      → P (view x) (view y) (kept q) (kept s)
  at_same a x b y p q r s e f g h is =
      subst (λ w. P (view x) (view y) (kept q) (kept w)) h
      (subst (λ w. P (view x) (view y) (kept w) (kept r)) g
      (subst (λ w. P (view x) (view w) (kept p) (kept r)) f (subst (λ w. P (view w) (view b) (kept p) (kept r)) e is)))

-- Proves the clause `runs` of `run_desk_take_as`. The handler of `take_input` begins and ends with the desk and file
-- of `run_desk_take_as`. At first `start` says it of the desk, and `empty` of the file.
pub returns-clause-runs : goal.returns-clause-runs
returns-clause-runs g c =
    let start : c.new-taken.result.handler.desk.now ≡ c.args.desk.now = search rules in
    let form : c.new-taken.result.handler.form ≡ c.args.form = search rules in
    let runs = subst (λ (f : TakeForm). RunsTaking f.is_kept (wording f.is_long) g.H.Held.effects
    (with_input (g.R.Read.remaining c.args.reader.now)
    (with_kept (g.F.Write.contents c.new-taken.result.handler.came.now)
    (command_state (view_of g.S.Store.state c.new-taken.result.handler.desk.now) (g.W.Write.contents c.args.writer.now))))
    c.take_input.result
    (with_input (g.R.Read.remaining c.take_input.new.reader)
    (with_kept (g.F.Write.contents c.take_input.new.taken.handler.came.now)
    (command_state (view_of g.S.Store.state c.take_input.new.taken.handler.desk.now)
    (g.W.Write.contents c.take_input.new.writer))))) form c.take_input.ensures.runs in
    let empty : c.new-taken.result.handler.came.now ≡ c.args.came.now = search rules in
    at_same (view_of g.S.Store.state) g.F.Write.contents
    (λ from to before after. RunsTaking c.args.form.is_kept (wording c.args.form.is_long) g.H.Held.effects
    (with_input (g.R.Read.remaining c.args.reader.now) (with_kept before
    (command_state from (g.W.Write.contents c.args.writer.now)))) c.take_input.result
    (with_input (g.R.Read.remaining c.take_input.new.reader) (with_kept after
    (command_state to (g.W.Write.contents c.take_input.new.writer)))))
    _ c.args.desk.now _ _ _ c.args.came.now _ _ start (search rules) empty (search rules) runs
