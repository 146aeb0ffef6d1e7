-- Answers the contract of `new` (`src/commands.rt`).
use Rattle.std.proofs.Common.{inr}
use Rattle.ill_saved.specs.Desk.{answer_of, store_of}
use Rattle.ill_commands.proofs.commands.new.Goals as goal

-- Proves that the desk was begun over the store of the place.
pub returns : goal.returns
returns g c =
    let begun = c.run_desk_new-begun in
    inr (
      c.in_ok-store.store,
      store_of begun.result,
      answer_of begun.result,
      (c.in_ok-store.ensures, begun.ensures.store),
      begun.ensures.runs,
      c.end.ensures,
    )
