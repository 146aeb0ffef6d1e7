-- Answers the contract of `exchange` (`src/exchange.rt`).
use Rattle.std.proofs.Common.{ℕ, List, Option, inr, ap, subst}
use Rattle.ill_desk.specs.Performing.{command_state, view_of}
use Rattle.ill_exchange.specs.Nights.{ExchangesAt, asked_night}
use Rattle.ill_exchange.proofs.exchange.exchange.Goals as goal

-- Proves that the night is one of the desk that was loaded at the place. `look_at_night` writes nothing.
pub returns : goal.returns
returns g c =
    let view = view_of g.D.DeskStore.Store.state in
    let new = command_state (view c.exchange_at-done.new.desk)
    (g.W.Write.contents c.exchange_at-done.new.machine.writer) in
    let night = subst (λ (before : Option (List ℕ)).
    ExchangesAt (asked_night c.args.night.now) (command_state (view c.in_ok-locked.locked.desk) before)
    c.exchange_at-done.result new) (ap (λ writer. g.W.Write.contents writer) c.in_ok-look_at_night.ensures.silent)
    c.exchange_at-done.ensures in
    inr (c.in_ok-locked.locked.desk, c.exchange_at-done.new.desk, c.in_ok-locked.ensures.starts, night)
