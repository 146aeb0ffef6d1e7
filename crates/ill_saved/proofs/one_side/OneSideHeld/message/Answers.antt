-- Proves the contract of `OneSide::message` (`src/one_side.rt`).
-- The committed record has the encodings of the released messages.
use Rattle.std.proofs.Common.{rules, ◌≡◌, ◌≤◌, Vec, Global, ℕ}
use Rattle.ill_saved.proofs.Desks.{sends_released}
use Rattle.ill_saved.proofs.one_side.OneSideHeld.message.Goals as goal

-- The bytes from the committed record are the bytes that `Sends` asks for (`sends`). `held` is the side in memory with
-- its count and copy. By `is` the desk's entry is this side with this count.
pub returns : goal.returns
returns c =
    let held = c.self.inside in
    let first : 1 ≤ c.args.number = search rules in
    let few : c.args.number ≤ held.released = search rules in
    let same : c.in_ok-from_slice.field-0.items ≡ c.message.result.now = search rules in
    let sends = sends_released (λ (bytes : Vec ℕ Global). bytes.items) c.in_ok-from_slice.field-0 held.committed_record held.side
    held.released c.args.number c.message.result.now c.self.invariant.1 first few c.message.ensures same in
    let is = c.self.view_is in
    search (rules, sends)
