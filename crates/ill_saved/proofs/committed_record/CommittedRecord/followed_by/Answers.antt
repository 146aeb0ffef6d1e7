-- Proves the contract of `CommittedRecord::followed_by` (`src/committed_record.rt`).
-- Each turn of the loop gives the next message the place after the last one.
use Rattle.std.proofs.Common.{rules, arith, ◌≡◌, ◌+◌, ◌-◌, ◌++◌, ◌∷◌, [], length, map, drop, subst, sym, ap, ◌∙◌}
use Rattle.std.specs.List.{All}
use Rattle.std.proofs.lemmas.List.{drop_more, drop_all}
use Rattle.ill_der.specs.ShortForm.{encoding}
use Rattle.ill_record.specs.Layout.{encode_all}
use Rattle.ill_saved.specs.CommittedBytes.{piece_at, IsWithin}
use Rattle.ill_saved.proofs.Places.{ArePlaced, ArePlacedIn, first_placed, next_placed, all_placed}
use Rattle.ill_saved.proofs.committed_record.CommittedRecord.followed_by.Goals as goal

-- The messages of this record have their places before the loop.
pub loop-apdu-init : goal.loop-apdu-init
loop-apdu-init c =
    let committed_record = c.args.self.now in
    let places = c.in_ok-places.places.items in
    let messages : committed_record.messages ≡ drop c.self.inside.first c.self.inside.bytes.items = search rules in
    let same : places ≡ c.self.inside.places.items = search rules in
    let end : length c.messages-end.result.now ≡ length committed_record.messages = ap length c.messages-end.ensures in
    let within : All (IsWithin (length committed_record.messages)) places = search rules in
    let pieces : map (piece_at committed_record.messages) places ≡ committed_record.pieces = search rules in
    record {
      placed = first_placed committed_record.messages committed_record.pieces places c.args.apdus.now
          (length c.messages-end.result.now) end within pieces;
    }

-- One more turn of the loop keeps the invariant. The message `a` at `index` gets the place at `end` (`next_placed`).
pub loop-apdu-preserved : goal.loop-apdu-preserved
loop-apdu-preserved c =
    let apdus = c.args.apdus.now in
    let whole = c.args.self.now.messages ++ encode_all encoding apdus in
    let all = c.args.self.now.pieces ++ map encoding apdus in
    let index = c.loop-apdu.apdu-index in
    let a = c.apdu-item.result in
    let left = drop (index + 1) apdus in
    let prefix : drop index apdus ≡ a ∷ left =
    drop_more apdus index a c.loop-apdu-test.true ∙ ap (λ x. x ∷ left) (sym c.apdu-item.is) in
    let placed : ArePlaced whole c.loop-apdu.end c.loop-apdu.places.items (a ∷ left) all =
    subst (λ rest. ArePlaced whole c.loop-apdu.end c.loop-apdu.places.items rest all) prefix c.loop-apdu.invariant.placed in
    let next = next_placed whole c.loop-apdu.end c.loop-apdu.places.items a left all placed in
    record { placed = search (rules, next) }

-- After the loop, each message has its place in `bytes`.
all_are_placed : (c : goal.After-len)
    → ArePlacedIn c.args.bytes.items (c.len.result - c.loop-apdu.end)
    (c.args.self.now.messages ++ encode_all encoding c.args.apdus.now) c.loop-apdu.places.items
    (c.args.self.now.pieces ++ map encoding c.args.apdus.now)
all_are_placed c =
    let apdus = c.args.apdus.now in
    let left = drop c.loop-apdu.apdu-index apdus in
    let none : left ≡ [] = drop_all c.loop-apdu.apdu-index apdus (omega (arith, c.loop-apdu-test.false)) in
    let size : c.len.result ≡ length c.args.bytes.items = search rules in
    all_placed c.args.bytes.items (c.args.self.now.messages ++ encode_all encoding apdus) (c.len.result - c.loop-apdu.end)
    c.loop-apdu.end c.loop-apdu.places.items left (c.args.self.now.pieces ++ map encoding apdus)
    none c.loop-apdu.invariant.placed c.requires.ends (ap (λ n. n - c.loop-apdu.end) size)

-- The places of the new record are within its messages.
pub invariant_of-result : goal.invariant_of-result
invariant_of-result c =
    let placed = all_are_placed c in
    (placed.after, placed.within)

-- The new record has all messages, each at its place.
pub returns : goal.returns
returns c =
    let placed = all_are_placed c in
    let messages = placed.messages in
    let pieces = placed.pieces in
    cc
