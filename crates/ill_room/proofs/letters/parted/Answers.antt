-- Answers the contract of `parted` (`src/letters.rt`).
use Rattle.std.proofs.Common.{rules, ◌≡◌, ℕ, List, [], ◌∷◌, ◌++◌, map, ap, ◌∙◌, append_assoc}
use Rattle.std.specs.List.{concat}
use Rattle.std.proofs.lemmas.List.{append-nil, map-append}
use Rattle.std.proofs.lemmas.List.Folds.{concat-append}
use Rattle.ill_room.proofs.letters.parted.Goals as goal

-- Proves the loop invariant after one more message. The message and `others` are what was left (`parts`, and `here` for
-- the copy of the message). `before` has the bytes of the messages before it.
pub loop-rest-preserved : goal.loop-rest-preserved
loop-rest-preserved c =
    let others = c.split_at.result.1.now in
    let message = c.in_ok-from_slice.field-0 in
    let before = concat (map (λ message. message.items) c.loop-rest.messages.items) in
    let parts : c.split_at.result.0.now ++ others ≡ c.loop-rest.rest.now = search rules in
    let here : concat (message.items ∷ []) ++ others ≡ c.loop-rest.rest.now =
    ap (λ bytes. bytes ++ others) (append-nil message.items ∙ c.in_ok-from_slice.ensures.items) ∙ parts in
    record {
      there = ap (λ messages. concat (map (λ message. message.items) messages) ++ others) c.in_ok-push.ensures.items
          ∙ ap (λ messages. concat messages ++ others)
          (map-append (λ message. message.items) c.loop-rest.messages.items (message ∷ []))
          ∙ ap (λ bytes. bytes ++ others)
          (concat-append (map (λ message. message.items) c.loop-rest.messages.items) (message.items ∷ []))
          ∙ append_assoc before (concat (message.items ∷ [])) others
          ∙ ap (λ bytes. before ++ bytes) here ∙ c.loop-rest.invariant.there;
    }
