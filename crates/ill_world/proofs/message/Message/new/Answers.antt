-- Proves the invariant and the contract of `Message::new` (`src/message.rt`). An APDU is read from its encoding.
use Rattle.ill_world.proofs.Messages.{apdu_is, is_whole}
use Rattle.ill_world.proofs.message.Message.new.Goals as goal

pub invariant_of-result : goal.invariant_of-result
invariant_of-result c = is_whole c.read_again.ensures c.args.bytes.items c.requires.encoded.0 c.requires.encoded.1
    c.requires.encoded.2

pub returns : goal.returns
returns c = λ a is encoded. apdu_is c.read_again.ensures c.args.bytes.items a is encoded
