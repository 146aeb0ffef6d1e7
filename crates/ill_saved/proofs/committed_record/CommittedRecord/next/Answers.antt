-- Proves the contract of `CommittedRecord::next` (`src/committed_record.rt`).
-- The committed messages are a prefix of the issued ones, which are the last part of a record.
use Rattle.std.proofs.Common.{◌++◌, ap, sym, ◌∙◌}
use Rattle.ill_der.specs.ShortForm.{encoding}
use Rattle.ill_record.specs.Layout.{encode_all}
use Rattle.ill_saved.proofs.Places.{committed_continues, ends_with_messages, next_committed}
use Rattle.ill_saved.proofs.committed_record.CommittedRecord.next.Goals as goal

-- The committed messages and the encodings of the others are the messages of the side.
pub encode_after-requires-clause-encoded : goal.encode_after-requires-clause-encoded
encode_after-requires-clause-encoded c =
    let others = c.issued_after-others.result.now in
    let more = committed_continues c.args.self.now c.args.side.now c.args.released others c.requires.keeps
    c.issued_after-others.ensures in
    ap (λ messages. messages ++ encode_all encoding others) c.messages.ensures ∙ more.messages

-- If the other messages are in range, all issued messages of the side are in range.
pub encode_after-requires-clause-range : goal.encode_after-requires-clause-range
encode_after-requires-clause-range c =
    let more = committed_continues c.args.self.now c.args.side.now c.args.released c.issued_after-others.result.now
    c.requires.keeps
    c.issued_after-others.ensures in
    more.range

-- The new record ends with the committed messages and the encodings of the others.
pub followed_by-requires : goal.followed_by-requires
followed_by-requires c =
    let more = committed_continues c.args.self.now c.args.side.now c.args.released c.issued_after-others.result.now
    c.requires.keeps
    c.issued_after-others.ensures in
    let ends = ends_with_messages c.args.side.now in
    record { ends = (ends.0, c.in_ok-bytes.ensures.bytes ∙ (ends.1 ∙ ap (λ t. ends.0 ++ t) (sym more.messages))) }

-- The new record is that of the side.
pub returns : goal.returns
returns c =
    let others = c.issued_after-others.result.now in
    let more = committed_continues c.args.self.now c.args.side.now c.args.released others c.requires.keeps
    c.issued_after-others.ensures in
    next_committed c.followed_by.result c.args.self.now c.args.side.now c.standing.result others c.in_ok-bytes.bytes.items more
    c.in_ok-bytes.ensures.side c.standing.ensures.value c.in_ok-bytes.ensures.bytes c.followed_by.ensures
