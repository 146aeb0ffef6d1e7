-- Proves the contract of `CommittedRecord::of` (`src/committed_record.rt`).
-- The issued messages are the last part of a record.
use Rattle.std.proofs.Common.{rules, ◌++◌, ◌≡◌, ◌∙◌, ap, sym}
use Rattle.ill_der.specs.ShortForm.{encoding}
use Rattle.ill_record.specs.Layout.{encode_all}
use Rattle.ill_record.specs.Side.{issued_of}
use Rattle.ill_saved.proofs.Places.{ends_with_messages}
use Rattle.ill_saved.proofs.committed_record.CommittedRecord.of.Goals as goal

-- The record of the side ends with the encodings of its messages.
pub followed_by-requires : goal.followed_by-requires
followed_by-requires c =
    let ends = ends_with_messages c.args.side.now in
    let messages : c.none.result.messages ++ encode_all encoding c.all_issued.result.now
    ≡ encode_all encoding (issued_of c.args.side.now) = search rules in
    record { ends = (ends.0, c.requires.encoded ∙ (ends.1 ∙ ap (λ t. ends.0 ++ t) (sym messages))) }
