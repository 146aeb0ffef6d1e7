-- Proves the contract of `decode_record` (`src/decoding.rt`).
-- The role that was read selects the fields of the rest.
use Rattle.ill_record.specs.declared.role.Role.TheVariants as roles
use Rattle.ill_record.proofs.Records.{decodes_after}
use Rattle.ill_record.proofs.decoding.decode_record.Goals as goal

-- If the role that was read is a requester's, the answer for the rest is right for the whole record.
pub returns-in-Requester : goal.returns-in-Requester
returns-in-Requester c =
    decodes_after c.args.bytes.now c.new-cursor.result c.role.new.cursor c.in_ok-role.field-0 roles.Requester c.requester.result
    c.new-cursor.ensures c.in-Requester.is c.in_ok-role.ensures.read c.requester.ensures

-- If the role that was read is a responder's, the answer for the rest is right for the whole record.
pub returns-in-Responder : goal.returns-in-Responder
returns-in-Responder c =
    decodes_after c.args.bytes.now c.new-cursor.result c.role.new.cursor c.in_ok-role.field-0 roles.Responder c.responder.result
    c.new-cursor.ensures c.in-Responder.is c.in_ok-role.ensures.read c.responder.ensures
