-- Proves the clause `prefix` of `encoding::push_reply`: at an error, a proper prefix of both fields was appended.
-- The number followed by a proper prefix of the yes or no is a proper prefix of both fields.
use Rattle.std.proofs.Common.{rules, OnErr}
use Rattle.ill_der.specs.Adding.{AddsPrefix}
use Rattle.ill_der.specs.Contents.{number_octets, yes_no}
use Rattle.ill_der.specs.Format.{element}
use Rattle.ill_der.proofs.AddingLemmas.{adds_first, adds_last, at_err}
use Rattle.ill_der.proofs.encoding.push_reply.Goals as goal

-- If memory ran out in `push_number`, a proper prefix of the number was appended.
pub returns-in_err-push_number-clause-prefix : goal.returns-in_err-push_number-clause-prefix
returns-in_err-push_number-clause-prefix c =
    at_err c.from_residual.result (adds_first _ _ (element 131 (number_octets c.args.answers))
    (element 132 (yes_no.encode c.args.yes)) c.in_err-push_number.ensures.prefix)

-- If memory ran out in `push_element`, the number and a proper prefix of the yes or no were appended.
pub returns-clause-prefix : goal.returns-clause-prefix
returns-clause-prefix c =
    let result = c.push_element.result in
    let yes : OnErr result (AddsPrefix c.push_number.new.bytes.items c.push_element.new.bytes.items
    (element 132 (yes_no.encode c.args.yes))) = search rules in
    adds_last result _ _ _ (element 131 (number_octets c.args.answers)) (element 132 (yes_no.encode c.args.yes))
    c.in_ok-push_number.ensures.bytes yes
