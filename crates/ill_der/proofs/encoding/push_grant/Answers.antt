-- Proves the clause `prefix` of `encoding::push_grant`: at an error, a proper prefix of the fields was appended.
-- The reply followed by a proper prefix of the date is a proper prefix of all fields.
use Rattle.std.proofs.Common.{rules, ◌≡◌, ◌++◌, OnErr, is_some, subst, append_assoc}
use Rattle.ill_der.specs.Adding.{AddsPrefix}
use Rattle.ill_der.specs.Contents.{number_octets, yes_no, date}
use Rattle.ill_der.specs.Format.{element, optional}
use Rattle.ill_der.proofs.AddingLemmas.{adds_first, adds_last, at_err}
use Rattle.ill_der.proofs.encoding.push_grant.Goals as goal

-- If memory ran out in `push_reply`, a proper prefix of the number and the yes or no was appended.
pub returns-in_err-push_reply-clause-prefix : goal.returns-in_err-push_reply-clause-prefix
returns-in_err-push_reply-clause-prefix c =
    let old = c.args.bytes.now.items in
    let new = c.push_reply.new.bytes.items in
    let answers = element 131 (number_octets c.args.answers) in
    let yes = element 132 (yes_no.encode (is_some c.args.granted)) in
    let day = (optional 133 date).encode c.args.granted in
    let prefix : AddsPrefix old new (answers ++ yes) = search rules in
    at_err c.from_residual.result (subst (AddsPrefix old new) (append_assoc answers yes day)
    (adds_first old new (answers ++ yes) day prefix))

-- If memory ran out in `push_optional_date`, the reply and a proper prefix of the date were appended.
pub returns-clause-prefix : goal.returns-clause-prefix
returns-clause-prefix c =
    let old = c.args.bytes.now.items in
    let middle = c.push_reply.new.bytes.items in
    let new = c.push_optional_date.new.bytes.items in
    let result = c.push_optional_date.result in
    let answers = element 131 (number_octets c.args.answers) in
    let yes = element 132 (yes_no.encode (is_some c.args.granted)) in
    let day = (optional 133 date).encode c.args.granted in
    let all : middle ≡ old ++ (answers ++ yes) = search rules in
    subst (λ text. OnErr result (AddsPrefix old new text)) (append_assoc answers yes day)
    (adds_last result old middle new (answers ++ yes) day all c.push_optional_date.ensures.prefix)
