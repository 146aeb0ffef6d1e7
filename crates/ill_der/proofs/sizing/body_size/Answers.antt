-- Proves the clause `value` of `sizing::body_size`: the size is the length of the encoding of the further fields.
-- The length of the encoding is the sum of the sizes of its elements.
use Rattle.ill_der.proofs.Sizes.{request_length, reply_length, grant_length}
use Rattle.ill_der.proofs.sizing.body_size.Goals as goal

pub returns-in-IllRequest-clause-value : goal.returns-in-IllRequest-clause-value
returns-in-IllRequest-clause-value c =
    let text = rw c.text.ensures.bytes at c.element_size.ensures.value in
    rw c.in-IllRequest.is (request_length c.in-IllRequest.expiry c.in-IllRequest.item c.optional_date_size.result
    c.element_size.result c.optional_date_size.ensures.value text)

pub returns-in-RenewAnswer-clause-value : goal.returns-in-RenewAnswer-clause-value
returns-in-RenewAnswer-clause-value c =
    rw c.in-RenewAnswer.is (grant_length c.in-RenewAnswer.answers c.in-RenewAnswer.granted c.number_size-in-RenewAnswer.result
    c.optional_date_size-in-RenewAnswer.result c.number_size-in-RenewAnswer.ensures.value
    c.optional_date_size-in-RenewAnswer.ensures.value)

pub returns-in-ConditionalReply-clause-value : goal.returns-in-ConditionalReply-clause-value
returns-in-ConditionalReply-clause-value c =
    rw c.in-ConditionalReply.is (reply_length c.in-ConditionalReply.answers c.in-ConditionalReply.yes c.number_size.result
    c.number_size.ensures.value)

pub returns-in-CancelReply-clause-value : goal.returns-in-CancelReply-clause-value
returns-in-CancelReply-clause-value c =
    rw c.in-CancelReply.is (reply_length c.in-CancelReply.answers c.in-CancelReply.yes c.number_size-in-CancelReply.result
    c.number_size-in-CancelReply.ensures.value)
