-- Proves the clause `value` of `sizing::qualifiers_size`: the size is the length of the encoding of both qualifiers.
use Rattle.ill_der.proofs.Sizes.{qualifiers_length}
use Rattle.ill_der.proofs.sizing.qualifiers_size.Goals as goal

pub returns-clause-value : goal.returns-clause-value
returns-clause-value c =
    let group = rw c.group.ensures.value at c.element_size.ensures.value in
    let transaction = rw c.transaction.ensures.value at c.element_size-2.ensures.value in
    qualifiers_length c.args.id.now.group c.args.id.now.transaction c.element_size.result c.element_size-2.result group
    transaction
