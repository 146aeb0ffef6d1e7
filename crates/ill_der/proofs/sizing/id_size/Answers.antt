-- Proves the clause `value` of `sizing::id_size`: the size is the length of the encoding of the transaction id.
use Rattle.ill_der.proofs.Sizes.{id_length}
use Rattle.ill_der.proofs.sizing.id_size.Goals as goal

pub returns-clause-value : goal.returns-clause-value
returns-clause-value c =
    id_length c.args.id.now.group c.args.id.now.transaction c.qualifiers_size.result c.element_size.result
    c.qualifiers_size.ensures.value c.element_size.ensures.value
