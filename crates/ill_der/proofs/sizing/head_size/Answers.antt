-- Proves the clause `value` of `sizing::head_size`: the size is the length of the encoding of the head.
use Rattle.ill_der.proofs.Sizes.{head_length}
use Rattle.ill_der.proofs.sizing.head_size.Goals as goal

pub returns-clause-value : goal.returns-clause-value
returns-clause-value c =
    let apdu = c.args.apdu.now in
    head_length apdu.txn.group apdu.txn.transaction apdu.number c.id_size.result c.number_size.result c.id_size.ensures.value
    c.number_size.ensures.value
