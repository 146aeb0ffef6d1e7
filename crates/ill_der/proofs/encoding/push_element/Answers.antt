-- Proves the clause `prefix` of `encoding::push_element`: at an error, a proper prefix of the element was appended.
-- A proper prefix of the identifier and the length is a proper prefix of the element.
use Rattle.std.proofs.Common.{◌∷◌, length}
use Rattle.ill_der.specs.Format.{element, length_octets}
use Rattle.ill_der.proofs.AddingLemmas.{adds_first, at_err}
use Rattle.ill_der.proofs.encoding.push_element.Goals as goal

pub returns-in_err-push_start-clause-prefix : goal.returns-in_err-push_start-clause-prefix
unfolding element
returns-in_err-push_start-clause-prefix c =
    let contents = c.args.contents.now in
    at_err c.from_residual.result (adds_first _ _ (c.args.identifier ∷ length_octets (length contents)) contents
    c.in_err-push_start.ensures.prefix)
