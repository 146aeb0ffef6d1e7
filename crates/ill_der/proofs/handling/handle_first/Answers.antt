-- Proves the contract of `handling::handle_first`: the first APDU was handled and has the returned size.
-- The view of the bytes gives the APDU and its size.
use Rattle.std.proofs.Common.{arith}
use Rattle.ill_der.proofs.FeedLemmas.{begins_one}
use Rattle.ill_der.proofs.handling.handle_first.Goals as goal

pub returns-in-Ok-handle : goal.returns-in-Ok-handle
returns-in-Ok-handle g c =
    let bytes = c.args.bytes.now in (
      c.in-Ok.ensures.some,
      c.in-Ok.ensures.read.0,
      (
        c.in-Ok.apdu,
        begins_one c.prefix_or_fault.ensures bytes c.in-Ok.apdu _ (λ i. omega (arith, c.type_inv.bytes i))
            c.in-Ok.ensures.read.1,
        c.in-Ok-handle.ensures,
      ),
    )
