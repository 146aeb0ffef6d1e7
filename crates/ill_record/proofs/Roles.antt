-- The answers of a side, from the answers of a requester or a responder.
use Rattle.std.proofs.Common.{◌≡◌, Result, Err, ap, sym, refl}
use Rattle.ill_values.specs.declared.apdu.Apdu.{Apdu}
use Rattle.ill_core.specs.declared.refusal.Refusal.{Refusal}
use Rattle.ill_core.specs.declared.refusal.Refusal.TheVariants as refusals
use Rattle.ill_core.specs.declared.taking.Taking.{Taking}
use Rattle.ill_core.specs.Requester.{RequesterRecord}
use Rattle.ill_core.specs.RequesterDeliveries as requester
use Rattle.ill_record.specs.declared.side.Side.{Side}
use Rattle.ill_record.specs.declared.side.Side.TheVariants as sides
use Rattle.ill_record.specs.Side.{Takes}

-- If a requester gives `answer` and `new`, its side gives `answer` and the side of `new`.
as_side : (new : RequesterRecord) (answer : Result Taking Refusal) (found : Result Taking Refusal × RequesterRecord)
    → ◌≡◌ {A = Result Taking Refusal × RequesterRecord} (answer, new) found
    → ◌≡◌ {A = Result Taking Refusal × Side} (found.0, sides.Requester found.1) (answer, sides.Requester new)
as_side new answer found e = sym (ap (λ (r : Result Taking Refusal × RequesterRecord). (r.0, sides.Requester r.1)) e)

-- If a requester answers an APDU as defined, and not with `OutOfMemory`, its side answers it as `Takes` says.
pub requester_takes : (x new : RequesterRecord) (a : Apdu) (answer : Result Taking Refusal)
    → (answer ≡ Err refusals.OutOfMemory → ⊥)
    → ◌≡◌ {A = Result Taking Refusal × RequesterRecord} (answer, new) (requester.takes x a)
    → Takes (sides.Requester x) a answer (sides.Requester new)
requester_takes x new a (Err refusals.OutOfMemory) never e = absurd (never refl)
requester_takes x new a answer never e = as_side new answer (requester.takes x a) e
