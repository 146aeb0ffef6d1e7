-- Records that have not heard, and parties that have not committed. By the laws `HasHeard` and `AreCommitted` exclude
-- them.
use Rattle.std.specs.Prelude.{◌≡◌, ℕ, Some}
use Rattle.ill_values.specs.declared.apdu.Apdu.{Apdu}
use Rattle.ill_core.specs.Issued.{message}
use Rattle.ill_core.specs.Requester.{RequesterRecord}
use Rattle.ill_core.specs.Responder.{ResponderRecord}
use Rattle.ill_core.specs.ResponderDeliveries.{takes}
use Rattle.ill_record.specs.declared.role.Role.{Role}
use Rattle.ill_world.specs.World.{Parties, party}

-- A message that the requester has issued would change the responder's record.
pub data HasNotHeard (x : RequesterRecord) (y : ResponderRecord) : Type 0 where
  unheard : (n : ℕ) (a : Apdu) → message x.issued n ≡ Some a → ((takes y a).1 ≡ y → ⊥) → HasNotHeard x y

-- The live side of a party has not committed.
pub data IsNotCommitted (w : Parties) : Type 0 where
  not_committed : (who : Role) → ((party w who).committed ≡ (party w who).live → ⊥) → IsNotCommitted w
