-- The APDU that an `ApduView` shows. The texts of a view are borrowed from the bytes.
use Rattle.std.specs.Prelude.{ℕ, List}
use Rattle.ill_values.specs.declared.apdu.Apdu.{Apdu}
use Rattle.ill_values.specs.declared.apdu.BodyWith.TheVariants.{IllRequest}
use Rattle.ill_values.specs.Body.{Body}
use Rattle.ill_values.specs.Text.{IsItem}

-- Returns the APDU with these qualifiers, this number and this body.
abbrev pub apdu_of : List ℕ → List ℕ → ℕ → Body → Apdu
apdu_of group transaction number body = record {
  txn = record { group = group; transaction = transaction };
  number = number;
  body = body;
}

-- If the body is an ILL-Request, its text is an item.
abbrev pub HasItem : Body → Type 0
HasItem (IllRequest expiry item) = IsItem item
HasItem other = Unit {0}
