-- Defines the body of an APDU in proofs, and the bodies that differ from it in their item alone.
use Rattle.std.specs.Prelude.{◌≡◌, ℕ, List, Result, Ok, Err}
use Rattle.std.specs.Borrow.{Bor}
use Rattle.ill_values.specs.declared.apdu.BodyWith.{BodyWith}
use Rattle.ill_values.specs.declared.apdu.BodyWith.TheVariants.{IllRequest, IllAnswer, ConditionalReply, Cancel, CancelReply}
use Rattle.ill_values.specs.declared.apdu.BodyWith.TheVariants.{Shipped, Received, Recall, Returned, CheckedIn, Overdue, Renew}
use Rattle.ill_values.specs.declared.apdu.BodyWith.TheVariants.{RenewAnswer, Expired}
use Rattle.ill_values.specs.declared.fault.TextFault.{TextFault}
use Rattle.ill_values.specs.Text.{item_of, ◌>>=◌}

-- The body of an APDU, with the bytes of its item.
abbrev pub Body : Type 0
Body = BodyWith (List ℕ)

-- Returns the body with `change` applied to its item. Only an ILL-Request has an item.
abbrev pub map_item : {I J : Type 0} → (I → J) → BodyWith I → BodyWith J
map_item change (IllRequest expiry item) = IllRequest expiry (change item)
map_item change (IllAnswer result) = IllAnswer result
map_item change (ConditionalReply answers is_yes) = ConditionalReply answers is_yes
map_item change Cancel = Cancel
map_item change (CancelReply answers is_yes) = CancelReply answers is_yes
map_item change (Shipped due) = Shipped due
map_item change Received = Received
map_item change Recall = Recall
map_item change Returned = Returned
map_item change CheckedIn = CheckedIn
map_item change (Overdue due) = Overdue due
map_item change (Renew wished) = Renew wished
map_item change (RenewAnswer answers granted) = RenewAnswer answers granted
map_item change Expired = Expired

-- Returns the body that a view shows: the item has the bytes that the view borrows.
abbrev pub body_in : BodyWith (Bor (List ℕ)) → Body
body_in = map_item (λ item. item.now)

-- Returns the body that a view shows, or the first fault of its item.
abbrev pub checked_body : BodyWith (Bor (List ℕ)) → Result Body TextFault
checked_body (IllRequest expiry item) = item_of item.now >>= λ text. Ok (IllRequest expiry text)
checked_body other = Ok (body_in other)

-- Maps the item of a body, `old`. `gives item made` says that the item `item` may give `made`, a new item or a fault.
-- If `old` is an ILL-Request, `result` is `old` with the new item, or the fault. Any other body is kept.
abbrev pub Maps : {I J E : Type 0} → (I → Result J E → Type 0) → BodyWith I → Result (BodyWith J) E → Type 0
Maps gives (IllRequest expiry item) (Ok (IllRequest same new)) = (same ≡ expiry) × gives item (Ok new)
Maps gives (IllRequest expiry item) (Err fault) = gives item (Err fault)
Maps gives (IllAnswer result) (Ok (IllAnswer same)) = same ≡ result
Maps gives (ConditionalReply answers is_yes) (Ok (ConditionalReply same is_same)) = (same ≡ answers) × (is_same ≡ is_yes)
Maps gives Cancel (Ok Cancel) = Unit {0}
Maps gives (CancelReply answers is_yes) (Ok (CancelReply same is_same)) = (same ≡ answers) × (is_same ≡ is_yes)
Maps gives (Shipped due) (Ok (Shipped same)) = same ≡ due
Maps gives Received (Ok Received) = Unit {0}
Maps gives Recall (Ok Recall) = Unit {0}
Maps gives Returned (Ok Returned) = Unit {0}
Maps gives CheckedIn (Ok CheckedIn) = Unit {0}
Maps gives (Overdue due) (Ok (Overdue same)) = same ≡ due
Maps gives (Renew wished) (Ok (Renew same)) = same ≡ wished
Maps gives (RenewAnswer answers granted) (Ok (RenewAnswer same still)) = (same ≡ answers) × (still ≡ granted)
Maps gives Expired (Ok Expired) = Unit {0}
Maps gives old result = ⊥
