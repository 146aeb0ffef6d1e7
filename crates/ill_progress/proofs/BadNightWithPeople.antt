-- The definitions of a night with people exclude each case of `BadNightWithPeople`.
use Rattle.std.proofs.Common.{rules, ◌≡◌, true, refl}
use Rattle.ill_core.specs.Requester.{RequesterRecord}
use Rattle.ill_core.specs.Responder.{ResponderRecord}
use Rattle.ill_record.specs.declared.role.Role.TheVariants as who
use Rattle.ill_world.specs.declared.event.Event.{Event}
use Rattle.ill_world.specs.declared.event.Event.TheVariants as events
use Rattle.ill_world.specs.World.{Parties, who_of}
use Rattle.ill_progress.specs.NightWithPeople.{HasHeard, AreCommitted, is_by_responder}
use Rattle.ill_progress.specs.BadNightWithPeople.{HasNotHeard, IsNotCommitted, unheard, not_committed}

-- If some message would change the responder's record (`HasNotHeard`), `HasHeard` does not hold.
pub none_unheard : (x : RequesterRecord) (y : ResponderRecord) → HasNotHeard x y → HasHeard x y → ⊥
none_unheard x y (unheard n a at changes) heard = changes (heard n a at)

-- Parties of which one has not committed have not both committed.
pub none_uncommitted : (w : Parties) → IsNotCommitted w → AreCommitted w → ⊥
none_uncommitted w (not_committed who.Requester other) committed = other committed.requester
none_uncommitted w (not_committed who.Responder other) committed = other committed.responder

-- An event by people of the responder's library happens to the responder.
pub by_responder : (event : Event) → is_by_responder event ≡ true → who_of event ≡ who.Responder
by_responder (events.Deed deed today) is = refl
by_responder (events.Save who.Responder) is = refl
by_responder (events.SaveFault who.Responder committed) is = refl
by_responder (events.Send who.Responder n) is = refl
by_responder (events.Noise who.Responder bytes) is = refl
by_responder (events.Restart who.Responder) is = refl
by_responder event is = search rules
