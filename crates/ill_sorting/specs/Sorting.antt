-- The way of each message file that comes to a shelf (this profile's own).
use Rattle.std.specs.Prelude.{Bool, true, false}
use Rattle.ill_record.specs.declared.role.Role.{Role}
use Rattle.ill_record.specs.declared.role.Role.TheVariants.{Responder}
use Rattle.ill_files.specs.declared.home.Home.{Home}
use Rattle.ill_files.specs.declared.home.Home.TheVariants as homes
use Rattle.ill_sorting.specs.declared.sorting.Route.{Route}
use Rattle.ill_sorting.specs.declared.sorting.Route.TheVariants as routes

-- Returns the way of a message file's message, by the role of the shelf and the home of the message's group.
-- `is_request` is true if the message is an ILL-Request, and `has_room` if this run may make further desks. A message
-- file makes a desk only if it is an ILL-Request to a responder's shelf, and its group is new. No message file makes
-- the desk of a retired group, or of a group whose desk is lost.
abbrev pub route_of : Role → Home → (is_request has_room : Bool) → Route
route_of role homes.Desk is_request has_room = routes.Home
route_of role homes.Retired is_request has_room = routes.Gone
route_of role homes.Lost is_request has_room = routes.Back
route_of Responder homes.Nothing true true = routes.New
route_of Responder homes.Nothing true false = routes.Back
route_of role homes.Nothing is_request has_room = routes.Stray
