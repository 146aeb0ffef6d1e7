-- Proves `BodyWith::try_map`: an ILL-Request has what `make` made of its item. Any other body is kept.
use Rattle.std.proofs.Common.{rules, refl}
use Rattle.ill_values.proofs.apdu.BodyWith.try_map.Goals.{in-IllRequest+in-Ok, in-IllAnswer, in-ConditionalReply, in-Cancel}
use Rattle.ill_values.proofs.apdu.BodyWith.try_map.Goals.{in-CancelReply, in-Shipped, in-Received, in-Recall, in-Returned}
use Rattle.ill_values.proofs.apdu.BodyWith.try_map.Goals.{in-CheckedIn, in-Overdue, in-Renew, in-RenewAnswer, in-Expired}
use Rattle.ill_values.proofs.apdu.BodyWith.try_map.Goals as goal

-- If `make` fails, the body is an ILL-Request, and the result is the error of `make`.
pub returns-in-Err : goal.returns-in-Err
returns-in-Err g c = rw (c.in-IllRequest.is) (_, c.in-Err.ensures, refl)

-- If nothing fails, only the item of an ILL-Request differs; any other variant has equal fields.
pub returns : goal.returns
returns g c =
    elim c.match-self.branch [
      | in-IllRequest+in-Ok w ↦ rw (w.in-IllRequest.is, w.result-is) (refl, (_, w.in-Ok.ensures, refl))
      | in-IllAnswer w ↦ search rules
      | in-ConditionalReply w ↦ search rules
      | in-Cancel w ↦ search rules
      | in-CancelReply w ↦ search rules
      | in-Shipped w ↦ search rules
      | in-Received w ↦ search rules
      | in-Recall w ↦ search rules
      | in-Returned w ↦ search rules
      | in-CheckedIn w ↦ search rules
      | in-Overdue w ↦ search rules
      | in-Renew w ↦ search rules
      | in-RenewAnswer w ↦ search rules
      | in-Expired w ↦ search rules
    ]
