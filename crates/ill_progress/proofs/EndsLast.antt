-- The loan of the example (`LastNumbers`) is converged, and its requester has used all its numbers.
use Rattle.std.proofs.Common.{◌≡◌, length, refl}
use Rattle.ill_core.specs.Requester as requester
use Rattle.ill_core.specs.Requester.{IsRequester}
use Rattle.ill_core.specs.Issued.{are_numbered}
use Rattle.ill_core.specs.Responder as responder
use Rattle.ill_core.specs.Responder.{IsResponder, rise_from, ships_first}
use Rattle.ill_world.specs.Round.{HaveConverged}
use Rattle.ill_progress.specs.LastNumbers.{renews_from, refusals_from, last_requester, last_responder}

-- The record of the requester satisfies its rules.
pub last_asks : IsRequester last_requester
unfolding requester.is_consistent are_numbered renews_from
last_asks = refl

-- The record of the responder satisfies its rules.
pub last_lends : IsResponder last_responder
unfolding responder.is_consistent are_numbered rise_from ships_first refusals_from
last_lends = refl

-- The two records are converged.
pub last_converged : HaveConverged last_requester last_responder
unfolding renews_from refusals_from
last_converged = record {
  faced = refl;
  undeclined = refl;
  received = λ is. refl;
  checked_in = refl;
  due = λ apart. absurd cc;
}

-- The requester has issued 255 messages.
pub last_used : length last_requester.issued ≡ 255
unfolding renews_from
last_used = refl
