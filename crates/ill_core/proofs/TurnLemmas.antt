-- Proves that a message does not reopen a loan that is over.
use Rattle.std.proofs.Common.{rules, ◌≡◌, ℕ, true, [], ◌∷◌, ap, sym, refl}
use Rattle.ill_values.specs.declared.apdu.Apdu.{Apdu}
use Rattle.ill_values.specs.Body.{Body}
use Rattle.ill_core.specs.declared.state.State.TheVariants.{Returned}
use Rattle.ill_core.specs.declared.turn.Turn.TheVariants.{Over}
use Rattle.ill_core.specs.State.{is_among}
use Rattle.ill_core.specs.Requester.{RequesterRecord}
use Rattle.ill_core.specs.RequesterDeliveries as requester
use Rattle.ill_core.specs.Responder.{ResponderRecord}
use Rattle.ill_core.specs.ResponderDeliveries as responder
use Rattle.ill_core.specs.Verbs.{requester_turn, responder_turn}
use Rattle.ill_core.proofs.RequesterMoves as moves
use Rattle.ill_core.proofs.RequesterMoves.{Leads, delivery_leads}
use Rattle.ill_core.proofs.ResponderMoves as changes
use Rattle.ill_core.proofs.ResponderMoves.{Change, takes_changes}

-- If the turn of a requester in RETURNED is `Over`, it has the checked-in mark.
is_marked : (x : RequesterRecord) → is_among (Returned ∷ []) x.state ≡ true → requester_turn x ≡ Over → x.checked_in ≡ true
is_marked x back over = search rules

-- If the turn of requester `x` is `Over`, no message changes its record.
over_changes_nothing : (x new : RequesterRecord) (number : ℕ) (body : Body) → Leads x number body new → requester_turn x ≡ Over
    → new ≡ x
over_changes_nothing x new number body (moves.nowhere _) over = refl
over_changes_nothing x new number body (moves.holds_conditions at) over = search rules
over_changes_nothing x new number body (moves.ends _ is at) over = search rules
over_changes_nothing x new number body (moves.cancels cancel at) over = search rules
over_changes_nothing x new number body (moves.keeps_request cancel at) over = search rules
over_changes_nothing x new number body (moves.ships due at) over = search rules
over_changes_nothing x new number body (moves.misses due at is) over = search rules
over_changes_nothing x new number body (moves.reminds due at is) over = search rules
over_changes_nothing x new number body (moves.reminds_renewing due at is) over = search rules
over_changes_nothing x new number body (moves.renews renew due at is) over = search rules
over_changes_nothing x new number body (moves.refuses_renewal renew at) over = search rules
over_changes_nothing x new number body (moves.recalls at) over = search rules
over_changes_nothing x new number body (moves.checks_in at) over =
    ap (λ marked. record x { checked_in = marked }) (sym (is_marked x at over))

-- If the turn of requester `x` is `Over`, APDU `a` does not change its record.
pub requester_stays : (x : RequesterRecord) (a : Apdu) → requester_turn x ≡ Over → (requester.takes x a).1 ≡ x
requester_stays x a = over_changes_nothing x _ a.number a.body (delivery_leads x a)

-- If the turn of responder `y` is `Over`, a change does not change its state.
keeps_state : (y new : ResponderRecord) (number : ℕ) (body : Body) → Change y number body new
    → responder_turn y ≡ Over → new.state ≡ y.state
keeps_state y new number body (changes.leaves _) over = refl
keeps_state y new number body (changes.requests expiry item a at) over = search rules
keeps_state y new number body (changes.accepts c at) over = search rules
keeps_state y new number body (changes.declines c at few) over = search rules
keeps_state y new number body (changes.cancels later at) over = search rules
keeps_state y new number body changes.arrives over = refl
keeps_state y new number body (changes.renews wished later at) over = search rules
keeps_state y new number body (changes.renews_late wished later at) over = search rules
keeps_state y new number body (changes.returns at) over = search rules

-- If the turn of responder `y` is `Over`, APDU `a` does not change its state.
pub responder_stays : (y : ResponderRecord) (a : Apdu) → responder_turn y ≡ Over → (responder.takes y a).1.state ≡ y.state
responder_stays y a = keeps_state y _ a.number a.body (takes_changes y a)
