-- The definitions of a night exclude the wrong answers, and the records that are not at rest.
use Rattle.std.proofs.Common.{◌≡◌, Bool, true, false, not, ◌&&◌, refl, sym, ap, ◌∙◌}
use Rattle.std.proofs.lemmas.Bool.{true≢false, and_from}
use Rattle.ill_core.specs.Issued.{is_none}
use Rattle.ill_core.specs.Requester.{RequesterRecord}
use Rattle.ill_core.specs.Responder.{ResponderRecord}
use Rattle.ill_record.specs.declared.side.Side.{Side}
use Rattle.ill_record.specs.Side.{issued_of}
use Rattle.ill_words.specs.Sending.{wants_sending}
use Rattle.ill_world.specs.Night.{asks, AtRest}
use Rattle.ill_world.specs.BadNights.{MisjudgesAsking, over_asks, idle_asks, open_asks_not, Restless, open_requester}
use Rattle.ill_world.specs.BadNights.{open_responder, unfaced}
use Rattle.ill_words.proofs.SendingLemmas.{open_wants, over_is_silent}
use Rattle.ill_world.proofs.HaveDiverged.{faces_back}

-- ---- the sides that send

-- `b && false` is false.
and_false : (b : Bool) → (b && false) ≡ false
and_false true = refl
and_false false = refl

-- If `says` is the answer of `asks` for `side`, `MisjudgesAsking` does not hold of it.
pub not_misasked : (side : Side) (says : Bool) → MisjudgesAsking side says → says ≡ asks side → ⊥
not_misasked side says (over_asks _ over) e =
    true≢false (e ∙ ap (λ b. b && not (is_none (issued_of side))) (over_is_silent side over))
not_misasked side says (idle_asks _ none) e =
    true≢false (e ∙ ap (λ b. wants_sending false side && not b) none ∙ and_false (wants_sending false side))
not_misasked side says (open_asks_not _ is_open some) e =
    true≢false (sym (and_from _ _ (open_wants false side is_open) (ap not some)) ∙ sym e)

-- ---- records at rest

-- If two records satisfy `Restless`, they are not at rest.
pub not_at_rest : (x : RequesterRecord) (y : ResponderRecord) → Restless x y → AtRest x y → ⊥
not_at_rest x y (open_requester is_open) rest = true≢false (sym rest.requester ∙ is_open)
not_at_rest x y (open_responder is_open) rest = true≢false (sym rest.responder ∙ is_open)
not_at_rest x y (unfaced apart) rest = true≢false (sym (faces_back x.state y.state rest.faced) ∙ apart)
