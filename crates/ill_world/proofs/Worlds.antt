-- The code begins with the first world of the model, and gives each event of the model.
use Rattle.std.proofs.Common.{◌≡◌, inl, inr, Result, Ok, Err, refl, sym, ap, ◌∙◌, subst}
use Rattle.ill_values.specs.TxnId.{Qualifiers}
use Rattle.ill_record.specs.declared.side.Side.{Side}
use Rattle.ill_record.specs.declared.role.Role.{Role}
use Rattle.ill_record.specs.declared.role.Role.TheVariants as who
use Rattle.ill_world.specs.declared.event.Event.{Event}
use Rattle.ill_world.specs.declared.event.Event.TheVariants as events
use Rattle.ill_words.specs.declared.outcome.Outcome.{Outcome}
use Rattle.ill_world.specs.World.{Party, Parties, TwoOf, happens_at, first_party, first_world, party, with_party, who_of}
use Rattle.ill_world.specs.World.{happens_to, happens}
use Rattle.ill_record.specs.Side.{idle_side, other}
use Rattle.ill_world.specs.PartyRefinement.{GivesOutcome}
use Rattle.ill_world.specs.Invariant.{Invariant}
use Rattle.ill_world.specs.Agreement.{KeepsDates}

-- The transaction `t` is `txn`. Then the first party of an idle side of `t` is a party of the first world.
first_side : (role : Role) (txn t : Qualifiers) (side : Side) (p : Party) → t ≡ txn → side ≡ idle_side role t
    → p ≡ first_party side → p ≡ party (first_world txn) role
first_side who.Requester txn t side p copied idle new = new ∙ ap first_party (idle ∙ ap (idle_side who.Requester) copied)
first_side who.Responder txn t side p copied idle new = new ∙ ap first_party (idle ∙ ap (idle_side who.Responder) copied)

-- If `t` and `u` are `txn`, the first parties of their idle sides are the first world of `txn`.
pub first_is : (txn t u : Qualifiers) (x y : Side) (p q : Party) → t ≡ txn → u ≡ txn → x ≡ idle_side who.Requester t
    → y ≡ idle_side who.Responder u
    → p ≡ first_party x → q ≡ first_party y → ◌≡◌ {A = Parties} (record { requester = p; responder = q }) (first_world txn)
first_is txn t u x y p q copied again idle_x idle_y new_x new_y =
    ap (λ p. record { requester = p; responder = q }) (first_side who.Requester txn t x p copied idle_x new_x)
    ∙ ap (λ q. record { requester = (first_world txn).requester; responder = q })
    (first_side who.Responder txn u y q again idle_y new_y)

-- ---- one event of the world, as an event of a party

-- If a member of a pair is replaced by itself, the pair is unchanged.
stays_whole : {P : Type 0} (w : TwoOf P) (of : Role) → with_party w of (party w of) ≡ w
stays_whole w who.Requester = refl
stays_whole w who.Responder = refl

-- If a call gives the expected outcome and the expected member `of`, it gives the expected outcome and world. The event
-- happens at the role `at`, which is `of`.
pub both_give : {M O P : Type 0} (happening : P → P → O × P) (w : TwoOf P) (at of : Role) (result : Result O M) (new : P)
    → at ≡ of
    → GivesOutcome (happening (party w of) (party w (other of))) (party w of) result new
    → GivesOutcome (happens_at w at happening) w result (with_party w of new)
both_give {O = O} {P = P} happening w at of (Ok outcome) new is gives =
    ap (λ o. happens_at w o happening) is ∙ ap (λ (after : O × P). (after.0, with_party w of after.1)) gives
both_give happening w at of (Err memory) new is same = ap (with_party w of) same ∙ stays_whole w of

-- If a call gives the outcome of an event and the party `of` after it, it gives the world too.
pub world_gives : {M : Type 0} → (w : Parties) (event : Event) (of : Role) (result : Result Outcome M) (new : Party)
    → who_of event ≡ of
    → GivesOutcome (happens_to (party w of) (party w (other of)).sent event) (party w of) result new
    → GivesOutcome (happens w event) w result (with_party w of new)
world_gives w event of result new is gives =
    both_give (λ (p : Party) (partner : Party). happens_to p partner.sent event) w (who_of event) of result new is gives

-- If `F` holds of the old and of the expected world, it holds after the call.
pub given_keeps : {M O P : Type 0} (F : P → Type 0) (expected : O × P) (old new : P) (result : Result O M)
    → GivesOutcome expected old result new → F old → F expected.1 → F new
given_keeps {O = O} {P = P} F expected old new (Ok outcome) gives before after = subst (λ (x : O × P). F x.1) gives after
given_keeps F expected old new (Err memory) same before after = subst F (sym same) before

-- If each event keeps the invariant, a call that gives an event, or runs out of memory, keeps it too.
pub still_stands : {M : Type 0} → (txn : Qualifiers) (w new : Parties) (event : Event) (result : Result Outcome M)
    → ((w : Parties) (event : Event) → Invariant txn w → Invariant txn (happens w event).1)
    → GivesOutcome (happens w event) w result new → Invariant txn w → Invariant txn new
still_stands txn w new event result after gives stands =
    given_keeps (Invariant txn) (happens w event) w new result gives stands (after w event stands)

-- An unchanged world keeps the requester's due dates.
pub same_dates : (w : Parties) (event : Event) → KeepsDates w event w
same_dates w (events.Restart who.Requester) = (tt, inr (inl refl))
same_dates w event = (inr (inl refl), inr (inl refl))

-- If an event keeps the requester's due dates, a call that gives this event keeps them too.
pub dates_of : {M : Type 0} → (w new : Parties) (event : Event) (result : Result Outcome M)
    → KeepsDates w event (happens w event).1 → GivesOutcome (happens w event) w result new → KeepsDates w event new
dates_of w new event result keeps gives =
    given_keeps (KeepsDates w event) (happens w event) w new result gives (same_dates w event) keeps
