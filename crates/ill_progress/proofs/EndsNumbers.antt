-- A side that has issued 255 messages refuses each action, and the numbers of a loan are few.
use Rattle.std.proofs.Common.{arith, ◌≡◌, ℕ, ◌+◌, ◌≤◌, if◌then◌else◌, nat_lt, List, [], ◌∷◌, length, length-append, Result, Ok}
use Rattle.std.proofs.Common.{Err, refl, ap, ◌∙◌}
use Rattle.ill_values.specs.Day.{Date}
use Rattle.ill_values.specs.TxnId.{Qualifiers}
use Rattle.ill_values.specs.declared.apdu.Apdu.{Apdu}
use Rattle.ill_core.specs.declared.refusal.Refusal.{Refusal}
use Rattle.ill_core.specs.declared.refusal.Refusal.TheVariants.{NumbersUsed}
use Rattle.ill_core.specs.declared.requester.Wish.{Wish}
use Rattle.ill_core.specs.declared.responder.Deed.{Deed}
use Rattle.ill_core.specs.Issued.{next_number, next_apdu, IssuesNext}
use Rattle.ill_core.specs.Requester.{RequesterRecord}
use Rattle.ill_core.specs.RequesterActions.{Transition, transition_of, acts, acts_by}
use Rattle.ill_core.specs.Responder.{ResponderRecord}
use Rattle.ill_core.specs.ResponderActions as responder
use Rattle.ill_record.specs.declared.side.Side.{Side}
use Rattle.ill_record.specs.declared.side.Side.TheVariants as sides
use Rattle.ill_record.specs.declared.role.Role.{Role}
use Rattle.ill_record.specs.declared.role.Role.TheVariants as who
use Rattle.ill_record.specs.Side.{issued_of}
use Rattle.ill_world.specs.World.{Parties, party}
use Rattle.ill_world.specs.Invariant.{RequesterSideInvariant, ResponderSideInvariant, Invariant}
use Rattle.ill_progress.specs.Ends.{last_refusal}

-- ---- the last number

-- If 255 messages are issued, there is no next number.
none_next : (apdus : List Apdu) → length apdus ≡ 255 → next_number apdus ≡ Err NumbersUsed
none_next apdus used = ap (λ (n : ℕ). if nat_lt n 255 then Ok (n + 1) else Err NumbersUsed) used

-- If there is no number, a wish has the last refusal of its transition `found`.
wish_by : (x : RequesterRecord) (found : Result Transition Refusal) → acts_by x found (Err NumbersUsed) ≡ Err (last_refusal found)
wish_by x (Ok transition) = refl
wish_by x (Err refusal) = refl

-- A requester that has issued 255 messages refuses each wish.
pub wish_refused : (x : RequesterRecord) (wish : Wish) → length x.issued ≡ 255
    → acts x wish ≡ Err (last_refusal (transition_of x wish))
wish_refused x wish used = ap (acts_by x (transition_of x wish)) (none_next x.issued used) ∙ wish_by x (transition_of x wish)

-- If there is no number, a deed has the last refusal of its transition `found`.
deed_by : (y : ResponderRecord) (found : Result responder.Transition Refusal)
    → responder.acts_by y found (Err NumbersUsed) ≡ Err (last_refusal found)
deed_by y (Ok transition) = refl
deed_by y (Err refusal) = refl

-- A responder that has issued 255 messages refuses each deed.
pub deed_refused : (y : ResponderRecord) (deed : Deed) (today : Date) → length y.issued ≡ 255
    → responder.acts y deed today ≡ Err (last_refusal (responder.transition_of y deed today))
deed_refused y deed today used =
    ap (responder.acts_by y (responder.transition_of y deed today)) (none_next y.issued used)
    ∙ deed_by y (responder.transition_of y deed today)

-- ---- few numbers

-- A list with the next APDU is longer by one.
pub one_longer : (txn : Qualifiers) (old new : List Apdu) → IssuesNext txn old new → length new ≡ length old + 1
one_longer txn old new next = ap length next.1 ∙ length-append old (next_apdu txn old next.0 ∷ [])

-- A requester's side has issued at most 255 messages.
pub requester_few : (txn : Qualifiers) (side : Side) (sent : _) → RequesterSideInvariant txn side sent
    → length (issued_of side) ≤ 255
requester_few txn (sides.Requester x) sent stands = stands.few
requester_few txn (sides.Responder y) sent stands = absurd stands

-- A responder's side has issued at most 255 messages.
pub responder_few : (txn : Qualifiers) (side : Side) (sent : _) → ResponderSideInvariant txn side sent
    → length (issued_of side) ≤ 255
responder_few txn (sides.Responder y) sent stands = stands.few
responder_few txn (sides.Requester x) sent stands = absurd stands

-- If a world satisfies the invariant, each side has issued at most 255 messages.
pub each_few : (txn : Qualifiers) (w : Parties) (of : Role) → Invariant txn w → length (issued_of (party w of).live) ≤ 255
each_few txn w who.Requester stands = requester_few txn w.requester.live w.responder.sent stands.requester.live
each_few txn w who.Responder stands = responder_few txn w.responder.live w.requester.sent stands.responder.live

-- If a world satisfies the invariant, both sides have issued at most 510 messages.
pub both_few : (txn : Qualifiers) (w : Parties) → Invariant txn w
    → length (issued_of w.requester.live) + length (issued_of w.responder.live) ≤ 510
both_few txn w stands = omega (arith, each_few txn w who.Requester stands, each_few txn w who.Responder stands)
