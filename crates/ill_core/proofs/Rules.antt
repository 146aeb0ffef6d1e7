-- Proves that the tests of a record hold if, and only if, each rule of the record holds.
use Rattle.std.proofs.Common.{rules, ◌≡◌, ℕ, Bool, true, false, not, ◌&&◌, is_some, take, refl}
use Rattle.std.proofs.lemmas.Bool.{and_from, and_parts, eqb-true, eq-eqb, not-true}
use Rattle.ill_core.specs.Rules.{are_alike}
use Rattle.ill_core.specs.declared.requester.standing.Standing as requesters
use Rattle.ill_core.specs.declared.responder.standing.Standing as responders
use Rattle.ill_core.specs.Issued.{is_none}
use Rattle.ill_core.specs.Requester as requester
use Rattle.ill_core.specs.Requester.{RequesterRecord, IsRequester}
use Rattle.ill_core.specs.RequesterRules.{RequesterRules}
use Rattle.ill_core.specs.Responder as responder
use Rattle.ill_core.specs.Responder.{ResponderRecord, IsResponder}
use Rattle.ill_core.proofs.IssuedLemmas.{numbered_prefix}
use Rattle.ill_core.proofs.ResponderLists.{request_in_is}
use Rattle.ill_core.specs.ResponderRules.{ResponderRules}

-- If `are_alike a b` is true, `a` equals `b`.
alike : (a b : Bool) → are_alike a b ≡ true → a ≡ b
alike a true h = h
alike a false h = not-true a h

-- If `a` equals `b`, `are_alike a b` is true.
alike_from : (a b : Bool) → a ≡ b → are_alike a b ≡ true
alike_from true true h = refl
alike_from false false h = refl
alike_from true false h = search rules
alike_from false true h = search rules

-- If a test is false, its negation is true.
not_from : (a : Bool) → a ≡ false → not a ≡ true
not_from true h = search rules
not_from false h = refl

-- A record that satisfies `IsRequester` satisfies each rule. The test is split at each `&&`.
pub requester_rules : (x : RequesterRecord) → IsRequester x → RequesterRules x
unfolding requester.is_consistent
requester_rules x h =
    let numbered = and_parts _ _ h in
    let fits = and_parts _ _ numbered.1 in
    let role = and_parts _ _ fits.0 in
    let held = and_parts _ _ role.1 in
    let due = and_parts _ _ held.1 in
    let types = and_parts _ _ fits.1 in
    let request = and_parts _ _ types.1 in
    let idle = and_parts _ _ request.1 in
    let received = and_parts _ _ idle.1 in
    let came = and_parts _ _ received.0 in
    let cancel = and_parts _ _ received.1 in
    let renew = and_parts _ _ cancel.1 in
    let returned = and_parts _ _ renew.1 in
    record {
      numbered = numbered.0;
      role = types.0;
      request = request.0;
      parts = record {
        role = not-true _ role.0;
        held = alike _ _ held.0;
        due = alike _ _ due.0;
        checked_in = due.1;
      };
      issued = record {
        idle = alike _ _ idle.0;
        received = came.0;
        not_received = came.1;
        cancel = cancel.0;
        renew = renew.0;
        returned = alike _ _ returned.0;
        declined = returned.1;
      };
    }

-- A record that satisfies each rule satisfies `IsRequester`. The rules are joined by `&&`, in the order of the test.
pub is_requester : (x : RequesterRecord) → RequesterRules x → IsRequester x
unfolding requester.is_consistent
is_requester x h =
    let p = h.parts in
    let i = h.issued in
    and_from _ _ h.numbered (
    and_from _ _ (and_from _ _ (not_from _ p.role)
    (and_from _ _ (alike_from _ _ p.held) (and_from _ _ (alike_from _ _ p.due) p.checked_in))) (
    and_from _ _ h.role (and_from _ _ h.request (
    and_from _ _ (alike_from _ _ i.idle) (and_from _ _ (and_from _ _ i.received i.not_received) (
    and_from _ _ i.cancel (and_from _ _ i.renew (and_from _ _ (alike_from _ _ i.returned) i.declined))))))))

-- A record that satisfies `IsResponder` satisfies each rule. The test is split at each `&&`.
pub responder_rules : (y : ResponderRecord) → IsResponder y → ResponderRules y
unfolding responder.is_consistent
responder_rules y h =
    let numbered = and_parts _ _ h in
    let request = and_parts _ _ numbered.1 in
    let fits = and_parts _ _ request.1 in
    let role = and_parts _ _ fits.0 in
    let asked = and_parts _ _ role.1 in
    let empty = and_parts _ _ asked.1 in
    let marked = and_parts _ _ empty.1 in
    let cancel = and_parts _ _ marked.1 in
    let types = and_parts _ _ fits.1 in
    let issued = and_parts _ _ types.1 in
    let shipped = and_parts _ _ issued.0 in
    let checked_in = and_parts _ _ shipped.1 in
    let accepted = and_parts _ _ issued.1 in
    let rising = and_parts _ _ accepted.1 in
    record {
      numbered = numbered.0;
      role = types.0;
      request = request.0;
      parts = record {
        role = not-true _ role.0;
        idle = alike _ _ asked.0;
        empty = empty.0;
        marked = marked.0;
        cancel = cancel.0;
        renew = cancel.1;
      };
      issued = record {
        shipped = eqb-true _ _ shipped.0;
        checked_in = alike _ _ checked_in.0;
        conditions = checked_in.1;
      };
      accepted = accepted.0;
      rising = rising.0;
      ships_first = rising.1;
    }

-- A record that satisfies each rule satisfies `IsResponder`. The rules are joined by `&&`, in the order of the test.
pub is_responder : (y : ResponderRecord) → ResponderRules y → IsResponder y
unfolding responder.is_consistent
is_responder y h =
    let p = h.parts in
    let i = h.issued in
    and_from _ _ h.numbered (and_from _ _ h.request (
    and_from _ _ (and_from _ _ (not_from _ p.role) (and_from _ _ (alike_from _ _ p.idle) (
    and_from _ _ p.empty (and_from _ _ p.marked (and_from _ _ p.cancel p.renew))))) (
    and_from _ _ h.role (
    and_from _ _ (and_from _ _ (eq-eqb _ _ i.shipped) (and_from _ _ (alike_from _ _ i.checked_in) i.conditions)) (
    and_from _ _ h.accepted (and_from _ _ h.rising h.ships_first))))))

-- If standing `s` fits the first `count` messages of `x`, the requester with both satisfies its rules.
pub requester_back : (x : RequesterRecord) (s : requesters.Standing) (count : ℕ) → IsRequester x
    → (requester.parts_fit s.state (is_some s.held) (is_some s.due) s.checked_in
    && requester.issued_keeps_rules s.state (take count x.issued)) ≡ true
    → IsRequester (requester.back_to s count x)
unfolding requester.is_consistent
requester_back x s count h fits = and_from _ _ (numbered_prefix x.txn 1 count x.issued (and_parts _ _ h).0) fits

-- If the requester with standing `s` and the first `count` messages satisfies its rules, both fit together.
pub requester_back_fits : (x : RequesterRecord) (s : requesters.Standing) (count : ℕ) → IsRequester (requester.back_to s count x)
    → (requester.parts_fit s.state (is_some s.held) (is_some s.due) s.checked_in
    && requester.issued_keeps_rules s.state (take count x.issued)) ≡ true
unfolding requester.is_consistent
requester_back_fits x s count h = (and_parts _ _ h).1

-- If standing `s` fits the first `count` messages of `y`, the responder with both satisfies its rules.
pub responder_back : (y : ResponderRecord) (s : responders.Standing) (count : ℕ) → IsResponder y
    → (responder.parts_fit s.state (is_some (responder.request_in s.state y.request)) (is_some s.accepted) (is_some s.last_cancel)
    (is_some s.last_renew) s.received (is_none (take count y.issued))
    && responder.issued_keeps_rules s.state s.accepted (take count y.issued)) ≡ true
    → IsResponder (responder.back_to s count y)
unfolding responder.is_consistent
responder_back y s count h fits =
    let numbered = and_parts _ _ h in
    and_from _ _ (numbered_prefix y.txn 1 count y.issued numbered.0) (
    and_from _ _ (request_in_is y.txn s.state y.request (and_parts _ _ numbered.1).0) fits)

-- If the responder with standing `s` and the first `count` messages satisfies its rules, both fit together.
pub responder_back_fits : (y : ResponderRecord) (s : responders.Standing) (count : ℕ) → IsResponder (responder.back_to s count y)
    → (responder.parts_fit s.state (is_some (responder.request_in s.state y.request)) (is_some s.accepted) (is_some s.last_cancel)
    (is_some s.last_renew) s.received (is_none (take count y.issued))
    && responder.issued_keeps_rules s.state s.accepted (take count y.issued)) ≡ true
unfolding responder.is_consistent
responder_back_fits y s count h = (and_parts _ _ (and_parts _ _ h).1).1
