-- In a round each side takes all messages of the other, one after another.
use Rattle.std.proofs.Common.{rules, arith, ◌≡◌, ℕ, zero, suc, ◌+◌, ◌≤◌, ◌<◌, Bool, true, false, nat_le, List, [], ◌∷◌, ◌++◌}
use Rattle.std.proofs.Common.{length, Option, Some, None, Result, Ok, Err, refl, sym, ap, ◌∙◌, subst, append_assoc, append-nil}
use Rattle.std.proofs.Common.{length-append}
use Rattle.std.specs.Prelude.{slice_get, IsErr, OnOk}
use Rattle.std.specs.List.{slice_set}
use Rattle.std.specs.Option.{option_flatten}
use Rattle.std.proofs.lemmas.Bool.{le-leb}
use Rattle.ill_values.specs.declared.apdu.Apdu.{Apdu}
use Rattle.ill_core.specs.Issued.{message}
use Rattle.ill_record.specs.declared.side.Side.{Side}
use Rattle.ill_record.specs.Side.{issued_of, takes, other, IsPrefix}
use Rattle.ill_record.specs.declared.role.Role.{Role}
use Rattle.ill_record.specs.declared.role.Role.TheVariants as who
use Rattle.ill_world.specs.declared.event.Event.{Event}
use Rattle.ill_world.specs.declared.event.Event.TheVariants as events
use Rattle.ill_world.specs.World.{Party, Parties, party, saves, sends, receives, sent_message, with_sent, happens, run_of, run_by}
use Rattle.ill_world.specs.Round.{sends_and_delivers, half_of, round_of, Performs}
use Rattle.ill_world.proofs.Runs.{run_both}
use Rattle.ill_world.proofs.Sendings.{places_kept}

-- Returns a side after it takes `apdus`, one after another.
unfoldable pub takes_all : Side → List Apdu → Side
takes_all side [] = side
takes_all side (a ∷ apdus) = takes_all (takes side a).1 apdus

-- ---- one message

-- If a list has a place i, and `a` is put at it, place i has `a`.
pub put_here : (slots : List (Option Apdu)) (i : ℕ) (a : Apdu) → i < length slots
    → option_flatten (slice_get (slice_set slots i (Some a)) i) ≡ Some a
put_here [] i a within = absurd (omega (arith, within))
put_here (slot ∷ slots) zero a within = refl
put_here (slot ∷ slots) (suc i) a within = put_here slots i a (omega (arith, within))

-- The list of `prefix`, `a` and `more` has `a` at the index that is the length of `prefix`.
at_prefix : (prefix more : List Apdu) (a : Apdu) → slice_get (prefix ++ a ∷ more) (length prefix) ≡ Some a
at_prefix [] more a = refl
at_prefix (b ∷ prefix) more a = at_prefix prefix more a

-- If message n is `a`, and is released, a Send of n adds `a` to the sent messages.
sent_is : (p : Party) (n : ℕ) (a : Apdu) (found : Option Apdu) (released : Bool) → found ≡ Some a → released ≡ true
    → (sends p n found released).1 ≡ record p { sent = with_sent p.sent n a }
sent_is p n a (Some b) true is free = let same : b ≡ a = search rules in ap (λ c. record p { sent = with_sent p.sent n c }) same
sent_is p n a (Some b) false is free = search rules
sent_is p n a None released is free = search rules

-- If the other party has sent message `a`, the live side of the receiving party takes it.
taken_is : (q : Party) (a : Apdu) (found : Option Apdu) → found ≡ Some a
    → (receives q found).1 ≡ record q { live = (takes q.live a).1 }
taken_is q a (Some b) is = let same : b ≡ a = search rules in ap (λ c. record q { live = (takes q.live c).1 }) same
taken_is q a None is = search rules

-- Returns the world after the party `of` sends `a` as message n, and the other party takes it.
abbrev passed : Parties → Role → ℕ → Apdu → Parties
passed w who.Requester n a = record {
  requester = record w.requester { sent = with_sent w.requester.sent n a };
  responder = record w.responder { live = (takes w.responder.live a).1 };
}
passed w who.Responder n a = record {
  requester = record w.requester { live = (takes w.requester.live a).1 };
  responder = record w.responder { sent = with_sent w.responder.sent n a };
}

-- If the party `of` may send `a` as message n, its Send and its Deliver lead to `passed`.
passes : (of : Role) (w : Parties) (n : ℕ) (a : Apdu) → message (issued_of (party w of).live) n ≡ Some a
    → nat_le n (party w of).released ≡ true → sent_message (with_sent (party w of).sent n a) n ≡ Some a
    → (happens (happens w (events.Send of n)).1 (events.Deliver (other of) n)).1 ≡ passed w of n a
passes who.Requester w n a at free there =
    let p = w.requester in
    let first : (happens w (events.Send who.Requester n)).1 ≡ record w { requester = record p { sent = with_sent p.sent n a } } =
    ap (λ q. record w { requester = q }) (sent_is p n a (message (issued_of p.live) n) (nat_le n p.released) at free) in
    ap (λ v. (happens v (events.Deliver who.Responder n)).1) first
    ∙ ap (λ q. record { requester = record p { sent = with_sent p.sent n a }; responder = q })
    (taken_is w.responder a (sent_message (with_sent p.sent n a) n) there)
passes who.Responder w n a at free there =
    let p = w.responder in
    let first : (happens w (events.Send who.Responder n)).1 ≡ record w { responder = record p { sent = with_sent p.sent n a } } =
    ap (λ q. record w { responder = q }) (sent_is p n a (message (issued_of p.live) n) (nat_le n p.released) at free) in
    ap (λ v. (happens v (events.Deliver who.Requester n)).1) first
    ∙ ap (λ q. record { requester = q; responder = record p { sent = with_sent p.sent n a } })
    (taken_is w.requester a (sent_message (with_sent p.sent n a) n) there)

-- ---- all messages of a party

-- A party has issued `apdus`, and all are released. They are at most 255, and `p.sent` has a place for each number.
record MaySend (p : Party) (apdus : List Apdu) : Type 0 where
  issued : issued_of p.live ≡ apdus
  released : length apdus ≤ p.released
  few : length apdus ≤ 255
  places : length p.sent ≡ 255

-- The live side of the party `of` is unchanged. The live side of the other party has taken all `apdus`.
pub record HasPassed (of : Role) (old new : Parties) (apdus : List Apdu) : Type 0 where
  pub live : (party new of).live ≡ (party old of).live
  pub taken : (party new (other of)).live ≡ takes_all (party old (other of)).live apdus

-- After message n was passed, the party may still send all of `apdus`.
may_send_still : (of : Role) (w : Parties) (n : ℕ) (a : Apdu) (apdus : List Apdu) → MaySend (party w of) apdus
    → MaySend (party (passed w of n a) of) apdus
may_send_still who.Requester w n a apdus may =
    record { issued = may.issued; released = may.released; few = may.few; places = places_kept w.requester.sent n a ∙ may.places }
may_send_still who.Responder w n a apdus may =
    record { issued = may.issued; released = may.released; few = may.few; places = places_kept w.responder.sent n a ∙ may.places }

-- If `a` was passed, and then `apdus`, then `a ∷ apdus` were passed.
has_passed_one_more : (of : Role) (w new : Parties) (n : ℕ) (a : Apdu) (apdus : List Apdu)
    → HasPassed of (passed w of n a) new apdus → HasPassed of w new (a ∷ apdus)
unfolding takes_all
has_passed_one_more who.Requester w new n a apdus has = record { live = has.live; taken = has.taken }
has_passed_one_more who.Responder w new n a apdus has = record { live = has.live; taken = has.taken }

-- If a party may send `prefix ++ rest`, `sends_and_delivers` passes `rest` from number n on. The first message of
-- `rest` has this number.
pass_all : (of : Role) (w : Parties) (n : ℕ) (prefix rest : List Apdu) → n ≡ length prefix + 1
    → MaySend (party w of) (prefix ++ rest) → HasPassed of w (run_of w (sends_and_delivers of n (length rest))) rest
unfolding sends_and_delivers run_by takes_all
pass_all of w n prefix [] is may = record { live = refl; taken = refl }
pass_all of w n prefix (a ∷ rest) is may =
    let p = party w of in
    let size = length-append prefix (a ∷ rest) in
    let place : n ≡ suc (length prefix) = omega (arith, is) in
    let at : message (issued_of p.live) n ≡ Some a =
    ap (λ l. message l n) may.issued ∙ ap (message (prefix ++ a ∷ rest)) place ∙ at_prefix prefix rest a in
    let free : nat_le n p.released ≡ true = le-leb n p.released (omega (arith, is, size, may.released)) in
    let there : sent_message (with_sent p.sent n a) n ≡ Some a =
    subst (λ k. sent_message (with_sent p.sent k a) k ≡ Some a) (sym place)
    (put_here p.sent (length prefix) a (omega (arith, size, may.few, may.places))) in
    let may_more = subst (MaySend (party (passed w of n a) of)) (sym (append_assoc prefix (a ∷ []) rest))
    (may_send_still of w n a (prefix ++ a ∷ rest) may) in
    let more = pass_all of (passed w of n a) (n + 1) (prefix ++ a ∷ []) rest (omega (arith, is, length-append prefix (a ∷ [])))
    may_more in
    subst (λ v. HasPassed of w (run_of v (sends_and_delivers of (n + 1) (length rest))) (a ∷ rest))
    (sym (passes of w n a at free there))
    (has_passed_one_more of w (run_of (passed w of n a) (sends_and_delivers of (n + 1) (length rest))) n a rest more)

-- ---- a half of a round

-- After a save a party may send all messages that it has issued.
may_after : (p : Party) → length (issued_of p.live) ≤ 255 → length p.sent ≡ 255 → MaySend (saves p) (issued_of p.live)
may_after p few places = record { issued = refl; released = omega arith; few = few; places = places }

-- In a half of a round the other party takes all messages of the party `of`.
pub half_passes : (of : Role) (w : Parties) → length (issued_of (party w of).live) ≤ 255
    → length (party w of).sent ≡ 255 → HasPassed of w (run_of w (half_of of w)) (issued_of (party w of).live)
unfolding run_by
half_passes who.Requester w few places =
    let p = w.requester in
    let has = pass_all who.Requester (record w { requester = saves p }) 1 [] (issued_of p.live) refl (may_after p few places) in
    record { live = has.live; taken = has.taken }
half_passes who.Responder w few places =
    let p = w.responder in
    let has = pass_all who.Responder (record w { responder = saves p }) 1 [] (issued_of p.live) refl (may_after p few places) in
    record { live = has.live; taken = has.taken }

-- After a round the responder has taken all messages of the requester. Then the requester has taken all messages of the
-- responder.
pub record Rounds (w new : Parties) : Type 0 where
  pub responder : new.responder.live ≡ takes_all w.responder.live (issued_of w.requester.live)
  pub requester : new.requester.live ≡ takes_all w.requester.live (issued_of new.responder.live)

-- `Rounds` holds of a round if each party has issued at most 255 messages when it saves. Each must have 255 places for
-- sent messages.
pub round_passes : (w : Parties)
    → let between = run_of w (half_of who.Requester w) in length (issued_of w.requester.live) ≤ 255
    → length w.requester.sent ≡ 255 → length (issued_of between.responder.live) ≤ 255
    → length between.responder.sent ≡ 255 → Rounds w (run_of w (round_of w))
round_passes w few places few_more places_more =
    let between : Parties = run_of w (half_of who.Requester w) in
    let first = half_passes who.Requester w few places in
    let second = half_passes who.Responder between few_more places_more in
    let after : Parties = run_of between (half_of who.Responder between) in
    let whole : run_of w (round_of w) ≡ after = run_both happens w (half_of who.Requester w) (half_of who.Responder between) in
    subst (Rounds w) (sym whole) (record {
      responder = second.live ∙ first.taken;
      requester = second.taken ∙ (ap (λ side. takes_all side (issued_of between.responder.live)) first.live
          ∙ ap (λ side. takes_all w.requester.live (issued_of side)) (sym second.live));
    })

-- ---- the events of a half, as a list that grows

-- A loop appends the Send and the Deliver of message n to `before`. Of the list `all`, `before` lacked the events of
-- `size` messages. The longer list lacks the events of the `left` later messages.
pub passes_grow : (of partner : Role) (n number size left : ℕ) (before sent delivered all : List Event)
    → partner ≡ other of → number ≡ n → size ≡ suc left → sent ≡ before ++ events.Send of number ∷ []
    → delivered ≡ sent ++ events.Deliver partner number ∷ [] → before ++ sends_and_delivers of n size ≡ all
    → delivered ++ sends_and_delivers of (n + 1) left ≡ all
unfolding sends_and_delivers
passes_grow of partner n number size left before sent delivered all is_other is_n is_size is_sent is_delivered is_all =
    let rest = sends_and_delivers of (n + 1) left in
    let two : delivered ≡ before ++ events.Send of n ∷ events.Deliver (other of) n ∷ [] =
    is_delivered ∙ ap (λ l. l ++ events.Deliver partner number ∷ []) is_sent
    ∙ append_assoc before (events.Send of number ∷ []) (events.Deliver partner number ∷ [])
    ∙ ap (λ k. before ++ events.Send of k ∷ events.Deliver partner k ∷ []) is_n
    ∙ ap (λ w. before ++ events.Send of n ∷ events.Deliver w n ∷ []) is_other in
    let whole : before ++ sends_and_delivers of n (suc left) ≡ all =
    subst (λ k. before ++ sends_and_delivers of n k ≡ all) is_size is_all in
    ap (λ l. l ++ rest) two ∙ append_assoc before (events.Send of n ∷ events.Deliver (other of) n ∷ []) rest ∙ whole

-- If `count` is 0, `before` lacks no events.
pub passes_none : (before : List Event) (of : Role) (n count : ℕ) → count ≡ 0 → before ≡ before ++ sends_and_delivers of n count
unfolding sends_and_delivers
passes_none before of n zero none = sym (append-nil before)
passes_none before of n (suc count) none = absurd (omega (arith, none))

-- ---- events that are performed

-- `happening` gives the outcome of an event, and the world after it.
module _ {W E O M : Type 0} (happening : W → E → O × W) where
  -- If memory ran out, and a prefix of the events has led to this world, `Performs` holds of the events.
  pub performs_prefix : (events first : List E) (old new : W) (result : Result (Unit {0}) M) → IsErr result
      → IsPrefix first events → new ≡ run_by happening old first → Performs (run_by happening) events old result new
  performs_prefix events first old new (Ok done) failed prefix is = search rules
  performs_prefix events first old new (Err memory) failed prefix is = (first, prefix, is)

  -- If `first` has led to the world `between`, and `second` was performed from it, `first ++ second` was performed.
  pub performs_both : (first second : List E) (old between new : W) (result : Result (Unit {0}) M)
      → between ≡ run_by happening old first → Performs (run_by happening) second between result new
      → Performs (run_by happening) (first ++ second) old result new
  performs_both first second old between new (Ok done) led performs =
      performs ∙ ap (λ w. run_by happening w second) led ∙ sym (run_both happening old first second)
  performs_both first second old between new (Err memory) led (some, prefix, is) = (
    first ++ some,
    (prefix.0, ap (λ l. first ++ l) prefix.1 ∙ sym (append_assoc first some prefix.0)),
    is ∙ ap (λ w. run_by happening w some) led ∙ sym (run_both happening old first some),
  )

  -- If `P` holds of the world after `events`, it holds of `new` after they were performed. Memory must not have run
  -- out.
  pub performed : (P : W → Type 0) (events : List E) (old new : W) (result : Result (Unit {0}) M)
      → Performs (run_by happening) events old result new → P (run_by happening old events) → OnOk result (P new)
  performed P events old new (Ok done) performs there = subst P (sym performs) there
  performed P events old new (Err memory) performs there = tt

-- A prefix of `events` is a prefix of `events ++ more`.
pub prefix_further : {E : Type 0} (first events more : List E) → IsPrefix first events → IsPrefix first (events ++ more)
prefix_further first events more prefix = (prefix.0 ++ more, ap (λ l. l ++ more) prefix.1 ∙ append_assoc first prefix.0 more)
