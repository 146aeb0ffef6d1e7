-- A run performs one event after another.
use Rattle.std.proofs.Common.{arith, ◌≡◌, ℕ, suc, ◌+◌, ◌<◌, ◌≤◌, List, [], ◌∷◌, ◌++◌, length, drop, take, get_or, refl, sym, ap}
use Rattle.std.proofs.Common.{◌∙◌, subst, drop-cons, add-one}
use Rattle.std.proofs.lemmas.List.{length-drop, take_at, take_more}
use Rattle.ill_world.specs.declared.event.Event.{Event}
use Rattle.ill_values.specs.TxnId.{Qualifiers}
use Rattle.ill_world.specs.World.{Parties, happens, run_by, run_of}
use Rattle.ill_world.specs.Invariant.{Invariant}

-- `happening` gives the outcome of an event, and the world after it.
module _ {W E O : Type 0} (happening : W → E → O × W) where
  -- The first event leads from `w` to `new`. Then the run of all events from `w` is the run of the others from `new`.
  run_next : (w new : W) (events : List E) (event : E) (outcome : O) → happening w event ≡ (outcome, new)
      → run_by happening w (event ∷ events) ≡ run_by happening new events
  unfolding run_by
  run_next w new events event outcome happened = ap (λ (after : O × W). run_by happening after.1 events) happened

  -- Event i leads from `w` to `new`. Then the run of event i and the later ones from `w` is the run of the latter from
  -- `new`.
  pub run_on : (w new : W) (events : List E) (i : ℕ) (event : E) (outcome : O) → i < length events → event ≡ get_or events i event
      → happening w event ≡ (outcome, new)
      → run_by happening w (drop i events) ≡ run_by happening new (drop (i + 1) events)
  run_on w new events i event outcome less is happened =
      let first = drop-cons events i event less ∙ ap (λ e. e ∷ drop (suc i) events) (sym is)
      ∙ ap (λ j. event ∷ drop j events) (sym (add-one i)) in
      ap (run_by happening w) first ∙ run_next w new (drop (i + 1) events) event outcome happened

  -- The run of no events leaves the world unchanged.
  run_of_none : (w : W) (events : List E) → length events ≡ 0 → run_by happening w events ≡ w
  unfolding run_by
  run_of_none w [] none = refl
  run_of_none w (event ∷ events) none = absurd (omega (arith, none))

  -- After the last event the run of the events that are left leaves the world unchanged.
  pub run_ended : (w : W) (events : List E) (i : ℕ) → length events ≤ i → run_by happening w (drop i events) ≡ w
  run_ended w events i all = run_of_none w (drop i events) (omega (arith, length-drop i events, all))

  -- The run of `first ++ second` is the run of `first`, and then the run of `second`.
  pub run_both : (w : W) (first second : List E)
      → run_by happening w (first ++ second) ≡ run_by happening (run_by happening w first) second
  unfolding run_by
  run_both w [] second = refl
  run_both w (event ∷ first) second = run_both (happening w event).1 first second

  -- The run of one event gives the world after it.
  pub run_one : (w : W) (event : E) → run_by happening w (event ∷ []) ≡ (happening w event).1
  unfolding run_by
  run_one w event = refl

  -- If event i leads to `new` after the events before it, the events up to i lead to `new`.
  pub run_taken : (w new : W) (events : List E) (i : ℕ) (event : E) (outcome : O) → i < length events
      → event ≡ get_or events i event → happening (run_by happening w (take i events)) event ≡ (outcome, new)
      → run_by happening w (take (i + 1) events) ≡ new
  run_taken w new events i event outcome less is happened =
      let next = take_more events i event less ∙ ap (λ e. take i events ++ e ∷ []) (sym is) in
      ap (run_by happening w) next ∙ run_both w (take i events) (event ∷ []) ∙ run_one (run_by happening w (take i events)) event
      ∙ ap (λ (after : O × W). after.1) happened

  -- If `P` holds of each world on the way through `before ++ after`, it holds of the world after `before`.
  pub run_prefix : (P : W → Type 0) (w : W) (before after : List E)
      → ((n : ℕ) → P (run_by happening w (take n (before ++ after)))) → P (run_by happening w before)
  run_prefix P w before after each =
      subst (λ events. P (run_by happening w events)) (take_at before after (length before) refl) (each (length before))

-- ---- facts of every world of a run

-- If each event keeps the invariant, a run keeps it.
pub run_stands : (txn : Qualifiers) → ((w : Parties) (event : Event) → Invariant txn w → Invariant txn (happens w event).1)
    → (w : Parties) (events : List Event) → Invariant txn w → Invariant txn (run_of w events)
unfolding run_by
run_stands txn after w [] stands = stands
run_stands txn after w (event ∷ events) stands = run_stands txn after (happens w event).1 events (after w event stands)
