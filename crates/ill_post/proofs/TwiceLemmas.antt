-- Proves that a form whose action was done finds its loan changed.
use Rattle.std.proofs.Common.{◌≡◌, ◌∙◌, ◌⊎◌, Bool, true, false, List, [], ◌∷◌, map, Option, Some, None, Result, Ok, Err, refl}
use Rattle.std.proofs.Common.{ap, sym, subst, inl, inr, ⊎_elim, rules}
use Rattle.std.specs.Prelude.{cond, if◌then◌else◌, option_map}
use Rattle.std.proofs.lemmas.Bool.{false_from_ne_true}
use Rattle.std.proofs.lemmas.Slice.Eq.{bytes_eq-Decides}
use Rattle.ill_values.specs.TxnId.{Qualifiers}
use Rattle.ill_core.specs.declared.refusal.Refusal.{Refusal}
use Rattle.ill_core.specs.declared.refusal.Refusal.TheVariants.{WrongRole}
use Rattle.ill_core.specs.Issued.{is_same_txn}
use Rattle.ill_record.specs.declared.role.Role.{Role}
use Rattle.ill_record.specs.declared.role.Role.TheVariants as roles
use Rattle.ill_saved.specs.declared.fault.DeskFault.{DeskFault}
use Rattle.ill_saved.specs.declared.fault.DeskFault.TheVariants as faults
use Rattle.ill_record.specs.declared.side.Side.{Side}
use Rattle.ill_record.specs.declared.side.Side.TheVariants as sides
use Rattle.ill_record.specs.declared.side.Action.{Action}
use Rattle.ill_record.specs.Side.{acts, begins, idle_of, idle_side, txn_of, Grows, IsSideTransition, role_for}
use Rattle.ill_record.specs.Side as transitions
use Rattle.ill_record.specs.Sides.{found_by, is_same_role, side_with}
use Rattle.ill_saved.specs.Holdings.{DeskActs, DeskEntry, is_refusal, whole}
use Rattle.ill_saved.specs.ManySides.{DeskContents, acted, acts_reached, desk_acts, held_or_begun, many_sides}
use Rattle.ill_saved.specs.ManySides.{side_for_call, sides_held, txn_held, whole_of, with_held}
use Rattle.ill_record.proofs.Finding.{found_is, found_mapped, found_put, same_self}
use Rattle.ill_post.specs.declared.answer.Posted.{Posted}
use Rattle.ill_post.specs.declared.answer.Posted.TheVariants.{Changed, Done, Refused}
use Rattle.ill_post.specs.Post.{ActsAndSaves, AnswersPost, DeskState, FormShown, Performs, PerformsIf, SavesAfter, is_fresh}
use Rattle.ill_post.specs.Post.{stamp_for, printed}
use Rattle.ill_post.specs.Stamp.{side_stamp, stamp_of}
use Rattle.ill_post.proofs.StampLemmas.{new_is_no_stamp}

-- ---- what is known of actions

-- What is known of sides: an action that is done changes the stamp, and a side grows by each transition.
pub record ActionFacts : Type 0 where
  pub changes : (old new : Side) (action : Action) → acts old action ≡ Ok new → side_stamp old ≡ side_stamp new → ⊥
  pub grows : (old new : Side) → IsSideTransition old new → Grows old new

-- `idle_of side` is of the transaction of `side`.
idle_txn : (side : Side) → txn_of (idle_of side) ≡ txn_of side
idle_txn (sides.Requester x) = refl
idle_txn (sides.Responder y) = refl

-- `idle_side role txn` is of the transaction `txn`.
idle_is_of : (role : Role) (txn : Qualifiers) → txn_of (idle_side role txn) ≡ txn
idle_is_of roles.Requester txn = refl
idle_is_of roles.Responder txn = refl

-- If `action` leads from `old` to `new`, they are of one transaction.
keeps_txn : ActionFacts → (old new : Side) (action : Action) → acts old action ≡ Ok new → txn_of new ≡ txn_of old
keeps_txn known old new action e =
    sym (idle_txn new) ∙ ap txn_of (known.grows old new (transitions.acted action e)).0 ∙ idle_txn old

-- ---- the stamps of a desk

-- Returns the side of an entry.
abbrev side_of : DeskEntry → Side
side_of held = held.side

-- The stamp for `txn` is that of the side in the entry found for `txn`. Without an entry it is "new".
stamp_held : (txn : Qualifiers) (live : DeskContents)
    → stamp_for txn live ≡ stamp_of (option_map side_of (found_by txn_held txn live.held))
unfolding side_with
stamp_held txn live = ap stamp_of (found_mapped txn_held txn_of side_of (λ held. refl) txn live.held)

-- The sides in the entries that `whole` makes of `all` are `all`.
sides_of_whole : (all : List Side) → map side_of (map whole all) ≡ all
sides_of_whole [] = refl
sides_of_whole (side ∷ all) = ap (λ more. side ∷ more) (sides_of_whole all)

-- A save changes no stamp: what it leaves (`whole_of`) has the stamp for `txn` that `live` had.
stamp_saved : (txn : Qualifiers) (live : DeskContents) → stamp_for txn (whole_of (sides_held live)) ≡ stamp_for txn live
stamp_saved txn live = ap (λ all. stamp_of (side_with txn all)) (sides_of_whole (map side_of live.held))

-- If `entry` is of `txn` and is put into `live`, the stamp for `txn` is that of its side.
stamp_put : (txn : Qualifiers) (live : DeskContents) (entry : DeskEntry) → txn_held entry ≡ txn
    → stamp_for txn (with_held live entry) ≡ side_stamp entry.side
stamp_put txn live entry of_txn =
    let same : is_same_txn txn (txn_held entry) ≡ true = subst (λ t. is_same_txn txn t ≡ true) (sym of_txn) (same_self txn) in
    stamp_held txn (with_held live entry)
    ∙ ap (λ found. stamp_of (option_map side_of found)) (found_put txn_held txn entry live.held)
    ∙ ap (λ is. stamp_of (option_map side_of (cond is (Some entry) (found_by txn_held txn live.held)))) same

-- ---- an action that was done

-- The desk did `action` on the entry `held`: that of the loan of `txn`, or an idle one. This left the contents
-- `between`, in which the side of this entry is `after`.
record Reached (live : DeskContents) (txn : Qualifiers) (action : Action) (between : DeskContents) : Type 0 where
  held : DeskEntry
  after : Side
  call : side_for_call live txn (begins action) ≡ Ok held
  done : acts held.side action ≡ Ok after
  put : between ≡ with_held live (record { side = after; released = held.released })

-- If `acted` gives `between`, the result is a side `after`, and `between` is `live` with this side.
acted_puts_side : (live between : DeskContents) (held : DeskEntry) (result : Result Side Refusal)
    → acted live held result ≡ Ok between
    → (after : Side) × ((result ≡ Ok after) × (between ≡ with_held live (record { side = after; released = held.released })))
acted_puts_side live between held (Ok after) e = (after, (refl, search rules))
acted_puts_side live between held (Err refusal) e = search rules

-- If `acts_reached` gives `between`, `call` found an entry `held`, and the action on it gives `between`.
entry_was_found : (live between : DeskContents) (action : Action) (call : Result DeskEntry DeskFault)
    → acts_reached live action call ≡ Ok between
    → (held : DeskEntry) × ((call ≡ Ok held) × (acted live held (acts held.side action) ≡ Ok between))
entry_was_found live between action (Ok held) e = (held, (refl, e))
entry_was_found live between action (Err fault) e = search rules

-- If a choice by `same` between `done` and the fault `WrongRole` gives `between`, then `done` is `between`.
role_is_own : (same : Bool) (done : Result DeskContents DeskFault) (between : DeskContents)
    → (if same then done else Err (faults.Core WrongRole)) ≡ Ok between → done ≡ Ok between
role_is_own true done between e = e
role_is_own false done between e = search rules

-- If a desk does `action` in the loan of `txn`, it does so on an entry (`Reached`).
reached : (live between : DeskContents) (txn : Qualifiers) (action : Action) → desk_acts live txn action ≡ Ok between
    → Reached live txn action between
reached live between txn action e =
    let own = role_is_own (is_same_role live.role (role_for action)) _ between e in
    let there = entry_was_found live between action (side_for_call live txn (begins action)) own in
    let put = acted_puts_side live between there.0 (acts there.0.side action) there.1.1 in
    record { held = there.0; after = put.0; call = there.1.0; done = put.1.0; put = put.1.1 }

-- The entry `held` of an action is the one that was found. If none was, `held` is the idle one.
found_or_idle : (may_begin has_room : Bool) (idle held : DeskEntry) (found : Option DeskEntry)
    → held_or_begun may_begin has_room idle found ≡ Ok held → (found ≡ Some held) ⊎ ((found ≡ None) × (held ≡ idle))
found_or_idle may_begin has_room idle held (Some there) e = inl (search rules)
found_or_idle true true idle held None e = inr (refl, search rules)
found_or_idle true false idle held None e = search rules
found_or_idle false has_room idle held None e = search rules

-- If an action was done, the stamp that its loan had before is not that of the side `after`. If the loan was not held,
-- its stamp was "new".
stamp_before_differs : ActionFacts
    → (live between : DeskContents) (txn : Qualifiers) (action : Action) (r : Reached live txn action between)
    → stamp_for txn live ≡ side_stamp r.after → ⊥
stamp_before_differs known live between txn action r same =
    ⊎_elim
    (λ found. known.changes r.held.side r.after action r.done
    (sym (stamp_held txn live ∙ ap (λ o. stamp_of (option_map side_of o)) found) ∙ same))
    (λ none. new_is_no_stamp r.after
    (sym (stamp_held txn live ∙ ap (λ o. stamp_of (option_map side_of o)) none.0) ∙ same))
    (found_or_idle _ _ _ _ _ r.call)

-- The entry on which an action in the loan of `txn` was done is of `txn`.
entry_txn : (live between : DeskContents) (txn : Qualifiers) (action : Action) (r : Reached live txn action between)
    → txn_of r.held.side ≡ txn
entry_txn live between txn action r =
    ⊎_elim
    (λ found. sym (found_is txn_held txn live.held r.held found))
    (λ none. ap txn_held none.1 ∙ idle_is_of live.role txn)
    (found_or_idle _ _ _ _ _ r.call)

-- If a desk does `action` in the loan of `txn` and is saved, the loan has another stamp than before.
stale : ActionFacts → (live between : DeskContents) (txn : Qualifiers) (action : Action) → desk_acts live txn action ≡ Ok between
    → stamp_for txn live ≡ stamp_for txn (whole_of (sides_held between)) → ⊥
stale known live between txn action e same =
    let r = reached live between txn action e in
    let of_txn = keeps_txn known r.held.side r.after action r.done ∙ entry_txn live between txn action r in
    let entry : DeskEntry = record { side = r.after; released = r.held.released } in
    stamp_before_differs known live between txn action r
    (same ∙ stamp_saved txn between ∙ ap (stamp_for txn) r.put ∙ stamp_put txn live entry of_txn)

-- ---- a form that was sent

-- If `printed acted` is `Done`, the action was done.
printed_done : (acted : Result (Unit {0}) DeskFault) → ◌≡◌ {A = Result Posted DeskFault} (Ok Done) (printed acted)
    → (done : Unit {0}) × (acted ≡ Ok done)
printed_done (Ok done) e = (done, refl)
printed_done (Err fault) e = printed_fault fault (is_refusal fault) e where
  -- A fault is told as a refusal or stays a fault: it is never `Done`.
  printed_fault : (fault : DeskFault) (refused : Bool)
      → ◌≡◌ {A = Result Posted DeskFault} (Ok Done) (if refused then Ok (Refused fault) else Err fault)
      → (done : Unit {0}) × (◌≡◌ {A = Result (Unit {0}) DeskFault} (Err fault) (Ok done))
  printed_fault fault true e = search rules
  printed_fault fault false e = search rules

-- If `SavesAfter` has the result Ok, the action was done, and `new` holds what a save leaves of `between`.
save_leaves_whole : (acted : Result (Unit {0}) DeskFault) (between new : DeskState) (done : Unit {0})
    → SavesAfter acted between (Ok done) new
    → ((was : Unit {0}) × (acted ≡ Ok was)) × (new.live ≡ whole_of (sides_held between.live))
save_leaves_whole (Ok was) between new done saves = ((was, refl), saves.0)
save_leaves_whole (Err fault) between new done saves = search rules

-- If the loan of `form` has another stamp than `form`, the form is not fresh.
not_fresh : (form : FormShown) (live : DeskContents) → (stamp_for form.txn live ≡ form.stamp → ⊥) → is_fresh form live ≡ false
not_fresh form live other = false_from_ne_true _ (λ is. other ((bytes_eq-Decides (stamp_for form.txn live) form.stamp).0 is))

-- If `form` was fresh, and its action was done and saved, `form` is no longer fresh. `acted` is the action, `saved` the
-- save, and `before` the stamp before them.
after_done : ActionFacts → (form : FormShown) (action : Action) (old new : DeskState) (result : Result (Unit {0}) DeskFault)
    (done : Unit {0}) → is_fresh form old.live ≡ true → result ≡ Ok done → ActsAndSaves form.txn action old result new
    → is_fresh form new.live ≡ false
after_done known form action old new result done fresh was acts_and_saves =
    let between = acts_and_saves.1 in
    let saves = subst (λ r. SavesAfter acts_and_saves.0 (record old { live = between }) r new) was acts_and_saves.3 in
    let saved = save_leaves_whole acts_and_saves.0 (record old { live = between }) new done saves in
    let acted : DeskActs many_sides old.live form.txn action (Ok saved.0.0) between =
    subst (λ a. DeskActs many_sides old.live form.txn action a between) saved.0.1 acts_and_saves.2 in
    let before = (bytes_eq-Decides (stamp_for form.txn old.live) form.stamp).0 fresh in
    not_fresh form new.live (λ same. stale known old.live between form.txn action acted
    (before ∙ sym same ∙ ap (stamp_for form.txn) saved.1))

-- If `form` was fresh and was performed with the answer `Done`, it is no longer fresh.
performed : ActionFacts → (form : FormShown) (action : Option Action) (old new : DeskState) → is_fresh form old.live ≡ true
    → Performs action form.txn old (Ok Done) new → is_fresh form new.live ≡ false
performed known form None old new fresh performs = search rules
performed known form (Some action) old new fresh performs =
    let was = printed_done performs.0 performs.2 in
    after_done known form action old new performs.0 was.0 fresh was.1 performs.1

-- If `PerformsIf` gives the answer `Done`, `form` is no longer fresh. A form that was not fresh is never `Done`.
performed_if : ActionFacts → (form : FormShown) (fresh : Bool) (old new : DeskState) → is_fresh form old.live ≡ fresh
    → PerformsIf fresh form old (Ok Done) new → is_fresh form new.live ≡ false
performed_if known form true old new fresh performs = performed known form form.action old new fresh performs
performed_if known form false old new fresh performs = search rules

-- If `form` was sent and the answer is `Done`, `form` is no longer fresh.
done_is_stale : ActionFacts → (form : FormShown) (old new : DeskState) → AnswersPost form old (Ok Done) new
    → is_fresh form new.live ≡ false
done_is_stale known form old new answers =
    ⊎_elim
    (λ performs. performed_if known form (is_fresh form old.live) old new refl performs)
    (λ memory. search rules)
    answers

-- If `form` was answered with `Done` and is sent again at once, nothing changes. The second answer is `Changed`, or
-- memory ran out.
pub sent_again_changes_nothing : ActionFacts → (form : FormShown) (old new last : DeskState) (second : Result Posted DeskFault)
    → AnswersPost form old (Ok Done) new → AnswersPost form new second last
    → ((second ≡ Ok Changed) ⊎ (second ≡ Err faults.OutOfMemory)) × (last ≡ new)
sent_again_changes_nothing known form old new last second first again =
    ⊎_elim
    (λ performs. let stays = subst (λ fresh. PerformsIf fresh form new second last)
    (done_is_stale known form old new first) performs in (inl stays.0, stays.1))
    (λ memory. (inr memory.0, memory.1))
    again
