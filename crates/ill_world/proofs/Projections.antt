-- For each transaction an event of desks is one of its events, or leaves the projection to it unchanged.
use Rattle.std.proofs.Common.{rules, ◌≡◌, ◌⊎◌, inl, inr, ℕ, nat_le, nat_lt, length, Bool, true, false, cond, if◌then◌else◌, List}
use Rattle.std.proofs.Common.{Option, Some, None, Result, Ok, Err, refl, ap, sym, subst, ◌∙◌}
use Rattle.std.specs.Prelude.{option_map}
use Rattle.ill_values.specs.TxnId.{Qualifiers}
use Rattle.ill_values.specs.declared.apdu.Apdu.{Apdu}
use Rattle.ill_core.specs.declared.refusal.Refusal.{Refusal}
use Rattle.ill_core.specs.declared.refusal.Refusal.TheVariants.{WrongRole}
use Rattle.ill_core.specs.declared.taking.Taking.{Taking}
use Rattle.ill_core.specs.declared.taking.Taking.TheVariants.{Taken}
use Rattle.ill_values.specs.Bodies.{is_ill_request}
use Rattle.ill_core.specs.Issued.{message, is_same_txn}
use Rattle.ill_saved.specs.declared.fault.DeskFault.{DeskFault}
use Rattle.ill_saved.specs.declared.fault.DeskFault.TheVariants as faults
use Rattle.ill_record.specs.declared.role.Role.{Role}
use Rattle.ill_record.specs.declared.role.Role.TheVariants as who
use Rattle.ill_record.specs.declared.side.Side.{Side}
use Rattle.ill_record.specs.declared.side.Side.TheVariants as sides
use Rattle.ill_record.specs.declared.side.Action.{Action}
use Rattle.ill_record.specs.declared.side.Action.TheVariants as actions
use Rattle.ill_record.specs.Side.{issued_of, txn_of, role_of, idle_side, acts, takes, acted, took, IsSideTransition, role_for}
use Rattle.ill_record.specs.Side.{begins}
use Rattle.ill_record.specs.Sides.{SidesOf, is_same_role, most_sides, side_with}
use Rattle.ill_saved.specs.Holdings.{DeskEntry, whole}
use Rattle.ill_saved.specs.ManySides.{DeskContents, found_by, txn_held, idle_held, found_or, held_for, with_held, side_for}
use Rattle.ill_saved.specs.ManySides.{sides_held, whole_of, is_own, held_or_begun, side_for_call, acted as acted_at, acts_reached}
use Rattle.ill_saved.specs.ManySides.{desk_acts, contents_after_message as took_at, takes_reached}
use Rattle.ill_record.proofs.Finding.{same_is, same_self, found_is, found_put, found_mapped}
use Rattle.ill_saved.proofs.Contents.{side_of_held}
use Rattle.ill_world.specs.declared.event.DeskEvent.{DeskEvent}
use Rattle.ill_world.specs.declared.event.DeskEvent.TheVariants as events
use Rattle.ill_words.specs.declared.outcome.Outcome.{Outcome}
use Rattle.ill_words.specs.declared.outcome.Outcome.TheVariants.{Done, Sent, Refused, Answered, NotSent, NoSuchMessage, NotSaved}
use Rattle.ill_words.specs.declared.outcome.DeskOutcome.{DeskOutcome}
use Rattle.ill_words.specs.declared.outcome.DeskOutcome.TheVariants.{Plain}
use Rattle.ill_world.specs.World.{Party, nothing_sent, sent_message, with_sent, sends, sends_by, answer_to, receives, decides}
use Rattle.ill_world.specs.World.{saves, restarts, fails_to_save, happens_to, who_of, first_world}
use Rattle.ill_world.specs.Desks.{Sending, DeskParty, txn_sent, sent_for, with_sent_for, plain, fault_seen, desk_decides}
use Rattle.ill_world.specs.Desks.{desk_saves, desk_fails_to_save, desk_sends, taking_seen, desk_receives, desk_restarts}
use Rattle.ill_world.specs.Desks.{desk_happens_to, first_desks, party_for, project, concerns, if_reached, IsSeenAs}
use Rattle.ill_world.specs.DeskChanges.{ProjectsTo}
use Rattle.ill_world.proofs.Parties.{RowsGrow}
use Rattle.ill_world.proofs.Changes.{RefusalsChangeNothing, quiet}

-- ---- one transaction of a desk

-- The projection of two desks that hold nothing is the first world.
pub first_project : (txn : Qualifiers) → project txn first_desks ≡ first_world txn
unfolding side_with
first_project txn = refl

-- If `same` is true, `new` is found. Otherwise the value of `found` is, or `instead`.
found_either : {X : Type 0} (same : Bool) (instead new : X) (found : Option X)
    → found_or instead (cond same (Some new) found) ≡ cond same new (found_or instead found)
found_either true instead new found = refl
found_either false instead new found = refl

-- After the desk puts the entry `new`, its transaction has this entry. Each other one has its old entry.
held_after : (txn : Qualifiers) (live : DeskContents) (new : DeskEntry)
    → held_for txn (with_held live new) ≡ cond (is_same_txn txn (txn_held new)) new (held_for txn live)
held_after txn live new =
    ap (found_or (idle_held live.role txn)) (found_put txn_held txn new live.held)
    ∙ found_either (is_same_txn txn (txn_held new)) (idle_held live.role txn) new (found_by txn_held txn live.held)

-- If `same` is true, the messages of `new` are found. Otherwise those of `found` are, or those of `instead`.
sent_either : (same : Bool) (instead new : Sending) (found : Option Sending)
    → (found_or instead (cond same (Some new) found)).sent ≡ cond same new.sent (found_or instead found).sent
sent_either true instead new found = refl
sent_either false instead new found = refl

-- After `a` is sent in `of`, this transaction has it as message n. Each other one has its old messages.
pub sent_after : (txn of : Qualifiers) (all : List Sending) (n : ℕ) (a : Apdu)
    → sent_for txn (with_sent_for of all n a) ≡ cond (is_same_txn txn of) (with_sent (sent_for of all) n a) (sent_for txn all)
sent_after txn of all n a =
    let new : Sending = record { txn = of; sent = with_sent (sent_for of all) n a } in
    ap (λ found. (found_or {X = Sending} (record { txn = txn; sent = nothing_sent }) found).sent) (found_put txn_sent txn new all)
    ∙ sent_either (is_same_txn txn of) (record { txn = txn; sent = nothing_sent }) new (found_by txn_sent txn all)

-- An idle entry is an idle side, all of whose messages are released.
whole_idle : (role : Role) (txn : Qualifiers) → idle_held role txn ≡ whole (idle_side role txn)
whole_idle who.Requester txn = refl
whole_idle who.Responder txn = refl

-- If a side is found, its entry is found. Else an idle entry is the entry of an idle side.
whole_found : (role : Role) (txn : Qualifiers) (found : Option Side)
    → found_or (idle_held role txn) (option_map whole found) ≡ whole (found_or (idle_side role txn) found)
whole_found role txn (Some side) = refl
whole_found role txn None = whole_idle role txn

-- After a restart the entry of `txn` is its committed side, with all messages released.
whole_for : (txn : Qualifiers) (all : SidesOf) → held_for txn (whole_of all) ≡ whole (side_for txn all)
unfolding side_with
whole_for txn all =
    ap (found_or (idle_held all.role txn)) (found_mapped txn_of txn_held whole (λ side. refl) txn all.sides)
    ∙ whole_found all.role txn (found_by txn_of txn all.sides)

-- An idle side of `txn` has the transaction `txn`.
pub idle_txn : (role : Role) (txn : Qualifiers) → txn_of (idle_side role txn) ≡ txn
idle_txn who.Requester txn = refl
idle_txn who.Responder txn = refl

-- The entry found for `txn`, or an idle entry of `txn`, has the transaction `txn`.
found_txn : (role : Role) (txn : Qualifiers) (held : List DeskEntry) (found : Option DeskEntry)
    → found_by txn_held txn held ≡ found → txn_held (found_or (idle_held role txn) found) ≡ txn
found_txn role txn held (Some there) e = sym (found_is txn_held txn held there e)
found_txn role txn held None e = idle_txn role txn

-- The entry that a desk has for `txn` has the transaction `txn`.
pub held_txn : (txn : Qualifiers) (live : DeskContents) → txn_held (held_for txn live) ≡ txn
held_txn txn live = found_txn live.role txn live.held (found_by txn_held txn live.held) refl

-- A transition keeps the transaction of a side.
pub row_txn : RowsGrow → (old new : Side) → IsSideTransition old new → txn_of new ≡ txn_of old
row_txn grows old new row =
    sym (idle_txn (role_of new) (txn_of new)) ∙ ap txn_of (grows old new row).0 ∙ idle_txn (role_of old) (txn_of old)

-- The projection of a desk to `txn` has all that the desk holds of it.
pub shows : (p : DeskParty) (txn : Qualifiers) → ProjectsTo p txn (party_for txn p)
shows p txn = record {
  live = λ held found.
      let is = ap (found_or (idle_held p.live.role txn)) found in
      (ap (λ (h : DeskEntry). h.side) is, ap (λ (h : DeskEntry). h.released) is);
  committed = λ side found. ap (found_or (idle_side p.committed.role txn)) found;
  sent = λ sending found. ap (λ o. (found_or {X = Sending} (record { txn = txn; sent = nothing_sent }) o).sent) found;
}

-- ---- an event of one transaction

-- An event names `of`. If it reaches `of`, and `of` is `txn`, outcome and party are as expected of `txn`. Otherwise the
-- party is unchanged.
abbrev Seen : (Qualifiers → Outcome × Party) → Qualifiers → DeskParty → Qualifiers → DeskOutcome × DeskParty → Type 0
Seen expected of p txn after = IsSeenAs (if_reached after.0 (is_same_txn txn of)) (expected txn) (party_for txn p) after.0
    (party_for txn after.1)

-- If `of` has the expected outcome and party, and each other transaction its old party, `Seen` holds in all
-- transactions.
single : (expected : Qualifiers → Outcome × Party) (of : Qualifiers) (p new : DeskParty) (outcome : Outcome)
    → expected of ≡ (outcome, party_for of new)
    → ((txn : Qualifiers) → is_same_txn txn of ≡ false → party_for txn new ≡ party_for txn p) → (txn : Qualifiers)
    → Seen expected of p txn (Plain outcome, new)
single expected of p new outcome here there txn = go (is_same_txn txn of) refl
  where
    -- `txn` is `of`, or another transaction.
    go : (same : Bool) → is_same_txn txn of ≡ same
        → IsSeenAs same (expected txn) (party_for txn p) (Plain outcome) (party_for txn new)
    go true e =
        let is : expected txn ≡ (outcome, party_for txn new) =
        subst (λ t. expected t ≡ (outcome, party_for t new)) (sym (same_is txn of e)) here in
        (ap (λ (r : Outcome × Party). Plain r.0) (sym is), ap (λ (r : Outcome × Party). r.1) (sym is))
    go false e = there txn e

-- If the desk is unchanged, and the party of `of` is expected to be, `Seen` holds in all transactions.
nothing_done : (expected : Qualifiers → Outcome × Party) (of : Qualifiers) (p : DeskParty) (outcome : Outcome)
    → expected of ≡ (outcome, party_for of p) → (txn : Qualifiers) → Seen expected of p txn (Plain outcome, p)
nothing_done expected of p outcome here = single expected of p p outcome here (λ txn another. refl)

-- Returns the entry `held` with the side `new`.
abbrev next_held : DeskEntry → Side → DeskEntry
next_held held new = record { side = new; released = held.released }

-- If the desk puts the side `new` for `of`, as expected, `Seen` holds in all transactions.
goes_on : (expected : Qualifiers → Outcome × Party) (of : Qualifiers) (p : DeskParty) (new : Side) (outcome : Outcome)
    → txn_of new ≡ of
    → expected of ≡ (outcome, record (party_for of p) { live = new }) → (txn : Qualifiers)
    → Seen expected of p txn (Plain outcome, record p { live = with_held p.live (next_held (held_for of p.live) new) })
goes_on expected of p new outcome is here =
    let next = next_held (held_for of p.live) new in
    let after : DeskParty = record p { live = with_held p.live next } in
    let shows : (txn : Qualifiers) → party_for txn after
    ≡ record (party_for txn p) {
      live = (cond (is_same_txn txn (txn_held next)) next (held_for txn p.live)).side;
      released = (cond (is_same_txn txn (txn_held next)) next (held_for txn p.live)).released;
    } =
    λ txn. ap (λ (h : DeskEntry). record (party_for txn p) { live = h.side; released = h.released })
    (held_after txn p.live next) in
    let at : (txn : Qualifiers) (same : Bool) → is_same_txn txn of ≡ same → is_same_txn txn (txn_held next) ≡ same = λ txn same e.
    ap (is_same_txn txn) is ∙ e in
    single expected of p after outcome
    (here ∙ ap (λ (q : Party). (outcome, q))
    (sym (shows of ∙ ap (λ b. record (party_for of p)
    { live = (cond b next (held_for of p.live)).side; released = (cond b next (held_for of p.live)).released })
    (at of true (same_self of)))))
    (λ txn another. shows txn ∙ ap (λ b.
    record (party_for txn p) {
      live = (cond b next (held_for txn p.live)).side;
      released = (cond b next (held_for txn p.live)).released;
    }) (at txn false another))

-- ---- reaching a side

-- The fault is NoSuchTransaction or DeskFull.
abbrev IsNotReached : DeskFault → Type 0
IsNotReached fault = (fault ≡ faults.NoSuchTransaction) ⊎ (fault ≡ faults.DeskFull)

-- If an event has a fault of `IsNotReached`, and the desk is unchanged, `Seen` holds in all transactions.
not_reached : (expected : Qualifiers → Outcome × Party) (of : Qualifiers) (p : DeskParty) (fault : DeskFault)
    → IsNotReached fault → (txn : Qualifiers) → Seen expected of p txn (fault_seen fault, p)
not_reached expected of p fault (inl is) txn = subst (λ f. Seen expected of p txn (fault_seen f, p)) (sym is) refl
not_reached expected of p fault (inr is) txn = subst (λ f. Seen expected of p txn (fault_seen f, p)) (sym is) refl

-- The event reaches the entry `held`, or has a fault of `IsNotReached`.
abbrev Reaches : DeskEntry → Result DeskEntry DeskFault → Type 0
Reaches held (Ok found) = found ≡ held
Reaches held (Err fault) = IsNotReached fault

-- An event reaches the entry that is found or begun, or has a fault of `IsNotReached`.
reaches : (may_begin has_room : Bool) (idle : DeskEntry) (found : Option DeskEntry)
    → Reaches (found_or idle found) (held_or_begun may_begin has_room idle found)
reaches may_begin has_room idle (Some held) = refl
reaches true true idle None = refl
reaches true false idle None = inr refl
reaches false has_room idle None = inl refl

-- ---- decisions

-- Returns the expected outcome and party of a transaction after an action.
abbrev decided : DeskParty → Action → Qualifiers → Outcome × Party
decided p action txn = decides (party_for txn p) (acts (party_for txn p).live action)

-- `Seen` holds in all transactions after an action at the entry held for `of`.
decides_held : RowsGrow → (p : DeskParty) (of : Qualifiers) (action : Action) (result : Result Side Refusal)
    → acts (held_for of p.live).side action ≡ result → (txn : Qualifiers)
    → Seen (decided p action) of p txn (desk_decides p (acted_at p.live (held_for of p.live) result))
decides_held grows p of action (Ok new) e txn =
    goes_on (decided p action) of p new Done (row_txn grows (held_for of p.live).side new (acted action e) ∙ held_txn of p.live)
    (ap (decides (party_for of p)) e) txn
decides_held grows p of action (Err refusal) e txn =
    nothing_done (decided p action) of p (Refused refusal) (ap (decides (party_for of p)) e) txn

-- `Seen` holds in all transactions after an action, if its side is reached or not.
decides_reached : RowsGrow → (p : DeskParty) (of : Qualifiers) (action : Action) (found : Result DeskEntry DeskFault)
    → Reaches (held_for of p.live) found → (txn : Qualifiers)
    → Seen (decided p action) of p txn (desk_decides p (acts_reached p.live action found))
decides_reached grows p of action (Ok held) is txn =
    subst (λ h. Seen (decided p action) of p txn (desk_decides p (acted_at p.live h (acts h.side action)))) (sym is)
    (decides_held grows p of action (acts (held_for of p.live).side action) refl txn)
decides_reached grows p of action (Err fault) is txn = not_reached (decided p action) of p fault is txn

-- `Seen` holds in all transactions after an action of the desk's own role.
desk_decides_seen : RowsGrow → (p : DeskParty) (of : Qualifiers) (action : Action)
    → is_same_role p.live.role (role_for action) ≡ true → (txn : Qualifiers)
    → Seen (decided p action) of p txn (desk_decides p (desk_acts p.live of action))
desk_decides_seen grows p of action may txn =
    let found = side_for_call p.live of (begins action) in
    subst (λ b. Seen (decided p action) of p txn
    (desk_decides p (if b then acts_reached p.live action found else Err (faults.Core WrongRole)))) (sym may)
    (decides_reached grows p of action found
    (reaches (begins action) (nat_lt (length p.live.held) most_sides) (idle_held p.live.role of)
    (found_by txn_held of p.live.held)) txn)

-- ---- delivered messages

-- Returns the expected outcome and party of a transaction after message n is delivered in it.
abbrev received : DeskParty → List Sending → ℕ → Qualifiers → Outcome × Party
received p partner_sent n txn = receives (party_for txn p) (sent_message (sent_for txn partner_sent) n)

-- A side that refuses a message is unchanged.
taken_by : RefusalsChangeNothing → (side new : Side) (a : Apdu) (refusal : Refusal) → takes side a ≡ (Err refusal, new)
    → new ≡ side
taken_by rows side new a refusal e =
    elim (quiet rows side a) [
      | inl taken ↦ let no : ◌≡◌ {A = Result Taking Refusal} (Err refusal) (Ok Taken) =
          sym (ap (λ (r : Result Taking Refusal × Side). r.0) e) ∙ taken in search rules
      | inr same ↦ sym (ap (λ (r : Result Taking Refusal × Side). r.1) e) ∙ same
    ]

-- The other desk has sent `a` as message n of its transaction, and desk `p` takes it.
module _ (grows : RowsGrow) (rows : RefusalsChangeNothing) (p : DeskParty) (partner_sent : List Sending) (n : ℕ) (a : Apdu)
    (was : sent_message (sent_for a.txn partner_sent) n ≡ Some a) where
  -- Returns the outcome and the desk after a message was taken with this answer.
  abbrev desk_took : Result Taking DeskFault × DeskContents → DeskOutcome × DeskParty
  desk_took result = (taking_seen result.0, record p { live = result.1 })

  -- The transaction of `a` has the expected outcome and party after `a` is delivered.
  here : (answer : Result Taking Refusal) (new : Side) → takes (held_for a.txn p.live).side a ≡ (answer, new)
      → received p partner_sent n a.txn ≡ (answer_to answer, record (party_for a.txn p) { live = new })
  here answer new e = ap (receives (party_for a.txn p)) was
      ∙ ap (λ (r : Result Taking Refusal × Side). (answer_to r.0, record (party_for a.txn p) { live = r.1 })) e

  -- `Seen` holds in all transactions after the held side takes `a`.
  takes_held : (answer : Result Taking Refusal) (new : Side) → takes (held_for a.txn p.live).side a ≡ (answer, new)
      → (txn : Qualifiers)
      → Seen (received p partner_sent n) a.txn p txn (desk_took (took_at p.live (held_for a.txn p.live) (answer, new)))
  takes_held (Ok taking) new e txn =
      goes_on (received p partner_sent n) a.txn p new (Answered taking)
      (row_txn grows (held_for a.txn p.live).side new
      (took a (ap (λ (r : Result Taking Refusal × Side). r.1) e))
      ∙ held_txn a.txn p.live) (here (Ok taking) new e) txn
  takes_held (Err refusal) new e txn =
      nothing_done (received p partner_sent n) a.txn p (Refused refusal)
      (here (Err refusal) new e ∙ ap (λ side. (Refused refusal, record (party_for a.txn p) { live = side }))
      (taken_by rows (held_for a.txn p.live).side new a refusal e)) txn

  -- `Seen` holds in all transactions after `a` is delivered, if its side is reached or not.
  takes_found : (found : Result DeskEntry DeskFault) → Reaches (held_for a.txn p.live) found → (txn : Qualifiers)
      → Seen (received p partner_sent n) a.txn p txn (desk_took (takes_reached p.live a found))
  takes_found (Ok held) is txn =
      let side = (held_for a.txn p.live).side in
      subst (λ h. Seen (received p partner_sent n) a.txn p txn (desk_took (took_at p.live h (takes h.side a)))) (sym is)
      (takes_held (takes side a).0 (takes side a).1 refl txn)
  takes_found (Err fault) is txn = not_reached (received p partner_sent n) a.txn p fault is txn

  -- `Seen` holds in all transactions after a delivery, if the side refuses the messages of its own role.
  desk_takes_seen : (own : Bool) → is_own p.live.role a.body ≡ own
      → (own ≡ true → takes (held_for a.txn p.live).side a ≡ (Err WrongRole, (held_for a.txn p.live).side)) → (txn : Qualifiers)
      → Seen (received p partner_sent n) a.txn p txn (desk_receives p (Some a))
  desk_takes_seen own e refused txn =
      subst (λ b. Seen (received p partner_sent n) a.txn p txn
      (desk_took (if b then (Err (faults.Core WrongRole), p.live) else
      takes_reached p.live a (side_for_call p.live a.txn (is_ill_request a.body))))) (sym e) (go own refused)
    where
      -- A message of the desk's own role is refused. For another one its side is looked for.
      go : (own : Bool) → (own ≡ true → takes (held_for a.txn p.live).side a ≡ (Err WrongRole, (held_for a.txn p.live).side))
          → Seen (received p partner_sent n) a.txn p txn
          (desk_took (if own then (Err (faults.Core WrongRole), p.live) else
          takes_reached p.live a (side_for_call p.live a.txn (is_ill_request a.body))))
      go true refused = nothing_done (received p partner_sent n) a.txn p (Refused WrongRole)
          (here (Err WrongRole) (held_for a.txn p.live).side (refused refl)) txn
      go false refused =
          takes_found (side_for_call p.live a.txn (is_ill_request a.body))
          (reaches (is_ill_request a.body) (nat_lt (length p.live.held) most_sides) (idle_held p.live.role a.txn)
          (found_by txn_held a.txn p.live.held)) txn

-- ---- sent messages

-- Returns the expected outcome and party of a transaction after a Send of message n.
abbrev sent_by : DeskParty → ℕ → Qualifiers → Outcome × Party
sent_by p n txn = sends (party_for txn p) n (message (issued_of (party_for txn p).live) n) (nat_le n (party_for txn p).released)

-- `Seen` holds in all transactions after a Send at the entry held for `of`.
sends_held : (p : DeskParty) (of : Qualifiers) (n : ℕ) (issued : Option Apdu) (released : Bool)
    → message (issued_of (held_for of p.live).side) n ≡ issued → nat_le n (held_for of p.live).released ≡ released
    → (txn : Qualifiers)
    → let after = sends_by p (λ a. record p { sent = with_sent_for of p.sent n a }) issued released in
    Seen (sent_by p n) of p txn (Plain after.0, after.1)
sends_held p of n None released is may txn =
    nothing_done (sent_by p n) of p NoSuchMessage
    (ap (λ o. sends (party_for of p) n o (nat_le n (held_for of p.live).released)) is) txn
sends_held p of n (Some a) false is may txn =
    nothing_done (sent_by p n) of p NotSaved
    (ap (λ o. sends (party_for of p) n o (nat_le n (held_for of p.live).released)) is
    ∙ ap (sends (party_for of p) n (Some a)) may) txn
sends_held p of n (Some a) true is may txn =
    let after : DeskParty = record p { sent = with_sent_for of p.sent n a } in
    let shows : (txn : Qualifiers) (same : Bool) → is_same_txn txn of ≡ same
    → party_for txn after ≡ record (party_for txn p)
    { sent = cond same (with_sent (sent_for of p.sent) n a) (sent_for txn p.sent) } =
    λ txn same e. ap (λ s. record (party_for txn p) { sent = s })
    (sent_after txn of p.sent n a ∙ ap (λ b. cond b (with_sent (sent_for of p.sent) n a) (sent_for txn p.sent)) e) in
    single (sent_by p n) of p after Sent
    (ap (λ o. sends (party_for of p) n o (nat_le n (held_for of p.live).released)) is ∙ ap (sends (party_for of p) n (Some a)) may
    ∙ ap (λ (q : Party). (Sent, q)) (sym (shows of true (same_self of))))
    (λ txn another. shows txn false another) txn

-- `Seen` holds in all transactions after a Send of message n in `of`.
desk_sends_seen : (p : DeskParty) (of : Qualifiers) (n : ℕ) (found : Option DeskEntry) → found_by txn_held of p.live.held ≡ found
    → (txn : Qualifiers) → Seen (sent_by p n) of p txn (desk_sends p of n found)
desk_sends_seen p of n None e txn = refl
desk_sends_seen p of n (Some held) e txn =
    let is : held_for of p.live ≡ held = ap (found_or (idle_held p.live.role of)) e in
    subst (λ h. Seen (sent_by p n) of p txn (desk_sends p of n (Some h))) is
    (sends_held p of n (message (issued_of (held_for of p.live).side) n) (nat_le n (held_for of p.live).released) refl refl txn)

-- ---- events of a whole desk

-- After a save a desk shows its earlier party as `saves` changes it.
saves_seen : (p : DeskParty) (txn : Qualifiers) → party_for txn (desk_saves p) ≡ saves (party_for txn p)
saves_seen p txn =
    ap (λ (h : DeskEntry). record (party_for txn p)
    { live = h.side; committed = side_for txn (sides_held p.live); released = h.released }) (whole_for txn (sides_held p.live))
    ∙ ap (λ side. record (party_for txn p) { live = side; committed = side; released = length (issued_of side) })
    (side_of_held txn p.live)

-- After a failed save a desk shows its earlier party as `fails_to_save` changes it.
fault_of_save : (p : DeskParty) (txn : Qualifiers) (committed : Bool)
    → party_for txn (desk_fails_to_save p committed) ≡ fails_to_save (party_for txn p) committed
fault_of_save p txn true = ap (λ side. record (party_for txn p) { committed = side }) (side_of_held txn p.live)
fault_of_save p txn false = refl

-- After a restart a desk shows its earlier party as `restarts` changes it.
pub restarts_seen : (p : DeskParty) (txn : Qualifiers) → party_for txn (desk_restarts p) ≡ restarts (party_for txn p)
restarts_seen p txn = ap (λ (h : DeskEntry). record (party_for txn p) { live = h.side; released = h.released })
    (whole_for txn p.committed)

-- ---- every event

-- The outcome and the party of `txn` are as expected after an event, or the party is unchanged.
abbrev pub PartySeen : Qualifiers → DeskParty → List Sending → DeskEvent → Type 0
PartySeen txn p partner_sent event =
    let after = desk_happens_to p partner_sent event in
    IsSeenAs (if_reached after.0 (concerns txn event)) (happens_to (party_for txn p) (sent_for txn partner_sent) (plain event))
    (party_for txn p) after.0 (party_for txn after.1)

-- The desk and all its sides are of `role`. Each message of `partner_sent` is of the transaction in which it was sent.
pub record KeepsTo (role : Role) (p : DeskParty) (partner_sent : List Sending) : Type 0 where
  pub role_is : p.live.role ≡ role
  pub role_held : (txn : Qualifiers) → role_of (held_for txn p.live).side ≡ role
  pub txn_of_sent : (txn : Qualifiers) (n : ℕ) (a : Apdu) → sent_message (sent_for txn partner_sent) n ≡ Some a → txn ≡ a.txn

-- A side refuses an APDU of its transaction that its own role issues.
own_refused : (side : Side) (a : Apdu) → txn_of side ≡ a.txn → is_own (role_of side) a.body ≡ true
    → takes side a ≡ (Err WrongRole, side)
own_refused (sides.Requester x) a is own =
    let same : is_same_txn a.txn x.txn ≡ true = ap (is_same_txn a.txn) is ∙ same_self a.txn in
    rw (same, own) refl
own_refused (sides.Responder y) a is own =
    let same : is_same_txn a.txn y.txn ≡ true = ap (is_same_txn a.txn) is ∙ same_self a.txn in
    rw (same, own) refl

-- `Seen` holds in all transactions after a delivery at a desk that satisfies `KeepsTo`.
delivers_seen : RowsGrow → RefusalsChangeNothing → (role : Role) (p : DeskParty) (partner_sent : List Sending)
    → KeepsTo role p partner_sent
    → (to : Role) (of : Qualifiers) (n : ℕ) (found : Option Apdu) → sent_message (sent_for of partner_sent) n ≡ found
    → (txn : Qualifiers)
    → Seen (received p partner_sent n) of p txn (desk_receives p found)
delivers_seen grows rows role p partner_sent keeps to of n None e txn =
    nothing_done (received p partner_sent n) of p NotSent (ap (receives (party_for of p)) e) txn
delivers_seen grows rows role p partner_sent keeps to of n (Some a) e txn =
    subst (λ t. Seen (received p partner_sent n) t p txn (desk_receives p (Some a))) (sym (keeps.txn_of_sent of n a e))
    (desk_takes_seen grows rows p partner_sent n a
    (subst (λ t. sent_message (sent_for t partner_sent) n ≡ Some a) (keeps.txn_of_sent of n a e) e)
    (is_own p.live.role a.body) refl
    (λ own. own_refused (held_for a.txn p.live).side a (held_txn a.txn p.live)
    (ap (λ r. is_own r a.body) (keeps.role_held a.txn ∙ sym keeps.role_is) ∙ own)) txn)

-- `is_same_role` is true of a role and itself.
same_role : (role : Role) → is_same_role role role ≡ true
same_role who.Requester = refl
same_role who.Responder = refl

-- A desk of `role` may act in this role.
pub may_act : (p : DeskParty) (role : Role) → p.live.role ≡ role → is_same_role p.live.role role ≡ true
may_act p role is = ap (λ r. is_same_role r role) is ∙ same_role role

-- `PartySeen` holds of each event at a desk that satisfies `KeepsTo`.
pub party_seen : RowsGrow → RefusalsChangeNothing → (p : DeskParty) (partner_sent : List Sending) (event : DeskEvent)
    → KeepsTo (who_of (plain event)) p partner_sent → (txn : Qualifiers) → PartySeen txn p partner_sent event
party_seen grows rows p partner_sent (events.Wish of wish) keeps txn =
    desk_decides_seen grows p of (actions.Wish wish) (may_act p who.Requester keeps.role_is) txn
party_seen grows rows p partner_sent (events.Deed of deed today) keeps txn =
    desk_decides_seen grows p of (actions.Deed deed today) (may_act p who.Responder keeps.role_is) txn
party_seen grows rows p partner_sent (events.Save role) keeps txn = (refl, saves_seen p txn)
party_seen grows rows p partner_sent (events.SaveFault role committed) keeps txn = (refl, fault_of_save p txn committed)
party_seen grows rows p partner_sent (events.Send role of n) keeps txn =
    desk_sends_seen p of n (found_by txn_held of p.live.held) refl txn
party_seen grows rows p partner_sent (events.Deliver role of n) keeps txn =
    delivers_seen grows rows role p partner_sent keeps role of n (sent_message (sent_for of partner_sent) n) refl txn
party_seen grows rows p partner_sent (events.Noise role bytes) keeps txn = refl
party_seen grows rows p partner_sent (events.Restart role) keeps txn = (refl, restarts_seen p txn)
