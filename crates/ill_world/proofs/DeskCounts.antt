-- Each delivery finds room at its desk. For the requester's desk holds each transaction of the responder's desk, and at
-- most 1,000.
use Rattle.std.proofs.Common.{arith, rules, ◌≡◌, ◌⊎◌, inl, inr, ℕ, suc, ◌+◌, ◌≤◌, nat_lt, Bool, true, false, cond, if◌then◌else◌}
use Rattle.std.proofs.Common.{◌||◌, List, [], ◌∷◌, ◌++◌, length, map, Option, Some, None, is_some, Result, Ok, Err, refl, sym, ap}
use Rattle.std.proofs.Common.{◌∙◌, subst, true≢false, length-append}
use Rattle.std.proofs.lemmas.Bool.{ltb-true, ltb-false, or_parts, or_from, or_left, or_right}
use Rattle.std.proofs.lemmas.List.{length-map, map-append}
use Rattle.std.proofs.lemmas.List.Folds.{list_any-append}
use Rattle.std.proofs.lemmas.Simd.{map-map}
use Rattle.ill_values.specs.TxnId.{Qualifiers}
use Rattle.ill_values.specs.declared.apdu.Apdu.{Apdu}
use Rattle.ill_core.specs.declared.refusal.Refusal.{Refusal}
use Rattle.ill_core.specs.declared.refusal.Refusal.TheVariants.{WrongRole}
use Rattle.ill_core.specs.declared.taking.Taking.{Taking}
use Rattle.ill_values.specs.Bodies.{is_ill_request}
use Rattle.ill_core.specs.Issued.{message, is_same_txn}
use Rattle.ill_saved.specs.declared.fault.DeskFault.{DeskFault}
use Rattle.ill_saved.specs.declared.fault.DeskFault.TheVariants as faults
use Rattle.ill_record.specs.declared.role.Role.{Role}
use Rattle.ill_record.specs.declared.role.Role.TheVariants as who
use Rattle.ill_record.specs.declared.side.Side.{Side}
use Rattle.ill_record.specs.declared.side.Action.{Action}
use Rattle.ill_record.specs.declared.side.Action.TheVariants as actions
use Rattle.ill_record.specs.Side.{issued_of, txn_of, other, idle_side, acts, takes, acted, took, begins}
use Rattle.ill_record.specs.Sides.{found_by, is_same_role, most_sides, side_with}
use Rattle.ill_saved.specs.Holdings.{DeskEntry, whole}
use Rattle.ill_saved.specs.ManySides.{txn_held, idle_held, found_or, with_held, held_or_begun, side_for_call, is_own}
use Rattle.ill_saved.specs.ManySides.{acted as acted_at, acts_reached, contents_after_message as took_at, takes_reached}
use Rattle.ill_record.proofs.Finding.{same_is, same_self, apart_back, found_is, keys_put, put_last}
use Rattle.ill_world.specs.declared.event.DeskEvent.{DeskEvent}
use Rattle.ill_world.specs.declared.event.DeskEvent.TheVariants as desk_events
use Rattle.ill_words.specs.declared.outcome.DeskOutcome.{DeskOutcome}
use Rattle.ill_words.specs.declared.outcome.DeskOutcome.TheVariants.{Plain, DeskFull}
use Rattle.ill_words.specs.declared.outcome.Outcome.TheVariants.{NotSent}
use Rattle.ill_world.specs.World.{sent_message, sends_by, happens_at, party, who_of}
use Rattle.ill_world.specs.Desks.{DeskParty, DeskParties, Sending, sent_for, plain, desk_decides, desk_sends, desk_receives}
use Rattle.ill_world.specs.Desks.{desk_happens_to, desks_happen, first_desks, project}
use Rattle.ill_world.specs.DeskCounts.{is_one_of, AreAmong, AreApart, live_txns, committed_txns, Counts, DesksCount}
use Rattle.ill_world.specs.DeskSafety.{DesksInvariant}
use Rattle.ill_world.specs.DeskChanges.{Reaches}
use Rattle.ill_world.proofs.Parties.{RowsGrow}
use Rattle.ill_world.proofs.Claims.{live_issues}
use Rattle.ill_world.proofs.Projections.{row_txn, idle_txn}
use Rattle.ill_world.proofs.Desks.{keeps_to}
use Rattle.ill_world.proofs.DeskArrivals.{EachReaches, asked, idle_issued, idle_issues}

-- ---- lists of transactions

-- If `a || b` is true, a or b is true.
one_of : (a b : Bool) → (a || b) ≡ true → (a ≡ true) ⊎ (b ≡ true)
one_of true b is = inl refl
one_of false b is = inr is

-- If `a || b` is true, and b implies c, `a || c` is true.
or_as : (a b c : Bool) → (a || b) ≡ true → (b ≡ true → c ≡ true) → (a || c) ≡ true
or_as true b c is follows = refl
or_as false b c is follows = follows is

-- A transaction that is one of `txns` is one of a longer list.
has_still : (txn new : Qualifiers) (txns : List Qualifiers) → is_one_of txn txns ≡ true → is_one_of txn (txns ++ new ∷ []) ≡ true
has_still txn new txns is = list_any-append (is_same_txn txn) txns (new ∷ [])
    ∙ or_left (is_one_of txn txns) (is_one_of txn (new ∷ [])) is

-- A transaction that is one of `txns` with `new` at the end is one of `txns`, or is `new`.
has_either : (txn new : Qualifiers) (txns : List Qualifiers) → is_one_of txn (txns ++ new ∷ []) ≡ true
    → (is_one_of txn txns ≡ true) ⊎ (txn ≡ new)
has_either txn new txns is =
    elim (one_of (is_one_of txn txns) (is_one_of txn (new ∷ [])) (sym (list_any-append (is_same_txn txn) txns (new ∷ [])) ∙ is)) [
      | inl there ↦ inl there
      | inr last ↦ inr (elim (one_of (is_same_txn txn new) false last)
          [ inl same ↦ same_is txn new same | inr none ↦ absurd (true≢false (sym none)) ])
    ]

-- A transaction that is none of `txns`, and not `new`, is none of `txns` with `new` at the end.
pub has_not : (txn new : Qualifiers) (txns : List Qualifiers) → is_one_of txn txns ≡ false
    → is_same_txn txn new ≡ false → is_one_of txn (txns ++ new ∷ []) ≡ false
has_not txn new txns none other =
    list_any-append (is_same_txn txn) txns (new ∷ [])
    ∙ or_from (is_one_of txn txns) (is_one_of txn (new ∷ [])) none (or_from (is_same_txn txn new) false other refl)

-- If no transaction is twice in `txns`, and `new` is not in it, none is twice in the longer list.
apart_still : (new : Qualifiers) (txns : List Qualifiers) → AreApart txns → is_one_of new txns ≡ false
    → AreApart (txns ++ new ∷ [])
apart_still new [] apart none = (refl, tt)
apart_still new (first ∷ txns) apart none =
    let parts = or_parts (is_same_txn new first) (is_one_of new txns) none in
    (has_not first new txns apart.0 (apart_back new first parts.0), apart_still new txns apart.1 parts.1)

-- Returns the transactions without `txn`.
abbrev without : Qualifiers → List Qualifiers → List Qualifiers
without txn [] = []
without txn (first ∷ txns) = cond (is_same_txn txn first) txns (first ∷ without txn txns)

-- Without its first member (`same`), or without one of the others (`there`), a list is one shorter.
one_less : (first : Qualifiers) (txns rest : List Qualifiers) (same there : Bool) → (same || there) ≡ true
    → (there ≡ true → suc (length rest) ≡ length txns)
    → suc (length (cond same txns (first ∷ rest))) ≡ suc (length txns)
one_less first txns rest true there is further = refl
one_less first txns rest false there is further = ap suc (further is)

-- Without a member a list is one shorter.
length_without : (txn : Qualifiers) (txns : List Qualifiers) → is_one_of txn txns ≡ true
    → suc (length (without txn txns)) ≡ length txns
length_without txn [] is = absurd (true≢false (sym is))
length_without txn (first ∷ txns) is =
    one_less first txns (without txn txns) (is_same_txn txn first) (is_one_of txn txns) is (length_without txn txns)

-- Without `txn` a list still has each other member.
has_without : (txn another : Qualifiers) (txns : List Qualifiers) → is_same_txn another txn ≡ false
    → is_one_of another txns ≡ true → is_one_of another (without txn txns) ≡ true
has_without txn another [] apart is = is
has_without txn another (first ∷ txns) apart is = go (is_same_txn txn first) refl (has_without txn another txns apart)
  where
    -- If `first` is `txn`, `another` is one of `txns`. Otherwise it is `first`, or one of the rest without `txn`.
    go : (same : Bool) → is_same_txn txn first ≡ same
        → (is_one_of another txns ≡ true → is_one_of another (without txn txns) ≡ true)
        → is_one_of another (cond same txns (first ∷ without txn txns)) ≡ true
    go true same further =
        elim (one_of (is_same_txn another first) (is_one_of another txns) is) [
          | inl here ↦ absurd (true≢false (sym here ∙ ap (is_same_txn another) (sym (same_is txn first same)) ∙ apart))
          | inr there ↦ there
        ]
    go false same further = or_as (is_same_txn another first) (is_one_of another txns) (is_one_of another (without txn txns)) is
        further

-- If `another` is one of `txns`, and `txn` is none of them, they differ.
not_both : (txn another : Qualifiers) (txns : List Qualifiers) → is_one_of txn txns ≡ false
    → is_one_of another txns ≡ true → is_same_txn another txn ≡ false
not_both txn another txns none is = go (is_same_txn another txn) refl
  where
    -- If `another` were `txn`, `txn` would be one of `txns`.
    go : (same : Bool) → is_same_txn another txn ≡ same → same ≡ false
    go true same = absurd (true≢false (sym (subst (λ t. is_one_of t txns ≡ true) (same_is another txn same) is) ∙ none))
    go false same = refl

-- If no transaction is twice in `these`, and each is one of `those`, `these` is not longer than `those`. The proof
-- takes the first member of `these` out of both.
no_more : (these those : List Qualifiers) → AreApart these → AreAmong these those → length these ≤ length those
no_more [] those apart among = omega arith
no_more (txn ∷ these) those apart among =
    let here = among txn (or_left (is_same_txn txn txn) (is_one_of txn these) (same_self txn)) in
    let less = no_more these (without txn those) apart.1
    (λ another is. has_without txn another those (not_both txn another these apart.0 is)
    (among another (or_right (is_same_txn another txn) (is_one_of another these) is))) in
    omega (arith, less, length_without txn those here)

-- ---- the transactions of a desk

-- An item is found if it is the first one, or if one is found after it.
either_some : {X : Type 0} (same there : Bool) (item : X) (found : Option X) → is_some found ≡ there
    → is_some (cond same (Some item) found) ≡ (same || there)
either_some true there item found is = refl
either_some false there item found is = is

-- An item of `txn` is found exactly if `txn` is one of the items' transactions.
pub has_found : {X : Type 0} (key : X → Qualifiers) (txn : Qualifiers) (items : List X)
    → is_some (found_by key txn items) ≡ is_one_of txn (map key items)
has_found key txn [] = refl
has_found key txn (item ∷ items) =
    either_some (is_same_txn txn (key item)) (is_one_of txn (map key items)) item (found_by key txn items)
    (has_found key txn items)

-- An event leaves the live and committed transactions unchanged. Or it begins a transaction of which `May` holds, if
-- this is not live, and fewer than 1,000 are. Or it commits the live ones, or replaces them by the committed ones.
pub data Leads (May : Qualifiers → Type 0) (live committed new_live new_committed : List Qualifiers) : Type 0 where
  stays : new_live ≡ live → new_committed ≡ committed → Leads May live committed new_live new_committed
  begun : (txn : Qualifiers) → is_one_of txn live ≡ false → length live + 1 ≤ 1000 → May txn → new_live ≡ live ++ txn ∷ []
      → new_committed ≡ committed → Leads May live committed new_live new_committed
  commits : new_live ≡ live → new_committed ≡ live → Leads May live committed new_live new_committed
  returns : new_live ≡ committed → new_committed ≡ committed → Leads May live committed new_live new_committed

-- `Leads` holds from the transactions of desk `p` to those of `new`.
abbrev pub LeadsTo : (Qualifiers → Type 0) → DeskParty → DeskParty → Type 0
LeadsTo May p new = Leads May (live_txns p) (committed_txns p) (live_txns new) (committed_txns new)

-- Desk `new` is `p`, or is `p` with an entry of transaction `of` put in its live contents.
abbrev Puts : Qualifiers → DeskParty → DeskParty → Type 0
Puts of p new = (new ≡ p) ⊎ ((held : DeskEntry) × (txn_held held ≡ of) × (new ≡ record p { live = with_held p.live held }))

-- Desk `p` may begin the transaction `of` only if `May` holds of it.
module _ (May : Qualifiers → Type 0) (p : DeskParty) (of : Qualifiers) where
  -- If `of` is held, an entry of `of` that is put leaves the transactions unchanged. Else the entry begins `of`.
  put_leads : (held : DeskEntry) → txn_held held ≡ of → (found : Option DeskEntry) → found_by txn_held of p.live.held ≡ found
      → (found ≡ None → (nat_lt (length p.live.held) most_sides ≡ true) × May of)
      → LeadsTo May p (record p { live = with_held p.live held })
  put_leads held is (Some there) e may =
      stays (keys_put txn_held held there p.live.held (ap (λ t. found_by txn_held t p.live.held) is ∙ e)) refl
  put_leads held is None e may =
      let room = may refl in
      begun of (sym (has_found txn_held of p.live.held) ∙ ap is_some e) (few room.0) room.1
      (ap (map txn_held) (put_last txn_held held p.live.held (ap (λ t. found_by txn_held t p.live.held) is ∙ e))
      ∙ map-append txn_held p.live.held (held ∷ []) ∙ ap (λ t. live_txns p ++ t ∷ []) is) refl
    where
      -- A desk with room for one more holds at most 999 transactions.
      few : nat_lt (length p.live.held) most_sides ≡ true → length (live_txns p) + 1 ≤ 1000
      few room = omega (arith, ltb-true (length p.live.held) 1000 room, length-map p.live.held txn_held)

  -- If `Puts` holds from `p` to `new`, and `of` is held or may be begun, `LeadsTo` holds.
  puts_lead : (new : DeskParty) → Puts of p new → (found : Option DeskEntry) → found_by txn_held of p.live.held ≡ found
      → (found ≡ None → (nat_lt (length p.live.held) most_sides ≡ true) × May of) → LeadsTo May p new
  puts_lead new (inl is) found e may = subst (LeadsTo May p) (sym is) (stays refl refl)
  puts_lead new (inr (held, is, put)) found e may = subst (LeadsTo May p) (sym put) (put_leads held is found e may)

  -- If a desk puts the side that is reached, and is unchanged if none is, `LeadsTo` holds.
  reach_leads : (seen : Result DeskEntry DeskFault → DeskParty)
      → ((held : DeskEntry) → txn_held held ≡ of → Puts of p (seen (Ok held))) → ((fault : DeskFault) → seen (Err fault) ≡ p)
      → txn_held (idle_held p.live.role of) ≡ of
      → (may_begin : Bool) → (may_begin ≡ true → May of) → (has_room : Bool) → nat_lt (length p.live.held) most_sides ≡ has_room
      → (found : Option DeskEntry) → found_by txn_held of p.live.held ≡ found
      → LeadsTo May p (seen (held_or_begun may_begin has_room (idle_held p.live.role of) found))
  reach_leads seen puts fails idle may_begin may has_room room (Some held) e =
      puts_lead (seen (Ok held)) (puts held (sym (found_is txn_held of p.live.held held e))) (Some held) e
      (λ none. absurd (true≢false (ap is_some none)))
  reach_leads seen puts fails idle true may true room None e =
      puts_lead (seen (Ok (idle_held p.live.role of))) (puts (idle_held p.live.role of) idle) None e (λ none. (room, may refl))
  reach_leads seen puts fails idle true may false room None e =
      subst (LeadsTo May p) (sym (fails faults.DeskFull)) (stays refl refl)
  reach_leads seen puts fails idle false may has_room room None e =
      subst (LeadsTo May p) (sym (fails faults.NoSuchTransaction)) (stays refl refl)

-- `May` holds of each transaction that an event may begin: the transaction of a wish, or of a delivered message.
abbrev pub Permits : (Qualifiers → Type 0) → List Sending → DeskEvent → Type 0
Permits May partner_sent (desk_events.Wish of wish) = May of
Permits May partner_sent (desk_events.Deliver role of n) =
    (a : Apdu) → sent_message (sent_for of partner_sent) n ≡ Some a → May a.txn
Permits May partner_sent other = Unit {0}

-- Desk `p` may begin only transactions of which `May` holds.
module _ (grows : RowsGrow) (May : Qualifiers → Type 0) (p : DeskParty) where
  -- A decision puts the entry with its new side, or leaves the desk unchanged.
  decided_puts : (of : Qualifiers) (action : Action) (held : DeskEntry) → txn_held held ≡ of → (result : Result Side Refusal)
      → acts held.side action ≡ result → Puts of p (desk_decides p (acted_at p.live held result)).1
  decided_puts of action held is (Ok new) e =
      inr (record { side = new; released = held.released }, row_txn grows held.side new (acted action e) ∙ is, refl)
  decided_puts of action held is (Err refusal) e = inl refl

  -- If `May` holds of `of` whenever the action may begin a side, `LeadsTo` holds of the decision.
  decides_leads : (of : Qualifiers) (action : Action) → (begins action ≡ true → May of) → (may : Bool)
      → LeadsTo May p (desk_decides p
      (if may then acts_reached p.live action (side_for_call p.live of (begins action)) else Err (faults.Core WrongRole))).1
  decides_leads of action may true =
      reach_leads May p of (λ found. (desk_decides p (acts_reached p.live action found)).1)
      (λ held is. decided_puts of action held is (acts held.side action) refl) (λ fault. refl) (idle_txn p.live.role of)
      (begins action) may (nat_lt (length p.live.held) most_sides) refl (found_by txn_held of p.live.held) refl
  decides_leads of action may false = stays refl refl

  -- A message puts the entry with its new side, or leaves the desk unchanged.
  took_puts : (a : Apdu) (held : DeskEntry) → txn_held held ≡ a.txn → (answer : Result Taking Refusal) (new : Side)
      → takes held.side a ≡ (answer, new) → Puts a.txn p (record p { live = (took_at p.live held (answer, new)).1 })
  took_puts a held is (Ok _) new e =
      inr (
        record { side = new; released = held.released },
        row_txn grows held.side new (took a (ap (λ (r : Result Taking Refusal × Side). r.1) e)) ∙ is,
        refl,
      )
  took_puts a held is (Err refusal) new e = inl refl

  -- `LeadsTo` holds of a desk that takes `a`, if `May` holds of the transaction of `a`.
  takes_leads : (a : Apdu) → May a.txn → (own : Bool)
      → LeadsTo May p (record p {
        live =
            (if own then (Err (faults.Core WrongRole), p.live) else
            takes_reached p.live a (side_for_call p.live a.txn (is_ill_request a.body))).1;
      })
  takes_leads a may true = stays refl refl
  takes_leads a may false =
      reach_leads May p a.txn (λ found. record p { live = (takes_reached p.live a found).1 })
      (λ held is. took_puts a held is (takes held.side a).0 (takes held.side a).1 refl) (λ fault. refl)
      (idle_txn p.live.role a.txn)
      (is_ill_request a.body) (λ begins. may) (nat_lt (length p.live.held) most_sides) refl (found_by txn_held a.txn p.live.held)
      refl

  -- `LeadsTo` holds of a delivery, if `May` holds of the transaction of its message.
  receives_leads : (found : Option Apdu) → ((a : Apdu) → found ≡ Some a → May a.txn) → LeadsTo May p (desk_receives p found).1
  receives_leads None may = stays refl refl
  receives_leads (Some a) may = takes_leads a (may a refl) (is_own p.live.role a.body)

  -- `LeadsTo` holds of a Send, if it holds of the desk with the sent message.
  sends_leads : (after : Apdu → DeskParty) (issued : Option Apdu) (released : Bool) → ((a : Apdu) → LeadsTo May p (after a))
      → LeadsTo May p (sends_by p after issued released).1
  sends_leads after None released leads = stays refl refl
  sends_leads after (Some a) false leads = stays refl refl
  sends_leads after (Some a) true leads = leads a

  -- `LeadsTo` holds of a Send of message n in `of`.
  send_leads : (of : Qualifiers) (n : ℕ) (found : Option DeskEntry) → LeadsTo May p (desk_sends p of n found).1
  send_leads of n None = stays refl refl
  send_leads of n (Some held) = sends_leads _ _ _ (λ a. stays refl refl)

  -- The held sides have the transactions of the desk.
  held_txns : map txn_of (map (λ (held : DeskEntry). held.side) p.live.held) ≡ live_txns p
  held_txns = map-map txn_of (λ (held : DeskEntry). held.side) p.live.held

  -- `LeadsTo` holds of each event, if `May` holds of each transaction that it may begin (`Permits`).
  pub event_leads : (partner_sent : List Sending) (event : DeskEvent) → Permits May partner_sent event
      → LeadsTo May p (desk_happens_to p partner_sent event).1
  event_leads partner_sent (desk_events.Wish of wish) may =
      decides_leads of (actions.Wish wish) (λ is. may) (is_same_role p.live.role who.Requester)
  event_leads partner_sent (desk_events.Deed of deed today) may =
      decides_leads of (actions.Deed deed today) (λ is. absurd (true≢false (sym is))) (is_same_role p.live.role who.Responder)
  event_leads partner_sent (desk_events.Save role) may =
      commits (map-map txn_held whole (map (λ (held : DeskEntry). held.side) p.live.held) ∙ held_txns) held_txns
  event_leads partner_sent (desk_events.SaveFault role true) may = commits refl held_txns
  event_leads partner_sent (desk_events.SaveFault role false) may = stays refl refl
  event_leads partner_sent (desk_events.Send role of n) may = send_leads of n (found_by txn_held of p.live.held)
  event_leads partner_sent (desk_events.Deliver role of n) may = receives_leads (sent_message (sent_for of partner_sent) n) may
  event_leads partner_sent (desk_events.Noise role bytes) may = stays refl refl
  event_leads partner_sent (desk_events.Restart role) may = returns (map-map txn_held whole p.committed.sides) refl

-- ---- facts that each event of two desks keeps

-- If `P` holds of `live` and `committed`, it holds of two lists that are equal to them.
both_are : (P : List Qualifiers → List Qualifiers → Type 0) (live committed new_live new_committed : List Qualifiers)
    → new_live ≡ live → new_committed ≡ committed → P live committed → P new_live new_committed
both_are P live committed new_live new_committed is there holds =
    subst (λ l. P l new_committed) (sym is) (subst (P live) (sym there) holds)

-- If the requester's desk changes as `Leads` says, `Counts` holds after the change.
requester_counts : (live committed new_live new_committed others others_committed : List Qualifiers)
    → Leads (λ txn. Unit {0}) live committed new_live new_committed → Counts live committed others others_committed
    → Counts new_live new_committed others others_committed
requester_counts live committed new_live new_committed others others_committed leads
    (few, few_committed, known, known_committed) = go leads
  where
    -- `Counts` holds with these live and committed transactions of the requester's desk.
    P : List Qualifiers → List Qualifiers → Type 0
    P l m = Counts l m others others_committed

    -- Each change of `Leads` keeps `Counts`.
    go : Leads (λ txn. Unit {0}) live committed new_live new_committed → P new_live new_committed
    go (stays is there) = both_are P live committed new_live new_committed is there (few, few_committed, known, known_committed)
    go (begun txn none room may is there) =
        both_are P (live ++ txn ∷ []) committed new_live new_committed is there (
          (apart_still txn live few.0 none, omega (arith, room, length-append live (txn ∷ []))),
          few_committed,
          (known.0, (λ t among. has_still t txn live (known.1 t among)), known.2),
          (known_committed.0, (λ t among. has_still t txn live (known_committed.1 t among)), known_committed.2),
        )
    go (commits is there) = both_are P live live new_live new_committed is there
        (few, few, (known.0, known.1, known.1), (known_committed.0, known_committed.1, known_committed.1))
    go (returns is there) = both_are P committed committed new_live new_committed is there
        (few_committed, few_committed, (known.0, known.2, known.2), (known_committed.0, known_committed.2, known_committed.2))

-- `txn` is one of the requester's live transactions, and one of its committed ones.
abbrev IsKnown : List Qualifiers → List Qualifiers → Qualifiers → Type 0
IsKnown live committed txn = (is_one_of txn live ≡ true) × (is_one_of txn committed ≡ true)

-- The responder's desk changes as `Leads` says, and begins only transactions that the requester's desk has. Then
-- `Counts` holds after the change.
responder_counts : (live committed others others_committed new new_committed : List Qualifiers)
    → Leads (IsKnown live committed) others others_committed new new_committed → Counts live committed others others_committed
    → Counts live committed new new_committed
responder_counts live committed others others_committed new new_committed leads (few, few_committed, known, known_committed) =
    go leads
  where
    -- `Counts` holds with these live and committed transactions of the responder's desk.
    P : List Qualifiers → List Qualifiers → Type 0
    P l m = Counts live committed l m

    -- If `txn` and each of `others` are among `those`, so is each of `others` with `txn` at the end.
    with_one : (those : List Qualifiers) (txn : Qualifiers) → is_one_of txn those ≡ true → AreAmong others those
        → AreAmong (others ++ txn ∷ []) those
    with_one those txn here among t is =
        elim (has_either t txn others is)
        [ inl there ↦ among t there | inr same ↦ subst (λ u. is_one_of u those ≡ true) (sym same) here ]

    -- Each change of `Leads` keeps `Counts`.
    go : Leads (IsKnown live committed) others others_committed new new_committed → P new new_committed
    go (stays is there) = both_are P others others_committed new new_committed is there
        (few, few_committed, known, known_committed)
    go (begun txn none room may is there) =
        both_are P (others ++ txn ∷ []) others_committed new new_committed is there (
          few,
          few_committed,
          (
            apart_still txn others known.0 none,
            with_one live txn may.0 known.1,
            with_one committed txn may.1 known.2,
          ),
          known_committed,
        )
    go (commits is there) = both_are P others others new new_committed is there (few, few_committed, known, known)
    go (returns is there) = both_are P others_committed others_committed new new_committed is there
        (few, few_committed, known_committed, known_committed)

-- A side that has issued a message is found.
issued_found : {X : Type 0} (side : X → Side) (idle : X) (found : Option X) (n : ℕ) (a : Apdu)
    → issued_of (side idle) ≡ [] → message (issued_of (side (found_or idle found))) n ≡ Some a → is_some found ≡ true
issued_found side idle (Some there) n a none at = refl
issued_found side idle None n a none at = absurd (idle_issued [] n a refl (subst (λ l. message l n ≡ Some a) none at))

-- If the requester has sent a message in `of`, its desk has `of` as a live and a committed transaction.
sent_known : (w : DeskParties) → DesksInvariant w → (of : Qualifiers) (n : ℕ) (a : Apdu)
    → sent_message (sent_for of w.requester.sent) n ≡ Some a
    → IsKnown (live_txns w.requester) (committed_txns w.requester) of
unfolding side_with
sent_known w stands of n a sent =
    let saved = (stands.each of).requester.saved in
    let p = w.requester in
    let live = live_issues (project of w).requester saved a (n, sent) in (
      sym (has_found txn_held of p.live.held)
          ∙ issued_found (λ (held : DeskEntry). held.side) (idle_held p.live.role of) (found_by txn_held of p.live.held) live.0 a
          (idle_issues p.live.role of) live.1,
      sym (has_found txn_of of p.committed.sides)
          ∙ issued_found (λ side. side) (idle_side p.committed.role of) (found_by txn_of of p.committed.sides) n a
          (idle_issues p.committed.role of) (saved.committed n a sent),
    )

-- The requester's desk may begin each transaction.
all_permitted : (partner_sent : List Sending) (event : DeskEvent) → Permits (λ txn. Unit {0}) partner_sent event
all_permitted partner_sent (desk_events.Wish of wish) = tt
all_permitted partner_sent (desk_events.Deliver role of n) = λ a sent. tt
all_permitted partner_sent event = tt

-- An event at the responder's desk begins only a transaction that the requester's desk has.
known_permitted : (w : DeskParties) → DesksInvariant w → (event : DeskEvent) → who_of (plain event) ≡ who.Responder
    → Permits (IsKnown (live_txns w.requester) (committed_txns w.requester)) w.requester.sent event
known_permitted w stands (desk_events.Wish of wish) is = search rules
known_permitted w stands (desk_events.Deliver role of n) is =
    λ a sent. subst (IsKnown (live_txns w.requester) (committed_txns w.requester))
    ((keeps_to w who.Responder stands).txn_of_sent of n a sent) (sent_known w stands of n a sent)
known_permitted w stands event is = tt

-- If two desks satisfy `DesksInvariant`, `DesksCount` holds after an event at the desk of `role`.
pub count_at : RowsGrow → (w : DeskParties) (event : DeskEvent) → DesksInvariant w → (role : Role)
    → who_of (plain event) ≡ role
    → DesksCount (happens_at w role (λ p partner. desk_happens_to p partner.sent event)).1
count_at grows w event stands who.Requester is =
    let new = (desk_happens_to w.requester w.responder.sent event).1 in
    requester_counts (live_txns w.requester) (committed_txns w.requester) (live_txns new) (committed_txns new)
    (live_txns w.responder)
    (committed_txns w.responder)
    (event_leads grows (λ txn. Unit {0}) w.requester w.responder.sent event (all_permitted w.responder.sent event)) stands.counts
count_at grows w event stands who.Responder is =
    let new = (desk_happens_to w.responder w.requester.sent event).1 in
    responder_counts (live_txns w.requester) (committed_txns w.requester) (live_txns w.responder) (committed_txns w.responder)
    (live_txns new) (committed_txns new)
    (event_leads grows (IsKnown (live_txns w.requester) (committed_txns w.requester)) w.responder w.requester.sent event
    (known_permitted w stands event is)) stands.counts

-- `DesksCount` holds of two desks that hold nothing.
pub first_counts : DesksCount first_desks
first_counts = ((tt, omega arith), (tt, omega arith), (tt, (λ t is. is), (λ t is. is)), (tt, (λ t is. is), (λ t is. is)))

-- ---- deliveries

-- If an entry is found, or there is room, `Reaches` does not hold of the outcome DeskFull.
never_full : (may_begin has_room : Bool) (found : Option DeskEntry) → (found ≡ None → has_room ≡ false → ⊥)
    → Reaches may_begin has_room found DeskFull → ⊥
never_full may_begin has_room (Some held) room reaches = reaches
never_full true true None room reaches = reaches
never_full true false None room reaches = room refl refl
never_full false has_room None room reaches = search rules

-- A delivery is not DeskFull, if a desk without room holds the transaction of each sent message.
none_full : EachReaches → (w : DeskParties) → DesksInvariant w → (role : Role) (txn : Qualifiers) (n : ℕ)
    → ((a : Apdu) → sent_message (sent_for txn (party w (other role)).sent) n ≡ Some a
    → found_by txn_held txn (party w role).live.held ≡ None → nat_lt (length (party w role).live.held) 1000 ≡ false → ⊥)
    → (desks_happen w (desk_events.Deliver role txn n)).0 ≡ DeskFull → ⊥
none_full reaches w stands role txn n room full = go (sent_message (sent_for txn (party w (other role)).sent) n) refl
  where
    -- If no message was sent, the outcome is NotSent. Otherwise the desk holds the transaction, or has room.
    go : (found : Option Apdu) → sent_message (sent_for txn (party w (other role)).sent) n ≡ found → ⊥
    go None e = let seen : ◌≡◌ {A = DeskOutcome} (Plain NotSent) DeskFull =
        sym (ap (λ o. (desk_receives (party w role) o).0) e) ∙ full in search (rules, seen)
    go (Some a) e =
        never_full (is_ill_request a.body) (nat_lt (length (party w role).live.held) 1000)
        (found_by txn_held txn (party w role).live.held) (room a e)
        (subst (Reaches (is_ill_request a.body) (nat_lt (length (party w role).live.held) 1000)
        (found_by txn_held txn (party w role).live.held)) full (reaches w (desk_events.Deliver role txn n) stands a e))

-- If the requester's desk does not hold a transaction, the responder has sent no message in it.
pub none_sent : (w : DeskParties) → DesksInvariant w → (txn : Qualifiers) (n : ℕ) (a : Apdu)
    → sent_message (sent_for txn w.responder.sent) n ≡ Some a → found_by txn_held txn w.requester.live.held ≡ None → ⊥
none_sent w stands txn n a sent none =
    let shown = stands.each txn in
    let v = project txn w in
    asked txn v.requester.live v.responder.committed v.responder.sent v.requester.sent n a shown.requester.live
    shown.responder.committed (live_issues v.requester shown.requester.saved) (shown.responder.saved.committed n a sent)
    (ap (λ o. issued_of (found_or (idle_held w.requester.live.role txn) o).side) none ∙ idle_issues w.requester.live.role txn)

-- If the requester's desk does not hold a transaction, a delivery to it is NotSent.
pub unheld_is_not_sent : (w : DeskParties) (txn : Qualifiers) (n : ℕ) → DesksInvariant w
    → found_by txn_held txn w.requester.live.held ≡ None
    → (desks_happen w (desk_events.Deliver who.Requester txn n)).0 ≡ Plain NotSent
unheld_is_not_sent w txn n stands none = go (sent_message (sent_for txn w.responder.sent) n) refl
  where
    -- No message was sent, since `none_sent` excludes the other case.
    go : (found : Option Apdu) → sent_message (sent_for txn w.responder.sent) n ≡ found
        → (desks_happen w (desk_events.Deliver who.Requester txn n)).0 ≡ Plain NotSent
    go None e = ap (λ o. (desk_receives w.requester o).0) e
    go (Some a) e = absurd (none_sent w stands txn n a e none)

-- If the requester has sent a message in `txn`, the responder's desk holds `txn`, or has room for it. Otherwise the
-- responder's desk has 1,000 transactions, and the requester's desk has all these and `txn`.
responder_room : (w : DeskParties) → DesksInvariant w → (txn : Qualifiers) (n : ℕ) (a : Apdu)
    → sent_message (sent_for txn w.requester.sent) n ≡ Some a → found_by txn_held txn w.responder.live.held ≡ None
    → nat_lt (length w.responder.live.held) 1000 ≡ false → ⊥
responder_room w stands txn n a sent none full =
    let few = stands.counts.0 in
    let known = stands.counts.2 in
    let here = (sent_known w stands txn n a sent).0 in
    let absent : is_one_of txn (live_txns w.responder) ≡ false =
    sym (has_found txn_held txn w.responder.live.held) ∙ ap is_some none in
    let all : AreAmong (txn ∷ live_txns w.responder) (live_txns w.requester) =
    λ t is. elim (one_of (is_same_txn t txn) (is_one_of t (live_txns w.responder)) is) [
      | inl same ↦ subst (λ u. is_one_of u (live_txns w.requester) ≡ true) (sym (same_is t txn same)) here
      | inr there ↦ known.1
          t there
    ] in
    let more = no_more (txn ∷ live_txns w.responder) (live_txns w.requester) (absent, known.0) all in
    omega (arith, few.1, more, ltb-false (length w.responder.live.held) 1000 full, length-map w.responder.live.held txn_held)

-- If two desks satisfy `DesksInvariant`, no delivery is DeskFull.
pub finds_room : EachReaches → (w : DeskParties) (role : Role) (txn : Qualifiers) (n : ℕ) → DesksInvariant w
    → (desks_happen w (desk_events.Deliver role txn n)).0 ≡ DeskFull → ⊥
finds_room reaches w who.Requester txn n stands =
    none_full reaches w stands who.Requester txn n (λ a sent none full. none_sent w stands txn n a sent none)
finds_room reaches w who.Responder txn n stands = none_full reaches w stands who.Responder txn n (responder_room w stands txn n)
