-- The desks of each group of two shelves are two desks of their own.
use Rattle.std.proofs.Common.{◌≡◌, ℕ, Bool, true, false, if◌then◌else◌, List, [], ◌∷◌, ◌++◌, Option, Some, None, is_some, refl}
use Rattle.std.proofs.Common.{sym, ap, ◌∙◌, subst, true≢false}
use Rattle.std.specs.Prelude.{bytes_eq}
use Rattle.std.proofs.lemmas.Slice.Eq.{bytes_eq-Decides}
use Rattle.ill_values.specs.TxnId.{Qualifiers}
use Rattle.ill_values.specs.declared.apdu.Apdu.{Apdu}
use Rattle.ill_core.specs.Issued.{is_same_txn}
use Rattle.ill_record.specs.declared.role.Role.{Role}
use Rattle.ill_record.specs.declared.role.Role.TheVariants as who
use Rattle.ill_saved.specs.Holdings.{DeskEntry}
use Rattle.ill_saved.specs.ManySides.{found_by, txn_held}
use Rattle.ill_record.proofs.Finding.{same_is}
use Rattle.ill_world.specs.declared.event.DeskEvent.{DeskEvent}
use Rattle.ill_world.specs.declared.event.DeskEvent.TheVariants as events
use Rattle.ill_words.specs.declared.outcome.Outcome.{Outcome}
use Rattle.ill_words.specs.declared.outcome.DeskOutcome.{DeskOutcome}
use Rattle.ill_words.specs.declared.outcome.DeskOutcome.TheVariants.{Plain, NoSuchTransaction, DeskFull}
use Rattle.ill_world.specs.World.{Parties, party, happens, happens_at, first_world, sent_message, run_by, who_of}
use Rattle.ill_world.specs.Desks.{DeskParty, DeskParties, Sending, sent_for, plain, first_desks, desk_happens_to, desks_happen}
use Rattle.ill_world.specs.Desks.{desks_run, project, concerns, if_reached, IsSeenAs}
use Rattle.ill_world.specs.DeskCounts.{is_one_of, live_txns, committed_txns}
use Rattle.ill_world.specs.DeskSafety.{DesksInvariant}
use Rattle.ill_world.specs.BadDesks.{Names}
use Rattle.ill_world.specs.Shelves.{Shelves, ShelfEvent, first_shelves, group_of, home, shelves_happen, shelves_run, events_at}
use Rattle.ill_world.proofs.Parties.{RowsGrow}
use Rattle.ill_world.proofs.Projections.{first_project}
use Rattle.ill_world.proofs.Desks.{EachProjects, EachStands, keeps_to}
use Rattle.ill_world.proofs.BadDesks.{joined}
use Rattle.ill_world.proofs.DeskCounts.{Leads, stays, begun, commits, returns, Permits, event_leads, has_found, has_not}

-- ---- groups

-- If an event names no transaction, its group is the group `said`.
whole_group : (said : List ℕ) (event : DeskEvent) → ((txn : Qualifiers) → Names txn event → ⊥) → group_of said event ≡ said
whole_group said (events.Wish of wish) none = absurd (none of refl)
whole_group said (events.Deed of deed today) none = absurd (none of refl)
whole_group said (events.Send role of n) none = absurd (none of refl)
whole_group said (events.Deliver role of n) none = absurd (none of refl)
whole_group said event none = refl

-- If an event names no transaction, its home is its group.
pub whole_home : (e : ShelfEvent) → ((txn : Qualifiers) → Names txn e.event → ⊥) → home e ≡ e.group
whole_home e none = whole_group e.group e.event none

-- ---- the events of a group

-- The events of a group have the order of the events of the shelves.
pub group_in_order : (group : List ℕ) (before after : List ShelfEvent)
    → events_at group (before ++ after) ≡ events_at group before ++ events_at group after
group_in_order group [] after = refl
group_in_order group (e ∷ before) after =
    joined (bytes_eq group (home e)) e.event (events_at group before) (events_at group after) (events_at group (before ++ after))
    (group_in_order group before after)

-- ---- runs

-- If the home `at` of an event is `group`, the desks of `group` run the event, and then `more`. Otherwise they run
-- `more` alone.
one_on : (w : Shelves) (group at : List ℕ) (event : DeskEvent) (more : List DeskEvent) (same : Bool) → bytes_eq group at ≡ same
    → desks_run (if same then (desks_happen (w at) event).1 else w group) more
    ≡ desks_run (w group) (if same then event ∷ more else more)
unfolding run_by
one_on w group at event more true same =
    ap (λ g. desks_run (desks_happen (w g) event).1 more) (sym ((bytes_eq-Decides group at).0 same))
one_on w group at event more false same = refl

-- The desks of a group after events are two desks after the events of this group.
pub shelves_run_at : (w : Shelves) (group : List ℕ) (all : List ShelfEvent)
    → shelves_run w all group ≡ desks_run (w group) (events_at group all)
unfolding run_by
shelves_run_at w group [] = refl
shelves_run_at w group (e ∷ more) =
    shelves_run_at (shelves_happen w e).1 group more
    ∙ one_on w group (home e) e.event (events_at group more) (bytes_eq group (home e)) refl

-- ---- transactions of another group

-- The desk lacks `txn`: it holds no side of it, and no side of it is committed.
abbrev pub Lacks : Qualifiers → DeskParty → Type 0
Lacks txn p = (is_one_of txn (live_txns p) ≡ false) × (is_one_of txn (committed_txns p) ≡ false)

-- Both desks lack `txn`.
abbrev pub BothLack : Qualifiers → DeskParties → Type 0
BothLack txn w = Lacks txn w.requester × Lacks txn w.responder

-- `of` is another transaction than `txn`.
abbrev IsOther : Qualifiers → Qualifiers → Type 0
IsOther txn of = is_same_txn txn of ≡ false

-- If a desk lacks `txn`, and an event begins only other transactions, the desk still lacks it.
lacks_still : (txn : Qualifiers) (live committed new_live new_committed : List Qualifiers)
    → Leads (IsOther txn) live committed new_live new_committed
    → (is_one_of txn live ≡ false) × (is_one_of txn committed ≡ false)
    → (is_one_of txn new_live ≡ false) × (is_one_of txn new_committed ≡ false)
lacks_still txn live committed new_live new_committed (stays is there) lacks =
    (ap (is_one_of txn) is ∙ lacks.0, ap (is_one_of txn) there ∙ lacks.1)
lacks_still txn live committed new_live new_committed (begun of none room may is there) lacks =
    (ap (is_one_of txn) is ∙ has_not txn of live lacks.0 may, ap (is_one_of txn) there ∙ lacks.1)
lacks_still txn live committed new_live new_committed (commits is there) lacks =
    (ap (is_one_of txn) is ∙ lacks.0, ap (is_one_of txn) there ∙ lacks.0)
lacks_still txn live committed new_live new_committed (returns is there) lacks =
    (ap (is_one_of txn) is ∙ lacks.1, ap (is_one_of txn) there ∙ lacks.1)

-- The event names another transaction than `txn`, or none.
abbrev NamesOther : Qualifiers → DeskEvent → Type 0
NamesOther txn (events.Wish of wish) = IsOther txn of
NamesOther txn (events.Deed of deed today) = IsOther txn of
NamesOther txn (events.Send role of n) = IsOther txn of
NamesOther txn (events.Deliver role of n) = IsOther txn of
NamesOther txn whole = Unit {0}

-- An event that names another transaction begins only others. For a message is of the transaction in which it was sent.
permits_other : (txn : Qualifiers) (partner_sent : List Sending) (event : DeskEvent)
    → ((of : Qualifiers) (n : ℕ) (a : Apdu) → sent_message (sent_for of partner_sent) n ≡ Some a → of ≡ a.txn)
    → NamesOther txn event
    → Permits (IsOther txn) partner_sent event
permits_other txn partner_sent (events.Wish of wish) txn_of_sent names = names
permits_other txn partner_sent (events.Deliver role of n) txn_of_sent names = λ a sent.
    subst (IsOther txn) (txn_of_sent of n a sent) names
permits_other txn partner_sent event txn_of_sent names = tt

-- If both desks lack `txn`, they lack it after an event that names another transaction.
lack_at : RowsGrow → (txn : Qualifiers) (w : DeskParties) (event : DeskEvent) → DesksInvariant w → NamesOther txn event
    → BothLack txn w → (role : Role)
    → BothLack txn (happens_at w role (λ p partner. desk_happens_to p partner.sent event)).1
lack_at grows txn w event stands names lack who.Requester =
    let new = (desk_happens_to w.requester w.responder.sent event).1 in (
      lacks_still txn (live_txns w.requester) (committed_txns w.requester) (live_txns new) (committed_txns new)
          (event_leads grows (IsOther txn) w.requester w.responder.sent event
          (permits_other txn w.responder.sent event (keeps_to w who.Requester stands).txn_of_sent names)) lack.0,
      lack.1,
    )
lack_at grows txn w event stands names lack who.Responder =
    let new = (desk_happens_to w.responder w.requester.sent event).1 in (
      lack.0,
      lacks_still txn (live_txns w.responder) (committed_txns w.responder) (live_txns new) (committed_txns new)
          (event_leads grows (IsOther txn) w.responder w.requester.sent event
          (permits_other txn w.requester.sent event (keeps_to w who.Responder stands).txn_of_sent names)) lack.1,
    )

-- If `txn` is of another group than `of`, it is another transaction.
other_txn : (txn of : Qualifiers) (group : List ℕ) → (txn.group ≡ group → ⊥) → of.group ≡ group → IsOther txn of
other_txn txn of group apart is = go (is_same_txn txn of) refl
  where
    -- If `txn` were `of`, its group would be `group`.
    go : (same : Bool) → is_same_txn txn of ≡ same → same ≡ false
    go true same = absurd (apart (ap (λ (t : Qualifiers). t.group) (same_is txn of same) ∙ is))
    go false same = refl

-- An event at the desks of a group names no transaction of another group.
names_other : (txn : Qualifiers) (said group : List ℕ) (event : DeskEvent) → (txn.group ≡ group → ⊥)
    → group_of said event ≡ group → NamesOther txn event
names_other txn said group (events.Wish of wish) apart is = other_txn txn of group apart is
names_other txn said group (events.Deed of deed today) apart is = other_txn txn of group apart is
names_other txn said group (events.Send role of n) apart is = other_txn txn of group apart is
names_other txn said group (events.Deliver role of n) apart is = other_txn txn of group apart is
names_other txn said group event apart is = tt

-- If each event of a group keeps `P`, all its events keep it.
kept_at : (P : DeskParties → Type 0) → (group : List ℕ)
    → ((w : DeskParties) (e : ShelfEvent) → home e ≡ group → P w → P (desks_happen w e.event).1)
    → (w : DeskParties) (all : List ShelfEvent) → P w
    → P (desks_run w (events_at group all))
unfolding run_by
kept_at P group keeps w [] holds = holds
kept_at P group keeps w (e ∷ more) holds = go (λ v. kept_at P group keeps v more) (bytes_eq group (home e)) refl
  where
    -- An event of the group keeps `P`. Another one is not in the run.
    go : ((v : DeskParties) → P v → P (desks_run v (events_at group more))) → (same : Bool) → bytes_eq group (home e) ≡ same
        → P (desks_run w (if same then e.event ∷ events_at group more else events_at group more))
    go further true same = further (desks_happen w e.event).1 (keeps w e (sym ((bytes_eq-Decides group (home e)).0 same)) holds)
    go further false same = further w holds

-- `DesksInvariant` holds, and both desks lack `txn`.
abbrev pub StandWithout : Qualifiers → DeskParties → Type 0
StandWithout txn w = DesksInvariant w × BothLack txn w

-- The desks of a group lack each transaction of another group.
pub lack_elsewhere : RowsGrow → EachStands → DesksInvariant first_desks
    → (txn : Qualifiers) (group : List ℕ) (all : List ShelfEvent) → (txn.group ≡ group → ⊥)
    → StandWithout txn (desks_run first_desks (events_at group all))
lack_elsewhere grows after first txn group all apart =
    kept_at (StandWithout txn) group
    (λ w e is holds. (
      after w e.event holds.0,
      lack_at grows txn w e.event holds.0 (names_other txn e.group group e.event apart is) holds.1 (who_of (plain e.event)),
    ))
    first_desks all (first, ((refl, refl), (refl, refl)))

-- If a desk lacks `txn`, it holds no side of it.
none_held : (txn : Qualifiers) (p : DeskParty) → Lacks txn p → found_by txn_held txn p.live.held ≡ None
none_held txn p lacks = go (found_by txn_held txn p.live.held) (has_found txn_held txn p.live.held ∙ lacks.0)
  where
    -- If an entry were found, the desk would not lack `txn`.
    go : (found : Option DeskEntry) → is_some found ≡ false → found ≡ None
    go (Some held) is = absurd (true≢false is)
    go None is = refl

-- If both desks lack `txn`, neither holds a side of it.
neither_holds : (txn : Qualifiers) (w : DeskParties) (role : Role) → BothLack txn w
    → found_by txn_held txn (party w role).live.held ≡ None
neither_holds txn w who.Requester lack = none_held txn w.requester lack.0
neither_holds txn w who.Responder lack = none_held txn w.responder lack.1

-- The desks of a group hold no transaction of another group.
pub none_elsewhere : RowsGrow → EachStands → DesksInvariant first_desks
    → (txn : Qualifiers) (group : List ℕ) (all : List ShelfEvent) (role : Role) → (txn.group ≡ group → ⊥)
    → found_by txn_held txn (party (shelves_run first_shelves all group) role).live.held ≡ None
none_elsewhere grows after first txn group all role apart =
    neither_holds txn (shelves_run first_shelves all group) role
    (subst (BothLack txn) (sym (shelves_run_at first_shelves group all))
    (lack_elsewhere grows after first txn group all apart).1)

-- ---- sides of a transaction of another group

-- An event of a whole desk leaves idle sides idle.
whole_idle : (txn : Qualifiers) (event : DeskEvent) → NamesOther txn event → concerns txn event ≡ true
    → (happens (first_world txn) (plain event)).1 ≡ first_world txn
whole_idle txn (events.Wish of wish) names is = absurd (true≢false (sym is ∙ names))
whole_idle txn (events.Deed of deed today) names is = absurd (true≢false (sym is ∙ names))
whole_idle txn (events.Save who.Requester) names is = refl
whole_idle txn (events.Save who.Responder) names is = refl
whole_idle txn (events.SaveFault who.Requester true) names is = refl
whole_idle txn (events.SaveFault who.Responder true) names is = refl
whole_idle txn (events.SaveFault who.Requester false) names is = refl
whole_idle txn (events.SaveFault who.Responder false) names is = refl
whole_idle txn (events.Send role of n) names is = absurd (true≢false (sym is ∙ names))
whole_idle txn (events.Deliver role of n) names is = absurd (true≢false (sym is ∙ names))
whole_idle txn (events.Noise role bytes) names is = absurd (true≢false (sym is))
whole_idle txn (events.Restart who.Requester) names is = refl
whole_idle txn (events.Restart who.Responder) names is = refl

-- The old world is `idle`, and so is the expected world if the event is one of the transaction. Then `new` is `idle`.
seen_idle : (own : Bool) (expected : Outcome × Parties) (old new idle : Parties) (outcome : DeskOutcome)
    → IsSeenAs (if_reached outcome own) expected old outcome new → (own ≡ true → expected.1 ≡ idle) → old ≡ idle
    → new ≡ idle
seen_idle true expected old new idle (Plain outcome) seen stay is = seen.1 ∙ stay refl
seen_idle false expected old new idle (Plain outcome) seen stay is = seen ∙ is
seen_idle own expected old new idle NoSuchTransaction seen stay is = seen ∙ is
seen_idle own expected old new idle DeskFull seen stay is = seen ∙ is

-- `DesksInvariant` holds, and the projection to `txn` has idle sides.
abbrev StandIdle : Qualifiers → DeskParties → Type 0
StandIdle txn w = DesksInvariant w × (project txn w ≡ first_world txn)

-- If `StandIdle` holds, the sides of `txn` are idle after an event that names another transaction.
idle_on : EachProjects → (txn : Qualifiers) (w : DeskParties) (event : DeskEvent) → NamesOther txn event
    → StandIdle txn w → project txn (desks_happen w event).1 ≡ first_world txn
idle_on projects txn w event names holds =
    seen_idle (concerns txn event) (happens (project txn w) (plain event)) (project txn w) (project txn (desks_happen w event).1)
    (first_world txn) (desks_happen w event).0 (projects txn w event holds.0)
    (λ own. ap (λ v. (happens v (plain event)).1) holds.1 ∙ whole_idle txn event names own) holds.1

-- The desks of a group show idle sides of each transaction of another group.
pub idle_elsewhere : EachProjects → EachStands → DesksInvariant first_desks
    → (txn : Qualifiers) (group : List ℕ) (all : List ShelfEvent) → (txn.group ≡ group → ⊥)
    → project txn (shelves_run first_shelves all group) ≡ first_world txn
idle_elsewhere projects after first txn group all apart =
    let shown = kept_at (StandIdle txn) group
    (λ w e is holds. (
      after w e.event holds.0,
      idle_on projects txn w e.event (names_other txn e.group group e.event apart is) holds,
    )) first_desks all
    (first, first_project txn) in
    subst (λ w. project txn w ≡ first_world txn) (sym (shelves_run_at first_shelves group all)) shown.1
