-- After a night in which people act both sides are converged, or at rest. The responder has heard all messages of the
-- requester, and its deeds change nothing of that.
use Rattle.std.proofs.Common.{rules, arith, ◌≡◌, ◌⊎◌, inl, inr, ℕ, zero, suc, ◌+◌, ◌≤◌, ◌<◌, Bool, true, false, not, nat_le}
use Rattle.std.proofs.Common.{List, []}
use Rattle.std.proofs.Common.{◌∷◌, ◌++◌, length, Option, Some, None, Result, Ok, Err, refl, sym, ap, ◌∙◌, subst}
use Rattle.std.specs.List.{list_all}
use Rattle.std.specs.Prelude.{slice_get}
use Rattle.std.proofs.lemmas.Bool.{and_parts, and_from, both_ways}
use Rattle.ill_values.specs.Day.{Date}
use Rattle.ill_values.specs.TxnId.{Qualifiers}
use Rattle.ill_values.specs.declared.apdu.Apdu.{Apdu}
use Rattle.ill_values.specs.Bodies.{is_requesters}
use Rattle.ill_core.specs.declared.refusal.Refusal.{Refusal}
use Rattle.ill_core.specs.declared.responder.Deed.{Deed}
use Rattle.ill_core.specs.declared.turn.Turn.{Turn}
use Rattle.ill_core.specs.declared.turn.Turn.TheVariants.{Over, Mine, Theirs}
use Rattle.ill_core.specs.Issued.{message, is_none, is_same_txn}
use Rattle.ill_core.specs.Requester.{RequesterRecord}
use Rattle.ill_core.specs.RequesterDeliveries as requester_deliveries
use Rattle.ill_core.specs.Responder.{ResponderRecord}
use Rattle.ill_core.specs.ResponderActions as responder_actions
use Rattle.ill_core.specs.ResponderDeliveries as responder_deliveries
use Rattle.ill_core.specs.ResponderNotices as records
use Rattle.ill_core.specs.Verbs.{requester_turn}
use Rattle.ill_record.specs.declared.role.Role.TheVariants as who
use Rattle.ill_record.specs.declared.side.Side.{Side}
use Rattle.ill_record.specs.declared.side.Side.TheVariants as sides
use Rattle.ill_record.specs.declared.side.Action.TheVariants as actions
use Rattle.ill_record.specs.Side.{issued_of, acts, done_by}
use Rattle.ill_words.specs.Sending.{is_nobodys, is_over, wants_sending}
use Rattle.ill_words.proofs.SendingLemmas.{open_wants, over_is_silent}
use Rattle.ill_world.specs.declared.event.Event.{Event}
use Rattle.ill_world.specs.declared.event.Event.TheVariants as events
use Rattle.ill_world.specs.World.{Party, Parties, decides, sends, happens, run_by, run_of}
use Rattle.ill_world.specs.Agreement.{Facing}
use Rattle.ill_world.specs.Invariant.{Invariant, RequesterInvariant, RequesterSideInvariant, ResponderSideInvariant}
use Rattle.ill_world.specs.Round.{sends_and_delivers, half_of, round_of, HaveConverged, AreConverged, CanAnswer}
use Rattle.ill_world.specs.Night.{asks, half_if, asking_half, night_of, AtRest, AreAtRest}
use Rattle.ill_world.specs.Night.{AreConvergedOrAtRest}
use Rattle.ill_world.proofs.Claims.{AreIssued, live_issues}
use Rattle.ill_world.proofs.Hearing.{taking, keeps_all, heard_later}
use Rattle.ill_world.proofs.Nights.{asked_wants, unasked_is_open}
use Rattle.ill_world.proofs.OneRound.{each, first_alone, only_request, requester_taking}
use Rattle.ill_world.proofs.OneRound.{responder_taking}
use Rattle.ill_world.proofs.Rounds.{takes_all, half_passes, HasPassed}
use Rattle.ill_world.proofs.Runs.{run_both, run_one, run_stands}
use Rattle.ill_world.proofs.Uniqueness.{message_number}
use Rattle.ill_progress.specs.NightFacts.{NightFacts}
use Rattle.ill_progress.specs.NightWithPeople.{HasHeard, ResponderHasHeard, is_by_responder, asked_and_worked, answering_half}
use Rattle.ill_progress.specs.NightWithPeople.{worked_night_of, AreCommitted, two_late_nights_of}
use Rattle.ill_progress.proofs.HeardMessages.{heard_leaves}
use Rattle.ill_progress.proofs.DeedLemmas.{heard_after_deed}

-- ---- a side that takes messages

-- `has_heard` holds of each message of the requester at the responder.
abbrev Hears : RequesterRecord → ResponderRecord → Type 0
Hears x y = (n : ℕ) (a : Apdu) → message x.issued n ≡ Some a → records.has_heard y a.number a.body ≡ true

-- A responder of which `Hears` holds has heard all messages of the requester.
hears_means : (x : Side) (y : Side) → Facing Hears x y → Facing HasHeard x y
hears_means (sides.Requester x) (sides.Responder y) hears = λ n a at. heard_leaves y a (hears n a at)
hears_means (sides.Responder x) y hears = absurd hears
hears_means (sides.Requester x) (sides.Requester y) hears = absurd hears

-- A responder's side that has heard all of `apdus` is unchanged when it takes them again.
nothing_taken : (y : ResponderRecord) (apdus : List Apdu)
    → ((n : ℕ) (a : Apdu) → message apdus n ≡ Some a → (responder_deliveries.takes y a).1 ≡ y)
    → takes_all (sides.Responder y) apdus ≡ sides.Responder y
unfolding takes_all
nothing_taken y [] heard = refl
nothing_taken y (a ∷ apdus) heard =
    ap (λ (r : ResponderRecord). takes_all (sides.Responder r) apdus) (heard 1 a refl)
    ∙ nothing_taken y apdus (λ n b at. heard (suc n) b (later n b at))
  where
    -- Message n of `apdus` is message n + 1 after `a` is put before them.
    later : (n : ℕ) (b : Apdu) → message apdus n ≡ Some b → message (a ∷ apdus) (suc n) ≡ Some b
    later zero b at = search rules
    later (suc n) b at = at

-- The responder's side that the requester faces is unchanged when it takes all messages of the requester again.
no_news : (x y : Side) → Facing HasHeard x y → takes_all y (issued_of x) ≡ y
no_news (sides.Requester x) (sides.Responder y) heard = nothing_taken y x.issued heard
no_news (sides.Responder x) y heard = absurd heard
no_news (sides.Requester x) (sides.Requester y) heard = absurd heard

-- A loan of which nobody has the turn is over.
nobodys : (turn : Turn) → is_nobodys turn ≡ true → turn ≡ Over
nobodys Over is = refl
nobodys Mine is = search rules
nobodys Theirs is = search rules

-- ---- the party that sends

-- A Send leaves the live and the committed side.
send_keeps : (p : Party) (n : ℕ) (found : Option Apdu) (released : Bool)
    → ((sends p n found released).1.live ≡ p.live) × ((sends p n found released).1.committed ≡ p.committed)
send_keeps p n None released = (refl, refl)
send_keeps p n (Some a) false = (refl, refl)
send_keeps p n (Some a) true = (refl, refl)

-- The Sends and Delivers of the responder's messages leave its live and its committed side.
sendings_keep : (w : Parties) (n count : ℕ) → let new = run_of w (sends_and_delivers who.Responder n count) in
    (new.responder.live ≡ w.responder.live) × (new.responder.committed ≡ w.responder.committed)
unfolding sends_and_delivers run_by
sendings_keep w n zero = (refl, refl)
sendings_keep w n (suc count) =
    let sent : Parties = (happens w (events.Send who.Responder n)).1 in
    let new : Parties = (happens sent (events.Deliver who.Requester n)).1 in
    let rest = sendings_keep new (n + 1) count in
    let here = send_keeps w.responder n (message (issued_of w.responder.live) n) (nat_le n w.responder.released) in
    (rest.0 ∙ here.0, rest.1 ∙ here.1)

-- After the responder's half of a night the responder's live side is committed, and is unchanged.
half_commits : (wants : Bool) (w : Parties) → let new = run_of w (half_if wants who.Responder w) in
    (new.responder.committed ≡ new.responder.live) × (new.responder.live ≡ w.responder.live)
unfolding run_by
half_commits true w =
    let kept = sendings_keep (happens w (events.Save who.Responder)).1 1 (length (issued_of w.responder.live)) in
    (kept.1 ∙ sym kept.0, kept.0)
half_commits false w = (refl, refl)

-- The events `more` follow the requester's half of a round and a save of the responder. They lead on from this save.
half_saved : (w : Parties) (more : List Event) → run_of w (half_of who.Requester w ++ events.Save who.Responder ∷ more)
    ≡ run_of (happens (run_of w (half_of who.Requester w)) (events.Save who.Responder)).1 more
unfolding run_by
half_saved w more = run_both happens w (half_of who.Requester w) (events.Save who.Responder ∷ more)

-- A save of each side leaves the requester's live side.
saves_keep : (w : Parties)
    → (run_of w (events.Save who.Requester ∷ events.Save who.Responder ∷ [])).requester.live ≡ w.requester.live
unfolding run_by
saves_keep w = refl

-- A save of the requester leaves both live sides.
one_save_keeps : (w : Parties) → let new = run_of w (events.Save who.Requester ∷ []) in
    (w.requester.live ≡ new.requester.live) × (w.responder.live ≡ new.responder.live)
unfolding run_by
one_save_keeps w = (refl, refl)

-- ---- events at the responder's library

-- An event at the responder's library leaves the requester's party.
one_keeps : (w : Parties) (event : Event) → is_by_responder event ≡ true → (happens w event).1.requester ≡ w.requester
one_keeps w (events.Deed deed today) is = refl
one_keeps w (events.Save who.Responder) is = refl
one_keeps w (events.SaveFault who.Responder committed) is = refl
one_keeps w (events.Send who.Responder n) is = refl
one_keeps w (events.Noise who.Responder bytes) is = refl
one_keeps w (events.Restart who.Responder) is = refl
one_keeps w event is = search rules

-- Events at the responder's library, one after another, leave the requester's party.
people_keep : (w : Parties) (people : List Event) → list_all is_by_responder people ≡ true
    → (run_of w people).requester ≡ w.requester
unfolding run_by
people_keep w [] all = refl
people_keep w (event ∷ people) all =
    people_keep (happens w event).1 people (and_parts _ _ all).1 ∙ one_keeps w event (and_parts _ _ all).0

-- If two pairs of sides are equal, and the first are converged, so are the second.
same_step : (x x_too y y_too : Side) → x ≡ x_too → y ≡ y_too → Facing HaveConverged x y → Facing HaveConverged x_too y_too
same_step x x_too y y_too same_x same_y step =
    subst (λ (s : Side). Facing HaveConverged s y_too) same_x (subst (λ (s : Side). Facing HaveConverged x s) same_y step)

-- If two pairs of sides are equal, and the first are converged or at rest, so are the second.
same_end : (x x_too y y_too : Side) → x ≡ x_too → y ≡ y_too → Facing HaveConverged x y ⊎ Facing AtRest x y
    → Facing HaveConverged x_too y_too ⊎ Facing AtRest x_too y_too
same_end x x_too y y_too same_x same_y end =
    subst (λ (s : Side). Facing HaveConverged s y_too ⊎ Facing AtRest s y_too) same_x
    (subst (λ (s : Side). Facing HaveConverged x s ⊎ Facing AtRest x s) same_y end)

-- If two sides are equal, and `is_over` is `over` for one, it is `over` for the other.
over_too : (x y : Side) (over : Bool) → x ≡ y → is_over y ≡ over → is_over x ≡ over
over_too x y over same is = ap is_over same ∙ is

module _ (txn : Qualifiers) (known : NightFacts txn) where
  -- ---- what the responder hears

  -- After a responder takes all messages of a requester, `Hears` holds.
  taken_hears : (x : RequesterRecord) (y : ResponderRecord) (responder_sent : List (Option Apdu))
      → RequesterInvariant txn x responder_sent → y.txn ≡ txn
      → Hears x (taking (λ r a. (responder_deliveries.takes r a).1) y x.issued)
  taken_hears x y responder_sent borrower same = λ n a at. heard n a at
    where
      -- No later message of the requester reopens message i + 1, since none is an ILL-Request.
      later_request : (i : ℕ) (a : Apdu) (j : ℕ) (b : Apdu) → slice_get x.issued j ≡ Some b → i < j
          → records.reopens b.body a.body ≡ false
      later_request i a zero b there later = absurd (omega (arith, later))
      later_request i a (suc j) b there later =
          only_request b.body a.body (first_alone x.issued j b borrower.rules.request there)

      -- Message i + 1 is heard when it is taken, and no later one reopens it.
      heard : (n : ℕ) (a : Apdu) → message x.issued n ≡ Some a
          → records.has_heard (taking (λ r b. (responder_deliveries.takes r b).1) y x.issued) a.number a.body ≡ true
      heard zero a at = search rules
      heard (suc i) a at =
          heard_later (λ r b. (responder_deliveries.takes r b).1) (λ r. r.txn ≡ txn)
          (λ b. (is_same_txn b.txn txn ≡ true) × (is_requesters b.body ≡ true)) records.has_heard records.reopens (record {
            keeps = λ r b is. known.responder_txn r b ∙ is;
            takes = λ r b is of. known.responder_takes r b (subst (λ t. is_same_txn b.txn t ≡ true) (sym is) of.0) of.1;
            stays = known.responder_stays;
          }) y x.issued i a same at (
            subst (λ t. is_same_txn a.txn t ≡ true) borrower.same_txn
                (message_number x.txn x.issued (suc i) a borrower.rules.numbered at).0,
            each is_requesters x.issued i a borrower.rules.role at,
          ) (later_request i a)

  -- After a responder's side takes all messages of a requester's, `Hears` holds of both.
  sides_hear : (x y : Side) (responder_sent requester_sent : List (Option Apdu)) → RequesterSideInvariant txn x responder_sent
      → ResponderSideInvariant txn y requester_sent → Facing Hears x (takes_all y (issued_of x))
  sides_hear (sides.Requester x) (sides.Responder y) responder_sent requester_sent borrower lender =
      subst (Facing Hears (sides.Requester x)) (sym (responder_taking y x.issued))
      (taken_hears x y responder_sent borrower lender.same_txn)
  sides_hear (sides.Responder x) y responder_sent requester_sent borrower lender = absurd borrower
  sides_hear (sides.Requester x) (sides.Requester y) responder_sent requester_sent borrower lender = absurd lender

  -- ---- halves of a night

  -- After the requester's half of a round the responder has taken all messages of the requester.
  asked_all : (w : Parties) → Invariant txn w → HasPassed who.Requester w (run_of w (half_of who.Requester w))
      (issued_of w.requester.live)
  asked_all w stands = half_passes who.Requester w
      (few w.requester.live w.responder.sent stands.requester.live) stands.requester.saved.places
    where
      -- A requester's side has issued at most 255 messages.
      few : (side : Side) (sent : List (Option Apdu)) → RequesterSideInvariant txn side sent → length (issued_of side) ≤ 255
      few (sides.Requester x) sent is = is.few
      few (sides.Responder y) sent is = absurd is

  -- After the responder's half of a round the requester has taken all messages of the responder.
  answered_all : (w : Parties) → Invariant txn w → HasPassed who.Responder w (run_of w (half_of who.Responder w))
      (issued_of w.responder.live)
  answered_all w stands = half_passes who.Responder w
      (few w.responder.live w.requester.sent stands.responder.live) stands.responder.saved.places
    where
      -- A responder's side has issued at most 255 messages.
      few : (side : Side) (sent : List (Option Apdu)) → ResponderSideInvariant txn side sent → length (issued_of side) ≤ 255
      few (sides.Responder y) sent is = is.few
      few (sides.Requester x) sent is = absurd is

  -- After the requester's half of a round `Hears` holds.
  half_hears : (w : Parties) → Invariant txn w → let new = run_of w (half_of who.Requester w) in
      Facing Hears new.requester.live new.responder.live
  half_hears w stands =
      let passed = asked_all w stands in
      subst (λ (s : Side). Facing Hears s (run_of w (half_of who.Requester w)).responder.live) (sym passed.live)
      (subst (Facing Hears w.requester.live) (sym passed.taken)
      (sides_hear w.requester.live w.responder.live w.responder.sent w.requester.sent stands.requester.live
      stands.responder.live))

  -- If the responder has heard all, the requester's half of a round leaves both live sides.
  pub half_without_news : (w : Parties) → Invariant txn w → ResponderHasHeard w
      → let new = run_of w (half_of who.Requester w) in
      (new.requester.live ≡ w.requester.live) × (new.responder.live ≡ w.responder.live)
  half_without_news w stands heard =
      let passed = asked_all w stands in
      (passed.live, passed.taken ∙ no_news w.requester.live w.responder.live heard)

  -- If the responder has heard all, and can answer, its half of a round brings both to convergence. A whole round does
  -- so, and its first half then changes nothing.
  answer_converges : (w : Parties) → Invariant txn w → ResponderHasHeard w → CanAnswer w.responder.live
      → AreConverged (run_of w (half_of who.Responder w))
  answer_converges w stands heard can =
      let asked : Parties = run_of w (half_of who.Requester w) in
      let round : Parties = run_of asked (half_of who.Responder asked) in
      let new : Parties = run_of w (half_of who.Responder w) in
      let same = half_without_news w stands heard in
      let answered = answered_all w stands in
      let again = answered_all asked (run_stands txn known.after w (half_of who.Requester w) stands) in
      let step : AreConverged round =
      subst AreConverged (run_both happens w (half_of who.Requester w) (half_of who.Responder asked))
      (known.converged w stands can) in
      same_step round.requester.live new.requester.live round.responder.live new.responder.live
      (again.taken
      ∙ ap (λ (s : Side). takes_all s (issued_of asked.responder.live)) same.0
      ∙ ap (λ (s : Side). takes_all w.requester.live (issued_of s)) same.1 ∙ sym answered.taken)
      (again.live ∙ same.1 ∙ sym answered.live) step

  -- ---- deeds

  -- If a deed of the responder is done, `Hears` holds of its new side.
  deed_hears : (x y : Side) (responder_sent requester_sent : List (Option Apdu)) → RequesterSideInvariant txn x responder_sent
      → ResponderSideInvariant txn y requester_sent → AreIssued responder_sent (issued_of y)
      → AreIssued requester_sent (issued_of x) → Facing Hears x y → (deed : Deed) (today : Date) (new : Side)
      → acts y (actions.Deed deed today) ≡ Ok new → Facing Hears x new
  deed_hears (sides.Requester x) (sides.Responder y) responder_sent requester_sent borrower lender issued heeded hears deed today
      new done = go (responder_actions.acts y deed today) refl done
    where
      -- A deed that is refused has no new side.
      go : (result : Result ResponderRecord Refusal) → responder_actions.acts y deed today ≡ result
          → done_by sides.Responder result ≡ Ok new → Facing Hears (sides.Requester x) new
      go (Ok z) is made = subst (Facing Hears (sides.Requester x)) (same_made made)
          (heard_after_deed txn x y responder_sent requester_sent borrower lender issued heeded hears deed today z is)
        where
          -- Two equal results have equal sides.
          same_made : ◌≡◌ {A = Result Side Refusal} (Ok (sides.Responder z)) (Ok new) → sides.Responder z ≡ new
          same_made same = search rules
      go (Err refusal) is made = search rules
  deed_hears (sides.Responder x) y responder_sent requester_sent borrower lender issued heeded hears deed today new done =
      absurd borrower
  deed_hears (sides.Requester x) (sides.Requester y) responder_sent requester_sent borrower lender issued heeded hears deed today
      new done = absurd lender

  -- If `Hears` holds of both sides of `p`, and of each new side, it holds of both after the decision.
  decided_hears : (x : Side) (p : Party) (result : Result Side Refusal) → ((new : Side) → result ≡ Ok new → Facing Hears x new)
      → Facing Hears x p.live → Facing Hears x p.committed
      → Facing Hears x (decides p result).1.live × Facing Hears x (decides p result).1.committed
  decided_hears x p (Ok new) done live committed = (done new refl, committed)
  decided_hears x p (Err refusal) done live committed = (live, committed)

  -- ---- events at the responder's library

  -- `Hears` holds of the requester's live side, and of the live and the committed side of the responder.
  abbrev BothHear : Parties → Type 0
  BothHear w = Facing Hears w.requester.live w.responder.live × Facing Hears w.requester.live w.responder.committed

  -- An event at the responder's library keeps `BothHear`.
  one_hears : (w : Parties) (event : Event) → Invariant txn w → is_by_responder event ≡ true → BothHear w
      → BothHear (happens w event).1
  one_hears w (events.Deed deed today) stands is hear =
      decided_hears w.requester.live w.responder (acts w.responder.live (actions.Deed deed today)) (λ new done.
      deed_hears w.requester.live w.responder.live w.responder.sent w.requester.sent stands.requester.live stands.responder.live
      (live_issues w.responder stands.responder.saved) (live_issues w.requester stands.requester.saved) hear.0 deed today new
      done) hear.0 hear.1
  one_hears w (events.Save who.Responder) stands is hear = (hear.0, hear.0)
  one_hears w (events.SaveFault who.Responder true) stands is hear = (hear.0, hear.0)
  one_hears w (events.SaveFault who.Responder false) stands is hear = hear
  one_hears w (events.Send who.Responder n) stands is hear =
      let kept = send_keeps w.responder n (message (issued_of w.responder.live) n) (nat_le n w.responder.released) in
      (subst (Facing Hears w.requester.live) (sym kept.0) hear.0, subst (Facing Hears w.requester.live) (sym kept.1) hear.1)
  one_hears w (events.Noise who.Responder bytes) stands is hear = hear
  one_hears w (events.Restart who.Responder) stands is hear = (hear.1, hear.1)
  one_hears w event stands is hear = search rules

  -- Events at the responder's library keep `BothHear`.
  people_hear : (w : Parties) (people : List Event) → Invariant txn w → list_all is_by_responder people ≡ true → BothHear w
      → BothHear (run_of w people)
  unfolding run_by
  people_hear w [] stands all hear = hear
  people_hear w (event ∷ people) stands all hear =
      people_hear (happens w event).1 people (known.after w event stands) (and_parts _ _ all).1
      (one_hears w event stands (and_parts _ _ all).0 hear)

  -- After the requester's half of a round, a save of the responder and events at its library, it has heard all.
  pub worked_hears : (w : Parties) (people : List Event) → Invariant txn w → list_all is_by_responder people ≡ true
      → ResponderHasHeard (run_of w (half_of who.Requester w ++ events.Save who.Responder ∷ people))
  worked_hears w people stands all =
      let asked : Parties = run_of w (half_of who.Requester w) in
      let saved : Parties = (happens asked (events.Save who.Responder)).1 in
      let stands_asked = run_stands txn known.after w (half_of who.Requester w) stands in
      let hear = half_hears w stands in
      let now : Parties = run_of saved people in
      let both = people_hear saved people (known.after asked (events.Save who.Responder) stands_asked) all (hear, hear) in
      subst ResponderHasHeard (sym (half_saved w people)) (hears_means now.requester.live now.responder.live both.0)

  -- ---- a loan that is over for the requester

  -- A requester for which the loan is over is unchanged by all messages.
  over_takes : (x : RequesterRecord) (apdus : List Apdu) → requester_turn x ≡ Over
      → takes_all (sides.Requester x) apdus ≡ sides.Requester x
  unfolding takes_all
  over_takes x [] over = refl
  over_takes x (a ∷ apdus) over =
      ap (λ (r : RequesterRecord). takes_all (sides.Requester r) apdus) (known.over_stays x a over) ∙ over_takes x apdus over

  -- A requester's side for which the loan is over is unchanged by messages.
  over_keeps : (x : Side) (sent : List (Option Apdu)) (apdus : List Apdu) → RequesterSideInvariant txn x sent
      → is_over x ≡ true → takes_all x apdus ≡ x
  over_keeps (sides.Requester x) sent apdus stands over = over_takes x apdus (nobodys (requester_turn x) over)
  over_keeps (sides.Responder y) sent apdus stands over = absurd stands

  -- If the loan is over for the requester, the responder's half of a night leaves its live side.
  over_half : (wants : Bool) (w : Parties) → Invariant txn w → is_over w.requester.live ≡ true
      → (run_of w (half_if wants who.Responder w)).requester.live ≡ w.requester.live
  unfolding run_by
  over_half false w stands over = refl
  over_half true w stands over = (answered_all w stands).taken
      ∙ over_keeps w.requester.live w.responder.sent (issued_of w.responder.live) stands.requester.live over

  -- ---- the night

  module _ (w : Parties) (stands : Invariant txn w) (people : List Event) (all : list_all is_by_responder people ≡ true) where
    -- The world in which the responder's half begins.
    abbrev now : Parties
    now = run_of w (asked_and_worked people w)

    -- The world after the night.
    abbrev morning : Parties
    morning = run_of w (worked_night_of people w)

    -- The responder sends in its half if this is true.
    abbrev wants : Bool
    wants = wants_sending (asks w.requester.live) now.responder.live

    -- The world after the responder's half.
    abbrev answered : Parties
    answered = run_of now (half_if wants who.Responder now)

    -- The night is its first part, the responder's half, and a save of the requester.
    in_parts : morning ≡ (happens answered (events.Save who.Requester)).1
    in_parts = run_both happens w (asked_and_worked people w) (answering_half (asks w.requester.live) now)
        ∙ run_both happens now (half_if wants who.Responder now) (events.Save who.Requester ∷ [])
        ∙ run_one happens answered (events.Save who.Requester)

    -- The invariant holds when the responder's half begins.
    stands_now : Invariant txn now
    stands_now = run_stands txn known.after w (asked_and_worked people w) stands

    -- The invariant holds after the night.
    stands_morning : Invariant txn morning
    stands_morning = run_stands txn known.after w (worked_night_of people w) stands

    -- After the night both live sides are committed.
    pub are_committed : AreCommitted morning
    are_committed = subst AreCommitted (sym in_parts) (record { requester = refl; responder = (half_commits wants now).0 })

    -- A half of the requester, a save of the responder and the people leave the requester's live side.
    half_keeps : (half : Bool)
        → (run_of w (half_if half who.Requester w ++ events.Save who.Responder ∷ people)).requester.live ≡ w.requester.live
    unfolding run_by
    half_keeps true =
        let asked : Parties = run_of w (half_of who.Requester w) in
        ap (λ (v : Parties). v.requester.live) (half_saved w people)
        ∙ ap (λ (p : Party). p.live) (people_keep (happens asked (events.Save who.Responder)).1 people all)
        ∙ (asked_all w stands).live
    half_keeps false =
        ap (λ (p : Party). p.live)
        (people_keep (happens (happens w (events.Save who.Requester)).1 (events.Save who.Responder)).1 people all)

    -- The requester's half and the people leave the requester's live side.
    asking_keeps : (asked : Bool) → wants_sending false w.requester.live ≡ asked → now.requester.live ≡ w.requester.live
    asking_keeps asked is =
        ap (λ (b : Bool). (run_of w (half_if b who.Requester w ++ events.Save who.Responder ∷ people)).requester.live) is
        ∙ half_keeps asked

    -- If the loan is over for the requester before the night, both sides are at rest after it.
    over_rests : is_over w.requester.live ≡ true → AreAtRest morning
    over_rests over =
        let kept = asking_keeps (wants_sending false w.requester.live) refl in
        let over_now = over_too now.requester.live w.requester.live true kept over in
        let over_then : is_over answered.requester.live ≡ true =
        over_too answered.requester.live now.requester.live true (over_half wants now stands_now over_now) over_now in
        known.rests morning stands_morning
        (over_too morning.requester.live answered.requester.live true (ap (λ (v : Parties). v.requester.live) in_parts) over_then)

    -- If the loan is open for the requester, the responder sends its messages.
    open_wants_all : is_over w.requester.live ≡ false → wants ≡ true
    open_wants_all is_open = go (is_none (issued_of w.requester.live)) refl
      where
        -- If the requester has issued nothing, the loan is open for the responder; if it has, it asks.
        go : (none : Bool) → is_none (issued_of w.requester.live) ≡ none → wants ≡ true
        go true none =
            open_wants (asks w.requester.live) now.responder.live
            (unasked_is_open txn now.responder.live now.requester.sent (issued_of w.requester.live) stands_now.responder.live
            (subst (λ (s : Side). AreIssued now.requester.sent (issued_of s))
            (asking_keeps (wants_sending false w.requester.live) refl)
            (live_issues now.requester stands_now.requester.saved)) none)
        go false some =
            let it_asks : asks w.requester.live ≡ true = and_from _ _ (open_wants false w.requester.live is_open) (ap not some) in
            ap (λ b. wants_sending b now.responder.live) it_asks
            ∙ asked_wants txn now.responder.live now.requester.sent stands_now.responder.live

    -- If the loan is open for the requester before the night, and the responder can answer, both are converged after
    -- it.
    open_steps : is_over w.requester.live ≡ false → CanAnswer now.responder.live → AreConverged morning
    open_steps is_open can =
        let heard : ResponderHasHeard now =
        subst (λ (b : Bool). ResponderHasHeard (run_of w (half_if b who.Requester w ++ events.Save who.Responder ∷ people)))
        (sym (open_wants false w.requester.live is_open)) (worked_hears w people stands all) in
        let step : AreConverged answered =
        subst (λ (b : Bool). AreConverged (run_of now (half_if b who.Responder now))) (sym (open_wants_all is_open))
        (answer_converges now stands_now heard can) in
        subst AreConverged (sym in_parts) step

    -- After the night both sides are converged, or at rest.
    pub worked_night : CanAnswer now.responder.live → AreConvergedOrAtRest morning
    worked_night can = go (is_over w.requester.live) refl
      where
        -- If the loan is over for the requester, both sides are at rest after the night; if not, they are converged.
        go : (over : Bool) → is_over w.requester.live ≡ over → AreConvergedOrAtRest morning
        go true is = inr (over_rests is)
        go false is = inl (open_steps is can)

  -- ---- two nights that the responder begins

  -- While the requester takes messages, `Hears` stays.
  still_hears : (x y : Side) (apdus : List Apdu) → Facing Hears x y → Facing Hears (takes_all x apdus) y
  still_hears (sides.Requester x) (sides.Responder y) apdus hears =
      let asks_all : RequesterRecord = taking (λ r a. (requester_deliveries.takes r a).1) x apdus in
      let same : asks_all.issued ≡ x.issued =
      keeps_all (λ r a. (requester_deliveries.takes r a).1) (λ r. r.issued ≡ x.issued)
      (λ r a is. known.requester_issues r a ∙ is) x apdus refl in
      subst (λ (s : Side). Facing Hears s (sides.Responder y)) (sym (requester_taking x apdus))
      (λ n a at. hears n a (subst (λ (l : List Apdu). message l n ≡ Some a) same at))
  still_hears (sides.Responder x) y apdus hears = absurd hears
  still_hears (sides.Requester x) (sides.Requester y) apdus hears = absurd hears

  -- After a round the responder has heard all.
  round_hears : (w : Parties) → Invariant txn w → ResponderHasHeard (run_of w (round_of w))
  round_hears w stands =
      let asked : Parties = run_of w (half_of who.Requester w) in
      let new : Parties = run_of asked (half_of who.Responder asked) in
      let answered = answered_all asked (run_stands txn known.after w (half_of who.Requester w) stands) in
      let hears : Facing Hears new.requester.live new.responder.live =
      subst (Facing Hears new.requester.live) (sym answered.live)
      (subst (λ (s : Side). Facing Hears s asked.responder.live) (sym answered.taken)
      (still_hears asked.requester.live asked.responder.live (issued_of asked.responder.live) (half_hears w stands))) in
      subst ResponderHasHeard (sym (run_both happens w (half_of who.Requester w) (half_of who.Responder asked)))
      (hears_means new.requester.live new.responder.live hears)

  module _ (w : Parties) (stands : Invariant txn w) where
    -- The world after a night.
    abbrev next_day : Parties
    next_day = run_of w (night_of w)

    -- If the loan is open for the requester after a night, the responder has heard all.
    night_hears : is_over next_day.requester.live ≡ false → ResponderHasHeard next_day
    night_hears is_open = go (is_over w.requester.live) refl
      where
        -- If the loan was open before, the night was a round. If it was over, it would be over after the night.
        go : (over : Bool) → is_over w.requester.live ≡ over → ResponderHasHeard next_day
        go false is = subst (λ (l : List Event). ResponderHasHeard (run_of w l)) (sym (known.rounds w stands is))
            (round_hears w stands)
        go true is =
            let same : next_day.requester.live ≡ w.requester.live =
            ap (λ (l : List Event). (run_of w l).requester.live) (known.saves w stands is) ∙ saves_keep w in
            absurd (both_ways _ is_open (over_too next_day.requester.live w.requester.live true same is))

    -- After a night, a further half of the requester leaves both live sides.
    half_more : let new = run_of next_day (asking_half next_day) in
        (next_day.requester.live ≡ new.requester.live) × (next_day.responder.live ≡ new.responder.live)
    half_more = go (is_over next_day.requester.live) refl
      where
        -- The requester's half leaves both live sides, if `b` says that it sends.
        Same : Bool → Type 0
        Same b = let new = run_of next_day (half_if b who.Requester next_day) in
            (next_day.requester.live ≡ new.requester.live) × (next_day.responder.live ≡ new.responder.live)

        -- If the loan is over for the requester, the half is a save; if not, it says nothing new.
        go : (over : Bool) → is_over next_day.requester.live ≡ over → Same (wants_sending false next_day.requester.live)
        go true is = subst Same (sym (over_is_silent next_day.requester.live is)) (one_save_keeps next_day)
        go false is =
            let same = half_without_news next_day (run_stands txn known.after w (night_of w) stands) (night_hears is) in
            subst Same (sym (open_wants false next_day.requester.live is)) (sym same.0, sym same.1)

    -- After a night and one more half of the requester both sides are converged, or at rest.
    night_and_half : CanAnswer w.responder.live → AreConvergedOrAtRest (run_of next_day (asking_half next_day))
    night_and_half can =
        let new : Parties = run_of next_day (asking_half next_day) in
        same_end next_day.requester.live new.requester.live next_day.responder.live new.responder.live half_more.0 half_more.1
        (known.night w stands can)

  -- After two nights that the responder begins both sides are converged, or at rest.
  pub two_late_nights : (asked : Bool) (w : Parties) → Invariant txn w → CanAnswer w.responder.live
      → AreConvergedOrAtRest (run_of w (two_late_nights_of asked w))
  two_late_nights asked w stands can =
      let first = half_if (wants_sending asked w.responder.live) who.Responder w in
      let now : Parties = run_of w first in
      let next : Parties = run_of now (night_of now) in
      subst AreConvergedOrAtRest
      (sym (run_both happens w first (night_of now ++ asking_half next) ∙ run_both happens now (night_of now) (asking_half next)))
      (night_and_half now (run_stands txn known.after w first stands)
      (subst CanAnswer (sym (half_commits (wants_sending asked w.responder.live) w).1) can))
