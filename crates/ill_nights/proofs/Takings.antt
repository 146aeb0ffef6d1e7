-- Proves that a desk which takes message files leads the side of each transaction on by its messages in these message
-- files.
use Rattle.std.proofs.Common.{rules, ◌≡◌, ℕ, true, false, List, [], ◌∷◌, ◌++◌, fold, Option, Some, None, option_map, Result, Ok}
use Rattle.std.proofs.Common.{Err}
use Rattle.std.proofs.Common.{refl, sym, ap, ◌∙◌, subst, true≢false}
use Rattle.std.proofs.lemmas.List.Elements.{filter-append}
use Rattle.ill_values.specs.TxnId.{Qualifiers}
use Rattle.ill_values.specs.declared.apdu.Apdu.{Apdu}
use Rattle.ill_der.specs.ShortForm.{apdu_at, header_at, outer_at}
use Rattle.ill_core.specs.declared.taking.Taking.{Taking}
use Rattle.ill_core.specs.declared.taking.Taking.TheVariants.{Taken, Repeat, Stale, Conflict}
use Rattle.ill_core.specs.Issued.{is_same_txn}
use Rattle.ill_saved.specs.declared.fault.DeskFault.{DeskFault}
use Rattle.ill_saved.specs.declared.fault.DeskFault.TheVariants as faults
use Rattle.ill_record.specs.declared.role.Role.{Role}
use Rattle.ill_record.specs.declared.side.Side.{Side}
use Rattle.ill_record.specs.Ranges.{Each}
use Rattle.ill_record.specs.Side.{other}
use Rattle.ill_saved.specs.ManySides.{DeskContents, desk_takes, many_sides}
use Rattle.ill_desk.specs.Performing.{answered, has_any}
use Rattle.ill_words.specs.declared.outcome.Outcome.TheVariants.{Answered}
use Rattle.ill_words.specs.declared.outcome.DeskOutcome.TheVariants.{Plain}
use Rattle.ill_night.specs.declared.verdict.MessageFile.{MessageFile}
use Rattle.ill_night.specs.declared.verdict.Unfit.{Unfit}
use Rattle.ill_night.specs.declared.verdict.Verdict.{Verdict}
use Rattle.ill_inbox.specs.Inbox.{Sorting, after_message_file, after_bytes, after_handing, after_message, kept_bytes}
use Rattle.ill_night.specs.MessageFiles.{message_in}
use Rattle.ill_night.specs.MessageFiles.{verdict_unread}
use Rattle.ill_world.specs.declared.event.DeskEvent.{DeskEvent}
use Rattle.ill_world.specs.declared.event.DeskEvent.TheVariants.{Deliver}
use Rattle.ill_world.specs.World.{Parties, party}
use Rattle.ill_world.specs.Desks.{DeskParty, DeskParties, taking_seen, desks_happen, project}
use Rattle.ill_world.specs.DeskChanges.{DeskMayChange}
use Rattle.ill_world.specs.DeskSafety.{DesksInvariant}
use Rattle.ill_world.proofs.Desks.{EachProjects, EachStands}
use Rattle.ill_world.proofs.DeskArrivals.{EachReaches}
use Rattle.ill_world.proofs.Rounds.{takes_all}
use Rattle.ill_runs.specs.MessageFile.{Bring, WasSent, message_if, message_if_read, message_of}
use Rattle.ill_nights.specs.Messages.{messages_for}
use Rattle.ill_nights.specs.Nights.{messages_of}
use Rattle.ill_nights.proofs.Deliveries.{side_at, desk_took, other_took, outcome_seen, side_took, fault_stays}
use Rattle.ill_nights.proofs.SideNights.{takes_join}

-- An event changes the projection to a transaction only if its outcome is one of the few that may (`DeskMayChange`).
abbrev pub EachChanges : Type 0
EachChanges = (txn : Qualifiers) (w : DeskParties) (event : DeskEvent) → DesksInvariant w →
    DeskMayChange (desks_happen w event).0 (project txn w) (project txn (desks_happen w event).1)

-- ---- the bytes that are kept

-- If a join is empty, so is its first part.
first_empty : (bytes more : List ℕ) → has_any (bytes ++ more) ≡ false → has_any bytes ≡ false
first_empty [] more none = refl
first_empty (byte ∷ bytes) more none = search rules

-- If a join is empty, so is its last part.
last_empty : (bytes more : List ℕ) → has_any (bytes ++ more) ≡ false → has_any more ≡ false
last_empty [] more none = none
last_empty (byte ∷ bytes) more none = search rules

-- Bytes that hold just one message are not empty.
has_bytes : (bytes : List ℕ) (a : Apdu) → message_in bytes ≡ Ok a → has_any bytes ≡ true
unfolding apdu_at outer_at header_at
has_bytes [] a found = absurd cc
has_bytes (byte ∷ bytes) a found = search rules

-- If nothing is kept after a message with this answer, it has changed nothing, and nothing was kept before it.
nothing_taken : (answer : Taking) (old new : Parties) (kept bytes : List ℕ) → has_any bytes ≡ true
    → DeskMayChange (Plain (Answered answer)) old new
    → has_any (kept ++ kept_bytes (Plain (Answered answer)) bytes) ≡ false → (new ≡ old) × (has_any kept ≡ false)
nothing_taken Taken old new kept bytes some may none = absurd (true≢false (sym some ∙ last_empty kept bytes none))
nothing_taken Repeat old new kept bytes some may none = (may, first_empty kept [] none)
nothing_taken Stale old new kept bytes some may none = (may, first_empty kept [] none)
nothing_taken (Conflict state) old new kept bytes some may none = (may, first_empty kept [] none)

-- ---- one message file after another

module _ (projects : EachProjects) (reaches : EachReaches) (stand : EachStands) (changes : EachChanges) (txn : Qualifiers) where
  -- Message files lead from the world `w` to the world `now`. The desk of `role` then has the sides `live`, and the
  -- other desk is as before. The side of `txn` has taken `apdus`. The bytes kept were `before` ahead of the message
  -- files, and are `kept` after them. If `kept` is empty, `before` was empty, and the parties of `txn` are unchanged.
  pub record Led (role : Role) (w : DeskParties) (live : DeskContents) (apdus : List Apdu) (before kept : List ℕ) : Type 0 where
    pub now : DeskParties
    pub stands : DesksInvariant now
    pub here : party now role ≡ record (party w role) { live = live }
    pub there : party now (other role) ≡ party w (other role)
    pub side : side_at projects reaches stand txn role now ≡ takes_all (side_at projects reaches stand txn role w) apdus
    pub quiet : has_any kept ≡ false → (project txn now ≡ project txn w) × (has_any before ≡ false)

  module _ (role : Role) where
    -- The live side of `txn` at the desk of `role`.
    abbrev side : DeskParties → Side
    side w = side_at projects reaches stand txn role w

    -- A message file that no desk takes changes nothing: the world stays `w`, and `kept` the bytes kept.
    stays_led : (w : DeskParties) → DesksInvariant w → (live : DeskContents) → (party w role).live ≡ live → (kept : List ℕ)
        → Led role w live [] kept kept
    unfolding takes_all
    stays_led w stands live is kept = record {
      now = w;
      stands = stands;
      here = ap (λ l. record (party w role) { live = l }) is;
      there = refl;
      side = refl;
      quiet = λ none. (refl, none);
    }

    -- If message files lead on by `apdus`, and further message files then by `more`, all message files together lead on
    -- by both.
    then_led : (w : DeskParties) (first_live live : DeskContents) (apdus more : List Apdu) (before between kept : List ℕ)
        → (first : Led role w first_live apdus before between) → Led role first.now live more between kept
        → Led role w live (apdus ++ more) before kept
    then_led w first_live live apdus more before between kept first second = record {
      now = second.now;
      stands = second.stands;
      here = second.here ∙ ap (λ (p : DeskParty). record p { live = live }) first.here;
      there = second.there ∙ first.there;
      side = second.side ∙ ap (λ s. takes_all s more) first.side ∙ sym (takes_join (side w) apdus more);
      quiet = λ none. (let later = second.quiet none in let sooner = first.quiet later.1 in (later.0 ∙ sooner.0, sooner.1));
    }

    -- A delivery leads from `w` to `next`: the other desk is as before, and the side of `txn` takes `apdus`. The
    -- message is `a`, in a message file `name` with `bytes`.
    module _ (w next : DeskParties) (stands : DesksInvariant next) (there : party next (other role) ≡ party w (other role))
        (name bytes : List ℕ) (some : has_any bytes ≡ true) (a : Apdu) (apdus : List Apdu)
        (taken : side next ≡ takes_all (side w) apdus) (old : Sorting DeskContents) where
      -- Returns the state of the inbox after the desk has answered the message with `result`, and then holds `new`.
      abbrev after : Result Taking DeskFault → DeskContents → Sorting DeskContents
      after result new = after_handing many_sides name bytes a (answered result, new) old

      -- If a delivery leads to the world `next`, so does the message file that holds its message.
      handed_led : (result : Result Taking DeskFault) (new : DeskContents)
          → party next role ≡ record (party w role) { live = new }
          → DeskMayChange (taking_seen result) (project txn w) (project txn next)
          → ((fault : DeskFault) → result ≡ Err fault → new ≡ old.live)
          → Led role w (after result new).live apdus old.kept (after result new).kept
      handed_led (Ok answer) new here may same = record {
        now = next;
        stands = stands;
        here = here;
        there = there;
        side = taken;
        quiet = λ none. nothing_taken answer (project txn w) (project txn next) old.kept bytes some may none;
      }
      handed_led (Err (faults.Core refusal)) new here may same = record {
        now = next;
        stands = stands;
        here = here;
        there = there;
        side = taken;
        quiet = λ none. (may, first_empty old.kept [] none);
      }
      handed_led (Err faults.NoSuchTransaction) new here may same = record {
        now = next;
        stands = stands;
        here = here;
        there = there;
        side = taken;
        quiet = λ none. (may, first_empty old.kept [] none);
      }
      handed_led (Err faults.DeskFull) new here may same = record {
        now = next;
        stands = stands;
        here = here;
        there = there;
        side = taken;
        quiet = λ none. (may, first_empty old.kept [] none);
      }
      handed_led (Err fault) new here may same = record {
        now = next;
        stands = stands;
        here = here ∙ ap (λ l. record (party w role) { live = l }) (same fault refl);
        there = there;
        side = taken;
        quiet = λ none. (may, none);
      }

    module _ (w : DeskParties) (stands : DesksInvariant w) (old : Sorting DeskContents) (is : (party w role).live ≡ old.live)
      where
        -- A message file with a message that the other desk has sent leads the side of `txn` on by it, if it is of
        -- `txn`.
        sent_led : (name bytes : List ℕ) (a : Apdu) → message_in bytes ≡ Ok a → WasSent (party w (other role)).sent a
            → Led role w (after_message many_sides name bytes (Ok a) old).live (messages_for txn (a ∷ [])) old.kept
            (after_message many_sides name bytes (Ok a) old).kept
        sent_led name bytes a found was =
            let event : DeskEvent = Deliver role was.0 was.1 in
            let next : DeskParties = (desks_happen w event).1 in
            let here : party next role ≡ record (party w role) { live = (desk_takes old.live a).1 } =
            desk_took projects reaches stand txn w stands role was.0 was.1 a was.2
            ∙ ap (λ l. record (party w role) { live = (desk_takes l a).1 }) is in
            let seen = outcome_seen projects reaches stand txn w stands role was.0 was.1 a was.2
            ∙ ap (λ l. taking_seen (desk_takes l a).0) is in
            handed_led w next (stand w event stands) (other_took projects reaches stand txn w stands role was.0 was.1 a was.2)
            name bytes (has_bytes bytes a found) a (messages_for txn (a ∷ []))
            (side_took projects reaches stand txn w stands role was.0 was.1 a was.2) old
            (desk_takes old.live a).0 (desk_takes old.live a).1 here
            (subst (λ outcome. DeskMayChange outcome (project txn w) (project txn next)) seen (changes txn w event stands))
            (λ fault failed. fault_stays old.live a fault failed)

        -- A message file that holds just one message of `txn` leads the side of `txn` on by it.
        found_led : (name bytes : List ℕ) (found : Result Apdu Unfit) → message_in bytes ≡ found
            → Each (WasSent (party w (other role)).sent) (message_if found)
            → Led role w (after_message many_sides name bytes found old).live (messages_for txn (message_if found)) old.kept
            (after_message many_sides name bytes found old).kept
        unfolding Each
        found_led name bytes (Ok a) is_found were = sent_led name bytes a is_found were.0
        found_led name bytes (Err unfit) is_found were = stays_led w stands old.live is old.kept

        -- A message file that could be read leads on by its message in the same way. A message file that could not be
        -- read does not.
        read_led : (unread : Verdict) (name : List ℕ) (bytes : Option (List ℕ))
            → Each (WasSent (party w (other role)).sent) (message_if_read bytes)
            → Led role w (after_bytes many_sides unread name bytes old).live (messages_for txn (message_if_read bytes)) old.kept
            (after_bytes many_sides unread name bytes old).kept
        read_led unread name None were = stays_led w stands old.live is old.kept
        read_led unread name (Some bytes) were = found_led name bytes (message_in bytes) refl were

    -- The messages of `txn` in `message_files` lead its side on, in their order. Premise: the other desk has sent each
    -- message of `message_files`.
    pub message_files_led : (w : DeskParties) → DesksInvariant w → (old : Sorting DeskContents) → (party w role).live ≡ old.live
        → (message_files : List MessageFile) → Bring (WasSent (party w (other role)).sent) message_files
        → Led role w (fold (after_message_file many_sides) old message_files).live (messages_for txn (messages_of message_files))
        old.kept
        (fold (after_message_file many_sides) old message_files).kept
    unfolding Each
    message_files_led w stands old is [] were = stays_led w stands old.live is old.kept
    message_files_led w stands old is (message_file ∷ message_files) were =
        let next : Sorting DeskContents = after_message_file many_sides old message_file in
        let end : Sorting DeskContents = fold (after_message_file many_sides) next message_files in
        let first = read_led w stands old is (verdict_unread message_file.letter) message_file.name.items
        (option_map (λ bytes. bytes.items) message_file.bytes) were.0 in
        let further = message_files_led first.now first.stands next (ap (λ (p : DeskParty). p.live) first.here) message_files
        (subst (λ (p : DeskParty). Bring (WasSent p.sent) message_files) (sym first.there) were.1) in
        subst (λ apdus. Led role w end.live apdus old.kept end.kept)
        (sym (filter-append (λ (a : Apdu). is_same_txn txn a.txn) (message_of message_file) (messages_of message_files)))
        (then_led w next.live end.live (messages_for txn (message_of message_file)) (messages_for txn (messages_of message_files))
        old.kept
        next.kept end.kept first further)
