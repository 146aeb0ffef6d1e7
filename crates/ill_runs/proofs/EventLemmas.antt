-- Proves how events at one desk follow one another, and which events a save is.
use Rattle.std.proofs.Common.{◌≡◌, inl, inr, ℕ, if◌then◌else◌, List, [], ◌∷◌, ◌++◌, Option, Some, None, Bool, true, false, Result}
use Rattle.std.proofs.Common.{Ok, Err, refl, sym, ap, ◌∙◌, subst}
use Rattle.ill_values.specs.declared.apdu.Apdu.{Apdu}
use Rattle.ill_record.specs.declared.fault.RecordFault.{RecordFault}
use Rattle.ill_record.specs.declared.role.Role.{Role}
use Rattle.ill_record.specs.Sides.{SidesOf}
use Rattle.ill_saved.specs.Holdings.{IsReadAgain, map_ok}
use Rattle.ill_saved.specs.ManySides.{DeskContents, many_sides, sides_held, whole_of, desk_takes}
use Rattle.ill_record.specs.RecordsV2.{records_at, sides_encoding}
use Rattle.ill_saved.proofs.Contents.{sides_of_whole}
use Rattle.ill_text.specs.declared.fault.ToolFault.{ToolFault}
use Rattle.ill_desk.specs.Performing.{HeldAndCommitted, saved, with_sides, IsFaulted}
use Rattle.ill_world.specs.declared.event.DeskEvent.{DeskEvent}
use Rattle.ill_world.specs.declared.event.DeskEvent.TheVariants.{Save, SaveFault, Deliver}
use Rattle.ill_world.specs.World.{who_of}
use Rattle.ill_world.specs.Desks.{DeskParty, Sending, plain, desk_happens_to, desk_saves, desk_fails_to_save, desk_receives}
use Rattle.ill_world.specs.DeskSafety.{IsDeskOf}
use Rattle.ill_world.proofs.Desks.{role_kept}
use Rattle.ill_runs.specs.Events.{desk_after, HappenAt, Leads, IsReadAs, IsDesk, EndsAs, IsRun}
use Rattle.ill_runs.specs.MessageFile.{WasSent}

-- ---- events one after another

-- An empty list of events leads from a desk to itself.
pub none_leads : (who : Role) (sent : List Sending) (p : DeskParty) → Leads who sent p p
unfolding desk_after HappenAt
none_leads who sent p = record { events = []; here = tt; after = refl }

-- One event at the desk of `who` leads to the desk after it.
pub one_leads : (who : Role) (sent : List Sending) (p : DeskParty) (event : DeskEvent) → who_of (plain event) ≡ who
    → Leads who sent p (desk_happens_to p sent event).1
unfolding desk_after HappenAt
one_leads who sent p event here = record { events = event ∷ []; here = (here, tt); after = refl }

-- A desk after `events` and then `more` is the desk after `more`, from the desk after `events` on.
after_join : (sent : List Sending) (p : DeskParty) (events more : List DeskEvent)
    → desk_after p sent (events ++ more) ≡ desk_after (desk_after p sent events) sent more
unfolding desk_after
after_join sent p [] more = refl
after_join sent p (event ∷ events) more = after_join sent (desk_happens_to p sent event).1 events more

-- If the events of both lists happen at a desk, those of their join do.
here_join : (who : Role) (events more : List DeskEvent) → HappenAt who events → HappenAt who more
    → HappenAt who (events ++ more)
unfolding HappenAt
here_join who [] more here others = others
here_join who (event ∷ events) more here others = (here.0, here_join who events more here.1 others)

-- If events lead from `p` to `q`, and others from `q` to `r`, both together lead from `p` to `r`.
pub then_leads : {who : Role} {sent : List Sending} {p q r : DeskParty} → Leads who sent p q → Leads who sent q r
    → Leads who sent p r
then_leads {who} {sent} {p} {q} {r} first second = record {
  events = first.events ++ second.events;
  here = here_join who first.events second.events first.here second.here;
  after = after_join sent p first.events second.events ∙ ap (λ d. desk_after d sent second.events) first.after
      ∙ second.after;
}

-- A desk of `role` is still a desk of `role` after events.
pub after_keeps_role : (role : Role) (sent : List Sending) (p : DeskParty) (events : List DeskEvent) → IsDeskOf role p
    → IsDeskOf role (desk_after p sent events)
unfolding desk_after
after_keeps_role role sent p [] is = is
after_keeps_role role sent p (event ∷ events) is =
    after_keeps_role role sent (desk_happens_to p sent event).1 events (role_kept role p sent event is)

-- If events lead from `p` to `q`, and `p` is a desk of `role`, `q` is a desk of `role`.
pub leads_keep_role : {who : Role} {sent : List Sending} {p q : DeskParty} → Leads who sent p q → (role : Role)
    → IsDeskOf role p → IsDeskOf role q
leads_keep_role {who} {sent} {p} {q} leads role is =
    subst (IsDeskOf role) leads.after (after_keeps_role role sent p leads.events is)

-- ---- the events of a save

-- A save is an event, which leads to the desk after it.
pub save_leads : (who : Role) (sent : List Sending) (p : DeskParty) → Leads who sent p (desk_saves p)
save_leads who sent p = one_leads who sent p (Save who) refl

-- A save that fails is an event. `committed` is true if its record is committed.
pub fault_leads : (who : Role) (sent : List Sending) (p : DeskParty) (committed : Bool)
    → Leads who sent p (desk_fails_to_save p committed)
fault_leads who sent p committed = one_leads who sent p (SaveFault who committed) refl

-- If a record is read as the sides `all` with all messages released, it is read as `all`.
pub read_back : (read : Result SidesOf RecordFault) (all : SidesOf) → map_ok whole_of read ≡ Ok (whole_of all) → read ≡ Ok all
read_back (Ok found) all is =
    let same : whole_of found ≡ whole_of all = cc in
    ap (λ (s : SidesOf). Ok s) (sym (sides_of_whole found) ∙ ap sides_held same ∙ sides_of_whole all)
read_back (Err fault) all is = absurd cc

-- If the sides `live` were saved in a store of known content, and their record is read as these sides, the store has
-- them.
pub committed_again : (content : Option (Option (List ℕ))) (committed : SidesOf) (live : DeskContents)
    → IsReadAs content committed → IsReadAgain many_sides live
    → IsReadAs (saved many_sides (record { path = None; live = live; committed = content })).committed (sides_held live)
committed_again (Some (Some bytes)) committed live is again = read_back (records_at (sides_encoding (sides_held live))) _ again
committed_again (Some None) committed live is again = absurd is
committed_again None committed live is again = absurd is

-- ---- the end of a command

-- If a command ended at the model's desk `p`, it ended so with any result.
pub ends_as : {X : Type 0} (result : Result X ToolFault) (desk : HeldAndCommitted DeskContents) (p : DeskParty)
    → IsDesk desk p → EndsAs result desk p
ends_as (Ok answer) desk p is = is
ends_as (Err fault) desk p is = is.committed

-- If a command ended at the model's desk `p`, its store has the committed sides of `p`.
pub store_of_end : {X : Type 0} (result : Result X ToolFault) (desk : HeldAndCommitted DeskContents) (p : DeskParty)
    → EndsAs result desk p → IsReadAs desk.committed p.committed
store_of_end (Ok answer) desk p ends = ends.committed
store_of_end (Err fault) desk p ends = ends

-- If the store is as before, and the command ended with a fault, it was a run without an event.
pub fault_is_run : (X : Type 0) (who : Role) (sent : List Sending) (p : DeskParty) (fault : ToolFault)
    (desk : HeldAndCommitted DeskContents) → IsReadAs desk.committed p.committed → IsRun {X = X} who sent p (Err fault) desk
fault_is_run X who sent p fault desk committed = (p, none_leads who sent p, committed)

-- If sides `live` of a run were saved, or nothing was to be saved, the command ends at a desk of the model.
pub saves_if : (who : Role) (sent : List Sending) (p : DeskParty) (old new : HeldAndCommitted DeskContents) (live : DeskContents)
    (has_changed : Bool) → IsReadAs old.committed p.committed → Leads who sent p (record p { live = live })
    → new ≡ (if has_changed then saved many_sides (with_sides old live) else with_sides old live)
    → (has_changed ≡ true → IsReadAgain many_sides live)
    → (q : DeskParty) × Leads who sent p q × IsDesk new q
saves_if who sent p old new live true committed leads same again = (
  desk_saves (record p { live = live }),
  then_leads leads (save_leads who sent (record p { live = live })),
  subst (λ desk. IsDesk desk (desk_saves (record p { live = live }))) (sym same)
      (record { live = refl; committed = committed_again old.committed p.committed live committed (again refl) }),
)
saves_if who sent p old new live false committed leads same again = (
  record p { live = live },
  leads,
  subst (λ desk. IsDesk desk (record p { live = live })) (sym same) (record { live = refl; committed = committed }),
)

-- If the save of the sides `live` failed, the command ended at a desk of the model.
pub fails_to_save : (who : Role) (sent : List Sending) (p : DeskParty) (old new : HeldAndCommitted DeskContents)
    (live : DeskContents) → IsReadAs old.committed p.committed → Leads who sent p (record p { live = live })
    → IsFaulted many_sides (with_sides old live) new
    → (q : DeskParty) × Leads who sent p q × IsDesk new q
fails_to_save who sent p old new live committed leads is = elim is [
  | inl same ↦ (
    record p { live = live },
    then_leads leads (fault_leads who sent (record p { live = live }) false),
    subst (λ desk. IsDesk desk (record p { live = live })) (sym same) (record { live = refl; committed = committed }),
  )
  | inr same ↦ (
    record p { live = live; committed = sides_held live },
    then_leads leads (fault_leads who sent (record p { live = live }) true),
    subst (λ desk. IsDesk desk (record p { live = live; committed = sides_held live })) (sym same.0)
        (record { live = refl; committed = committed_again old.committed p.committed live committed same.1 }),
  )
]

-- ---- a message that comes

-- If the other desk has sent `a`, the delivery of `a` is an event. It leads to the sides that the desk has after it.
pub delivery_leads : (who : Role) (sent : List Sending) (p : DeskParty) (a : Apdu) → WasSent sent a
    → Leads who sent p (record p { live = (desk_takes p.live a).1 })
delivery_leads who sent p a was =
    subst (λ found. Leads who sent p (desk_receives p found).1) was.2 (one_leads who sent p (Deliver who was.0 was.1) refl)
