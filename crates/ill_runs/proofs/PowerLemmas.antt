-- Proves which desk of the model starts from what a loss of power leaves.
use Rattle.std.proofs.Common.{◌≡◌, ◌⊎◌, inl, inr, ℕ, Bool, true, false, List, [], ◌∷◌, Option, Some, None, Result, Ok, Err}
use Rattle.std.proofs.Common.{refl, sym, ap, subst, ◌∙◌}
use Rattle.std.specs.Prelude.{OnOk}
use Rattle.ill_record.specs.declared.role.Role.{Role}
use Rattle.ill_store.specs.Store.{StoreState}
use Rattle.ill_saved.specs.declared.fault.DeskFault.{DeskFault}
use Rattle.ill_saved.specs.Desk.{DeskSaves, LeavesBeforeOr, LeavesCommitted}
use Rattle.ill_saved.specs.Holdings.{IsReadAgain, map_ok}
use Rattle.ill_record.specs.Sides.{SidesOf}
use Rattle.ill_record.specs.RecordsV2.{records_at, sides_encoding}
use Rattle.ill_saved.specs.ManySides.{DeskContents, many_sides, sides_held, whole_of}
use Rattle.ill_desk.specs.Performing.{HeldAndCommitted}
use Rattle.ill_text.specs.Known.{known_if}
use Rattle.ill_world.specs.declared.event.DeskEvent.TheVariants.{Save, SaveFault, Restart}
use Rattle.ill_world.specs.Desks.{DeskParty, Sending, desk_saves, desk_fails_to_save, desk_restarts}
use Rattle.ill_runs.specs.Events.{desk_after, HappenAt, IsReadAs, IsDesk}
use Rattle.ill_runs.specs.Power.{StartsAs, EndsInStart, IsFaultAndRestart, PoweredDesk, IsAmong, AreLeft, IsPoweredDesk}
use Rattle.ill_runs.specs.Power.{leaves_after, on_record, started_from, save_event}
use Rattle.ill_runs.proofs.EventLemmas.{read_back}

-- ---- the records

-- If the content of a store is known, it is the committed record.
known_read : (is_correct : Bool) (committed : Option (List ℕ)) (sides : SidesOf) → IsReadAs (known_if is_correct committed) sides
    → IsReadAs (Some committed) sides
known_read true committed sides read = read
known_read false committed sides read = absurd read

-- If the content of a store is known, the store is correct.
pub known_correct : (is_correct : Bool) (committed : Option (List ℕ)) (sides : SidesOf)
    → IsReadAs (known_if is_correct committed) sides → is_correct ≡ true
known_correct true committed sides read = refl
known_correct false committed sides read = absurd read

-- After a save of a desk that is done, a correct store commits its bytes.
pub saved_commits : (bytes : List ℕ) (old new : StoreState) (answer : Result (Unit {0}) DeskFault)
    → DeskSaves bytes old answer new → old.is_correct ≡ true → OnOk answer (new.committed ≡ Some bytes)
saved_commits bytes old new (Ok done) saves correct = (saves.committed correct).0
saved_commits bytes old new (Err fault) saves correct = tt

-- If a loss of power leaves only the committed record, the record `left` is read as the committed sides `sides`.
pub left_read : (is_correct : Bool) (committed : Option (List ℕ)) (leaves : Option (List ℕ) → Type 0) (sides : SidesOf)
    (left : Option (List ℕ)) → IsReadAs (known_if is_correct committed) sides → LeavesCommitted committed leaves → leaves left
    → IsReadAs (Some left) sides
left_read is_correct committed leaves sides left read lasts is =
    subst (λ (record_left : Option (List ℕ)). IsReadAs (Some record_left) sides) (sym (lasts left is))
    (known_read is_correct committed sides read)

-- If a record is that of the sides `live`, and is read as these again, it is read as what the model's desk is
-- committed.
pub new_read : (live held : DeskContents) (left : Option (List ℕ)) → live ≡ held → IsReadAgain many_sides live
    → left ≡ Some (many_sides.encoding live) → IsReadAs (Some left) (sides_held held)
new_read live held left same again is =
    subst (λ (record_left : Option (List ℕ)). IsReadAs (Some record_left) (sides_held held)) (sym is)
    (subst (λ (l : DeskContents). records_at (many_sides.encoding live) ≡ Ok (sides_held l)) same
    (read_back (records_at (sides_encoding (sides_held live))) (sides_held live) again))

-- ---- a start

-- If a record is read as the committed sides of `q`, and `q` holds these, a desk starts from the record as `q`.
pub starts_as : (left : Option (List ℕ)) (q : DeskParty) → IsReadAs (Some left) q.committed → q.live ≡ whole_of q.committed
    → StartsAs left q
starts_as (Some bytes) q read whole = record {
  file = bytes;
  there = refl;
  live = subst (λ (l : DeskContents). map_ok whole_of (records_at bytes) ≡ Ok l) (sym whole) (ap (map_ok whole_of) read);
  committed = read;
}
starts_as None q read whole = absurd read

module _ (who : Role) (sent : List Sending) (p : DeskParty) (left : Option (List ℕ)) where
  -- If the committed record is left, a restart leads to the desk that starts from it.
  pub restart_starts : IsReadAs (Some left) p.committed → EndsInStart who sent p (Restart who ∷ []) left
  unfolding desk_after HappenAt
  restart_starts read = ((refl, tt), starts_as left (desk_restarts p) read refl)

  -- If the saved record is left, a save and a restart lead to the desk that starts from it.
  pub save_starts : IsReadAs (Some left) (sides_held p.live) → EndsInStart who sent p (Save who ∷ Restart who ∷ []) left
  unfolding desk_after HappenAt
  save_starts read = ((refl, (refl, tt)), starts_as left (desk_restarts (desk_saves p)) read refl)

  -- If the old record is left, a save that failed, and committed nothing, goes before the restart.
  old_starts : IsReadAs (Some left) p.committed → IsFaultAndRestart who sent p left
  unfolding desk_after HappenAt
  old_starts read =
      (false, ((refl, (refl, tt)), starts_as left (desk_restarts (desk_fails_to_save p false)) read refl))

  -- If the new record is left, a save that failed, and committed its record, goes before the restart.
  new_starts : IsReadAs (Some left) (sides_held p.live) → IsFaultAndRestart who sent p left
  unfolding desk_after HappenAt
  new_starts read =
      (true, ((refl, (refl, tt)), starts_as left (desk_restarts (desk_fails_to_save p true)) read refl))

-- The committed record is left, or that of the live sides. A save that failed and a restart lead to the desk that
-- starts from the record left.
pub fault_starts : {path : Option (List ℕ)} (is_correct : Bool) (committed : Option (List ℕ))
    (leaves : Option (List ℕ) → Type 0) (live : DeskContents)
    (who : Role) (sent : List Sending) (p : DeskParty) (left : Option (List ℕ))
    → IsDesk (record { path = path; live = live; committed = known_if is_correct committed }) p → LeavesCommitted committed leaves
    → IsReadAgain many_sides live → leaves left ⊎ (left ≡ Some (many_sides.encoding live))
    → IsFaultAndRestart who sent p left
fault_starts is_correct committed leaves live who sent p left is lasts again either = elim either [
  | inl old ↦ old_starts who sent p left (left_read is_correct committed leaves p.committed left is.committed lasts old)
  | inr new ↦ new_starts who sent p left (new_read live p.live left is.live again new)
]

-- ---- what may be left

-- If a loss of power leaves only the committed record, the model knows each record that may be left.
pub loaded_left : {path : Option (List ℕ)} (is_correct : Bool) (committed : Option (List ℕ))
    (leaves : Option (List ℕ) → Type 0) (live : DeskContents) (p : DeskParty)
    → IsDesk (record { path = path; live = live; committed = known_if is_correct committed }) p → LeavesCommitted committed leaves
    → IsPoweredDesk (record { path = path; live = live; committed = known_if is_correct committed }) leaves (on_record p)
unfolding IsAmong
loaded_left is_correct committed leaves live p is lasts = record {
  desk = is;
  left = λ left is_left. (
    p.committed,
    left_read is_correct committed leaves p.committed left is.committed lasts is_left,
    inl refl,
  );
}

module _ (desk : HeldAndCommitted DeskContents) (leaves : Option (List ℕ) → Type 0) (p : PoweredDesk)
    (is : IsPoweredDesk desk leaves p) (again : IsReadAgain many_sides desk.live) where
  -- In a save the model knows each record that may be left.
  pub left_in_save : (who : Role) (committed : Bool)
      → AreLeft (λ left. leaves left ⊎ (left ≡ Some (many_sides.encoding desk.live)))
      (leaves_after p.desk p.leaves (SaveFault who committed))
  unfolding IsAmong
  left_in_save who committed left either = elim either [
    | inl old ↦ (let found = is.left left old in (found.0, found.1, inr found.2))
    | inr new ↦ (sides_held p.desk.live, new_read desk.live p.desk.live left is.desk.live again new, inl refl)
  ]

  -- After a save with any answer the model knows each record that may be left.
  pub left_after_save : (who : Role) (committed : Bool) (answer : Result (Unit {0}) DeskFault) (saved : Option (List ℕ))
      (after : Option (List ℕ) → Type 0) → OnOk answer (saved ≡ Some (many_sides.encoding desk.live))
      → OnOk answer (LeavesCommitted saved after) → LeavesBeforeOr (Some (many_sides.encoding desk.live)) leaves after
      → AreLeft after (leaves_after p.desk p.leaves (save_event who committed answer))
  unfolding IsAmong
  left_after_save who committed (Ok done) saved after commits lasts either left is_left = (
    sides_held p.desk.live,
    new_read desk.live p.desk.live left is.desk.live again (lasts left is_left ∙ commits),
    inl refl,
  )
  left_after_save who committed (Err fault) saved after commits lasts either left is_left =
      left_in_save who committed left (either left is_left)

-- If a loss of power may leave `left`, a desk that starts from it is the model's desk after it.
pub lost_starts : (desk : HeldAndCommitted DeskContents) (leaves : Option (List ℕ) → Type 0) (p : PoweredDesk)
    (left : Option (List ℕ)) → IsPoweredDesk desk leaves p → leaves left
    → (sides : SidesOf) × IsAmong sides p.leaves × StartsAs left (started_from p.desk sides).desk
lost_starts desk leaves p left is is_left =
    let found = is.left left is_left in
    (found.0, found.2, starts_as left (started_from p.desk found.0).desk found.1 refl)
