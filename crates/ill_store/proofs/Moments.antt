-- Proves the laws of loads and saves: what reads and crashes give at each moment of a call.
use Rattle.std.proofs.Common.{◌≡◌, ◌⊎◌, inl, inr, ⊎_elim, refl, sym, ◌∙◌, subst, ℕ, true, List, Option, Some, None, Result, Ok}
use Rattle.std.proofs.Common.{IfOk, OnOk, option_map}
use Rattle.ill_disk.specs.Disk.{Disk, Crash, content}
use Rattle.ill_disk.specs.Calls.{DiskState, IsMoment}
use Rattle.ill_disk.proofs.Moments.{each_moment}
use Rattle.ill_store.specs.DiskStore.{Lasts, IsOld, IsOldOrNew, DiskLoads, DiskSaves}
use Rattle.ill_store.specs.BadStore.{IsBadLoad, IsBadSave, LosesLoaded, LosesSaved}
use Rattle.ill_store.specs.BadStore as bad
use Rattle.ill_store.specs.Store.{LoadLasts, SaveLasts}
use Rattle.ill_store.specs.declared.store.StoreFault.{StoreFault}

-- If the bytes of a record are taken as they are, `option_map` does not change the record.
as_read : (found : Option (List ℕ)) → option_map (λ (b : List ℕ). b) found ≡ found
as_read None = refl
as_read (Some bytes) = refl

-- If a load from the correct disk `later` is done, it gives what a read of `path` from `later` gives.
read_is : {E : Type 0} (path : List ℕ) (later last : DiskState) (again : Result (Option (List ℕ)) E)
    (read : Option (List ℕ)) → later.is_correct ≡ true → DiskLoads (λ b. b) path later again last → again ≡ Ok read →
    read ≡ content path later.now
read_is {E = E} path later last again read h loads is = sym (as_read read)
    ∙ subst (λ (r : Result (Option (List ℕ)) E). IfOk r (λ f. option_map (λ (b : List ℕ). b) f ≡ content path later.now)) is
    (loads.loaded h)

-- On a correct disk, a read and each crash at a moment `d` of a load give the old record.
load_moment : {E : Type 0} (path : List ℕ) (old new : DiskState) (answer : Result (Option (List ℕ)) E) (d : Disk) →
    old.is_correct ≡ true → DiskLoads (λ b. b) path old answer new → IsMoment old new d → IsOld path old.now d
load_moment path old new answer d h loads moment = each_moment (IsOld path old.now) old new d (loads.moments h) moment

-- On a correct disk, a read and each crash at a moment `d` of a save give the old record or `bytes`.
save_moment : {E : Type 0} (path bytes : List ℕ) (old new : DiskState) (answer : Result (Unit {0}) E) (d : Disk) →
    old.is_correct ≡ true → DiskSaves path bytes old answer new → IsMoment old new d → IsOldOrNew path bytes old.now d
save_moment path bytes old new answer d h saves moment =
    each_moment (IsOldOrNew path bytes old.now) old new d (saves.moments h) moment

-- A crash comes at a moment of a load, before which the record `lasted` lasts. Then the next load that is done gives
-- `lasted`.
pub cut_load : {E : Type 0} (path : List ℕ) (old new later last : DiskState) (moment : Disk)
    (lasted read : Option (List ℕ)) (answer again : Result (Option (List ℕ)) E) → old.is_correct ≡ true →
    Lasts path old.now lasted → DiskLoads (λ b. b) path old answer new → IsMoment old new moment →
    Crash moment later.now → later.is_correct ≡ true → DiskLoads (λ b. b) path later again last → again ≡ Ok read →
    read ≡ lasted
cut_load path old new later last moment lasted read answer again h lasts loads at crash g loads_again is =
    lasts read ((load_moment path old new answer moment h loads at).1 read
    (later.now, crash, sym (read_is path later last again read g loads_again is)))

-- A crash comes at a moment of a save of `bytes`, before which the record `lasted` lasts. Then the next load that is
-- done gives `lasted` or `bytes`.
pub cut_save : {E : Type 0} (path bytes : List ℕ) (old new later last : DiskState) (moment : Disk)
    (lasted read : Option (List ℕ)) (answer : Result (Unit {0}) E) (again : Result (Option (List ℕ)) E) →
    old.is_correct ≡ true → Lasts path old.now lasted → DiskSaves path bytes old answer new → IsMoment old new moment →
    Crash moment later.now → later.is_correct ≡ true → DiskLoads (λ b. b) path later again last → again ≡ Ok read →
    (read ≡ lasted) ⊎ (read ≡ Some bytes)
cut_save path bytes old new later last moment lasted read answer again h lasts saves at crash g loads_again is =
    ⊎_elim (λ left. inl (lasts read left)) (λ new_one. inr new_one)
    ((save_moment path bytes old new answer moment h saves at).1 read
    (later.now, crash, sym (read_is path later last again read g loads_again is)))

-- A load that satisfies `DiskLoads` is no `IsBadLoad`. Each case contradicts one clause.
pub none_bad_load : {E : Type 0} (path : List ℕ) (old new : DiskState) (answer : Result (Option (List ℕ)) E) →
    DiskLoads (λ b. b) path old answer new → IsBadLoad path old answer new → ⊥
none_bad_load path old new answer loads (bad.other_record found h is differ) =
    differ (read_is path old new answer found h loads is)
none_bad_load {E = E} path old new answer loads (bad.lost_later found left h is leaves differ) =
    differ (subst (λ (r : Result (Option (List ℕ)) E). OnOk r (Lasts path new.now (content path old.now))) is
    (loads.lasts h) left leaves)
none_bad_load path old new answer loads (bad.lost_meanwhile d left h moment leaves differ) =
    differ ((load_moment path old new answer d h loads moment).1 left leaves)
none_bad_load path old new answer loads (bad.other_meanwhile d h moment differ) =
    differ (load_moment path old new answer d h loads moment).0
none_bad_load path old new answer loads (bad.turned differ) = differ loads.correct

-- A save that satisfies `DiskSaves` is no `IsBadSave`. Each case contradicts one clause.
pub none_bad_save : {E : Type 0} (path bytes : List ℕ) (old new : DiskState) (answer : Result (Unit {0}) E) →
    DiskSaves path bytes old answer new → IsBadSave path bytes old answer new → ⊥
none_bad_save {E = E} path bytes old new answer saves (bad.not_saved done h is differ) =
    differ (subst (λ (r : Result (Unit {0}) E). OnOk r (content path new.now ≡ Some bytes)) is (saves.saved h))
none_bad_save {E = E} path bytes old new answer saves (bad.lost_later done left h is leaves differ) =
    differ (subst (λ (r : Result (Unit {0}) E). OnOk r (Lasts path new.now (Some bytes))) is (saves.lasts h) left leaves)
none_bad_save path bytes old new answer saves (bad.third_left d left h moment leaves not_old not_new) =
    ⊎_elim not_old not_new ((save_moment path bytes old new answer d h saves moment).1 left leaves)
none_bad_save path bytes old new answer saves (bad.third_read d h moment not_old not_new) =
    ⊎_elim not_old not_new (save_moment path bytes old new answer d h saves moment).0
none_bad_save path bytes old new answer saves (bad.turned differ) = differ saves.correct

-- If a load satisfies `LoadLasts`, a loss of power after it leaves no record that `LosesLoaded` names.
pub none_loses_loaded : {X : Type 0} (committed : Option (List ℕ)) (before : Option (List ℕ) → Type 0)
    (answer : Result X StoreFault) (after : Option (List ℕ) → Type 0) → LoadLasts committed before answer after →
    LosesLoaded committed before answer after → ⊥
none_loses_loaded {X = X} committed before answer after lasts (bad.not_the_committed found left is leaves differ) =
    differ (subst (λ (r : Result X StoreFault). LoadLasts committed before r after) is lasts left leaves)
none_loses_loaded {X = X} committed before answer after lasts (bad.none_of_before fault left is leaves differ) =
    differ (subst (λ (r : Result X StoreFault). LoadLasts committed before r after) is lasts left leaves)

-- If a save satisfies `SaveLasts`, a loss of power after it leaves no record that `LosesSaved` names.
pub none_loses_saved : (bytes : List ℕ) (before : Option (List ℕ) → Type 0) (answer : Result (Unit {0}) StoreFault)
    (after : Option (List ℕ) → Type 0) → SaveLasts bytes before answer after → LosesSaved bytes before answer after → ⊥
none_loses_saved bytes before answer after lasts (bad.not_the_saved done left is leaves differ) =
    differ (subst (λ (r : Result (Unit {0}) StoreFault). SaveLasts bytes before r after) is lasts left leaves)
none_loses_saved bytes before answer after lasts (bad.neither_old_nor_new fault left is leaves not_old not_new) =
    ⊎_elim not_old not_new (subst (λ (r : Result (Unit {0}) StoreFault). SaveLasts bytes before r after) is lasts left leaves)
