-- Lemmas on calls that are made of calls of a disk: how they answer, and which paths they touch.
use Rattle.std.proofs.Common.{◌≡◌, inl, inr, ⊎_elim, sym, ◌∙◌, ap, subst, ℕ, Bool, true, List, [], ◌∷◌, Option}
use Rattle.std.proofs.Common.{Result, Ok, Err}
use Rattle.ill_disk.specs.Disk.{Disk, after_flush, after_remove, after_rename, found_at}
use Rattle.ill_disk.specs.Calls.{DiskState, Answers, Changes, Creates, WantsFile}
use Rattle.ill_disk.specs.declared.disk.DiskFault.{DiskFault}
use Rattle.ill_disk.specs.declared.disk.DiskFault.TheVariants.{NotFound}
use Rattle.ill_disk.proofs.Names.{found_without}
use Rattle.ill_message_disk.specs.declared.message_disk.Found.{Found}
use Rattle.ill_message_disk.specs.MessageFileCalls.{Brings, Clears, Finds, Tells}
use Rattle.ill_message_disk.specs.Touches.{TouchesOnly, Touches}
use Rattle.ill_message_disk.proofs.Touching.{touch_self, touch_more, create_touches, flush_touches, remove_touches}
use Rattle.ill_message_disk.proofs.Touching.{rename_touches}
use Rattle.ill_message_disk.proofs.Steps.{change_fits, one_touches}

-- If `other` follows from `does` on a correct disk, a call that does as `does` says does as `other` says.
pub answers_as : {A B E F : Type 0} {does : Disk → Result A E → Disk → Type 0} {other : Disk → Result B F → Disk → Type 0}
    {old : DiskState} {answer : Result A E} {result : Result B F} {new : DiskState} → Answers does old answer new →
    (old.is_correct ≡ true → does old.now answer new.now → other old.now result new.now) → Answers other old result new
answers_as answers follows = record {
  whole = answers.whole;
  done = λ h. follows h (answers.done h);
  past = answers.past;
  correct = answers.correct;
}

-- If a removal of `path` is done, a call that is then done answers as `Clears` says.
pub clears_done : {A E F : Type 0} {path : List ℕ} {old : DiskState} {done : Unit {0}} {value : A} {new : DiskState} →
    Answers {E = E} (Changes (after_remove path)) old (Ok done) new →
    Answers {E = F} (Clears path) old (Ok value) new
clears_done {path = path} {old = old} {new = new} answers = answers_as answers (λ h changed. record {
  gone = ap (λ (d : Disk). found_at path d.names) changed ∙ found_without path old.now.names;
  either = inr changed;
})

-- If a removal of `path` failed since no file stands there, a call that is then done answers as `Clears` says.
pub clears_none : {A F : Type 0} {path : List ℕ} {old : DiskState} {fault : DiskFault} {value : A} {new : DiskState} →
    fault ≡ NotFound → Answers (Changes (after_remove path)) old (Err fault) new →
    WantsFile {A = Unit {0}} path old (Err fault) → Answers {E = F} (Clears path) old (Ok value) new
clears_none {path = path} {old = old} {new = new} is answers wants = answers_as answers (λ h changed. record {
  gone = ⊎_elim (λ same. ap (λ (d : Disk). found_at path d.names) same ∙ wants.none h (ap Err is))
      (λ removed. ap (λ (d : Disk). found_at path d.names) removed ∙ found_without path old.now.names) changed;
  either = changed;
})

-- If a removal of `path` failed, a call that fails then too answers as `Clears` says.
pub clears_failed : {A E F : Type 0} {path : List ℕ} {old : DiskState} {fault : E} {other : F} {new : DiskState} →
    Answers (Changes (after_remove path)) old (Err fault) new → Answers {A = A} (Clears path) old (Err other) new
clears_failed answers = answers_as answers (λ h changed. record { gone = tt; either = changed })

-- If `p` equals `q`, a call that does as `does` says at `p` does so at `q`.
pub at_path : {A E : Type 0} (does : List ℕ → Disk → Result A E → Disk → Type 0) {p q : List ℕ} {old : DiskState}
    {answer : Result A E} {new : DiskState} → p ≡ q → Answers (does p) old answer new → Answers (does q) old answer new
at_path does {old = old} {answer = answer} {new = new} path answers =
    subst (λ (r : List ℕ). Answers (does r) old answer new) path answers

-- Let `p` equal `q`, and `r` equal `s`. A call that does as `does` says from `p` to `r` does so from `q` to `s`.
pub at_paths : {A E : Type 0} (does : List ℕ → List ℕ → Disk → Result A E → Disk → Type 0) {p q r s : List ℕ}
    {old : DiskState} {answer : Result A E} {new : DiskState} → p ≡ q → r ≡ s → Answers (does p r) old answer new →
    Answers (does q s) old answer new
at_paths does {p = p} {s = s} {old = old} {answer = answer} {new = new} from to answers =
    subst (λ (x : List ℕ). Answers (does x s) old answer new) from
    (subst (λ (x : List ℕ). Answers (does p x) old answer new) to answers)

-- Let `p` equal `q`, and `f` equal `g`. A look for the file `f` at `p` is a look for `g` at `q`.
pub tells_at : {E : Type 0} {p q : List ℕ} {f g : ℕ} {old : DiskState} {answer : Result Bool E} {new : DiskState} →
    p ≡ q → f ≡ g → Answers (Tells p f) old answer new → Answers (Tells q g) old answer new
tells_at {p = p} {g = g} {old = old} {answer = answer} {new = new} path file answers =
    subst (λ (r : List ℕ). Answers (Tells r g) old answer new) path
    (subst (λ (n : ℕ). Answers (Tells p n) old answer new) file answers)

-- If `p` equals `q`, a call that touches `p` alone touches `q` alone.
pub touches_at : {p q : List ℕ} {old new : DiskState} → p ≡ q → Touches (p ∷ []) old new → Touches (q ∷ []) old new
touches_at {old = old} {new = new} path touches = subst (λ (r : List ℕ). Touches (r ∷ []) old new) path touches

-- A look for a file at `path` touches no name, and so none but `paths`.
pub tells_touches : {E : Type 0} {path : List ℕ} {file : ℕ} (paths : List (List ℕ)) {old : DiskState}
    {answer : Result Bool E} {new : DiskState} → Answers (Tells path file) old answer new → Touches paths old new
tells_touches {path = path} {file = file} paths {old = old} {answer = answer} {new = new} answers =
    one_touches (Tells path file) paths old answer new answers
    (λ d e tells. subst (TouchesOnly paths d) (sym tells.same) (touch_self paths d))

-- A call that clears `path` touches `path` alone.
pub clears_touches : {A E : Type 0} {path : List ℕ} {old : DiskState} {answer : Result A E} {new : DiskState} →
    Answers (Clears path) old answer new → Touches (path ∷ []) old new
clears_touches {path = path} {old = old} {answer = answer} {new = new} answers =
    one_touches (Clears path) (path ∷ []) old answer new answers (λ d e clears. ⊎_elim
    (λ same. subst (TouchesOnly (path ∷ []) d) (sym same) (touch_self (path ∷ []) d))
    (λ removed. subst (TouchesOnly (path ∷ []) d) (sym removed) (remove_touches path d)) clears.either)

-- A look that finds what stands at `path` touches no name, and so none but `paths`.
pub finds_touches : {E : Type 0} {path : List ℕ} (paths : List (List ℕ)) {old : DiskState}
    {answer : Result (Option Found) E} {new : DiskState} → Answers (Finds path) old answer new → Touches paths old new
finds_touches {path = path} paths {old = old} {answer = answer} {new = new} answers =
    one_touches (Finds path) paths old answer new answers
    (λ d e finds. subst (TouchesOnly paths d) (sym finds.same) (touch_self paths d))

-- A call that makes a new file at `path`, done or not, changes no name but `path`.
create_fits : {E : Type 0} (path bytes : List ℕ) (answer : Result (Unit {0}) E) (d e : Disk) →
    Creates path bytes d answer e → TouchesOnly (path ∷ []) d e
create_fits path bytes (Ok done) d e is = subst (TouchesOnly (path ∷ []) d) (sym is) (create_touches path bytes d)
create_fits path bytes (Err fault) d e is = ⊎_elim
    (λ same. subst (TouchesOnly (path ∷ []) d) (sym same) (touch_self (path ∷ []) d))
    (λ some. subst (TouchesOnly (path ∷ []) d) (sym some.1) (create_touches path some.0 d)) is

-- A call that makes a new file at `path` touches `path` alone.
pub creates_touches : {E : Type 0} (path bytes : List ℕ) {old : DiskState} {answer : Result (Unit {0}) E}
    {new : DiskState} → Answers (Creates path bytes) old answer new → Touches (path ∷ []) old new
creates_touches path bytes {old = old} {answer = answer} {new = new} answers =
    one_touches (Creates path bytes) (path ∷ []) old answer new answers (create_fits path bytes answer)

-- A flush of the file at `path` touches no name, and so none but `paths`.
pub flushes_touches : {E : Type 0} (path : List ℕ) (paths : List (List ℕ)) {old : DiskState}
    {answer : Result (Unit {0}) E} {new : DiskState} → Answers (Changes (after_flush path)) old answer new →
    Touches paths old new
flushes_touches path paths {old = old} {answer = answer} {new = new} answers =
    one_touches (Changes (after_flush path)) paths old answer new answers (change_fits paths (after_flush path)
    (λ d. touch_more [] paths (λ p none. tt) d (after_flush path d) (flush_touches path d)) answer)

-- A call that renames `from` to `to` touches these two paths alone.
pub brings_touches : {A E : Type 0} {from to : List ℕ} {old : DiskState} {answer : Result A E} {new : DiskState} →
    Answers (Brings from to) old answer new → Touches (from ∷ to ∷ []) old new
brings_touches {from = from} {to = to} {old = old} {answer = answer} {new = new} answers =
    one_touches (Brings from to) (from ∷ to ∷ []) old answer new answers (λ d e brings. ⊎_elim
    (λ same. subst (TouchesOnly (from ∷ to ∷ []) d) (sym same) (touch_self (from ∷ to ∷ []) d))
    (λ moved. subst (TouchesOnly (from ∷ to ∷ []) d) (sym moved) (rename_touches from to d)) brings.either)

-- If a rename from `from` to `to` is done, a call that is then done answers as `Brings` says.
pub brings_done : {A E F : Type 0} {from to : List ℕ} {old : DiskState} {done : Unit {0}} {value : A} {new : DiskState} →
    Answers {E = E} (Changes (after_rename from to)) old (Ok done) new →
    Answers {E = F} (Brings from to) old (Ok value) new
brings_done answers = answers_as answers (λ h changed. record { done = inr changed; either = inr changed })

-- If a rename failed since no file stands at `from`, a call that is then done answers as `Brings` says.
pub brings_none : {A F : Type 0} {from to : List ℕ} {old : DiskState} {fault : DiskFault} {value : A} {new : DiskState} →
    fault ≡ NotFound → Answers (Changes (after_rename from to)) old (Err fault) new →
    WantsFile {A = Unit {0}} from old (Err fault) → Answers {E = F} (Brings from to) old (Ok value) new
brings_none is answers wants =
    answers_as answers (λ h changed. record { done = inl (wants.none h (ap Err is)); either = changed })

-- If a rename failed, a call that fails then too answers as `Brings` says.
pub brings_failed : {A E F : Type 0} {from to : List ℕ} {old : DiskState} {fault : E} {other : F} {new : DiskState} →
    Answers (Changes (after_rename from to)) old (Err fault) new → Answers {A = A} (Brings from to) old (Err other) new
brings_failed answers = answers_as answers (λ h changed. record { done = tt; either = changed })
