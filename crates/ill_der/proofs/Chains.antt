-- The results of readings that are chained by `>>=`. If a chain gives a value or a fault, each lemma says what a part
-- of it gave.
use Rattle.std.proofs.Common.{◌≡◌, ℕ, Bool, true, false, cond, Result, Ok, Err, refl, subst, inl, inr, ◌⊎◌}
use Rattle.ill_der.specs.declared.fault.DerFault.{DerFault}
use Rattle.ill_der.specs.declared.fault.DerFault.TheVariants.{Short, Tag, Length, Field, OutOfMemory}
use Rattle.ill_der.specs.Format.{◌>>=◌}

-- `r` gives `value`, and `f value` gives `answer`.
pub record Chained {E A B : Type 0} (r : Result A E) (f : A → Result B E) (answer : Result B E) : Type 0 where
  pub value : A
  pub given : r ≡ Ok value
  pub follows : f value ≡ answer

-- If `r >>= f` gives `y`, `r` gives some `x`, and `f x` gives `y`.
pub bind_ok : {E A B : Type 0} (r : Result A E) (f : A → Result B E) (y : B) → (r >>= f) ≡ Ok y → Chained r f (Ok y)
bind_ok (Ok x) f y e = record { value = x; given = refl; follows = e }
bind_ok (Err d) f y e = absurd cc

-- If `r >>= f` has the fault `d`, `r` has it, or `r` gives some `x` and `f x` has it.
pub bind_err : {E A B : Type 0} (r : Result A E) (f : A → Result B E) (d : E) → (r >>= f) ≡ Err d
    → (r ≡ Err d) ⊎ Chained r f (Err d)
bind_err (Ok x) f d e = inr (record { value = x; given = refl; follows = e })
bind_err (Err c) f d e = inl cc

-- If `cond b r (Err d)` gives `x`, `b` is true and `r` gives `x`.
pub passed : {E A : Type 0} (b : Bool) (r : Result A E) (d : E) (x : A) → cond b r (Err d) ≡ Ok x → (b ≡ true) × (r ≡ Ok x)
passed true r d x e = (refl, e)
passed false r d x e = absurd cc

-- If `cond b (Err d) r` gives `x`, `b` is false and `r` gives `x`.
pub test_failed : {E A : Type 0} (b : Bool) (r : Result A E) (d : E) (x : A) → cond b (Err d) r ≡ Ok x → (b ≡ false) × (r ≡ Ok x)
test_failed true r d x e = absurd cc
test_failed false r d x e = (refl, e)

-- If `cond b x y` is `z`, then `x` is `z` for a true `b`, or `y` is `z` for a false one.
pub chosen : {A : Type 0} (b : Bool) (x y z : A) → cond b x y ≡ z → ((b ≡ true) × (x ≡ z)) ⊎ ((b ≡ false) × (y ≡ z))
chosen true x y z e = inl (refl, e)
chosen false x y z e = inr (refl, e)

-- Returns `Ok x`. A statement can name both types of the result, which it cannot do with `Ok`.
abbrev pub done : {E A : Type 0} → A → Result A E
done x = Ok x

-- If `Ok x` equals `Ok y`, `x` equals `y`.
pub ok_is : {E A : Type 0} (x y : A) → done {E = E} x ≡ done y → x ≡ y
ok_is x y e = cc

-- Returns `Err d`. A statement can name both types of the result, which it cannot do with `Err`.
abbrev pub failed : {E A : Type 0} → E → Result A E
failed d = Err d

-- `Ok x` is never `Err d`.
pub no_value : {E A : Type 0} (d : E) (x : A) → done x ≡ failed d → ⊥
no_value d x e = cc

-- The fault is Tag, Length or Field: one of the faults of the contents of an APDU.
abbrev pub IsInside : DerFault → Type 0
IsInside (Short n) = ⊥
IsInside (Tag at) = Unit {0}
IsInside (Length at) = Unit {0}
IsInside (Field at) = Unit {0}
IsInside OutOfMemory = ⊥

-- If `Err c` equals `Err d`, `c` equals `d`.
pub fault_is : {A : Type 0} (c d : DerFault) → failed {A = A} c ≡ failed d → c ≡ d
fault_is c d e = cc

-- If `Err (Tag at)` equals `Err d`, `d` is Tag, Length or Field.
pub tag_inside : {A : Type 0} (at : ℕ) (d : DerFault) → failed {A = A} (Tag at) ≡ failed d → IsInside d
tag_inside at d e = subst IsInside (fault_is (Tag at) d e) tt

-- If `Err (Length at)` equals `Err d`, `d` is Tag, Length or Field.
pub length_inside : {A : Type 0} (at : ℕ) (d : DerFault) → failed {A = A} (Length at) ≡ failed d → IsInside d
length_inside at d e = subst IsInside (fault_is (Length at) d e) tt

-- If `Err (Field at)` equals `Err d`, `d` is Tag, Length or Field.
pub field_inside : {A : Type 0} (at : ℕ) (d : DerFault) → failed {A = A} (Field at) ≡ failed d → IsInside d
field_inside at d e = subst IsInside (fault_is (Field at) d e) tt

-- If `Err (Short m)` equals `Err (Short n)`, `m` equals `n`.
pub short_is : {A : Type 0} (m n : ℕ) → failed {A = A} (Short m) ≡ failed (Short n) → m ≡ n
short_is m n e = cc

-- `Short n` is never OutOfMemory.
pub short_or_memory : {A : Type 0} (n : ℕ) → failed {A = A} (Short n) ≡ failed OutOfMemory → ⊥
short_or_memory n e = cc
