-- `has_heard` holds of a message that would not change the record now. After a record takes all messages in order,
-- `has_heard` holds of each message that no later one reopens.
use Rattle.std.proofs.Common.{rules, arith, ◌≡◌, ℕ, zero, suc, ◌<◌, Bool, true, false, List, [], ◌∷◌, Some, refl, sym, subst}
use Rattle.std.specs.Prelude.{slice_get}
use Rattle.ill_values.specs.declared.apdu.Apdu.{Apdu}
use Rattle.ill_values.specs.Body.{Body}
use Rattle.ill_world.proofs.Uniqueness.{same_apdu}

-- `take r a` is the record `r` after it takes `a`.
module _ {R : Type 0} (take : R → Apdu → R) where
  -- Returns a record after it takes these APDUs, one after another.
  unfoldable pub taking : R → List Apdu → R
  taking r [] = r
  taking r (a ∷ apdus) = taking (take r a) apdus

  -- If each APDU keeps a fact of the record, all APDUs keep it.
  pub keeps_all : (P : R → Type 0) → ((r : R) (a : Apdu) → P r → P (take r a)) → (r : R) (apdus : List Apdu) → P r
      → P (taking r apdus)
  unfolding taking
  keeps_all P keeps r [] holds = holds
  keeps_all P keeps r (a ∷ apdus) holds = keeps_all P keeps (take r a) apdus (keeps r a holds)

  -- A record of which `Is` holds satisfies `Is` after each message too. If it takes a message of which `Of` holds,
  -- `has_heard` holds of this message at once. This stays so until a message is taken that reopens it.
  pub record Hears (Is : R → Type 0) (Of : Apdu → Type 0) (has_heard : R → ℕ → Body → Bool) (reopens : Body → Body → Bool) : Type
      0 where
    pub keeps : (r : R) (a : Apdu) → Is r → Is (take r a)
    pub takes : (r : R) (a : Apdu) → Is r → Of a → has_heard (take r a) a.number a.body ≡ true
    pub stays : (r : R) (a : Apdu) (number : ℕ) (body : Body) → reopens a.body body ≡ false → has_heard r number body ≡ true
        → has_heard (take r a) number body ≡ true

  -- `Hears` holds of `has_heard` and `reopens`, for records of `Is` and messages of `Of`.
  module _ (Is : R → Type 0) (Of : Apdu → Type 0) (has_heard : R → ℕ → Body → Bool) (reopens : Body → Body → Bool)
      (hears : Hears Is Of has_heard reopens) where
    -- If `has_heard` holds of a message, it holds after further messages, if none of them reopens it.
    stays_heard : (r : R) (apdus : List Apdu) (number : ℕ) (body : Body)
        → ((i : ℕ) (b : Apdu) → slice_get apdus i ≡ Some b → reopens b.body body ≡ false) → has_heard r number body ≡ true
        → has_heard (taking r apdus) number body ≡ true
    unfolding taking
    stays_heard r [] number body none heard = heard
    stays_heard r (b ∷ apdus) number body none heard =
        stays_heard (take r b) apdus number body (λ i c at. none (suc i) c at)
        (hears.stays r b number body (none zero b refl) heard)

    -- After a record takes all APDUs, `has_heard` holds of each that no later one reopens.
    pub heard_later : (r : R) (apdus : List Apdu) (i : ℕ) (a : Apdu) → Is r → slice_get apdus i ≡ Some a → Of a
        → ((j : ℕ) (b : Apdu) → slice_get apdus j ≡ Some b → i < j → reopens b.body a.body ≡ false)
        → has_heard (taking r apdus) a.number a.body ≡ true
    unfolding taking
    heard_later r [] i a is at of none = search rules
    heard_later r (b ∷ apdus) zero a is at of none =
        let same : b ≡ a = same_apdu b a at in
        stays_heard (take r b) apdus a.number a.body (λ j c there. none (suc j) c there (omega arith))
        (subst (λ c. has_heard (take r c) a.number a.body ≡ true) (sym same) (hears.takes r a is of))
    heard_later r (b ∷ apdus) (suc i) a is at of none =
        heard_later (take r b) apdus i a (hears.keeps r b is) at of
        (λ j c there later. none (suc j) c there (omega (arith, later)))
