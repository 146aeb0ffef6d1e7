-- Proves that a test of all parts of two APDUs is true if, and only if, the APDUs are equal.
use Rattle.std.proofs.Common.{◌≡◌, ℕ, Bool, ◌&&◌, nat_eq, IsTrue, ◌↔◌, eq-eqb, ap}
use Rattle.std.proofs.lemmas.Bool.{and_parts, and_from, eqb-true}
use Rattle.ill_values.specs.declared.apdu.Apdu.{Apdu}
use Rattle.ill_values.specs.Body.{Body}
use Rattle.ill_values.specs.TxnId.{Qualifiers}

-- If all parts of `a` and `b` are equal, `a` equals `b`.
same_parts : (a b : Apdu) → a.txn ≡ b.txn → a.number ≡ b.number → a.body ≡ b.body → a ≡ b
same_parts a b txn number body =
    let parts : (a.txn, a.number, a.body) ≡ (b.txn, b.number, b.body) = cc in
    ap (λ (p : Qualifiers × ℕ × Body). record { txn = p.0; number = p.1; body = p.2 }) parts

-- Let `same_txn` be true exactly for equal ids, and `same_body` exactly for equal bodies. Then the test of all parts is
-- true exactly for equal APDUs.
pub apdus_equal : (same_txn : Qualifiers → Qualifiers → Bool) (same_body : Body → Body → Bool)
    → ((a b : Qualifiers) → IsTrue (same_txn a b) ↔ (a ≡ b)) → ((a b : Body) → IsTrue (same_body a b) ↔ (a ≡ b))
    → (a b : Apdu) → IsTrue (same_txn a.txn b.txn && (nat_eq a.number b.number && same_body a.body b.body)) ↔ (a ≡ b)
apdus_equal same_txn same_body txns bodies a b = (
  λ h.
      let p = and_parts (same_txn a.txn b.txn) (nat_eq a.number b.number && same_body a.body b.body) h in
      let q = and_parts (nat_eq a.number b.number) (same_body a.body b.body) p.1 in
      same_parts a b ((txns a.txn b.txn).0 p.0) (eqb-true a.number b.number q.0) ((bodies a.body b.body).0 q.1),
  λ e. and_from (same_txn a.txn b.txn) (nat_eq a.number b.number && same_body a.body b.body)
      ((txns a.txn b.txn).1 (ap (λ (x : Apdu). x.txn) e))
      (and_from (nat_eq a.number b.number) (same_body a.body b.body) (eq-eqb a.number b.number (ap (λ (x : Apdu). x.number) e))
      ((bodies a.body b.body).1 (ap (λ (x : Apdu). x.body) e))),
)
