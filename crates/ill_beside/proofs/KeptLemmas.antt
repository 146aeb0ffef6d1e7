-- Proves that the messages of a loan are among those with the key of the loan.
use Rattle.std.proofs.Common.{◌≡◌, ℕ, Bool, true, false, true≢false, not, ◌&&◌, if◌then◌else◌, List, [], ◌∷◌, ◌++◌}
use Rattle.std.proofs.Common.{Vec, Global, refl, sym, ap, ◌∙◌}
use Rattle.std.proofs.lemmas.Slice.Eq.{bytes_eq-Decides}
use Rattle.ill_values.specs.TxnId.{Qualifiers}
use Rattle.ill_values.specs.declared.apdu.Apdu.{Apdu}
use Rattle.ill_core.specs.Issued.{is_same_txn}
use Rattle.ill_record.proofs.Finding.{same_is}
use Rattle.ill_text.specs.Keys.{loan_key}
use Rattle.ill_beside.specs.Kept.{apdu_key, found_with, is_among, kept_of, looks_kept, with_new}
use Rattle.ill_beside.specs.Places.{ArePlaces, ByKey, has_key, looked_up, places_of}
use Rattle.ill_beside.proofs.PlacesLemmas.{kept_enough, uncounted}

-- If the key of `a` is not that of the loan `txn`, `a` is of another loan. So `kept` stays.
other_loan : (txn : Qualifiers) (kept : List Apdu) (a : Apdu) → has_key (loan_key txn) (apdu_key a) ≡ false
    → with_new txn kept a ≡ kept
other_loan txn kept a other = go (is_same_txn a.txn txn) refl
  where
    -- If both loans were the `same`, their keys would be equal.
    go : (same : Bool) → is_same_txn a.txn txn ≡ same → (if same && not (is_among kept a) then kept ++ a ∷ [] else kept) ≡ kept
    go true is =
        absurd (true≢false (sym ((bytes_eq-Decides (loan_key a.txn) (loan_key txn)).1 (ap loan_key (same_is a.txn txn is)))
        ∙ other))
    go false is = refl

-- Let `by_key` have the places of the messages `came`. Those at the places of the `key` of the loan `txn` are the
-- messages of the loan.
pub all_kept : (by_key : ByKey) (came : List Apdu) → ArePlaces apdu_key by_key came → (txn : Qualifiers)
    → (key : Vec ℕ Global) → key.items ≡ loan_key txn
    → looked_up (looks_kept txn) came [] (places_of by_key key) ≡ kept_of txn came
all_kept by_key came are txn key is =
    kept_enough apdu_key by_key came are key (looks_kept txn)
    (λ kept place a other. other_loan txn kept a (sym (ap (λ (k : List ℕ). has_key k (apdu_key a)) is) ∙ other)) []
    ∙ uncounted (found_with txn) 0 [] came
