-- A map has the messages that a desk has sent, by transaction. It agrees with the list of the model.
use Rattle.std.proofs.Common.{◌≡◌, ℕ, Bool, true, false, cond, List, [], ◌∷◌, ◌++◌, Option, Some, None, is_some, Result, Ok, Err}
use Rattle.std.proofs.Common.{OnOk, option_map, refl, sym, ap, ◌∙◌, true≢false}
use Rattle.std.specs.Map.{lookup, set_value}
use Rattle.std.proofs.lemmas.List.{map-append}
use Rattle.ill_values.specs.TxnId.{Qualifiers}
use Rattle.ill_values.specs.declared.apdu.Apdu.{Apdu}
use Rattle.ill_core.specs.Issued.{is_same_txn}
use Rattle.ill_record.specs.Sides.{found_by, put_by}
use Rattle.ill_saved.specs.ManySides.{found_or}
use Rattle.ill_record.proofs.Finding.{same_is, put_last, some_is}
use Rattle.ill_world.specs.World.{nothing_sent, sent_message, with_sent}
use Rattle.ill_world.specs.Desks.{Sending, txn_sent, sent_for, with_sent_for}
use Rattle.ill_world.specs.DeskRefinement.{sendings_of, BecomesAmong}
use Rattle.ill_world.proofs.Standings.{none_sent}

-- A map has these entries: the messages sent, by transaction.
abbrev Entries : Type 0
Entries = List (Qualifiers × List (Option Apdu))

-- If the list and the map agree on `txn` after their first entry `e`, they agree with `e` too. `same` tells if `e` is
-- of `txn`.
sent_first : (txn : Qualifiers) (e : Qualifiers × List (Option Apdu)) (found : Option Sending)
    (there : Option (List (Option Apdu))) (same : Bool)
    → (found_or {X = Sending} (record { txn = txn; sent = nothing_sent }) found).sent ≡ found_or nothing_sent there
    → (found_or {X = Sending} (record { txn = txn; sent = nothing_sent })
    (cond same (Some (record { txn = e.0; sent = e.1 })) found)).sent ≡ found_or nothing_sent (cond same (Some e.1) there)
sent_first txn e found there true further = refl
sent_first txn e found there false further = further

-- The messages sent in `txn` are the messages of its entry, or none if it has no entry.
pub sent_there : (txn : Qualifiers) (entries : Entries)
    → sent_for txn (sendings_of entries) ≡ found_or nothing_sent (lookup (is_same_txn txn) entries)
sent_there txn [] = refl
sent_there txn (e ∷ entries) = sent_first txn e (found_by txn_sent txn (sendings_of entries)) (lookup (is_same_txn txn) entries)
    (is_same_txn txn e.0) (sent_there txn entries)

-- Of 255 empty places none is a sent message.
pub nothing_there : (n : ℕ) → sent_message nothing_sent n ≡ None
nothing_there n = go (sent_message nothing_sent n) refl
  where
    -- `none_sent` excludes that a message is found.
    go : (found : Option Apdu) → sent_message nothing_sent n ≡ found → found ≡ None
    go None e = refl
    go (Some a) e = absurd (none_sent n a e)

-- If `set_value` and `put_by` agree after the first entry `e`, they agree with `e` before. `same` tells if `e` is of
-- `txn`.
set_first : (txn : Qualifiers) (new sent : List (Option Apdu)) (e : Qualifiers × List (Option Apdu))
    (found : Option (List (Option Apdu))) (entries set_on : Entries) (put_on : List Sending) (same : Bool)
    → is_same_txn txn e.0 ≡ same → cond same (Some e.1) found ≡ Some sent → (found ≡ Some sent → sendings_of set_on ≡ put_on)
    → sendings_of (cond same ((e.0, new) ∷ entries) (e ∷ set_on))
    ≡ cond same (record { txn = txn; sent = new } ∷ sendings_of entries) (record { txn = e.0; sent = e.1 } ∷ put_on)
set_first txn new sent e found entries set_on put_on true same there further =
    ap (λ t. record { txn = t; sent = new } ∷ sendings_of entries) (sym (same_is txn e.0 same))
set_first txn new sent e found entries set_on put_on false same there further =
    ap (λ all. record { txn = e.0; sent = e.1 } ∷ all) (further there)

-- If the map has an entry for `txn`, `set_value` changes the map as `put_by` changes the list.
set_there : (txn : Qualifiers) (new sent : List (Option Apdu)) (entries : Entries) → lookup (is_same_txn txn) entries ≡ Some sent
    → sendings_of (set_value (is_same_txn txn) entries new)
    ≡ put_by txn_sent (record { txn = txn; sent = new }) (sendings_of entries)
unfolding put_by
set_there txn new sent [] there = absurd (true≢false (sym (ap is_some there)))
set_there txn new sent (e ∷ entries) there =
    set_first txn new sent e (lookup (is_same_txn txn) entries) entries (set_value (is_same_txn txn) entries new)
    (put_by txn_sent (record { txn = txn; sent = new }) (sendings_of entries)) (is_same_txn txn e.0) refl there
    (set_there txn new sent entries)

-- If `txn` has an entry, and it is set with message n added, message n is sent in `txn`.
pub put_there : (txn : Qualifiers) (n : ℕ) (a : Apdu) (sent : List (Option Apdu)) (entries : Entries)
    → lookup (is_same_txn txn) entries ≡ Some sent
    → sendings_of (set_value (is_same_txn txn) entries (with_sent sent n a)) ≡ with_sent_for txn (sendings_of entries) n a
put_there txn n a sent entries there =
    set_there txn (with_sent sent n a) sent entries there
    ∙ ap (λ s. put_by txn_sent (record { txn = txn; sent = with_sent s n a }) (sendings_of entries))
    (sym (sent_there txn entries ∙ ap (found_or nothing_sent) there))

-- If neither the first entry nor the rest is of a transaction, no message of it is found.
none_first : (same : Bool) (here : List (Option Apdu)) (new : Sending) (there : Option (List (Option Apdu)))
    (found : Option Sending)
    → cond same (Some here) there ≡ None → (there ≡ None → found ≡ None)
    → cond same (Some new) found ≡ None
none_first true here new there found none further = absurd (true≢false (ap is_some none))
none_first false here new there found none further = further none

-- If the map has no entry of `txn`, no messages of `txn` are found.
none_found : (txn : Qualifiers) (entries : Entries) → lookup (is_same_txn txn) entries ≡ None
    → found_by txn_sent txn (sendings_of entries) ≡ None
none_found txn [] none = refl
none_found txn (e ∷ entries) none =
    none_first (is_same_txn txn e.0) e.1 (record { txn = e.0; sent = e.1 }) (lookup (is_same_txn txn) entries)
    (found_by txn_sent txn (sendings_of entries)) none (none_found txn entries)

-- If `txn` has no entry, and one with message n alone is added, message n is sent in `txn`.
pub put_new : (txn : Qualifiers) (n : ℕ) (a : Apdu) (entries : Entries) → lookup (is_same_txn txn) entries ≡ None
    → sendings_of (entries ++ (txn, with_sent nothing_sent n a) ∷ []) ≡ with_sent_for txn (sendings_of entries) n a
put_new txn n a entries none =
    let new : Sending = record { txn = txn; sent = with_sent nothing_sent n a } in
    map-append (λ e. record { txn = e.0; sent = e.1 }) entries ((txn, with_sent nothing_sent n a) ∷ [])
    ∙ sym (put_last txn_sent new (sendings_of entries) (none_found txn entries none))
    ∙ ap (λ s. put_by txn_sent (record { txn = txn; sent = with_sent s n a }) (sendings_of entries))
    (sym (sent_there txn entries ∙ ap (found_or nothing_sent) none))

-- ---- changes of a map

-- If the entry of `txn` becomes one with message n added, message n was sent in `txn`.
pub becomes_put : (txn : Qualifiers) (n : ℕ) (a : Apdu) (entries new : Entries) (found : Option (List (Option Apdu)))
    → lookup (is_same_txn txn) entries ≡ found
    → BecomesAmong txn entries (option_map (λ sent. with_sent sent n a) found) None a new
    → sendings_of new ≡ with_sent_for txn (sendings_of entries) n a
becomes_put txn n a entries new (Some sent) e becomes = ap sendings_of becomes.1 ∙ put_there txn n a sent entries e
becomes_put txn n a entries new None e becomes = absurd (true≢false (sym (ap is_some becomes.0)))

-- If `a` comes back, `txn` has no entry, and nothing has changed.
pub becomes_none : (txn : Qualifiers) (next : List (Option Apdu) → List (Option Apdu)) (a back : Apdu) (entries new : Entries)
    (found : Option (List (Option Apdu)))
    → BecomesAmong txn entries (option_map next found) (Some back) a new → (found ≡ None) × (a ≡ back) × (new ≡ entries)
becomes_none txn next a back entries new None becomes = (refl, sym (some_is back a becomes.0), becomes.1)
becomes_none txn next a back entries new (Some sent) becomes = absurd (true≢false (ap is_some becomes.0))

-- If `txn` has no entry, and one with message n alone was added, message n was sent in `txn`.
pub first_put : {F : Type 0} (txn key : Qualifiers) (n : ℕ) (a : Apdu) (value : List (Option Apdu)) (entries old new : Entries)
    (result : Result (Unit {0}) F)
    → lookup (is_same_txn txn) entries ≡ None → key ≡ txn
    → value ≡ with_sent nothing_sent n a → old ≡ entries → OnOk result (new ≡ old ++ (key, value) ∷ [])
    → OnOk result (sendings_of new ≡ with_sent_for txn (sendings_of entries) n a)
first_put txn key n a value entries old new (Ok done) none of is same put =
    ap sendings_of put ∙ ap (λ es. sendings_of (es ++ (key, value) ∷ [])) same
    ∙ ap (λ t. sendings_of (entries ++ (t, value) ∷ [])) of ∙ ap (λ v. sendings_of (entries ++ (txn, v) ∷ [])) is
    ∙ put_new txn n a entries none
first_put txn key n a value entries old new (Err fault) none of is same put = put
