-- Lists of items that have a transaction each: searching an item by its transaction, and putting one in its place.
use Rattle.std.proofs.Common.{rules, ◌≡◌, ◌+◌, nat_lt, length, map, Bool, true, false, not, cond, List, [], ◌∷◌, ◌++◌, Option}
use Rattle.std.proofs.Common.{Some, None, is_some, refl, ap, sym, subst, ◌∙◌, true≢false}
use Rattle.std.specs.Prelude.{option_map, position}
use Rattle.std.specs.List.{list_all, position_or_len}
use Rattle.std.proofs.lemmas.List.{length-map}
use Rattle.std.proofs.lemmas.Bool.{and_parts, and_from}
use Rattle.std.proofs.lemmas.Slice.Eq.{bytes_eq-Decides}
use Rattle.ill_values.specs.TxnId.{Qualifiers}
use Rattle.ill_core.specs.Issued.{is_same_txn}
use Rattle.ill_record.specs.Sides.{found_by, put_by}

-- If the test of two transactions is true, they are equal.
pub same_is : (a b : Qualifiers) → is_same_txn a b ≡ true → a ≡ b
same_is a b same =
    let parts = and_parts _ _ same in
    let group : a.group ≡ b.group = (bytes_eq-Decides a.group b.group).0 parts.0 in
    let transaction : a.transaction ≡ b.transaction = (bytes_eq-Decides a.transaction b.transaction).0 parts.1 in
    λ i. record { group = group i; transaction = transaction i }

-- If transaction `a` is not `b`, then `b` is not `a`.
pub apart_back : (a b : Qualifiers) → is_same_txn a b ≡ false → is_same_txn b a ≡ false
apart_back a b apart = by (is_same_txn b a) refl
  where
    -- For either answer `same` of the test of `b` and `a`, it is false. If it were true, `b` would be `a`.
    by : (same : Bool) → is_same_txn b a ≡ same → same ≡ false
    by true same =
        let is : b ≡ a = same_is b a same in
        absurd (true≢false (sym (subst (λ t. is_same_txn a t ≡ true) (sym is) (subst (λ t. is_same_txn t a ≡ true) is same))
        ∙ apart))
    by false same = refl

-- Each transaction passes the test with itself.
pub same_self : (a : Qualifiers) → is_same_txn a a ≡ true
same_self a = and_from _ _ ((bytes_eq-Decides a.group a.group).1 refl) ((bytes_eq-Decides a.transaction a.transaction).1 refl)

-- If two tests are never both true, a search gives equal results for both orders of them.
each_found : {X : Type 0} (a b : Bool) (x new : X) (found : Option X) → (a ≡ true → b ≡ false)
    → cond a (Some x) (cond b (Some new) found) ≡ cond b (Some new) (cond a (Some x) found)
each_found true true x new found apart = absurd (true≢false (apart refl))
each_found true false x new found apart = refl
each_found false b x new found apart = refl

-- If one test decides on `x` and on `new`, a search that tries `new` first never finds `x`.
hidden : {X : Type 0} (b : Bool) (x new : X) (found : Option X)
    → cond b (Some new) found ≡ cond b (Some new) (cond b (Some x) found)
hidden true x new found = refl
hidden false x new found = refl

-- If `not b` is true, `b` is false.
pub not_true : (b : Bool) → not b ≡ true → b ≡ false
not_true b h = search rules

-- If `Some x` is `Some y`, then `x` is `y`.
pub some_is : {X : Type 0} (x y : X) → ◌≡◌ {A = Option X} (Some x) (Some y) → x ≡ y
some_is x y e = search rules

-- Below, `key` gives the transaction of an item. In a lemma on `item` before other items, `same` is true if a search or
-- a put stops at `item`. There `further` is the lemma for the other items.
module _ {X : Type 0} (key : X → Qualifiers) where
  -- If `found_is` holds for the other items, it holds with `item` before them.
  first_is : (txn : Qualifiers) (item x : X) (found : Option X) (same : Bool) → is_same_txn txn (key item) ≡ same
      → cond same (Some item) found ≡ Some x → (found ≡ Some x → txn ≡ key x) → txn ≡ key x
  first_is txn item x found true same e further = same_is txn (key item) same ∙ ap key (some_is item x e)
  first_is txn item x found false same e further = further e

  -- An item that is found for `txn` is of `txn`.
  pub found_is : (txn : Qualifiers) (items : List X) (x : X) → found_by key txn items ≡ Some x → txn ≡ key x
  found_is txn [] x found = absurd (true≢false (sym (ap is_some found)))
  found_is txn (item ∷ items) x found =
      first_is txn item x (found_by key txn items) (is_same_txn txn (key item)) refl found (found_is txn items x)

  -- If `found_put` holds for the other items, it holds with `item` before them.
  put_here : (txn : Qualifiers) (new item : X) (items : List X) (same : Bool) → is_same_txn (key new) (key item) ≡ same
      → found_by key txn (put_by key new items) ≡ cond (is_same_txn txn (key new)) (Some new) (found_by key txn items)
      → found_by key txn (cond same (new ∷ items) (item ∷ put_by key new items))
      ≡ cond (is_same_txn txn (key new)) (Some new) (cond (is_same_txn txn (key item)) (Some item) (found_by key txn items))
  put_here txn new item items true same further =
      hidden (is_same_txn txn (key new)) item new (found_by key txn items)
      ∙ ap (λ k. cond (is_same_txn txn (key new)) (Some new) (cond (is_same_txn txn k) (Some item) (found_by key txn items)))
      (same_is (key new) (key item) same)
  put_here txn new item items false same further =
      ap (λ o. cond (is_same_txn txn (key item)) (Some item) o) further
      ∙ each_found (is_same_txn txn (key item)) (is_same_txn txn (key new)) item new (found_by key txn items)
      (λ here. apart_back (key new) txn (subst (λ k. is_same_txn (key new) k ≡ false) (sym (same_is txn (key item) here)) same))

  -- After `new` is put, a search gives `new` for its transaction. For any other, it gives the item that it gave before.
  pub found_put : (txn : Qualifiers) (new : X) (items : List X)
      → found_by key txn (put_by key new items) ≡ cond (is_same_txn txn (key new)) (Some new) (found_by key txn items)
  unfolding put_by
  found_put txn new [] = refl
  found_put txn new (item ∷ items) = put_here txn new item items (is_same_txn (key new) (key item)) refl (found_put txn new items)

  -- If `found_passes` holds for the other items, it holds with `item` before them.
  passes_first : (test : X → Bool) (item x : X) (rest : Option X) (same : Bool) → cond same (Some item) rest ≡ Some x
      → test item ≡ true → (rest ≡ Some x → test x ≡ true) → test x ≡ true
  passes_first test item x rest true found passes further = ap test (sym (some_is item x found)) ∙ passes
  passes_first test item x rest false found passes further = further found

  -- If all items pass a test, an item that is found passes it.
  pub found_passes : (test : X → Bool) (txn : Qualifiers) (items : List X) (x : X) → list_all test items ≡ true
      → found_by key txn items ≡ Some x → test x ≡ true
  found_passes test txn [] x all found = absurd (true≢false (sym (ap is_some found)))
  found_passes test txn (item ∷ items) x all found =
      let parts = and_parts _ _ all in
      passes_first test item x (found_by key txn items) (is_same_txn txn (key item)) found parts.0
      (found_passes test txn items x parts.1)

  -- If `put_last` holds for the other items, it holds with `item` before them.
  last_put : (new item : X) (items : List X) (same : Bool) → cond same (Some item) (found_by key (key new) items) ≡ None
      → (found_by key (key new) items ≡ None → put_by key new items ≡ items ++ new ∷ [])
      → cond same (new ∷ items) (item ∷ put_by key new items) ≡ item ∷ (items ++ new ∷ [])
  last_put new item items true none further = absurd (true≢false (ap is_some none))
  last_put new item items false none further = ap (λ xs. item ∷ xs) (further none)

  -- If no item is of the transaction of `new`, `new` is put after all items.
  pub put_last : (new : X) (items : List X) → found_by key (key new) items ≡ None → put_by key new items ≡ items ++ new ∷ []
  unfolding put_by
  put_last new [] none = refl
  put_last new (item ∷ items) none = last_put new item items (is_same_txn (key new) (key item)) none (put_last new items)

  -- If `put_again` holds for the other items, it holds with `item` before them.
  same_put : (x item : X) (items : List X) (same : Bool) → cond same (Some item) (found_by key (key x) items) ≡ Some x
      → (found_by key (key x) items ≡ Some x → put_by key x items ≡ items)
      → cond same (x ∷ items) (item ∷ put_by key x items) ≡ item ∷ items
  same_put x item items true found further = ap (λ y. y ∷ items) (sym (some_is item x found))
  same_put x item items false found further = ap (λ xs. item ∷ xs) (further found)

  -- Putting an item that is found changes nothing.
  pub put_again : (x : X) (items : List X) → found_by key (key x) items ≡ Some x → put_by key x items ≡ items
  unfolding put_by
  put_again x [] found = absurd (true≢false (sym (ap is_some found)))
  put_again x (item ∷ items) found = same_put x item items (is_same_txn (key x) (key item)) found (put_again x items)

  -- If `put_passes` holds for the other items, it holds with `item` before them.
  all_put : (test : X → Bool) (new item : X) (items : List X) (same : Bool) → test new ≡ true
      → list_all test (item ∷ items) ≡ true
      → (list_all test items ≡ true → list_all test (put_by key new items) ≡ true)
      → list_all test (cond same (new ∷ items) (item ∷ put_by key new items)) ≡ true
  all_put test new item items true passes all further = and_from _ _ passes (and_parts _ _ all).1
  all_put test new item items false passes all further = and_from _ _ (and_parts _ _ all).0 (further (and_parts _ _ all).1)

  -- If all items and `new` pass a test, all items pass it after `new` is put.
  pub put_passes : (test : X → Bool) (new : X) (items : List X) → test new ≡ true → list_all test items ≡ true
      → list_all test (put_by key new items) ≡ true
  unfolding put_by
  put_passes test new [] passes all = and_from _ _ passes refl
  put_passes test new (item ∷ items) passes all =
      all_put test new item items (is_same_txn (key new) (key item)) passes all (put_passes test new items passes)

  -- If `keys_put` holds for the other items, it holds with `item` before them.
  keys_here : (new item x : X) (items : List X) (same : Bool) → is_same_txn (key new) (key item) ≡ same
      → cond same (Some item) (found_by key (key new) items) ≡ Some x
      → (found_by key (key new) items ≡ Some x → map key (put_by key new items) ≡ map key items)
      → map key (cond same (new ∷ items) (item ∷ put_by key new items)) ≡ key item ∷ map key items
  keys_here new item x items true same found further = ap (λ k. k ∷ map key items) (same_is (key new) (key item) same)
  keys_here new item x items false same found further = ap (λ ks. key item ∷ ks) (further found)

  -- If an item of the transaction of `new` is found, putting `new` keeps the list of transactions.
  pub keys_put : (new x : X) (items : List X) → found_by key (key new) items ≡ Some x
      → map key (put_by key new items) ≡ map key items
  unfolding put_by
  keys_put new x [] found = absurd (true≢false (sym (ap is_some found)))
  keys_put new x (item ∷ items) found =
      keys_here new item x items (is_same_txn (key new) (key item)) refl found (keys_put new x items)

  -- If an item of the transaction of `new` is found, putting `new` keeps the length of the list.
  pub put_length : (new x : X) (items : List X) → found_by key (key new) items ≡ Some x
      → length (put_by key new items) ≡ length items
  put_length new x items found = sym (length-map (put_by key new items) key) ∙ ap length (keys_put new x items found)
      ∙ length-map items key

-- Below, `of_x` and `of_y` give the transaction of an item, and `f` keeps it (premise `keeps`).
module _ {X Y : Type 0} (of_x : X → Qualifiers) (of_y : Y → Qualifiers) (f : X → Y) (keeps : (x : X) → of_y (f x) ≡ of_x x) where
  -- Mapping commutes with a search whose first item is `x`.
  mapped_first : (txn : Qualifiers) (x : X) (rest : Option X) (same : Bool)
      → cond same (Some (f x)) (option_map f rest) ≡ option_map f (cond same (Some x) rest)
  mapped_first txn x rest true = refl
  mapped_first txn x rest false = refl

  -- A search among the mapped items gives the mapped result of the search.
  pub found_mapped : (txn : Qualifiers) (xs : List X) → found_by of_y txn (map f xs) ≡ option_map f (found_by of_x txn xs)
  found_mapped txn [] = refl
  found_mapped txn (x ∷ xs) =
      ap (λ t. cond (is_same_txn txn t) (Some (f x)) (found_by of_y txn (map f xs))) (keeps x)
      ∙ ap (λ o. cond (is_same_txn txn (of_x x)) (Some (f x)) o) (found_mapped txn xs)
      ∙ mapped_first txn x (found_by of_x txn xs) (is_same_txn txn (of_x x))

  -- If `put_mapped` holds for the other items, it holds with `x` before them.
  put_first : (new x : X) (xs : List X) (same : Bool) → map f (put_by of_x new xs) ≡ put_by of_y (f new) (map f xs)
      → map f (cond same (new ∷ xs) (x ∷ put_by of_x new xs))
      ≡ cond same (f new ∷ map f xs) (f x ∷ put_by of_y (f new) (map f xs))
  put_first new x xs true further = refl
  put_first new x xs false further = ap (λ ys. f x ∷ ys) further

  -- Mapping after putting `new` is putting the mapped `new` among the mapped items.
  pub put_mapped : (new : X) (xs : List X) → map f (put_by of_x new xs) ≡ put_by of_y (f new) (map f xs)
  unfolding put_by
  put_mapped new [] = refl
  put_mapped new (x ∷ xs) =
      put_first new x xs (is_same_txn (of_x new) (of_x x)) (put_mapped new xs)
      ∙ ap (λ t. cond (is_same_txn t (of_x x)) (f new ∷ map f xs) (f x ∷ put_by of_y (f new) (map f xs))) (sym (keeps new))
      ∙ ap (λ t. cond (is_same_txn (of_y (f new)) t) (f new ∷ map f xs) (f x ∷ put_by of_y (f new) (map f xs))) (sym (keeps x))

-- The number of mapped items before the first that passes is the number of items before the first whose image passes.
prefix_mapped : {X Y : Type 0} (test : Y → Bool) (f : X → Y) (xs : List X)
    → position_or_len test (map f xs) ≡ position_or_len (λ x. test (f x)) xs
prefix_mapped test f [] = refl
prefix_mapped test f (x ∷ xs) = ap (λ n. cond (not (test (f x))) (1 + n) 0) (prefix_mapped test f xs)

-- The position of the first mapped item that passes is the position of the first item whose image passes.
pub position_mapped : {X Y : Type 0} (test : Y → Bool) (f : X → Y) (xs : List X)
    → position test (map f xs) ≡ position (λ x. test (f x)) xs
position_mapped test f xs =
    ap (λ n. cond (nat_lt n (length (map f xs))) (Some n) None) (prefix_mapped test f xs)
    ∙ ap (λ n. cond (nat_lt (position_or_len (λ x. test (f x)) xs) n) (Some (position_or_len (λ x. test (f x)) xs)) None)
    (length-map xs f)
