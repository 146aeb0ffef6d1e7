-- A party sends only messages that are committed (`SendsSaved`), and each event keeps this.
use Rattle.std.proofs.Common.{rules, arith, ◌≡◌, ◌⊎◌, inl, inr, ℕ, zero, suc, ◌+◌, ◌≤◌, Bool, true, false, nat_le, List, [], ◌∷◌}
use Rattle.std.proofs.Common.{◌++◌, length, Option, Some, None, refl, sym, ap, ◌∙◌, subst, append_assoc, append-nil}
use Rattle.std.proofs.Common.{length-append}
use Rattle.std.specs.Prelude.{slice_get}
use Rattle.std.specs.List.{slice_set}
use Rattle.std.specs.Option.{option_flatten}
use Rattle.std.proofs.lemmas.Bool.{leb-true}
use Rattle.ill_values.specs.declared.apdu.Apdu.{Apdu}
use Rattle.ill_core.specs.Issued.{message}
use Rattle.ill_record.specs.declared.side.Side.{Side}
use Rattle.ill_record.specs.Side.{issued_of, IsPrefix}
use Rattle.ill_world.specs.World.{Party, sent_message, with_sent, saves, fails_to_save, restarts, sends}
use Rattle.ill_world.specs.Invariant.{SendsSaved}

-- ---- lists

-- After `a` was put at place i, place j has `a` if j is i, or its old message.
put_there : (slots : List (Option Apdu)) (i j : ℕ) (a b : Apdu)
    → option_flatten (slice_get (slice_set slots i (Some a)) j) ≡ Some b
    → ((j ≡ i) × (b ≡ a)) ⊎ (option_flatten (slice_get slots j) ≡ Some b)
put_there [] i j a b e = inr e
put_there (slot ∷ slots) zero zero a b e = inl (refl, search rules)
put_there (slot ∷ slots) zero (suc j) a b e = inr e
put_there (slot ∷ slots) (suc i) zero a b e = inr e
put_there (slot ∷ slots) (suc i) (suc j) a b e =
    elim (put_there slots i j a b e) [ inl here ↦ inl (ap suc here.0, here.1) | inr before ↦ inr before ]

-- After `a` is put at place i, b stays at place j, if `a` is b when i is j.
still_there : (slots : List (Option Apdu)) (i j : ℕ) (a b : Apdu) → option_flatten (slice_get slots j) ≡ Some b
    → (j ≡ i → a ≡ b) → option_flatten (slice_get (slice_set slots i (Some a)) j) ≡ Some b
still_there [] i j a b e same = e
still_there (slot ∷ slots) zero zero a b e same = ap Some (same refl)
still_there (slot ∷ slots) zero (suc j) a b e same = e
still_there (slot ∷ slots) (suc i) zero a b e same = e
still_there (slot ∷ slots) (suc i) (suc j) a b e same = still_there slots i j a b e (λ at. same (ap suc at))

-- A list keeps its length when a place is set.
set_length : (slots : List (Option Apdu)) (i : ℕ) (o : Option Apdu) → length (slice_set slots i o) ≡ length slots
set_length [] i o = refl
set_length (slot ∷ slots) zero o = refl
set_length (slot ∷ slots) (suc i) o = ap suc (set_length slots i o)

-- A sent message leaves the number of places unchanged.
pub places_kept : (sent : List (Option Apdu)) (n : ℕ) (a : Apdu) → length (with_sent sent n a) ≡ length sent
places_kept sent zero a = refl
places_kept sent (suc n) a = set_length sent n (Some a)

-- If `prefix` has an APDU at index i, a longer list has it there too.
get_prefix : (prefix more : List Apdu) (i : ℕ) (a : Apdu) → slice_get prefix i ≡ Some a → slice_get (prefix ++ more) i ≡ Some a
get_prefix [] more i a e = search rules
get_prefix (b ∷ prefix) more zero a e = e
get_prefix (b ∷ prefix) more (suc i) a e = get_prefix prefix more i a e

-- If a list has an APDU at an index within its prefix, the prefix has it there too.
get_within : (prefix more : List Apdu) (i : ℕ) (a : Apdu) → i + 1 ≤ length prefix → slice_get (prefix ++ more) i ≡ Some a
    → slice_get prefix i ≡ Some a
get_within [] more i a less e = absurd (omega (arith, less))
get_within (b ∷ prefix) more zero a less e = e
get_within (b ∷ prefix) more (suc i) a less e = get_within prefix more i a (omega (arith, less)) e

-- Message n of a prefix is message n of the whole list.
pub prefix_message : (prefix apdus : List Apdu) (n : ℕ) (a : Apdu) → IsPrefix prefix apdus → message prefix n ≡ Some a
    → message apdus n ≡ Some a
prefix_message prefix apdus zero a is e = search rules
prefix_message prefix apdus (suc n) a is e = subst (λ l. slice_get l n ≡ Some a) (sym is.1) (get_prefix prefix is.0 n a e)

-- Message n of the whole list is message n of its prefix, if the prefix has n messages.
within_prefix : (prefix apdus : List Apdu) (n : ℕ) (a : Apdu) → IsPrefix prefix apdus → n ≤ length prefix
    → message apdus n ≡ Some a → message prefix n ≡ Some a
within_prefix prefix apdus zero a is few e = search rules
within_prefix prefix apdus (suc n) a is few e =
    get_within prefix is.0 n a (omega (arith, few)) (subst (λ l. slice_get l n ≡ Some a) is.1 e)

-- A prefix of a prefix of a list is a prefix of the list.
pub prefix_of_prefix : (a b c : List Apdu) → IsPrefix a b → IsPrefix b c → IsPrefix a c
prefix_of_prefix a b c first second =
    (first.0 ++ second.0, second.1 ∙ ap (λ l. l ++ second.0) first.1 ∙ append_assoc a first.0 second.0)

-- A list is a prefix of itself.
pub prefix_of_itself : (a : List Apdu) → IsPrefix a a
prefix_of_itself a = ([], sym (append-nil a))

-- A prefix is not longer than the list.
prefix_is_shorter : (a b : List Apdu) → IsPrefix a b → length a ≤ length b
prefix_is_shorter a b is = omega (arith, ap length is.1, length-append a is.0)

-- If `Some a` and `Some b` are equal, so are `a` and `b`.
some_is : (a b : Apdu) → ◌≡◌ {A = Option Apdu} (Some a) (Some b) → a ≡ b
some_is a b e = search rules

-- ---- a party

-- If the list of a new live side has the old list as a prefix, `SendsSaved` still holds.
pub live_grows : (p : Party) (new : Side) → IsPrefix (issued_of p.live) (issued_of new) → SendsSaved p
    → SendsSaved (record p { live = new })
live_grows p new grows saved = record {
  committed = saved.committed;
  prefix = prefix_of_prefix (issued_of p.committed) (issued_of p.live) (issued_of new) saved.prefix grows;
  released = saved.released;
  places = saved.places;
}

-- A save keeps `SendsSaved`.
pub saved_now : (p : Party) → SendsSaved p → SendsSaved (saves p)
saved_now p saved = record {
  committed = λ n a e. prefix_message (issued_of p.committed) (issued_of p.live) n a saved.prefix (saved.committed n a e);
  prefix = prefix_of_itself (issued_of p.live);
  released = omega arith;
  places = saved.places;
}

-- A failed save keeps `SendsSaved`.
pub saved_by_fault : (p : Party) (committed : Bool) → SendsSaved p → SendsSaved (fails_to_save p committed)
saved_by_fault p true saved = record {
  committed = λ n a e. prefix_message (issued_of p.committed) (issued_of p.live) n a saved.prefix (saved.committed n a e);
  prefix = prefix_of_itself (issued_of p.live);
  released = omega (arith, saved.released, prefix_is_shorter (issued_of p.committed) (issued_of p.live) saved.prefix);
  places = saved.places;
}
saved_by_fault p false saved = saved

-- A restart keeps `SendsSaved`.
pub saved_at_restart : (p : Party) → SendsSaved p → SendsSaved (restarts p)
saved_at_restart p saved = record {
  committed = saved.committed;
  prefix = prefix_of_itself (issued_of p.committed);
  released = omega arith;
  places =
      saved.places;
}

-- A message that is issued and released is committed.
sent_committed : (p : Party) (n : ℕ) (a : Apdu) → SendsSaved p → message (issued_of p.live) n ≡ Some a
    → nat_le n p.released ≡ true → message (issued_of p.committed) n ≡ Some a
sent_committed p n a saved is released =
    within_prefix (issued_of p.committed) (issued_of p.live) n a saved.prefix
    (omega (arith, leb-true n p.released released, saved.released)) is

-- After `a` was sent as message n, sent message m is `a` if m is n, or was sent before.
sent_with : (sent : List (Option Apdu)) (n m : ℕ) (a b : Apdu) → sent_message (with_sent sent n a) m ≡ Some b
    → ((m ≡ n) × (b ≡ a)) ⊎ (sent_message sent m ≡ Some b)
sent_with sent zero m a b e = inr e
sent_with sent (suc n) zero a b e = inr e
sent_with sent (suc n) (suc m) a b e =
    elim (put_there sent n m a b e) [ inl here ↦ inl (ap suc here.0, here.1) | inr before ↦ inr before ]

-- After `a` is sent under n, b stays sent under m, if `a` is b when n is m.
sent_still : (sent : List (Option Apdu)) (n m : ℕ) (a b : Apdu) → sent_message sent m ≡ Some b → (m ≡ n → a ≡ b)
    → sent_message (with_sent sent n a) m ≡ Some b
sent_still sent zero m a b e same = e
sent_still sent (suc n) zero a b e same = search rules
sent_still sent (suc n) (suc m) a b e same = still_there sent n m a b e (λ at. same (ap suc at))

-- A Send keeps `SendsSaved`.
pub saved_by_send : (p : Party) (n : ℕ) (found : Option Apdu) (released : Bool) → message (issued_of p.live) n ≡ found
    → nat_le n p.released ≡ released → SendsSaved p → SendsSaved (sends p n found released).1
saved_by_send p n None released is e saved = saved
saved_by_send p n (Some a) false is e saved = saved
saved_by_send p n (Some a) true is e saved = record {
  committed =
      λ m b was. elim (sent_with p.sent n m a b was) [
        | inl here ↦ subst (λ x. message (issued_of p.committed) m ≡ Some x) (sym here.1)
            (subst (λ k. message (issued_of p.committed) k ≡ Some a) (sym here.0) (sent_committed p n a saved is e))
        | inr before ↦ saved.committed m b before
      ];
  prefix = saved.prefix;
  released = saved.released;
  places = places_kept p.sent n a ∙ saved.places;
}

-- A Send leaves each sent message under its number.
pub sent_stays : (p : Party) (n : ℕ) (found : Option Apdu) (released : Bool) → message (issued_of p.live) n ≡ found
    → nat_le n p.released ≡ released → SendsSaved p → (m : ℕ) (b : Apdu) → sent_message p.sent m ≡ Some b
    → sent_message (sends p n found released).1.sent m ≡ Some b
sent_stays p n None released is e saved m b was = was
sent_stays p n (Some a) false is e saved m b was = was
sent_stays p n (Some a) true is e saved m b was =
    sent_still p.sent n m a b was (λ at.
    some_is a b (sym (sent_committed p n a saved is e) ∙ ap (message (issued_of p.committed)) (sym at) ∙ saved.committed m b was))
