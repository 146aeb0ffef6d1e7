-- Proves that a stable sort by deadlines puts the most urgent loans first.
use Rattle.std.proofs.Common.{arith, ◌≡◌, Bool, true, false, List, map, is_none, Option, Some, None, Bor, refl, ap, subst, ◌∙◌}
use Rattle.std.proofs.Common.{is_lt}
use Rattle.std.proofs.lemmas.Bool.Decides.{nat_tests}
use Rattle.std.specs.Cmp.{IsStrictWeakOrder}
use Rattle.std.specs.List.Sorted.{IsSortedBy, IsStableBy}
use Rattle.std.specs.Ordering.{ordering_then, bool_cmp}
use Rattle.std.specs.Option.{option_cmp}
use Rattle.std.specs.declared.cmp.Ordering.{Ordering}
use Rattle.ill_values.specs.Day.{Date}
use Rattle.ill_core.specs.Dates.{is_before}
use Rattle.ill_record.specs.declared.side.Side.{Side}
use Rattle.ill_words.specs.Waiting.{deadline_of, is_sooner, is_more_urgent, most_urgent_first}
use Rattle.ill_words.proofs.OrderLemmas.{ordered_mapped, sorted_is_ordered}

-- If day `a` is before `b`, `b` is not before `a`.
before_one_way : (a b : Date) → is_before a b ≡ true → is_before b a ≡ false
before_one_way a b first = grind (arith, nat_tests)

-- If `a` is not before `b`, and `b` is not before `c`, then `a` is not before `c`.
before_chain : (a b c : Date) → is_before a b ≡ false → is_before b c ≡ false → is_before a c ≡ false
before_chain a b c first second = grind (arith, nat_tests)

-- If deadline `a` is sooner than `b`, `b` is not sooner than `a`.
sooner_one_way : (a b : Option Date) → is_sooner a b ≡ true → is_sooner b a ≡ false
sooner_one_way None b first = cc
sooner_one_way (Some a) None first = refl
sooner_one_way (Some a) (Some b) first = before_one_way a b first

-- If deadline `a` is not sooner than `b`, and `b` not sooner than `c`, `a` is not sooner than `c`.
sooner_chain : (a b c : Option Date) → is_sooner a b ≡ false → is_sooner b c ≡ false → is_sooner a c ≡ false
sooner_chain None b c first second = refl
sooner_chain (Some a) None c first second = cc
sooner_chain (Some a) (Some b) None first second = cc
sooner_chain (Some a) (Some b) (Some c) first second = before_chain a b c first second

-- `is_more_urgent` is a strict weak order of loans, by the two lemmas on deadlines.
urgency_order : IsStrictWeakOrder (λ (side other : Bor Side). is_more_urgent side.now other.now)
urgency_order = record {
  one_way = λ side other. sooner_one_way (deadline_of side.now) (deadline_of other.now);
  chain = λ side other third. sooner_chain (deadline_of side.now) (deadline_of other.now) (deadline_of third.now);
}

-- Returns true if the sort key of deadline `a` comes before that of `b`. `cmp` compares two days.
abbrev by_keys : (Date → Date → Ordering) → Option Date → Option Date → Bool
by_keys cmp a b = is_lt (ordering_then (bool_cmp (is_none a) (is_none b)) (option_cmp cmp a b))

-- If `cmp` compares days as `is_before` does, sort keys compare as their deadlines do.
by_keys_is : (cmp : Date → Date → Ordering) → ((a b : Date) → is_lt (cmp a b) ≡ is_before a b) → (a b : Option Date)
    → by_keys cmp a b ≡ is_sooner a b
by_keys_is cmp same None None = refl
by_keys_is cmp same None (Some b) = refl
by_keys_is cmp same (Some a) None = refl
by_keys_is cmp same (Some a) (Some b) = same a b

-- If `cmp` compares days as `is_before` does, a stable sort of `sides` by their keys gives `most_urgent_first`.
pub sorted_by_urgency : (cmp : Date → Date → Ordering) → ((a b : Date) → is_lt (cmp a b) ≡ is_before a b)
    → (sides sorted : List (Bor Side))
    → IsSortedBy (λ (side other : Bor Side). by_keys cmp (deadline_of side.now) (deadline_of other.now)) sorted
    → IsStableBy (λ (side other : Bor Side). by_keys cmp (deadline_of side.now) (deadline_of other.now)) sides sorted
    → map (λ (side : Bor Side). side.now) sorted ≡ most_urgent_first (map (λ (side : Bor Side). side.now) sides)
sorted_by_urgency cmp same sides sorted rises stays =
    let now : Bor Side → Side = λ side. side.now in
    ap (map now) (sorted_is_ordered (λ (side other : Bor Side). is_more_urgent side.now other.now) urgency_order sides sorted
    (subst (λ (lt : Bor Side → Bor Side → Bool). IsSortedBy lt sorted)
    (λ i side other. by_keys_is cmp same (deadline_of side.now) (deadline_of other.now) i) rises)
    (subst (λ (lt : Bor Side → Bor Side → Bool). IsStableBy lt sides sorted)
    (λ i side other. by_keys_is cmp same (deadline_of side.now) (deadline_of other.now) i) stays))
    ∙ ordered_mapped now is_more_urgent sides
