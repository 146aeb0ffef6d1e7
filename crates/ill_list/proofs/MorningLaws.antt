-- Proves which loans the list of a morning has.
use Rattle.std.proofs.Common.{◌≡◌, Bool, true, false, ◌&&◌, ◌||◌, List, Option, None, ap, refl, sym, ◌∙◌}
use Rattle.ill_values.specs.declared.apdu.Apdu.{Apdu}
use Rattle.ill_record.specs.declared.side.Side.{Side}
use Rattle.ill_list.specs.List.{is_listed, is_mine, is_of_list, is_to_do, is_wanted, lists, work_of}
use Rattle.ill_list.specs.ListedNews.{has_news}
use Rattle.ill_list.specs.declared.wanted.Wanted.{Wanted}
use Rattle.ill_list.specs.declared.wanted.Which.{Which}
use Rattle.ill_list.specs.declared.wanted.Which.TheVariants.{Mine}

-- `Mine`, the list of what wants a hand, has the loans that are to do or have news.
of_mine : (wanted : Wanted) (news : Option (List Apdu)) (side : Side) → wanted.which ≡ Mine
    → is_of_list wanted news side ≡ (is_to_do wanted side || has_news news side)
of_mine wanted news side is =
    ap (λ (which : Which). lists which (work_of wanted side) || (is_mine which && has_news news side)) is

-- If a loan has news, the list `Mine` has it exactly if it meets the conditions.
pub lists_news : (wanted : Wanted) (news : Option (List Apdu)) (side : Side) → wanted.which ≡ Mine → has_news news side ≡ true
    → is_listed wanted news side ≡ is_wanted wanted side
lists_news wanted news side is has =
    let either : (is_to_do wanted side || has_news news side) ≡ true = rw has (go (is_to_do wanted side)) in
    ap (λ (listed : Bool). listed && is_wanted wanted side) (of_mine wanted news side is ∙ either)
  where
    -- `work` is true if the loan is to do.
    go : (work : Bool) → (work || true) ≡ true
    go true = refl
    go false = refl

-- If a loan is to do, the list `Mine` has it exactly if it meets the conditions.
pub lists_work : (wanted : Wanted) (news : Option (List Apdu)) (side : Side) → wanted.which ≡ Mine → is_to_do wanted side ≡ true
    → is_listed wanted news side ≡ is_wanted wanted side
lists_work wanted news side is has =
    ap (λ listed. listed && is_wanted wanted side)
    (of_mine wanted news side is ∙ ap (λ work. work || has_news news side) has)

-- If a loan is not to do and has no news, the list `Mine` lacks it.
pub lists_no_other : (wanted : Wanted) (news : Option (List Apdu)) (side : Side) → wanted.which ≡ Mine
    → is_to_do wanted side ≡ false → has_news news side ≡ false → is_listed wanted news side ≡ false
lists_no_other wanted news side is work none =
    ap (λ listed. listed && is_wanted wanted side)
    (of_mine wanted news side is ∙ ap (λ work. work || has_news news side) work ∙ none)

-- Another list than `Mine` has a loan exactly if it has it without news.
pub others_stay : (wanted : Wanted) (news : Option (List Apdu)) (side : Side) → is_mine wanted.which ≡ false
    → is_listed wanted news side ≡ is_listed wanted None side
others_stay wanted news side other =
    let lists_it = lists wanted.which (work_of wanted side) in
    ap (λ mine. (lists_it || (mine && has_news news side)) && is_wanted wanted side) other
    ∙ sym (ap (λ mine. (lists_it || (mine && has_news None side)) && is_wanted wanted side) other)
