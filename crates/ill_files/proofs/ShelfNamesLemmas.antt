-- Proves that the name of a desk tells its group, and decides which names are those of desks.
use Rattle.std.proofs.Common.{arith, ◌≡◌, ℕ, ◌-◌, ◌<◌, ◌++◌, Bool, true, false, true≢false, List, All, length, take, codes}
use Rattle.std.proofs.Common.{Result, Ok, Err, refl, ap, sym, subst, ◌∙◌}
use Rattle.std.specs.Prelude.{Decides, bytes_eq, is_ok}
use Rattle.std.specs.List.{list_all}
use Rattle.std.proofs.Math.Seq.{take-append_seam}
use Rattle.std.proofs.lemmas.List.{append_cancel_right, length-append}
use Rattle.std.proofs.lemmas.Slice.Eq.{bytes_eq-Decides}
use Rattle.std.proofs.lemmas.List.Sums.{AllPass-from_list_all}
use Rattle.std.proofs.lemmas.Bool.Decides.{nat_tests}
use Rattle.percent_encoding.proofs.PercentLemmas.{round_trip, IsByte}
use Rattle.percent_encoding.specs.Percent.{percent_decode, percent_encode}
use Rattle.ill_values.specs.Text.{IsQualifier, is_printable, qualifier_check}
use Rattle.ill_values.specs.declared.fault.TextFault.{TextFault}
use Rattle.ill_record.specs.declared.role.Role.{Role}
use Rattle.ill_record.specs.declared.role.Role.TheVariants.{Requester, Responder}
use Rattle.ill_files.specs.declared.shelf.TheConstants.{ESCAPED}
use Rattle.ill_files.specs.ShelfNames.{IsDeskName, desk_name, group_in}
use Rattle.ill_record.specs.Roles.{role_name}

-- A printable character is less than 256.
printable_is_byte : (b : ℕ) → is_printable b ≡ true → b < 256
printable_is_byte b printable = grind (arith, nat_tests)

-- All characters of a qualifier are printable.
qualifier_prints : (text : List ℕ) → IsQualifier text → list_all is_printable text ≡ true
qualifier_prints text is = grind (arith, nat_tests)

-- All characters of a qualifier are bytes.
qualifier_bytes : (text : List ℕ) → IsQualifier text → All IsByte text
qualifier_bytes text is k d within =
    printable_is_byte _ (AllPass-from_list_all is_printable text (qualifier_prints text is) k d within)

-- If the desks of two groups have equal names, the groups are equal.
pub own_desk : (role : Role) (one other : List ℕ) → IsQualifier one → IsQualifier other
    → desk_name role one ≡ desk_name role other → one ≡ other
own_desk role one other is_one is_other same =
    let encoded = append_cancel_right (percent_encode ESCAPED one) (percent_encode ESCAPED other) _ same in
    sym (round_trip ESCAPED one refl (qualifier_bytes one is_one)) ∙ ap percent_decode encoded
    ∙ round_trip ESCAPED other refl (qualifier_bytes other is_other)

-- Without its ending, a full stop and the role, the name of a desk has as many bytes as `stem`.
size_of_stem : (role : Role) (stem : List ℕ)
    → length (stem ++ (codes "." ++ role_name role)) - length (role_name role) - 1 ≡ length stem
size_of_stem Requester stem = omega (arith, length-append stem (codes ".requester"))
size_of_stem Responder stem = omega (arith, length-append stem (codes ".responder"))

-- `group_in` returns `group` of the name of its desk.
group_in_name : (role : Role) (group : List ℕ) → IsQualifier group → group_in role (desk_name role group) ≡ group
group_in_name role group is =
    let stem = percent_encode ESCAPED group in
    let ending = codes "." ++ role_name role in
    ap (λ (size : ℕ). percent_decode (take size (stem ++ ending))) (size_of_stem role stem)
    ∙ ap percent_decode (take-append_seam stem ending) ∙ round_trip ESCAPED group refl (qualifier_bytes group is)

-- If `name` is that of a desk, `group_in` finds a qualifier in it, and `name` is that of this group's desk.
desk_of_group_in : (role : Role) (name : List ℕ) → IsDeskName role name
    → IsQualifier (group_in role name) × name ≡ desk_name role (group_in role name)
desk_of_group_in role name (group, is, named) =
    let same : group_in role name ≡ group = ap (group_in role) named ∙ group_in_name role group is in
    (subst IsQualifier (sym same) is, named ∙ ap (desk_name role) (sym same))

-- A check that is Ok is `Ok tt`.
checked_ok : (checked : Result (Unit {0}) TextFault) → is_ok checked ≡ true → checked ≡ Ok tt
checked_ok (Ok done) is = refl
checked_ok (Err fault) is = absurd (true≢false (sym is))

-- If the group in `name` is a qualifier, `met` decides whether `name` is that of a desk. `met` is true if `name` is the
-- name of the desk of that group.
pub desk_decided : (role : Role) (name group : List ℕ) (met : Bool) → group ≡ group_in role name
    → is_ok (qualifier_check group) ≡ true → met ≡ bytes_eq (desk_name role group) name → Decides met (IsDeskName role name)
desk_decided role name group met same is eq =
    let decides = bytes_eq-Decides (desk_name role group) name in (
      λ yes. (group, checked_ok (qualifier_check group) is, sym (decides.0 (sym eq ∙ yes))),
      λ desk. eq ∙ decides.1 (ap (desk_name role) same ∙ sym (desk_of_group_in role name desk).1),
    )

-- If the group in `name` is no qualifier, `name` is that of no desk.
pub no_desk : (role : Role) (name group : List ℕ) → group ≡ group_in role name → is_ok (qualifier_check group) ≡ false
    → Decides false (IsDeskName role name)
no_desk role name group same not_so = (
  λ yes. absurd (true≢false (sym yes)),
  λ desk. sym not_so ∙ ap (λ (group : List ℕ). is_ok (qualifier_check group)) same ∙ ap is_ok (desk_of_group_in role name desk).0,
)
