-- Proves that a save of a desk shows each side with all messages released.
use Rattle.std.proofs.Common.{◌≡◌, Option, Some, None, option_map, refl, sym, ap, ◌∙◌}
use Rattle.ill_values.specs.TxnId.{Qualifiers}
use Rattle.ill_record.specs.declared.role.Role.{Role}
use Rattle.ill_record.specs.declared.role.Role.TheVariants as roles
use Rattle.ill_record.specs.declared.side.Side.{Side}
use Rattle.ill_record.specs.Side.{txn_of}
use Rattle.ill_saved.specs.Holdings.{DeskEntry, whole}
use Rattle.ill_record.specs.Sides.{found_by}
use Rattle.ill_saved.specs.ManySides.{DeskContents, found_or, idle_held, many_sides, txn_held}
use Rattle.ill_record.proofs.Finding.{found_mapped}
use Rattle.ill_desk.specs.Telling.{once_saved, shown_at, shown_in}

-- Returns the entry of a desk after a save.
abbrev whole_entry : DeskEntry → DeskEntry
whole_entry held = whole held.side

-- An idle side has issued nothing, so all of it is released.
idle_whole : (role : Role) (txn : Qualifiers) → once_saved (shown_in (idle_held role txn)) ≡ shown_in (idle_held role txn)
idle_whole roles.Requester txn = refl
idle_whole roles.Responder txn = refl

-- An entry that was found, or else an idle side, is shown with all messages released once it is saved.
shown_whole : (role : Role) (txn : Qualifiers) (found : Option DeskEntry)
    → once_saved (shown_in (found_or (idle_held role txn) found))
    ≡ shown_in (found_or (idle_held role txn) (option_map whole_entry found))
shown_whole role txn (Some held) = refl
shown_whole role txn None = idle_whole role txn

-- After a save the entry of `txn` is `whole_entry` of its entry before, if the desk holds one.
found_whole : (txn : Qualifiers) (live : DeskContents)
    → found_by txn_held txn (many_sides.saves live).held ≡ option_map whole_entry (found_by txn_held txn live.held)
found_whole txn live =
    found_mapped txn_of txn_held whole (λ side. refl) txn _
    ∙ ap (option_map whole) (found_mapped txn_held txn_of (λ (held : DeskEntry). held.side) (λ held. refl) txn live.held)
    ∙ twice (found_by txn_held txn live.held)
  where
    -- Mapping an entry to its side, and then by `whole`, equals mapping it by `whole_entry`.
    twice : (found : Option DeskEntry)
        → option_map whole (option_map (λ (held : DeskEntry). held.side) found) ≡ option_map whole_entry found
    twice (Some held) = refl
    twice None = refl

-- After a save a side is shown with all messages released.
pub shown_once_saved : (txn : Qualifiers) (live : DeskContents)
    → once_saved (shown_at many_sides txn live) ≡ shown_at many_sides txn (many_sides.saves live)
shown_once_saved txn live =
    shown_whole live.role txn (found_by txn_held txn live.held)
    ∙ ap (λ found. shown_in (found_or (idle_held live.role txn) found)) (sym (found_whole txn live))
