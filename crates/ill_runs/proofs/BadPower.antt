-- Proves that no loss of power is a bad one, and that no desk starts badly after one.
use Rattle.std.proofs.Common.{◌≡◌, inl, inr, ℕ, List, Option, Some, None, Result, Ok, sym, ap, ◌∙◌, subst}
use Rattle.ill_values.specs.declared.apdu.Apdu.{Apdu}
use Rattle.ill_record.specs.declared.fault.RecordFault.{RecordFault}
use Rattle.ill_saved.specs.Holdings.{map_ok}
use Rattle.ill_record.specs.RecordsV2.{records_at}
use Rattle.ill_saved.specs.ManySides.{DeskContents, whole_of}
use Rattle.ill_world.specs.Desks.{DeskParty}
use Rattle.ill_runs.specs.Libraries.{Library}
use Rattle.ill_runs.specs.Power.{StartsAs}
use Rattle.ill_runs.specs.CutOff.{IsCutInSave}
use Rattle.ill_runs.specs.BadPower.{IsBadStart, nothing, unread, other_sides, not_whole}
use Rattle.ill_runs.specs.BadPower.{IsBadCut, third_record, others_left, elsewhere}
use Rattle.ill_runs.proofs.BadLibraries.{read_once, not_read}

-- If one record is there as `a` and as `b`, these are the same bytes.
one_file : (left : Option (List ℕ)) (a b : List ℕ) → left ≡ Some a → left ≡ Some b → a ≡ b
one_file left a b first second = let same : ◌≡◌ {A = Option (List ℕ)} (Some a) (Some b) = sym first ∙ second in cc

-- If a start from the record `left` as `q` is bad, no desk starts so.
pub none_starts_so : (left : Option (List ℕ)) (q : DeskParty) → IsBadStart left q → StartsAs left q → ⊥
none_starts_so left q (nothing none) starts =
    let same : ◌≡◌ {A = Option (List ℕ)} None (Some starts.file) = sym none ∙ starts.there in absurd cc
none_starts_so left q (unread file fault there fails) starts =
    not_read (records_at file) fault q.committed fails
    (subst (λ (bytes : List ℕ). records_at bytes ≡ Ok q.committed) (one_file left starts.file file starts.there there)
    starts.committed)
none_starts_so left q (other_sides file held there read differs) starts =
    differs (read_once (records_at file) q.committed held
    (subst (λ (bytes : List ℕ). records_at bytes ≡ Ok q.committed) (one_file left starts.file file starts.there there)
    starts.committed) read)
none_starts_so left q (not_whole differs) starts =
    let read : ◌≡◌ {A = Result DeskContents RecordFault} (Ok q.live) (Ok (whole_of q.committed)) =
    sym starts.live ∙ ap (map_ok whole_of) starts.committed in
    let same : q.live ≡ whole_of q.committed = cc in differs same

-- A command whose power goes in a save is not cut off badly.
pub none_cuts_so : (others : List Apdu) (before after : Library) (cut : IsCutInSave others before after) → IsBadCut cut → ⊥
none_cuts_so others before after cut (third_record not_old not_new) = elim cut.file [
  | inl old ↦ not_old old
  | inr new ↦ not_new new
]
none_cuts_so others before after cut (others_left differs) = differs cut.left
none_cuts_so others before after cut (elsewhere differs) = differs cut.starts.0
