-- Proves which messages of a transaction leave a desk in an outbox: all of its side, in order, or none.
use Rattle.std.proofs.Common.{rules, ◌≡◌, ℕ, zero, suc, Bool, true, false, cond, if◌then◌else◌, List, [], ◌∷◌, ◌++◌, length, map}
use Rattle.std.proofs.Common.{take}
use Rattle.std.proofs.Common.{Option, Some, None, is_some, take_all, le_refl, append-nil}
use Rattle.std.proofs.Common.{refl, sym, ap, ◌∙◌, subst, true≢false}
use Rattle.std.proofs.lemmas.List.{map-append}
use Rattle.std.proofs.lemmas.List.Elements.{filter-append}
use Rattle.ill_values.specs.TxnId.{Qualifiers}
use Rattle.ill_values.specs.declared.apdu.Apdu.{Apdu}
use Rattle.ill_core.specs.Issued.{is_same_txn, message}
use Rattle.ill_record.specs.declared.role.Role.{Role}
use Rattle.ill_record.specs.declared.role.Role.TheVariants as who
use Rattle.ill_record.specs.declared.side.Side.{Side}
use Rattle.ill_record.specs.declared.side.Side.TheVariants as sides
use Rattle.ill_record.specs.Side.{idle_side, issued_of, txn_of}
use Rattle.ill_record.specs.Ranges.{Each}
use Rattle.ill_saved.specs.Holdings.{DeskEntry}
use Rattle.ill_saved.specs.ManySides.{DeskContents, found_by, found_or, held_for, idle_held, txn_held}
use Rattle.ill_record.proofs.Finding.{found_is, same_is}
use Rattle.ill_words.specs.Sending.{wants_sending}
use Rattle.ill_night.specs.Outbox.{Issue, is_asked, issues_of, leaving_desk, leaving_side, released_of}
use Rattle.ill_world.specs.World.{party}
use Rattle.ill_world.specs.Desks.{DeskParties}
use Rattle.ill_world.specs.DeskCounts.{AreApart, is_one_of}
use Rattle.ill_world.specs.DeskSafety.{DesksInvariant}
use Rattle.ill_world.specs.Invariant.{RequesterSideInvariant, ResponderSideInvariant}
use Rattle.ill_world.proofs.DeskArrivals.{idle_issues}
use Rattle.ill_world.proofs.DeskCounts.{has_found}
use Rattle.ill_world.proofs.Uniqueness.{message_number}
use Rattle.ill_runs.proofs.LeavingLemmas.{each_found}
use Rattle.ill_runs.proofs.Lists.{each_so, each_take}
use Rattle.ill_nights.specs.Messages.{messages_for, sent_by}

-- Returns the message of an issue.
abbrev apdu_of : Issue → Apdu
apdu_of issue = issue.apdu

-- The issues of a side have its messages.
issues_have : (side : Side) (apdus : List Apdu) → map apdu_of (issues_of side apdus) ≡ apdus
issues_have side [] = refl
issues_have side (a ∷ apdus) = ap (λ more. a ∷ more) (issues_have side apdus)

-- `P` holds of each message, if it holds of each by its number.
each_by_number : (P : Apdu → Type 0) (apdus : List Apdu) → ((n : ℕ) (a : Apdu) → message apdus n ≡ Some a → P a)
    → Each P apdus
unfolding Each
each_by_number P [] by = tt
each_by_number P (a ∷ apdus) by = (by 1 a refl, each_by_number P apdus (λ n b at. by (suc n) b (later n b at)))
  where
    -- Message n of `apdus` is message n + 1 after `a` is put before them.
    later : (n : ℕ) (b : Apdu) → message apdus n ≡ Some b → message (a ∷ apdus) (suc n) ≡ Some b
    later zero b at = search rules
    later (suc n) b at = at

module _ (txn : Qualifiers) where
  -- If each of `apdus` is of `txn` (`same` is true), `messages_for` returns all. If none is, it returns none.
  all_or_none : (same : Bool) (apdus : List Apdu) → Each (λ a. is_same_txn txn a.txn ≡ same) apdus
      → messages_for txn apdus ≡ (if same then apdus else [])
  unfolding Each
  all_or_none true [] each = refl
  all_or_none false [] each = refl
  all_or_none true (a ∷ apdus) each =
      ap (λ own. cond own (a ∷ messages_for txn apdus) (messages_for txn apdus)) each.0
      ∙ ap (λ more. a ∷ more) (all_or_none true apdus each.1)
  all_or_none false (a ∷ apdus) each =
      ap (λ own. cond own (a ∷ messages_for txn apdus) (messages_for txn apdus)) each.0 ∙ all_or_none false apdus each.1

  module _ (asking : List Apdu) where
    -- Returns the messages of a held side that leave in an outbox.
    abbrev leaving : DeskEntry → List Apdu
    leaving held = if wants_sending (is_asked asking (txn_of held.side)) held.side then released_of held else []

    -- Returns the messages of a side that leave in an outbox, if there is one.
    abbrev leaving_if : Option DeskEntry → List Apdu
    leaving_if None = []
    leaving_if (Some held) = leaving held

    -- The messages of a held side are of its transaction.
    abbrev IsOwn : DeskEntry → Type 0
    IsOwn held = Each (λ a. is_same_txn a.txn (txn_held held) ≡ true) (issued_of held.side)

    -- The messages of a held side leave as its issues.
    side_leaves : (held : DeskEntry) (wants : Bool)
        → map apdu_of (if wants then issues_of held.side (released_of held) else [])
        ≡ (if wants then released_of held else [])
    side_leaves held true = issues_have held.side (released_of held)
    side_leaves held false = refl

    -- If a held side is of `txn`, all of its messages that leave are of `txn`. If not, none is.
    own_or_none : (held : DeskEntry) (same : Bool) → is_same_txn txn (txn_held held) ≡ same → IsOwn held
        → messages_for txn (leaving held) ≡ (if same then leaving held else [])
    unfolding Each
    own_or_none held same is own =
        all_or_none same (leaving held) (wanted (wants_sending (is_asked asking (txn_of held.side)) held.side))
      where
        -- A message is of `txn` just if its side is.
        of_txn : (a : Apdu) → is_same_txn a.txn (txn_held held) ≡ true → is_same_txn txn a.txn ≡ same
        of_txn a its = ap (is_same_txn txn) (same_is a.txn (txn_held held) its) ∙ is

        -- The messages that leave are the first ones of the side, or none.
        wanted : (wants : Bool) → Each (λ a. is_same_txn txn a.txn ≡ same) (if wants then released_of held else [])
        wanted true = each_take (λ a. is_same_txn txn a.txn ≡ same) held.released (issued_of held.side)
            (each_so (λ a. is_same_txn a.txn (txn_held held) ≡ true) (λ a. is_same_txn txn a.txn ≡ same) (issued_of held.side)
            of_txn own)
        wanted false = tt

    -- The messages of `txn` that leave a desk are those of its side of `txn`.
    desk_leaves : (held : List DeskEntry) → AreApart (map txn_held held) → Each IsOwn held
        → messages_for txn (map apdu_of (leaving_desk asking held)) ≡ leaving_if (found_by txn_held txn held)
    unfolding Each
    desk_leaves [] apart own = refl
    desk_leaves (first ∷ held) apart own =
        let here : List Apdu = leaving first in
        ap (messages_for txn) (map-append apdu_of (leaving_side asking first) (leaving_desk asking held))
        ∙ filter-append (λ (a : Apdu). is_same_txn txn a.txn) (map apdu_of (leaving_side asking first))
        (map apdu_of (leaving_desk asking held))
        ∙ ap (λ apdus. messages_for txn apdus ++ messages_for txn (map apdu_of (leaving_desk asking held)))
        (side_leaves first (wants_sending (is_asked asking (txn_of first.side)) first.side))
        ∙ ap (λ apdus. messages_for txn here ++ apdus) (desk_leaves held apart.1 own.1)
        ∙ go (is_same_txn txn (txn_held first)) refl
      where
        -- If the first side is of `txn`, no later side is. So no message of `txn` leaves after those of the first side.
        none_again : is_same_txn txn (txn_held first) ≡ true → (found : Option DeskEntry)
            → found_by txn_held txn held ≡ found → leaving_if found ≡ []
        none_again same None is = refl
        none_again same (Some again) is =
            let there : is_one_of txn (map txn_held held) ≡ true = sym (has_found txn_held txn held) ∙ ap is_some is in
            absurd (true≢false (sym (subst (λ t. is_one_of t (map txn_held held) ≡ true)
            (same_is txn (txn_held first) same) there) ∙ apart.0))

        -- If `first` is of `txn`, its messages alone leave. If not, none of its messages is of `txn`.
        go : (same : Bool) → is_same_txn txn (txn_held first) ≡ same
            → messages_for txn (leaving first) ++ leaving_if (found_by txn_held txn held)
            ≡ leaving_if (cond same (Some first) (found_by txn_held txn held))
        go true same =
            ap (λ apdus. messages_for txn (leaving first) ++ apdus) (none_again same (found_by txn_held txn held) refl)
            ∙ append-nil (messages_for txn (leaving first)) ∙ own_or_none first true same own.0
        go false same =
            ap (λ apdus. apdus ++ leaving_if (found_by txn_held txn held)) (own_or_none first false same own.0)

  -- ---- the sides of a desk that satisfies its invariant

  -- The messages of a requester's side are of its transaction.
  requester_owns : (side : Side) (sent : List (Option Apdu)) → RequesterSideInvariant txn side sent
      → Each (λ a. is_same_txn a.txn txn ≡ true) (issued_of side)
  requester_owns (sides.Requester x) sent stands =
      each_by_number (λ a. is_same_txn a.txn txn ≡ true) x.issued (λ n a at.
      subst (λ t. is_same_txn a.txn t ≡ true) stands.same_txn
      (message_number x.txn x.issued n a stands.rules.numbered at).0)
  requester_owns (sides.Responder y) sent stands = absurd stands

  -- The messages of a responder's side are of its transaction.
  responder_owns : (side : Side) (sent : List (Option Apdu)) → ResponderSideInvariant txn side sent
      → Each (λ a. is_same_txn a.txn txn ≡ true) (issued_of side)
  responder_owns (sides.Responder y) sent stands =
      each_by_number (λ a. is_same_txn a.txn txn ≡ true) y.issued (λ n a at.
      subst (λ t. is_same_txn a.txn t ≡ true) stands.same_txn
      (message_number y.txn y.issued n a stands.rules.numbered at).0)
  responder_owns (sides.Requester x) sent stands = absurd stands

-- The messages of each side that a desk shows are of its transaction.
shown_owns : (w : DeskParties) (role : Role) → DesksInvariant w → (txn : Qualifiers)
    → Each (λ a. is_same_txn a.txn txn ≡ true) (issued_of (held_for txn (party w role).live).side)
shown_owns w who.Requester stands txn = requester_owns txn _ _ (stands.each txn).requester.live
shown_owns w who.Responder stands txn = responder_owns txn _ _ (stands.each txn).responder.live

-- No desk holds a transaction twice.
apart_at : (w : DeskParties) (role : Role) → DesksInvariant w → AreApart (map txn_held (party w role).live.held)
apart_at w who.Requester stands = stands.counts.0.0
apart_at w who.Responder stands = stands.counts.2.0

-- The messages of each side that a desk holds are of its transaction.
each_owns : (w : DeskParties) (role : Role) → DesksInvariant w
    → Each (λ (held : DeskEntry). Each (λ a. is_same_txn a.txn (txn_held held) ≡ true) (issued_of held.side))
    (party w role).live.held
each_owns w role stands =
    each_so (λ held. found_by txn_held (txn_held held) live.held ≡ Some held)
    (λ (held : DeskEntry). Each (λ a. is_same_txn a.txn (txn_held held) ≡ true) (issued_of held.side)) live.held
    (λ held found. subst (λ (h : DeskEntry). Each (λ a. is_same_txn a.txn (txn_held held) ≡ true) (issued_of h.side))
    (ap (found_or (idle_held live.role (txn_held held))) found) (shown_owns w role stands (txn_held held)))
    (each_found live.held (apart_at w role stands))
  where
    -- The sides that the desk holds live.
    live : DeskContents
    live = (party w role).live

-- If all messages of the side of `txn` are released, those that it sends leave: all, or none. `found` is its entry, if
-- the desk holds one.
released_leave : (txn : Qualifiers) (asking : List Apdu) (role : Role) (found : Option DeskEntry)
    → ((held : DeskEntry) → found ≡ Some held → txn ≡ txn_held held)
    → (found_or (idle_held role txn) found).released ≡ length (issued_of (found_or (idle_held role txn) found).side)
    → leaving_if txn asking found ≡ sent_by (is_asked asking txn) (found_or (idle_held role txn) found).side
released_leave txn asking role None is all =
    silent (wants_sending (is_asked asking txn) (idle_side role txn)) (issued_of (idle_side role txn)) (idle_issues role txn)
  where
    -- A side without messages sends none, wanted or not.
    silent : (wants : Bool) (issued : List Apdu) → issued ≡ [] → [] ≡ (if wants then issued else [])
    silent true issued none = sym none
    silent false issued none = refl
released_leave txn asking role (Some held) is all =
    ap (λ apdus. if wants_sending (is_asked asking (txn_of held.side)) held.side then apdus else [])
    (ap (λ count. take count (issued_of held.side)) all ∙ take_all (length (issued_of held.side)) (issued_of held.side)
    (le_refl (length (issued_of held.side))))
    ∙ ap (λ t. sent_by (is_asked asking t) held.side) (sym (is held refl))

-- If a desk has released all messages of its side of `txn`, those that the side sends leave: all, or none.
pub outbox_leaves : (w : DeskParties) (role : Role) → DesksInvariant w → (txn : Qualifiers) (asking : List Apdu)
    → (held_for txn (party w role).live).released ≡ length (issued_of (held_for txn (party w role).live).side)
    → messages_for txn (map apdu_of (leaving_desk asking (party w role).live.held))
    ≡ sent_by (is_asked asking txn) (held_for txn (party w role).live).side
outbox_leaves w role stands txn asking all =
    let live : DeskContents = (party w role).live in
    desk_leaves txn asking live.held (apart_at w role stands) (each_owns w role stands)
    ∙ released_leave txn asking live.role (found_by txn_held txn live.held)
    (λ held found. found_is txn_held txn live.held held found) all
