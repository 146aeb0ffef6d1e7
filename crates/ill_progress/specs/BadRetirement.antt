-- These are wrong outcomes of retiring events, and wrong shelves after them. Each case has its own fault. By the law
-- the definitions of a retirement exclude them all.
use Rattle.std.specs.Prelude.{◌≡◌, ◌⊎◌, ℕ, true, false, List, ◌∷◌, ◌++◌, length}
use Rattle.ill_values.specs.TxnId.{Qualifiers}
use Rattle.ill_record.specs.declared.role.Role.{Role}
use Rattle.ill_record.specs.declared.role.Role.TheVariants.{Requester, Responder}
use Rattle.ill_record.specs.declared.side.Side.{Side}
use Rattle.ill_record.specs.Side.{issued_of, other}
use Rattle.ill_saved.specs.ManySides.{held_for}
use Rattle.ill_words.specs.Sending.{is_over}
use Rattle.ill_world.specs.declared.event.DeskEvent.{DeskEvent}
use Rattle.ill_world.specs.declared.event.DeskEvent.TheVariants.{Send}
use Rattle.ill_world.specs.World.{party, who_of}
use Rattle.ill_world.specs.Desks.{DeskParties, plain, desk_restarts}
use Rattle.ill_world.specs.Shelves.{ShelfEvent, home, shelves_happen}
use Rattle.ill_progress.specs.Retirement.{MarkedShelves, has_mark, RetiringEvent, on_shelf, retire, RetiringOutcome, at_desk}
use Rattle.ill_progress.specs.Retirement.{no_desk}
use Rattle.ill_progress.specs.Retirement.{done, not_now}

-- The event sends a message.
abbrev pub IsSend : DeskEvent → Type 0
IsSend (Send who txn n) = Unit {0}
IsSend other = ⊥

-- Returns the event of shelves that sends message n of `txn`, given with the group `said`.
abbrev pub sends_on_shelf : List ℕ → Role → Qualifiers → ℕ → ShelfEvent
sends_on_shelf said who txn n = record { group = said; event = Send who txn n }

-- Returns the number of the last message that the responder has issued in `txn`.
abbrev pub last_number : Qualifiers → DeskParties → ℕ
last_number txn w = length (issued_of (held_for txn w.responder.live).side)

-- `all` has `side`.
abbrev pub Has : List Side → Side → Type 0
Has all side = (before : List Side) × (after : List Side) × (all ≡ before ++ side ∷ after)

-- After the event `outcome` is wrong, or the shelves `new` are.
pub data IsMishandled (w : MarkedShelves) (outcome : RetiringOutcome) (new : MarkedShelves) : RetiringEvent → Type 0 where
  -- The library has retired the group, and the event sends nothing. But the desks of the group change, or the event is
  -- told as one at a desk.
  changes_retired : (e : ShelfEvent) → has_mark w (who_of (plain e.event)) (home e) ≡ true → (IsSend e.event → ⊥) →
      (new.shelves (home e) ≡ w.shelves (home e) → ⊥) → IsMishandled w outcome new (on_shelf e)
  is_told_of_desk : (e : ShelfEvent) → has_mark w (who_of (plain e.event)) (home e) ≡ true → (IsSend e.event → ⊥) →
      (outcome ≡ no_desk → ⊥) → IsMishandled w outcome new (on_shelf e)
  -- A requester's library sends a message of a group that it has retired.
  requester_sends : (said : List ℕ) (txn : Qualifiers) (n : ℕ) → has_mark w Requester txn.group ≡ true →
      (new.shelves txn.group ≡ w.shelves txn.group → ⊥) →
      IsMishandled w outcome new (on_shelf (sends_on_shelf said Requester txn n))
  -- A responder's library has retired the group, and sends an earlier message than the last of a loan.
  sends_earlier : (said : List ℕ) (txn : Qualifiers) (n : ℕ) → has_mark w Responder txn.group ≡ true →
      (n ≡ last_number txn (w.shelves txn.group) → ⊥) → (new.shelves txn.group ≡ w.shelves txn.group → ⊥) →
      IsMishandled w outcome new (on_shelf (sends_on_shelf said Responder txn n))
  -- The last word of a loan is not sent as on shelves without marks.
  keeps_last_word : (said : List ℕ) (txn : Qualifiers) (n : ℕ) → n ≡ last_number txn (w.shelves txn.group) →
      (new.shelves ≡ (shelves_happen w.shelves (sends_on_shelf said Responder txn n)).1 → ⊥) →
      IsMishandled w outcome new (on_shelf (sends_on_shelf said Responder txn n))
  -- The library has not retired the group, and the event does not happen as on shelves without marks.
  stops_open : (e : ShelfEvent) → has_mark w (who_of (plain e.event)) (home e) ≡ false →
      (outcome ≡ at_desk (shelves_happen w.shelves e).0 → ⊥) ⊎ (new.shelves ≡ (shelves_happen w.shelves e).1 → ⊥) →
      IsMishandled w outcome new (on_shelf e)
  -- An event of shelves changes a mark.
  changes_mark : (e : ShelfEvent) → (new.marks ≡ w.marks → ⊥) → IsMishandled w outcome new (on_shelf e)
  -- A retirement of `group` changes the desks of `another` group, or its marks.
  changes_group : (who : Role) (group another : List ℕ) → (another ≡ group → ⊥) →
      (new.shelves another ≡ w.shelves another → ⊥) ⊎ (new.marks another ≡ w.marks another → ⊥) →
      IsMishandled w outcome new (retire who group)
  -- A retirement by `who` changes the other library's desk of the group, or its mark.
  changes_other : (who : Role) (group : List ℕ) →
      (party (new.shelves group) (other who) ≡ party (w.shelves group) (other who) → ⊥)
      ⊎ (has_mark new (other who) group ≡ has_mark w (other who) group → ⊥) → IsMishandled w outcome new (retire who group)
  -- A loan is committed that is not over. But the retirement is done, or changes something.
  retires_open : (who : Role) (group : List ℕ) (side : Side) → has_mark w who group ≡ false →
      Has (party (w.shelves group) who).committed.sides side → is_over side ≡ false →
      (outcome ≡ not_now → ⊥) ⊎ (new ≡ w → ⊥) → IsMishandled w outcome new (retire who group)
  -- All loans that are committed are over. But the outcome is not `done`, no mark is there, or the desk is not
  -- restarted.
  refuses_over : (who : Role) (group : List ℕ) → has_mark w who group ≡ false →
      ((side : Side) → Has (party (w.shelves group) who).committed.sides side → is_over side ≡ true) →
      (outcome ≡ done → ⊥) ⊎ (has_mark new who group ≡ false)
      ⊎ (party (new.shelves group) who ≡ desk_restarts (party (w.shelves group) who) → ⊥) →
      IsMishandled w outcome new (retire who group)
  -- A group is retired again, and this is refused, or changes something.
  retires_again : (who : Role) (group : List ℕ) → has_mark w who group ≡ true →
      (outcome ≡ done → ⊥) ⊎ (new ≡ w → ⊥) → IsMishandled w outcome new (retire who group)
