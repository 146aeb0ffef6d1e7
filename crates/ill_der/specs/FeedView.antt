-- The feed of the code: a buffer whose first bytes are held, and the fault that closed it. Also, the parts of a push.
use Rattle.std.specs.Prelude.{◌≡◌, ℕ, ◌+◌, ◌-◌, ◌<◌, ◌≤◌, min, List, [], ◌∷◌, ◌++◌, length, take, drop, Option, Some, None}
use Rattle.std.specs.Prelude.{Result, Ok, Err, OnOk}
use Rattle.std.specs.declared.alloc.AllocError.{AllocError}
use Rattle.ill_values.specs.declared.apdu.Apdu.{Apdu}
use Rattle.ill_der.specs.declared.fault.DerFault.{DerFault}
use Rattle.ill_der.specs.declared.fault.DerFault.TheVariants.{Short}
use Rattle.ill_der.specs.declared.feed.Collector.{Collector}
use Rattle.ill_der.specs.Stream.{IsUnfinished}
use Rattle.ill_der.specs.ShortForm.{apdu_at}
use Rattle.ill_der.specs.Feed.{Begins, FeedState}
use Rattle.ill_der.specs.Handling.{Handles, Handled, FailsIn, HandlesEach}

-- Returns the feed with these held bytes, or with the fault that closed it.
abbrev pub held_of : Option DerFault → List ℕ → FeedState
held_of None bytes = Ok bytes
held_of (Some fault) bytes = Err fault

-- Returns the fault if it closes a feed whose unread bytes have it. Returns `None` for Short, which closes no feed.
abbrev pub closing : DerFault → Option DerFault
closing (Short n) = None
closing fault = Some fault

-- The first `size` bytes of `buffer` are an unfinished APDU, and `size` is at most 358.
pub record Holds (size : ℕ) (buffer : List ℕ) : Type 0 where
  pub most : size ≤ 358
  pub unfinished : IsUnfinished (take size buffer)

-- `piece` was copied into a buffer of 359 bytes after its first `size` bytes, as far as there is room.
-- The first `filled` bytes of the buffer are then in use.
pub record Fills (old new : List ℕ) (size : ℕ) (piece : List ℕ) (filled : ℕ) : Type 0 where
  pub few : size ≤ 359
  pub room : length old ≡ 359
  pub count : filled ≡ min 359 (size + length piece)
  pub parts : take filled new ≡ take size old ++ take (filled - size) piece

-- The first APDU of `bytes` was handled and has `size` bytes, or handling it failed with `fault`. Or `bytes` begins
-- with no APDU and has `fault`. This led from the state `before` to the state `after`.
abbrev pub HandlesFirst : {S F : Type 0} → Handles S F → List ℕ → S → Result (Result ℕ DerFault) F → S → Type 0
HandlesFirst handles bytes before (Ok (Ok size)) after =
    (0 < size) × (size ≤ length bytes)
    × ((apdu : Apdu) × Begins bytes (apdu ∷ []) (drop size bytes) × handles before apdu (Ok tt) after)
HandlesFirst handles bytes before (Ok (Err fault)) after =
    (apdu_at bytes ≡ Err fault) × (after ≡ before)
HandlesFirst handles bytes before (Err fault) after =
    (apdu : Apdu) × (rest : List ℕ) × Begins bytes (apdu ∷ []) rest
    × handles before apdu (Err fault) after

-- The APDUs of `bytes` before the offset `at` were handled, and the rest has `fault`. Or the handling of an APDU of
-- `bytes` failed with `fault`. This led from the state `before` to the state `after`.
abbrev pub HandlesAll : {S F : Type 0} → Handles S F → List ℕ → S → Result (ℕ × DerFault) F → S → Type 0
HandlesAll handles bytes before (Ok (at, fault)) after =
    (at ≤ length bytes) × (apdu_at (drop at bytes) ≡ Err fault)
    × ((apdus : List Apdu) × Begins bytes apdus (drop at bytes) × Handled handles before apdus after)
HandlesAll handles bytes before (Err fault) after = FailsIn handles bytes before fault after

-- `bytes`, the rest of a piece after the APDU that the held bytes began, were handled as by an empty feed.
-- If handling failed, the feed `new` is `old`, the feed before `bytes` was handled.
abbrev pub HandlesRest : {S F : Type 0} → Handles S F → FeedState × S → List ℕ → Result (Option DerFault) F →
    FeedState × S → Type 0
HandlesRest handles (old, before) bytes (Ok fault) (new, after) =
    HandlesEach handles (Ok [], before) bytes (Ok fault) (new, after)
HandlesRest handles (old, before) bytes (Err fault) (new, after) =
    (new ≡ old) × FailsIn handles bytes before fault after

-- If the collector handles an APDU with success, the APDU is appended to its list.
abbrev pub CollectsApdu : Handles (Collector × Unit {0}) AllocError
CollectsApdu old apdu result new = OnOk result (new.0.apdus.items ≡ old.0.apdus.items ++ apdu ∷ [])
