-- Bytes that come in pieces, and the APDUs in them.
use Rattle.std.specs.Prelude.{◌≡◌, ℕ, ◌==◌, if◌then◌else◌, List, [], ◌∷◌, ◌++◌, length, Option, Some, None, Result, Ok, Err}
use Rattle.std.specs.List.{flat_map, AllByRecursion}
use Rattle.std.specs.declared.alloc.AllocError.{AllocError}
use Rattle.ill_values.specs.declared.apdu.Apdu.{Apdu}
use Rattle.ill_values.specs.Apdu.{IsApdu}
use Rattle.ill_der.specs.declared.fault.DerFault.{DerFault}
use Rattle.ill_der.specs.declared.fault.DerFault.TheVariants.{Short}
use Rattle.ill_der.specs.declared.feed.Pushed.{Pushed}
use Rattle.ill_der.specs.ShortForm.{encoding, apdu_at}
use Rattle.ill_der.specs.Stream.{IsUnfinished, IfShort}

-- `bytes` is the encodings of `apdus`, one after another, followed by `rest`. Each APDU is in range.
pub record Begins (bytes : List ℕ) (apdus : List Apdu) (rest : List ℕ) : Type 0 where
  pub encoded : AllByRecursion IsApdu apdus
  pub parts : bytes ≡ flat_map encoding apdus ++ rest

-- The state of a feed: the bytes that it holds if it is open, or the fault that closed it.
abbrev pub FeedState : Type 0
FeedState = Result (List ℕ) DerFault

-- If the bytes `rest` are left after the APDUs of a push, the push leaves this feed.
-- The feed is open and holds an unfinished `rest`, or a fault of `rest` other than Short closed it.
abbrev pub Leaves : List ℕ → FeedState → Type 0
Leaves rest (Ok held) = (held ≡ rest) × IsUnfinished rest
Leaves rest (Err fault) = (apdu_at rest ≡ Err fault) × IfShort fault ⊥

-- A push of `piece` gives `apdus` and leaves the feed `new`.
-- The bytes of an open feed and of `piece` begin with `apdus`, and the rest after these leaves `new`.
-- A closed feed gives no APDU and stays closed.
abbrev pub Feeds : FeedState → List ℕ → List Apdu → FeedState → Type 0
Feeds (Ok held) piece apdus new =
    (rest : List ℕ) × Begins (held ++ piece) apdus rest × Leaves rest new
Feeds (Err fault) piece apdus new = (apdus ≡ []) × (new ≡ Err fault)

-- Returns the fault that closed a feed, if one did.
abbrev pub fault_of : FeedState → Option DerFault
fault_of (Ok held) = None
fault_of (Err fault) = Some fault

-- The feed is open, and the bytes that it holds, followed by `piece`, begin with an APDU.
abbrev pub HasApdu : FeedState → List ℕ → Type 0
HasApdu (Ok held) piece = (apdu : Apdu) × (rest : List ℕ) × Begins (held ++ piece) (apdu ∷ []) rest
HasApdu (Err fault) piece = ⊥

-- A push returns its APDUs and the fault that closed the feed, if one did, and leaves the feed `new`.
-- Memory runs out only if the held bytes and `piece` begin with an APDU. The feed is then unchanged.
abbrev pub Pushes : FeedState → List ℕ → Result Pushed AllocError → FeedState → Type 0
Pushes old piece (Ok pushed) new =
    Feeds old piece pushed.apdus.items new × (pushed.fault ≡ fault_of new)
Pushes old piece (Err refused) new = (new ≡ old) × HasApdu old piece

-- Returns success if the feed is open and holds no bytes, so that the input may end here.
-- If it holds bytes, the fault is Short with their number. A closed feed returns the fault that closed it.
abbrev pub end_of : FeedState → Result (Unit {0}) DerFault
end_of (Ok held) = if length held == 0 then Ok tt else Err (Short (length held))
end_of (Err fault) = Err fault

-- Pushes of the pieces into the feed `old`, one after another, give `apdus` in all, and leave the feed `new`.
abbrev pub FeedsAll : FeedState → List (List ℕ) → List Apdu → FeedState → Type 0
FeedsAll old [] apdus new = (apdus ≡ []) × (new ≡ old)
FeedsAll old (piece ∷ pieces) apdus new =
    (first : List Apdu) × (others : List Apdu) × (next : FeedState)
    × Feeds old piece first next × FeedsAll next pieces others new × (apdus ≡ first ++ others)
