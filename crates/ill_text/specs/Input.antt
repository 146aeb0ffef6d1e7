-- The reading of an input: its APDUs are decoded and handled one after another.
use Rattle.std.specs.Prelude.{◌≡◌, ◌⊎◌, ℕ, ◌+◌, ◌<◌, ◌≤◌, List, [], ◌++◌, length, Option, Result, Ok, Err}
use Rattle.std.specs.List.{flat_map, AllByRecursion}
use Rattle.std.specs.Io.KnownBytes.{Consumes, IsAtEnd}
use Rattle.ill_values.specs.declared.apdu.Apdu.{Apdu}
use Rattle.ill_values.specs.Apdu.{IsApdu}
use Rattle.ill_der.specs.declared.fault.DerFault.{DerFault}
use Rattle.ill_der.specs.ShortForm.{encoding, apdu_at}
use Rattle.ill_der.specs.Stream.{IsUnfinished, EncodesOne, IfShort}
use Rattle.ill_der.specs.Handling.{Handles, Handled}
use Rattle.ill_text.specs.declared.fault.ToolFault.{ToolFault}
use Rattle.ill_text.specs.declared.fault.ToolFault.TheVariants.{Der, TooMany, Read, OutOfMemory}
use Rattle.ill_der.specs.Feed as feeds

-- Returns the encodings of `apdus`, one after another.
abbrev pub encodings : List Apdu → List ℕ
encodings apdus = flat_map encoding apdus

-- ---- the end of an input

-- The part of an input after the APDUs that were handled. `bytes` come first: a fault at the end is a fault of them.
-- Then comes `ahead`, which was read but not decoded, and then `unread`, which may be unknown.
pub record Rest : Type 0 where
  pub bytes : List ℕ
  pub ahead : List ℕ
  pub unread : Option (List ℕ)

-- Returns the rest of these three parts.
abbrev pub rest_of : List ℕ → List ℕ → Option (List ℕ) → Rest
rest_of bytes ahead unread = record { bytes = bytes; ahead = ahead; unread = unread }

-- The input is at its end, and no bytes of it are left unread or undecoded.
abbrev pub IsOver : Rest → Type 0
IsOver rest = (rest.ahead ≡ []) × IsAtEnd rest.unread

-- The fault is a reason to stop reading after `count` APDUs. The bytes after these are faulty, or one APDU too
-- many, or the reader failed before their end.
abbrev pub StopsReading : ToolFault → ℕ → Rest → Type 0
StopsReading (Der fault) count rest = (apdu_at rest.bytes ≡ Err fault) × IfShort fault (IsOver rest)
StopsReading TooMany count rest = (count ≡ 100000) × EncodesOne rest.bytes
StopsReading Read count rest = IsUnfinished rest.bytes × (rest.ahead ≡ [])
StopsReading other count rest = ⊥

-- `bytes` encode an APDU, the `count` APDUs before it are fewer than 100,000, and its handling failed with `fault`.
abbrev pub FailsHandling : {S : Type 0} → Handles S ToolFault → ToolFault → ℕ → List ℕ → S → S → Type 0
FailsHandling handles fault count bytes before after =
    (apdu : Apdu) × IsApdu apdu × (bytes ≡ encoding apdu) × (count < 100000)
    × handles before apdu (Err fault) after

-- An input ended with this result. All `count` APDUs were handled, and this number is the answer. Or the
-- reading stopped. Or the handling of an APDU failed.
abbrev pub Ends : {S : Type 0} → Handles S ToolFault → Result ℕ ToolFault → ℕ → Rest → S → S → Type 0
Ends handles (Ok n) count rest before after =
    (n ≡ count) × (rest.bytes ≡ []) × IsOver rest × (after ≡ before)
Ends handles (Err fault) count rest before after =
    (StopsReading fault count rest × (after ≡ before))
    ⊎ FailsHandling handles fault count rest.bytes before after

-- The input was read from `old` to `new`, with this result. The bytes read were the encodings of `apdus`, then `bytes`,
-- and then `ahead`. The APDUs were handled one after another, from the state `before` to `last`. The end of the input
-- led on to `after`. There are at most 100,000 APDUs. `bytes` and `ahead` together are less than the 359 bytes of the
-- longest APDU and a piece of 4,096 bytes.
pub record ReadsInput {S : Type 0} (handles : Handles S ToolFault) (old new : Option (List ℕ)) (before : S)
    (result : Result ℕ ToolFault) (after : S) : Type 0 where
  pub apdus : List Apdu
  pub bytes : List ℕ
  pub ahead : List ℕ
  pub last : S
  pub encoded : AllByRecursion IsApdu apdus
  pub most : length apdus ≤ 100000
  pub few : length bytes + length ahead < 359 + 4096
  pub read : Consumes old new (encodings apdus ++ (bytes ++ ahead))
  pub handled : Handled handles before apdus last
  pub ended : Ends handles result (length apdus) (rest_of bytes ahead new) last after

-- Returns the answer at the end of the input after `count` APDUs, by the answer of the decoder.
abbrev pub answer_at_end : Result (Unit {0}) DerFault → ℕ → Result ℕ ToolFault
answer_at_end (Ok done) count = Ok count
answer_at_end (Err fault) count = Err (Der fault)

-- ---- at most the APDUs that an input may have

-- An APDU was handled and counted. Or it was one too many, and was not handled. Or its handling failed. The
-- state is the number of APDUs so far, and the state of the handler.
abbrev pub CountsOn : {S : Type 0} → Handles S ToolFault → Handles (ℕ × S) ToolFault
CountsOn handles old apdu (Ok done) new =
    (old.0 < 100000) × (new.0 ≡ old.0 + 1) × handles old.1 apdu (Ok done) new.1
CountsOn handles old apdu (Err fault) new =
    ((100000 ≤ old.0) × (fault ≡ TooMany) × (new.1 ≡ old.1))
    ⊎ ((old.0 < 100000) × handles old.1 apdu (Err fault) new.1)

-- ---- an input that is read as a whole

-- The input had these bytes, at most `limit` of them, and is at its end.
abbrev pub IsWhole : (limit : ℕ) → (old new : Option (List ℕ)) → List ℕ → Type 0
IsWhole limit old new bytes = Consumes old new bytes × IsAtEnd new × (length bytes ≤ limit)

-- The input has more than `limit` bytes, and the fault is `too_long`. Or the reader failed, or memory ran out.
abbrev pub StopsWhole : (limit : ℕ) → (too_long : ToolFault) → (old new : Option (List ℕ)) → ToolFault → Type 0
StopsWhole limit too_long old new fault =
    ((fault ≡ too_long) × ((bytes : List ℕ) × Consumes old new bytes × (limit < length bytes)))
    ⊎ ((fault ≡ Read) ⊎ (fault ≡ OutOfMemory))

-- The messages `came` begin `bytes`, one after another. The rest of `bytes` begins with no message.
abbrev pub AreIn : List ℕ → List Apdu → Type 0
AreIn bytes came = (left : feeds.FeedState) × feeds.Feeds (Ok []) bytes came left
