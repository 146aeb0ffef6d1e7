-- Proves how `handle_input` reads an input piece by piece and handles its APDUs.
use Rattle.std.proofs.Common.{◌≡◌, inl, inr, ◌⊎◌, ℕ, Bool, if◌then◌else◌, ◌+◌, ◌*◌, ◌-◌, ◌<◌, ◌≤◌, List, [], ◌∷◌, ◌++◌, length}
use Rattle.std.proofs.Common.{Option, Some, None, Result, Ok, Err, refl, sym, ap, subst, ◌∙◌, arith, append_assoc}
use Rattle.std.specs.List.{AllByRecursion}
use Rattle.std.specs.Io.KnownBytes.{Consumes, Keeps, IsAtEnd}
use Rattle.std.proofs.KnownBytes.{Consumes-nil, Consumes-trans, Consumes-kept}
use Rattle.std.proofs.lemmas.List.{append-nil, length-append}
use Rattle.std.proofs.Math.Dec.{eqb-suc-zero}
use Rattle.std.proofs.lemmas.Grind.{flat_map-append}
use Rattle.ill_values.specs.declared.apdu.Apdu.{Apdu}
use Rattle.ill_values.specs.Apdu.{IsApdu}
use Rattle.ill_der.specs.declared.fault.DerFault.{DerFault}
use Rattle.ill_der.specs.declared.fault.DerFault.TheVariants.{Short, Tag, Length, Field, OutOfMemory}
use Rattle.ill_der.specs.ShortForm.{encoding, header_at, outer_at, apdu_at}
use Rattle.ill_der.specs.Stream.{IsUnfinished, IfShort}
use Rattle.ill_der.specs.Feed.{Begins, FeedState, Leaves, fault_of, end_of}
use Rattle.ill_der.specs.Handling.{Handles, Handled, FailsAt, HandlesEach}
use Rattle.ill_text.specs.declared.fault.ToolFault.{ToolFault}
use Rattle.ill_text.specs.declared.input.Counted.{Counted}
use Rattle.ill_text.specs.declared.fault.ToolFault.TheVariants.{Der, Read}
use Rattle.ill_text.specs.Input.{encodings, Rest, rest_of, Ends, ReadsInput, answer_at_end, CountsOn}

-- ---- APDUs handled one after another
-- `handles` relates states, and `seen` relates their views. `as_seen` says that each step by `handles` is one by
-- `seen`.

-- If `handles` leads from `before` through `apdus` to `after`, `seen` leads from `view before` to `view after`.
pub handled_on_views : {S T F : Type 0} (handles : Handles S F) (seen : Handles T F) (view : S → T)
    → ((s t : S) (apdu : Apdu) (r : Result (Unit {0}) F) → handles s apdu r t → seen (view s) apdu r (view t))
    → (before after : S) (apdus : List Apdu) → Handled handles before apdus after → Handled seen (view before) apdus (view after)
handled_on_views handles seen view as_seen before after [] is = ap view is
handled_on_views handles seen view as_seen before after (apdu ∷ apdus) is =
    (view is.0, as_seen before is.0 apdu (Ok tt) is.1, handled_on_views handles seen view as_seen is.0 after apdus is.2)

-- If an input ends by `handles` from `before` to `after` (`Ends`), it ends so by `seen` between their views.
ends_on_views : {S T : Type 0} (handles : Handles S ToolFault) (seen : Handles T ToolFault) (view : S → T)
    → ((s t : S) (apdu : Apdu) (r : Result (Unit {0}) ToolFault) → handles s apdu r t → seen (view s) apdu r (view t))
    → (result : Result ℕ ToolFault) (count : ℕ) (rest : Rest) (before after : S)
    → Ends handles result count rest before after → Ends seen result count rest (view before) (view after)
ends_on_views handles seen view as_seen (Ok n) count rest before after is = (is.0, is.1, is.2, ap view is.3)
ends_on_views handles seen view as_seen (Err fault) count rest before after is = elim is [
  | inl stops ↦ inl (stops.0, ap view stops.1)
  | inr fails ↦ inr (fails.0, fails.1, fails.2, fails.3, as_seen before after fails.0 (Err fault) fails.4)
]

-- If an input is read by `handles` from `before` to `after` (`ReadsInput`), `seen` reads it so between their views.
pub reads_on_views : {S T : Type 0} (handles : Handles S ToolFault) (seen : Handles T ToolFault) (view : S → T)
    → ((s t : S) (apdu : Apdu) (r : Result (Unit {0}) ToolFault) → handles s apdu r t → seen (view s) apdu r (view t))
    → (old new : Option (List ℕ)) (before after : S) (result : Result ℕ ToolFault)
    → ReadsInput handles old new before result after → ReadsInput seen old new (view before) result (view after)
reads_on_views handles seen view as_seen old new before after result is = record {
  apdus = is.apdus;
  bytes = is.bytes;
  ahead = is.ahead;
  last = view is.last;
  encoded = is.encoded;
  most = is.most;
  few = is.few;
  read = is.read;
  handled = handled_on_views handles seen view as_seen before is.last is.apdus is.handled;
  ended = ends_on_views handles seen view as_seen result (length is.apdus) (rest_of is.bytes is.ahead new) is.last after
      is.ended;
}

-- If handling the APDUs of `piece` fails with `fault` by `handles` (`FailsAt`), it fails so by `seen` on the views.
fails_as : {S T F : Type 0} (handles : Handles S F) (seen : Handles T F) (view : S → T)
    → ((s t : S) (apdu : Apdu) (r : Result (Unit {0}) F) → handles s apdu r t → seen (view s) apdu r (view t))
    → (old : FeedState) (piece : List ℕ) (before after : S) (fault : F) → FailsAt handles old piece before fault after
    → FailsAt seen old piece (view before) fault (view after)
fails_as handles seen view as_seen (Ok held) piece before after fault is = (
  is.0,
  is.1,
  is.2,
  view is.3,
  is.4,
  handled_on_views handles seen view as_seen before is.3 is.0 is.5,
  as_seen is.3 after is.1 (Err fault) is.6,
)
fails_as handles seen view as_seen (Err closed) piece before after fault is = absurd is

-- If `piece` is handled by `handles` with `result` (`HandlesEach`), it is handled so by `seen` on the views.
pub piece_on_views : {S T F : Type 0} (handles : Handles S F) (seen : Handles T F) (view : S → T)
    → ((s t : S) (apdu : Apdu) (r : Result (Unit {0}) F) → handles s apdu r t → seen (view s) apdu r (view t))
    → (old : FeedState) (piece : List ℕ) (before : S) (result : Result (Option DerFault) F) (new : FeedState) (after : S)
    → HandlesEach handles (old, before) piece result (new, after)
    → HandlesEach seen (old, view before) piece result (new, view after)
piece_on_views handles seen view as_seen old piece before (Ok fault) new after is =
    let apdus = is.1 in
    (is.0, (apdus.0, apdus.1, handled_on_views handles seen view as_seen before after apdus.0 apdus.2))
piece_on_views handles seen view as_seen old piece before (Err fault) new after is =
    (is.0, fails_as handles seen view as_seen old piece before after fault is.1)

-- If `prefix` leads from `before` to `middle`, and `more` from there to `after`, both together lead from `before` to
-- `after`.
handled_join : {S F : Type 0} (handles : Handles S F) (before middle after : S) (prefix more : List Apdu)
    → Handled handles before prefix middle → Handled handles middle more after
    → Handled handles before (prefix ++ more) after
handled_join handles before middle after [] more first second = subst (λ s. Handled handles s more after) first second
handled_join handles before middle after (apdu ∷ prefix) more first second =
    (first.0, first.1, handled_join handles first.0 middle after prefix more first.2 second)

-- Let the count be at most 100,000 before `apdus` are counted and handled. Then it is greater by their number
-- afterwards, and still at most 100,000. Without the count, `handles` has handled `apdus`.
counted_on : {S : Type 0} (handles : Handles S ToolFault) (before after : ℕ × S) (apdus : List Apdu)
    → before.0 ≤ 100000 → Handled (CountsOn handles) before apdus after
    → (after.0 ≡ before.0 + length apdus) × (after.0 ≤ 100000) × Handled handles before.1 apdus after.1
counted_on handles before after [] few is =
    let same : after.0 ≡ before.0 = ap (λ s. s.0) is in
    (omega (arith, same), omega (arith, same, few), ap (λ s. s.1) is)
counted_on handles before after (apdu ∷ apdus) few is =
    let next = is.0 in
    let one = is.1 in
    let on = counted_on handles next after apdus (omega (arith, one.0, one.1)) is.2 in
    (omega (arith, one.1, on.0), on.1, (next.1, one.2, on.2))

-- `piece` was pushed into the feed `old`, and its APDUs were counted and handled.
abbrev pub HandlesCounted : {H C : Type 0} → Handles (H × C) ToolFault → FeedState × (Counted H × C) → List ℕ
    → Result (Option DerFault) ToolFault → FeedState × (Counted H × C) → Type 0
HandlesCounted handles old piece result new =
    HandlesEach (λ s apdu r t. CountsOn handles (s.0.count, (s.0.handler, s.1)) apdu r (t.0.count, (t.0.handler, t.1))) old piece
    result new

-- If a counted handler has handled a piece, the piece is handled on pairs of the count and the state.
each_counted : {H C : Type 0} (handles : Handles (H × C) ToolFault) (old feed : FeedState) (piece : List ℕ)
    (before : Counted H × C)
    (result : Result (Option DerFault) ToolFault) (new : FeedState) (after : Counted H × C)
    → feed ≡ old → HandlesCounted handles (feed, before) piece result (new, after)
    → HandlesEach (CountsOn handles) (old, (before.0.count, (before.0.handler, before.1))) piece result
    (new, (after.0.count, (after.0.handler, after.1)))
each_counted {H = H} {C = C} handles old feed piece before result new after same is =
    piece_on_views (λ (s : Counted H × C) apdu r t.
    CountsOn handles (s.0.count, (s.0.handler, s.1)) apdu r (t.0.count, (t.0.handler, t.1))) (CountsOn handles)
    (λ s. (s.0.count, (s.0.handler, s.1))) (λ s t apdu r h. h) old piece before result new after
    (subst (λ (f : FeedState). HandlesCounted handles (f, before) piece result (new, after)) same is)

-- `piece` was pushed after `held`, and gave the APDUs `more`. They were handled, from the state `before` to `after`.
record IsPushed {S : Type 0} (handles : Handles S ToolFault) (held piece : List ℕ) (before : S) (fault : Option DerFault)
    (new : FeedState)
    (after : S) : Type 0 where
  closed : fault ≡ fault_of new
  more : List Apdu
  rest : List ℕ
  begins : Begins (held ++ piece) more rest
  leaves : Leaves rest new
  handled : Handled handles before more after

-- If a counted handler has handled a piece without a fault of its own, `IsPushed` holds with the count.
pushed_counted : {H C : Type 0} (handles : Handles (H × C) ToolFault) (held : List ℕ) (feed : FeedState) (piece : List ℕ)
    (before : Counted H × C)
    (fault : Option DerFault) (new : FeedState) (after : Counted H × C)
    → feed ≡ Ok held → HandlesCounted handles (feed, before) piece (Ok fault) (new, after)
    → IsPushed (CountsOn handles) held piece (before.0.count, (before.0.handler, before.1)) fault new
    (after.0.count, (after.0.handler, after.1))
pushed_counted handles held feed piece before fault new after same is =
    let each = each_counted handles (Ok held) feed piece before (Ok fault) new after same is in
    let apdus = each.1 in
    let fed = apdus.1 in
    record { closed = each.0; more = apdus.0; rest = fed.0; begins = fed.1; leaves = fed.2; handled = apdus.2 }

-- ---- lists of APDUs

-- If all APDUs of two lists are in range, all APDUs of their join are.
all_join : (prefix more : List Apdu) → AllByRecursion IsApdu prefix → AllByRecursion IsApdu more
    → AllByRecursion IsApdu (prefix ++ more)
all_join [] more all others = others
all_join (apdu ∷ prefix) more all others = (all.0, all_join prefix more all.1 others)

-- If all APDUs of `apdus` and then `apdu` are in range, those of `apdus` are, and `apdu` is.
last_of : (apdus : List Apdu) (apdu : Apdu) → AllByRecursion IsApdu (apdus ++ apdu ∷ [])
    → AllByRecursion IsApdu apdus × IsApdu apdu
last_of [] apdu all = (tt, all.0)
last_of (first ∷ apdus) apdu all = (let others = last_of apdus apdu all.1 in ((all.0, others.0), others.1))

-- The encodings of `prefix`, and then those of `more`, are the encodings of their join.
encoded_join : (prefix more : List Apdu) (rest : List ℕ)
    → encodings prefix ++ (encodings more ++ rest) ≡ encodings (prefix ++ more) ++ rest
encoded_join prefix more rest =
    sym (append_assoc (encodings prefix) (encodings more) rest)
    ∙ ap (λ (x : List ℕ). x ++ rest) (sym (flat_map-append encoding prefix more))

-- ---- the APDUs so far

-- The bytes read from `old` to `now` are the encodings of `apdus`, and then `held`. All `count` APDUs were handled,
-- from the state `before` to `after`. The feed is open and holds `held`, which more bytes may complete to an APDU.
pub record SoFar {S : Type 0} (handles : Handles S ToolFault) (old now : Option (List ℕ)) (before : S) (count : ℕ)
    (feed : FeedState)
    (after : S) (apdus : List Apdu) (held : List ℕ) : Type 0 where
  pub encoded : AllByRecursion IsApdu apdus
  pub counted : length apdus ≡ count
  pub few : count ≤ 100000
  pub read : Consumes old now (encodings apdus ++ held)
  pub handled : Handled handles before apdus after
  pub opened : feed ≡ Ok held
  pub unfinished : IsUnfinished held

-- `SoFar` holds of some list of APDUs and some held bytes.
abbrev pub ReadSoFar : {S : Type 0} → Handles S ToolFault → Option (List ℕ) → Option (List ℕ) → S → ℕ → FeedState → S → Type 0
ReadSoFar handles old now before count feed after =
    (apdus : List Apdu) × (held : List ℕ) × SoFar handles old now before count feed after apdus held

-- Before the first read, `ReadSoFar` holds with no APDU and no held byte.
pub none_read : {S : Type 0} (handles : Handles S ToolFault) (old : Option (List ℕ)) (before : S) (count : ℕ) (feed : FeedState)
    → count ≡ 0 → feed ≡ Ok [] → ReadSoFar handles old old before count feed before
unfolding apdu_at outer_at header_at
none_read handles old before count feed none empty = (
  [],
  [],
  record {
    encoded = tt;
    counted = sym none;
    few = omega (arith, none);
    read = Consumes-nil old;
    handled = refl;
    opened = empty;
    unfinished = refl;
  },
)

-- If the decoder returns that `bytes` are short, it names their number, which is at most 358.
abbrev pub ShortLaw : Type 0
ShortLaw = (bytes : List ℕ) (n : ℕ) → apdu_at bytes ≡ Err (Short n) → (n ≡ length bytes) × (n ≤ 358)

-- Unfinished bytes are at most 358.
few_held : ShortLaw → (held : List ℕ) → IsUnfinished held → length held ≤ 358
few_held law held is = (law held (length held) is).1

-- If `piece` is read after `apdus` and `held`, all bytes read are the encodings of `apdus`, then `held`, and then
-- `piece`.
piece_read : (old now new : Option (List ℕ)) (apdus : List Apdu) (held piece : List ℕ)
    → Consumes old now (encodings apdus ++ held) → Consumes now new piece
    → Consumes old new (encodings apdus ++ (held ++ piece))
piece_read old now new apdus held piece read more =
    subst (Consumes old new) (append_assoc (encodings apdus) held piece)
    (Consumes-trans old now new (encodings apdus ++ held) piece read more)

-- Let `piece` be read after `apdus` and `held`, and let `held ++ piece` be the encodings of `more` and then `rest`.
-- Then all bytes read are the encodings of `apdus ++ more`, and then `rest`.
apdus_read : (old now new : Option (List ℕ)) (apdus more : List Apdu) (held piece rest : List ℕ)
    → Consumes old now (encodings apdus ++ held) → Consumes now new piece → Begins (held ++ piece) more rest
    → Consumes old new (encodings (apdus ++ more) ++ rest)
apdus_read old now new apdus more held piece rest read piece_is begins =
    subst (Consumes old new) (ap (λ (x : List ℕ). encodings apdus ++ x) begins.parts ∙ encoded_join apdus more rest)
    (piece_read old now new apdus held piece read piece_is)

-- ---- one piece more: what it adds to the APDUs so far, and that the measure of the loop falls

-- Returns an upper bound of the bytes that may still be read, or 0 if the feed is closed.
abbrev pub most_bytes_left : ℕ → FeedState → ℕ
most_bytes_left count (Ok held) = 35900359 - (count * 359 + length held)
most_bytes_left count (Err fault) = 0

-- If the feed `new` has no fault, it is open and holds bytes.
still_open : (new : FeedState) → None ≡ fault_of new → (held : List ℕ) × (new ≡ Ok held)
still_open (Ok held) e = (held, refl)
still_open (Err fault) e = absurd cc

-- Let `k` APDUs come after `n`, or only `more` bytes after the `size` held ones. Then the bound of `most_bytes_left`
-- with `m` APDUs and `left` held bytes is smaller.
more_room : (n k size more left m : ℕ) → ((k ≡ 0) × (left ≡ size + more)) ⊎ (0 < k) → m ≡ n + k → m ≤ 100000
    → size ≤ 358 → left ≤ 358 → 0 < more
    → 35900359 - (m * 359 + left) < 35900359 - (n * 359 + size)
more_room n k size more left m grown is few held rest some = elim grown [
  | inl none ↦ omega (arith, is, few, held, rest, none.0, none.1, some)
  | inr handed ↦ omega (arith, is, few, held, rest, handed, some)
]

-- Let `held ++ piece` be the encodings of `more` and then `rest`. Then `piece` completes an APDU, or only makes the
-- held bytes longer.
longer_or_handed : (more : List Apdu) (held piece rest : List ℕ) → held ++ piece ≡ encodings more ++ rest
    → ((length more ≡ 0) × (length rest ≡ length held + length piece)) ⊎ (0 < length more)
longer_or_handed [] held piece rest e = inl (refl, omega (arith, ap length e, length-append held piece))
longer_or_handed (apdu ∷ more) held piece rest e = inr (omega arith)

-- If `held ++ piece` is `text ++ rest`, the lengths of `text` and `rest` add up to those of `held` and `piece`.
rest_within : (held piece text rest : List ℕ) → held ++ piece ≡ text ++ rest
    → length text + length rest ≡ length held + length piece
rest_within held piece text rest e = omega (arith, ap length e, length-append held piece, length-append text rest)

-- If `piece` is not empty and the feed stays open, `most_bytes_left` is smaller after it.
room_falls : ShortLaw → (count m : ℕ) (feed next : FeedState) (held now piece : List ℕ) (more : List Apdu)
    → feed ≡ Ok held → next ≡ Ok now → held ++ piece ≡ encodings more ++ now
    → m ≡ count + length more → m ≤ 100000 → IsUnfinished held → IsUnfinished now → 0 < length piece
    → most_bytes_left m next < most_bytes_left count feed
room_falls law count m feed next held now piece more was is parts counted few unfinished still some =
    subst (λ (f : FeedState). most_bytes_left m next < most_bytes_left count f) (sym was)
    (subst (λ (f : FeedState). most_bytes_left m f < most_bytes_left count (Ok held)) (sym is)
    (more_room count (length more) (length held) (length piece) (length now) m (longer_or_handed more held piece now parts)
    counted few (few_held law held unfinished) (few_held law now still) some))

-- If a piece is handled and the feed stays open, `ReadSoFar` holds after it, and `most_bytes_left` is smaller. The
-- APDUs `more` of the piece join those so far, and `rest` is held.
pub one_piece_more : {H C : Type 0} (handles : Handles (H × C) ToolFault) → ShortLaw
    → (old now new : Option (List ℕ)) (before : H × C) (middle after : Counted H × C) (feed next : FeedState) (piece : List ℕ)
    → ReadSoFar handles old now before middle.0.count feed (middle.0.handler, middle.1) → Consumes now new piece
    → 0 < length piece → (closed : Option DerFault) → closed ≡ None
    → HandlesCounted handles (feed, middle) piece (Ok closed) (next, after)
    → ReadSoFar handles old new before after.0.count next (after.0.handler, after.1)
    × (most_bytes_left after.0.count next < most_bytes_left middle.0.count feed)
one_piece_more {H = H} {C = C} handles law old now new before middle after feed next piece so_far read some closed none each =
    let apdus = so_far.0 in
    let held = so_far.1 in
    let is = so_far.2 in
    let first : H × C = (middle.0.handler, middle.1) in
    let pushed = pushed_counted handles held feed piece middle closed next after is.opened each in
    let more = pushed.more in
    let rest = pushed.rest in
    let begins = pushed.begins in
    let on = counted_on handles (middle.0.count, first) (after.0.count, (after.0.handler, after.1)) more is.few pushed.handled in
    let still = still_open next (sym none ∙ pushed.closed) in
    let leaves = subst (Leaves rest) still.1 pushed.leaves in
    let opened : next ≡ Ok rest = still.1 ∙ ap (λ (x : List ℕ). Ok x) leaves.0 in (
      (
        apdus ++ more,
        rest,
        record {
          encoded = all_join apdus more is.encoded begins.encoded;
          counted = omega (arith, length-append apdus more, is.counted, on.0);
          few = on.1;
          read = apdus_read old now new apdus more held piece rest is.read read begins;
          handled = handled_join handles before first (after.0.handler, after.1) apdus more is.handled on.2;
          opened = opened;
          unfinished = leaves.1;
        },
      ),
      room_falls law middle.0.count after.0.count feed next held rest piece more is.opened opened begins.parts on.0 on.1
          is.unfinished leaves.1 some,
    )

-- ---- the end of an input: no bytes left, a reader that fails, a fault of bytes, or an APDU that is not handled

-- If the input ends after `apdus` and the bytes `held`, `ReadsInput` holds of it.
ends_held : {S : Type 0} (handles : Handles S ToolFault) → ShortLaw
    → (old new : Option (List ℕ)) (before after : S) (count : ℕ) (feed : FeedState) (result : Result ℕ ToolFault)
    (apdus : List Apdu)
    (held : List ℕ)
    → SoFar handles old new before count feed after apdus held → Ends handles result count (rest_of held [] new) after after
    → ReadsInput handles old new before result after
ends_held handles law old new before after count feed result apdus held is ended = record {
  apdus = apdus;
  bytes = held;
  ahead = [];
  last = after;
  encoded = is.encoded;
  most = omega (arith, is.counted, is.few);
  few = omega (arith, few_held law held is.unfinished);
  read = subst (λ (x : List ℕ). Consumes old new (encodings apdus ++ x)) (sym (append-nil held)) is.read;
  handled = is.handled;
  ended = subst (λ (n : ℕ). Ends handles result n (rest_of held [] new) after after) (sym is.counted) ended;
}

-- At the end of the reader, the input ends well if no byte is held, and with `Short` otherwise.
at_end : {S : Type 0} (handles : Handles S ToolFault) (count : ℕ) (held : List ℕ) (left : Option (List ℕ)) (after : S)
    → IsUnfinished held → IsAtEnd left
    → Ends handles (answer_at_end (end_of (Ok held)) count) count (rest_of held [] left) after after
at_end handles count [] left after unfinished end = (refl, refl, (refl, end), refl)
at_end handles count (byte ∷ held) left after unfinished end =
    let n = length (byte ∷ held) in
    subst (λ (empty : Bool). Ends handles (answer_at_end (if empty then Ok tt else Err (Short n)) count) count
    (rest_of (byte ∷ held) [] left) after after) (sym (eqb-suc-zero (length held)))
    (inl ((unfinished, (refl, end)), refl))

-- If the reader is at its end, `ReadsInput` holds with the answer of `answer_at_end`.
pub ends_at_end : {S : Type 0} (handles : Handles S ToolFault) → ShortLaw
    → (old new : Option (List ℕ)) (before after : S) (count : ℕ) (feed : FeedState)
    → ReadSoFar handles old new before count feed after → IsAtEnd new
    → ReadsInput handles old new before (answer_at_end (end_of feed) count) after
ends_at_end handles law old new before after count feed so_far end =
    let held = so_far.1 in
    let is = so_far.2 in
    ends_held handles law old new before after count feed (answer_at_end (end_of feed) count) so_far.0 held is
    (subst (λ (f : FeedState). Ends handles (answer_at_end (end_of f) count) count (rest_of held [] new) after after)
    (sym is.opened)
    (at_end handles count held new after is.unfinished end))

-- If a read gives no byte, `ReadSoFar` still holds.
pub read_nothing : {S : Type 0} (handles : Handles S ToolFault) (old now new : Option (List ℕ)) (before after : S) (count : ℕ)
    (feed : FeedState)
    → ReadSoFar handles old now before count feed after
    → Consumes now new [] → ReadSoFar handles old new before count feed after
read_nothing handles old now new before after count feed so_far read =
    let apdus = so_far.0 in
    let held = so_far.1 in
    let is = so_far.2 in (
      apdus,
      held,
      record {
        encoded = is.encoded;
        counted = is.counted;
        few = is.few;
        read = subst (Consumes old new) (append-nil (encodings apdus ++ held))
            (Consumes-trans old now new (encodings apdus ++ held) [] is.read read);
        handled = is.handled;
        opened = is.opened;
        unfinished = is.unfinished;
      },
    )

-- A reader whose input stays has consumed nothing.
kept_nothing : (now new : Option (List ℕ)) → Keeps now new → Consumes now new []
kept_nothing now new keeps = Consumes-kept now now new [] (Consumes-nil now) keeps

-- If the reader fails, `ReadsInput` holds with the fault `Read`.
pub ends_unread : {S : Type 0} (handles : Handles S ToolFault) → ShortLaw
    → (old now new : Option (List ℕ)) (before after : S) (count : ℕ) (feed : FeedState)
    → ReadSoFar handles old now before count feed after
    → Keeps now new → ReadsInput handles old new before (Err Read) after
ends_unread handles law old now new before after count feed so_far keeps =
    let still = read_nothing handles old now new before after count feed so_far (kept_nothing now new keeps) in
    let is = still.2 in
    ends_held handles law old new before after count feed (Err Read) still.0 still.1 is (inl ((is.unfinished, refl), refl))

-- If a push closes the feed with `fault`, the feed `new` is `Err fault`.
closed_by : (new : FeedState) (fault : DerFault) → Some fault ≡ fault_of new → new ≡ Err fault
closed_by (Ok held) fault e = absurd cc
closed_by (Err closed) fault e = (let is : fault ≡ closed = cc in ap (λ (f : DerFault). Err f) (sym is))

-- If `fault` is not `Short`, `IfShort fault P` holds of each `P`.
not_short : (fault : DerFault) (P : Type 0) → IfShort fault ⊥ → IfShort fault P
not_short (Short at) P none = absurd none
not_short (Tag at) P none = tt
not_short (Length at) P none = tt
not_short (Field at) P none = tt
not_short OutOfMemory P none = tt

-- If the bytes of a piece close the feed with `fault`, `ReadsInput` holds with that fault. The APDUs `more` before it
-- were handled, and `rest` has the fault.
pub ends_closed : {H C : Type 0} (handles : Handles (H × C) ToolFault) → ShortLaw
    → (old now new : Option (List ℕ)) (before : H × C) (middle after : Counted H × C) (feed next : FeedState) (piece : List ℕ)
    (fault : DerFault)
    → ReadSoFar handles old now before middle.0.count feed (middle.0.handler, middle.1) → Consumes now new piece
    → length piece ≤ 4096 → (closed : Option DerFault) → closed ≡ Some fault
    → HandlesCounted handles (feed, middle) piece (Ok closed) (next, after)
    → ReadsInput handles old new before (Err (Der fault)) (after.0.handler, after.1)
ends_closed {H = H} {C = C} handles law old now new before middle after feed next piece fault so_far read small closed is_some
    each =
    let apdus = so_far.0 in
    let held = so_far.1 in
    let is = so_far.2 in
    let first : H × C = (middle.0.handler, middle.1) in
    let pushed = pushed_counted handles held feed piece middle closed next after is.opened each in
    let more = pushed.more in
    let rest = pushed.rest in
    let begins = pushed.begins in
    let on = counted_on handles (middle.0.count, first) (after.0.count, (after.0.handler, after.1)) more is.few pushed.handled in
    let leaves = subst (Leaves rest) (closed_by next fault (sym is_some ∙ pushed.closed)) pushed.leaves in record {
      apdus = apdus ++ more;
      bytes = rest;
      ahead = [];
      last = (after.0.handler, after.1);
      encoded = all_join apdus more is.encoded begins.encoded;
      most = omega (arith, length-append apdus more, is.counted, on.0, on.1);
      few = omega (arith, rest_within held piece (encodings more) rest begins.parts, few_held law held is.unfinished, small);
      read = subst (λ (x : List ℕ). Consumes old new (encodings (apdus ++ more) ++ x)) (sym (append-nil rest))
          (apdus_read old now new apdus more held piece rest is.read read begins);
      handled = handled_join handles before first (after.0.handler, after.1) apdus more is.handled on.2;
      ended = inl ((leaves.0, not_short fault _ leaves.1), refl);
    }

-- If `apdu` is one too many, or handling it fails, the input ends at `apdu`.
ends_at_apdu : {S : Type 0} (handles : Handles S ToolFault) (state after : ℕ × S) (apdu : Apdu) (fault : ToolFault) (count : ℕ)
    (ahead : List ℕ) (left : Option (List ℕ))
    → IsApdu apdu → count ≡ state.0
    → state.0 ≤ 100000 → CountsOn handles state apdu (Err fault) after
    → Ends handles (Err fault) count (rest_of (encoding apdu) ahead left) state.1 after.1
ends_at_apdu handles state after apdu fault count ahead left is counted few on = elim on [
  | inl many ↦
      subst (λ (f : ToolFault). Ends handles (Err f) count (rest_of (encoding apdu) ahead left) state.1 after.1) (sym many.1)
      (inl ((omega (arith, many.0, few, counted), (apdu, is, refl)), many.2))
  | inr fails ↦ inr (apdu, is, refl, omega (arith, fails.0, counted), fails.1)
]

-- If an APDU of a piece is one too many, or handling it fails, `ReadsInput` holds with that fault. The APDUs `more`
-- before it were handled, and `rest` is read ahead.
pub ends_failing : {H C : Type 0} (handles : Handles (H × C) ToolFault) → ShortLaw
    → (old now new : Option (List ℕ)) (before : H × C) (middle after : Counted H × C) (feed next : FeedState) (piece : List ℕ)
    (fault : ToolFault)
    → ReadSoFar handles old now before middle.0.count feed (middle.0.handler, middle.1) → Consumes now new piece
    → length piece ≤ 4096
    → HandlesCounted handles (feed, middle) piece (Err fault) (next, after)
    → ReadsInput handles old new before (Err fault) (after.0.handler, after.1)
ends_failing {H = H} {C = C} handles law old now new before middle after feed next piece fault so_far read small each =
    let apdus = so_far.0 in
    let held = so_far.1 in
    let is = so_far.2 in
    let first : H × C = (middle.0.handler, middle.1) in
    let pushed = each_counted handles (Ok held) feed piece middle (Err fault) next after is.opened each in
    let failed = pushed.1 in
    let more = failed.0 in
    let apdu = failed.1 in
    let rest = failed.2 in
    let state = failed.3 in
    let begins = failed.4 in
    let text = encoding apdu in
    let on = counted_on handles (middle.0.count, first) state more is.few failed.5 in
    let all = last_of more apdu begins.encoded in
    let encoded : encodings (more ++ apdu ∷ []) ≡ encodings more ++ text =
    flat_map-append encoding more (apdu ∷ []) ∙ ap (λ (x : List ℕ). encodings more ++ x) (append-nil text) in
    let parts : held ++ piece ≡ encodings more ++ (text ++ rest) =
    begins.parts ∙ ap (λ (x : List ℕ). x ++ rest) encoded ∙ append_assoc (encodings more) text rest in
    let counted : length (apdus ++ more) ≡ state.0 = omega (arith, length-append apdus more, is.counted, on.0) in record {
      apdus = apdus ++ more;
      bytes = text;
      ahead = rest;
      last = state.1;
      encoded = all_join apdus more is.encoded all.0;
      most = omega (arith, counted, on.1);
      few = omega (
        arith,
        rest_within held piece (encodings more) (text ++ rest) parts,
        length-append text rest,
        few_held law held is.unfinished,
        small,
      );
      read = apdus_read old now new apdus more held piece (text ++ rest) is.read read
          (record { encoded = all.0; parts = parts });
      handled = handled_join handles before first state.1 apdus more is.handled on.2;
      ended = ends_at_apdu handles state (after.0.count, (after.0.handler, after.1)) apdu fault (length (apdus ++ more)) rest
          new all.1 counted on.1 failed.6;
    }
