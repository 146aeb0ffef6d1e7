-- The handling of APDUs in bytes that come in pieces, and the bytes that a feed holds.
use Rattle.std.proofs.Common.{◌≡◌, ℕ, ◌+◌, ◌-◌, ◌<◌, ◌≤◌, List, [], ◌∷◌, ◌++◌, length, take, drop, Option, Some, None, Result, Ok}
use Rattle.std.proofs.Common.{Err, IsOk, inl, inr, refl, sym, ap, subst, ◌∙◌, arith, append_assoc}
use Rattle.std.specs.List.{flat_map, AllByRecursion}
use Rattle.std.proofs.lemmas.Bool.{cases_lt}
use Rattle.std.proofs.lemmas.List.{append-nil, length-append, length-take-le, length-drop, drop-drop, take-append-le}
use Rattle.std.proofs.lemmas.List.{drop-append-le, take-append-drop, take_at, take_rest}
use Rattle.std.proofs.lemmas.Grind.{flat_map-append}
use Rattle.std.proofs.Math.Seq.{take-length, drop-append-add}
use Rattle.ill_values.specs.declared.apdu.Apdu.{Apdu}
use Rattle.ill_values.specs.Apdu.{IsApdu}
use Rattle.ill_der.specs.declared.fault.DerFault.{DerFault}
use Rattle.ill_der.specs.declared.fault.DerFault.TheVariants.{Short, Tag, Length, Field, OutOfMemory}
use Rattle.ill_der.specs.Laws.{IsBytes, BeginsWithOne}
use Rattle.ill_der.specs.ShortForm.{encoding, header_at, outer_at, apdu_at}
use Rattle.ill_der.specs.Stream.{IsUnfinished, IfShort}
use Rattle.ill_der.specs.Feed.{Begins, FeedState, Leaves, HasApdu, fault_of}
use Rattle.ill_der.specs.Handling.{Handles, Handled, FailsIn, FailsAt, HandlesEach}
use Rattle.ill_der.specs.FeedView.{held_of, closing, Holds, Fills, HandlesFirst, HandlesRest}
use Rattle.ill_der.proofs.Chains.{no_value}
use Rattle.ill_der.proofs.ShortFormLaws.{fault_stays}

-- ---- APDUs one after another

-- If each APDU of `prefix` and of `more` is in range, each APDU of `prefix ++ more` is in range.
pub all_join : (prefix more : List Apdu) → AllByRecursion IsApdu prefix → AllByRecursion IsApdu more
    → AllByRecursion IsApdu (prefix ++ more)
all_join [] more all others = others
all_join (apdu ∷ prefix) more all others = (all.0, all_join prefix more all.1 others)

-- `bytes` is the encodings of no APDUs followed by the rest `bytes`.
pub begins_none : (bytes : List ℕ) → Begins bytes [] bytes
begins_none bytes = record { encoded = tt; parts = refl }

-- If `apdu_at` reads `apdu` from `bytes` and leaves `rest`, `bytes` is the encoding of `apdu` followed by `rest`.
pub begins_one : ((bytes : List ℕ) → IsBytes bytes → BeginsWithOne bytes (apdu_at bytes))
    → (bytes : List ℕ) (apdu : Apdu) (rest : List ℕ) → IsBytes bytes → apdu_at bytes ≡ Ok (apdu, rest)
    → Begins bytes (apdu ∷ []) rest
begins_one law bytes apdu rest fits e =
    let is = subst (BeginsWithOne bytes) e (law bytes fits) in
    let one = is.0 in
    record { encoded = (one.0, tt); parts = one.1 ∙ ap (λ (x : List ℕ). x ++ rest) (sym (append-nil (encoding apdu))) }

-- Let `bytes` be the APDUs `prefix` followed by `middle`, and `middle` the APDUs `more` followed by `rest`.
-- Then `bytes` is the APDUs `prefix ++ more` followed by `rest`.
pub begins_join : (bytes middle rest : List ℕ) (prefix more : List Apdu) → Begins bytes prefix middle
    → Begins middle more rest → Begins bytes (prefix ++ more) rest
begins_join bytes middle rest prefix more first second =
    let text = flat_map encoding prefix in
    record {
      encoded = all_join prefix more first.encoded second.encoded;
      parts =
          first.parts ∙ ap (λ (x : List ℕ). text ++ x) second.parts ∙ sym (append_assoc text (flat_map encoding more) rest)
          ∙ ap (λ (x : List ℕ). x ++ rest) (sym (flat_map-append encoding prefix more));
    }

-- If `bytes` is `apdus` followed by `rest`, `bytes ++ more` is `apdus` followed by `rest ++ more`.
pub begins_more : (bytes rest more : List ℕ) (apdus : List Apdu) → Begins bytes apdus rest
    → Begins (bytes ++ more) apdus (rest ++ more)
begins_more bytes rest more apdus is = record {
  encoded = is.encoded;
  parts = ap (λ (x : List ℕ). x ++ more) is.parts ∙ append_assoc (flat_map encoding apdus) rest more;
}

-- If `bytes` begins with one or more APDUs, it begins with the first of them.
begins_first : (bytes : List ℕ) (apdus : List Apdu) (apdu : Apdu) (rest : List ℕ)
    → Begins bytes (apdus ++ apdu ∷ []) rest → (first : Apdu) × (later : List ℕ) × Begins bytes (first ∷ []) later
begins_first bytes [] apdu rest begins = (apdu, rest, begins)
begins_first bytes (first ∷ apdus) apdu rest begins =
    let later = flat_map encoding (apdus ++ apdu ∷ []) ++ rest in (
      first,
      later,
      record {
        encoded = (begins.encoded.0, tt);
        parts =
            begins.parts ∙ append_assoc (encoding first) (flat_map encoding (apdus ++ apdu ∷ [])) rest
            ∙ ap (λ (x : List ℕ). x ++ later) (sym (append-nil (encoding first)));
      },
    )

-- ---- handling one more APDU

-- If `apdus` were handled and then `apdu`, `apdus ++ apdu ∷ []` was handled.
pub handled_then : {S F : Type 0} (handles : Handles S F) (before now after : S) (apdus : List Apdu) (apdu : Apdu)
    → Handled handles before apdus now → handles now apdu (Ok tt) after
    → Handled handles before (apdus ++ apdu ∷ []) after
handled_then handles before now after [] apdu so_far next = (after, subst (λ s. handles s apdu (Ok tt) after) so_far next, refl)
handled_then handles before now after (first ∷ apdus) apdu so_far next =
    (so_far.0, so_far.1, handled_then handles so_far.0 now after apdus apdu so_far.2 next)

-- If the APDUs before the offset `at` were handled, and handling the next APDU failed, handling `bytes` failed.
pub fails_after : {S F : Type 0} (handles : Handles S F) (bytes : List ℕ) (at : ℕ) (before now after : S) (fault : F)
    → ((apdus : List Apdu) × Begins bytes apdus (drop at bytes) × Handled handles before apdus now)
    → HandlesFirst handles (take (length bytes - at) (drop at bytes)) now (Err fault) after
    → FailsIn handles bytes before fault after
fails_after handles bytes at before now after fault so_far next =
    let begins = subst (λ (x : List ℕ). Begins x (next.0 ∷ []) next.1) (take_rest bytes at) next.2 in (
      so_far.0,
      next.0,
      next.1,
      now,
      begins_join bytes (drop at bytes) next.1 so_far.0 (next.0 ∷ []) so_far.1 begins,
      so_far.2,
      next.3,
    )

-- If the APDUs before `at` and the next, of `size` bytes, were handled, the APDUs before `at + size` were handled.
pub one_more_handled : {S F : Type 0} (handles : Handles S F) (bytes : List ℕ) (at size : ℕ) (before now after : S)
    → at ≤ length bytes
    → ((apdus : List Apdu) × Begins bytes apdus (drop at bytes) × Handled handles before apdus now)
    → HandlesFirst handles (take (length bytes - at) (drop at bytes)) now (Ok (Ok size)) after
    → (at + size ≤ length bytes) × ((apdus : List Apdu) × Begins bytes apdus (drop (at + size) bytes)
    × Handled handles before apdus after)
one_more_handled handles bytes at size before now after within so_far next =
    let first = subst (λ (x : List ℕ). HandlesFirst handles x now (Ok (Ok size)) after) (take_rest bytes at) next in
    let apdu = first.2 in
    let later = subst (Begins (drop at bytes) (apdu.0 ∷ [])) (drop-drop size at bytes) apdu.1 in (
      omega (arith, within, first.1, length-drop at bytes),
      (
        so_far.0 ++ apdu.0 ∷ [],
        begins_join bytes (drop at bytes) (drop (at + size) bytes) so_far.0 (apdu.0 ∷ []) so_far.1 later,
        handled_then handles before now after so_far.0 apdu.0 so_far.2 apdu.2,
      ),
    )

-- If the first APDU of `bytes` was handled, and handling failed in the rest `middle`, handling `bytes` failed.
pub fails_later : {S F : Type 0} (handles : Handles S F) (bytes middle : List ℕ) (before now after : S) (apdu : Apdu) (fault : F)
    → Begins bytes (apdu ∷ []) middle → handles before apdu (Ok tt) now
    → FailsIn handles middle now fault after → FailsIn handles bytes before fault after
fails_later handles bytes middle before now after apdu fault begins first later = (
  apdu ∷ later.0,
  later.1,
  later.2,
  later.3,
  begins_join bytes middle later.2 (apdu ∷ []) (later.0 ++ later.1 ∷ []) begins later.4,
  (now, first, later.5),
  later.6,
)

-- ---- the buffer

-- If the feed `now` is open, no fault closed it.
pub is_open : (closed : Option DerFault) (bytes : List ℕ) (now : FeedState) → held_of closed bytes ≡ now → IsOk now
    → closed ≡ None
is_open None bytes now e opened = refl
is_open (Some fault) bytes now e opened =
    let not_open : IsOk (held_of (Some fault) bytes) = subst IsOk (sym e) opened in
    absurd cc

-- If the feed `now` is open, it holds `bytes`.
pub holds_prefix : (closed : Option DerFault) (bytes : List ℕ) (now : FeedState) → held_of closed bytes ≡ now → IsOk now
    → now ≡ Ok bytes
holds_prefix closed bytes now e opened = sym e ∙ ap (λ (k : Option DerFault). held_of k bytes) (is_open closed bytes now e opened)

-- If `fault` closes no feed, it is Short.
pub closing_none : (fault : DerFault) → None ≡ closing fault → (n : ℕ) × (fault ≡ Short n)
closing_none (Short n) e = (n, refl)
closing_none (Tag at) e = absurd cc
closing_none (Length at) e = absurd cc
closing_none (Field at) e = absurd cc
closing_none OutOfMemory e = absurd cc

-- If `fault` closes a feed as `closed`, they are equal, and not Short.
pub closing_some : (fault closed : DerFault) → Some closed ≡ closing fault → (fault ≡ closed) × IfShort fault ⊥
closing_some (Short n) closed e = absurd cc
closing_some (Tag at) closed e = (let is : Tag at ≡ closed = cc in is, tt)
closing_some (Length at) closed e = (let is : Length at ≡ closed = cc in is, tt)
closing_some (Field at) closed e = (let is : Field at ≡ closed = cc in is, tt)
closing_some OutOfMemory closed e = (let is : OutOfMemory ≡ closed = cc in is, tt)

-- Each buffer holds its first 0 bytes, which are unfinished.
pub holds_nothing : (buffer : List ℕ) → Holds 0 buffer
unfolding apdu_at outer_at header_at
holds_nothing buffer = record { most = omega arith; unfinished = refl }

-- If the first `size` bytes of `buffer` are `prefix`, unfinished and at most 358, `buffer` holds them.
pub holds : (size : ℕ) (buffer prefix : List ℕ) → size ≤ 358 → take size buffer ≡ prefix → IsUnfinished prefix → Holds size buffer
holds size buffer prefix few is unfinished = record { most = few; unfinished = subst IsUnfinished (sym is) unfinished }

-- The law of short bytes: the number in Short is the number of all bytes, and at most 358.
abbrev pub ShortLaw : Type 0
ShortLaw = (bytes : List ℕ) (n : ℕ) → apdu_at bytes ≡ Err (Short n) → (n ≡ length bytes) × (n ≤ 358)

-- If a fill leaves `filled` bytes in use, `new` has at least `filled` bytes.
pub filled_length : (old new piece : List ℕ) (size filled : ℕ) → Fills old new size piece filled
    → length (take filled new) ≡ filled
filled_length old new piece size filled fills =
    let k = filled - size in
    let long = length-take-le size old (omega (arith, fills.few, fills.room)) in
    let more = length-take-le k piece (omega (arith, fills.count)) in
    omega (arith, ap length fills.parts, length-append (take size old) (take k piece), long, more, fills.count, fills.few)

-- A fill keeps the first `size` bytes of the buffer.
pub still_held : (old new piece : List ℕ) (size filled : ℕ) → Fills old new size piece filled → take size new ≡ take size old
still_held old new piece size filled fills =
    let held = take size old in
    let more = take (filled - size) piece in
    let long : length held ≡ size = length-take-le size old (omega (arith, fills.few, fills.room)) in
    let enough : size ≤ length (take filled new) = omega (arith, long, ap length fills.parts, length-append held more) in
    ap (take size) (sym (take-append-drop filled new)) ∙ take-append-le size (take filled new) (drop filled new) enough
    ∙ ap (take size) fills.parts
    ∙ take_at held more size long

-- If `old` holds its first `size` bytes, `new` holds its first `size` bytes after a fill.
pub holds_still : (old new piece : List ℕ) (size filled : ℕ) → Fills old new size piece filled → Holds size old → Holds size new
holds_still old new piece size filled fills is =
    holds size new (take size old) is.most (still_held old new piece size filled fills) is.unfinished

-- If a fill leaves at most 358 bytes in use, all of `piece` was copied.
pub all_filled : (old new piece : List ℕ) (size filled : ℕ) → Fills old new size piece filled → filled ≤ 358
    → take filled new ≡ take size old ++ piece
all_filled old new piece size filled fills few =
    let held = take size old in
    let all : filled - size ≡ length piece = omega (arith, fills.count, few) in
    fills.parts ∙ ap (λ (n : ℕ). held ++ take n piece) all ∙ ap (λ (x : List ℕ). held ++ x) (take-length piece)

-- If `bytes` has a fault that closes no feed, it is unfinished and has at most 358 bytes.
short_unfinished : ShortLaw → (bytes : List ℕ) (fault : DerFault) → None ≡ closing fault → apdu_at bytes ≡ Err fault
    → IsUnfinished bytes × (length bytes ≤ 358)
short_unfinished law bytes fault none e =
    let short = closing_none fault none in
    let at : apdu_at bytes ≡ Err (Short short.0) = e ∙ ap (λ (f : DerFault). Err f) short.1 in
    let is = law bytes short.0 at in
    (at ∙ ap (λ (k : ℕ). Err (Short k)) is.0, omega (arith, is.0, is.1))

-- If the filled bytes have a fault that closes no feed, the new buffer holds them.
-- They are unfinished, and they are the old held bytes followed by all of `piece`.
pub short_held : ShortLaw → (old new piece : List ℕ) (size filled : ℕ) (fault : DerFault)
    → Fills old new size piece filled → None ≡ closing fault → apdu_at (take filled new) ≡ Err fault
    → Holds filled new × (take filled new ≡ take size old ++ piece) × IsUnfinished (take size old ++ piece)
short_held law old new piece size filled fault fills none e =
    let short = short_unfinished law (take filled new) fault none e in
    let few : filled ≤ 358 = omega (arith, short.1, filled_length old new piece size filled fills) in
    let all = all_filled old new piece size filled fills few in
    (record { most = few; unfinished = short.0 }, all, subst IsUnfinished all short.0)

-- If `rest` has a fault that closes no feed, a fill from 0 copies all of `rest`. The new buffer then holds `rest`,
-- which is unfinished.
pub rest_held : ShortLaw → (old new rest : List ℕ) (filled : ℕ) (fault : DerFault) → Fills old new 0 rest filled
    → None ≡ closing fault → apdu_at rest ≡ Err fault
    → Holds filled new × (take filled new ≡ rest) × IsUnfinished rest
rest_held law old new rest filled fault fills none e =
    let short = short_unfinished law rest fault none e in
    let few : filled ≤ 358 = omega (arith, fills.count, short.1) in
    let all : take filled new ≡ rest = all_filled old new rest 0 filled fills few in
    (holds filled new rest few all short.0, all, short.0)

-- If `prefix` is `held` followed by the first `k` bytes of `piece`, then `prefix` followed by the others is
-- `held ++ piece`.
pub whole_piece : (k : ℕ) (held piece prefix : List ℕ) → prefix ≡ held ++ take k piece → prefix ++ drop k piece ≡ held ++ piece
whole_piece k held piece prefix parts =
    ap (λ (x : List ℕ). x ++ drop k piece) parts ∙ append_assoc held (take k piece) (drop k piece)
    ∙ ap (λ (x : List ℕ). held ++ x) (take-append-drop k piece)

-- ---- the APDU that begins with the held bytes

-- The law of reading again: `apdu_at` reads each APDU in range from its encoding, whatever follows.
abbrev pub AgainLaw : Type 0
AgainLaw = (apdu : Apdu) (rest : List ℕ) → IsApdu apdu → apdu_at (encoding apdu ++ rest) ≡ Ok (apdu, rest)

-- If `prefix` begins with an APDU of `size` bytes and with the unfinished `held`, `size` is more than `held` has.
-- Otherwise `held` would begin with the whole APDU, and so would not be unfinished.
pub ends_after : AgainLaw → (held more prefix : List ℕ) (size : ℕ) (apdu : Apdu) → IsUnfinished held
    → prefix ≡ held ++ more → size ≤ length prefix
    → Begins prefix (apdu ∷ []) (drop size prefix) → length held < size
ends_after again held more prefix size apdu unfinished parts within begins =
    elim (cases_lt (length held) size) [
      | inl lt ↦ lt
      | inr le ↦
          let text = encoding apdu in
          let encoded : prefix ≡ text ++ drop size prefix =
          begins.parts ∙ ap (λ (x : List ℕ). x ++ drop size prefix) (append-nil text) in
          let long : length text ≡ size =
          omega (arith, within, ap length encoded, length-append text (drop size prefix), length-drop size prefix) in
          let at_prefix : take size prefix ≡ text = ap (take size) encoded ∙ take_at text (drop size prefix) size long in
          let in_held : take size held ≡ text = sym (take-append-le size held more le) ∙ ap (take size) (sym parts) ∙ at_prefix in
          let is : held ≡ text ++ drop size held =
          sym (take-append-drop size held) ∙ ap (λ (x : List ℕ). x ++ drop size held) in_held in
          absurd (no_value (Short (length held)) (apdu, drop size held)
          (sym (again apdu (drop size held) begins.encoded.0) ∙ ap apdu_at (sym is) ∙ unfinished))
    ]

-- If `prefix` is `held` followed by a prefix of `piece`, and begins with `apdu`, `held ++ piece` begins with `apdu`.
-- The rest is `piece` without the bytes that belong to `apdu`. There are `at` of them, and by `there` at most `k`.
begins_held : (held piece prefix : List ℕ) (k size : ℕ) (apdu : Apdu) → k ≤ length piece → prefix ≡ held ++ take k piece
    → length held ≤ size → size ≤ length prefix
    → Begins prefix (apdu ∷ []) (drop size prefix) → Begins (held ++ piece) (apdu ∷ []) (drop (size - length held) piece)
begins_held held piece prefix k size apdu few parts later within begins =
    let more = take k piece in
    let at = size - length held in
    let long : length more ≡ k = length-take-le k piece few in
    let there : at ≤ length more = omega (arith, within, ap length parts, length-append held more, later) in
    let place : size ≡ length held + at = omega (arith, later) in
    let rest : drop size prefix ≡ drop at more =
    ap (drop size) parts ∙ ap (λ (n : ℕ). drop n (held ++ more)) place ∙ drop-append-add held more at in
    let last : drop size prefix ++ drop k piece ≡ drop at piece =
    ap (λ (x : List ℕ). x ++ drop k piece) rest ∙ sym (drop-append-le at more (drop k piece) there)
    ∙ ap (drop at) (take-append-drop k piece) in
    subst (λ (x : List ℕ). Begins x (apdu ∷ []) (drop at piece)) (whole_piece k held piece prefix parts)
    (subst (Begins (prefix ++ drop k piece) (apdu ∷ [])) last
    (begins_more prefix (drop size prefix) (drop k piece) (apdu ∷ []) begins))

-- ---- the outcome of a push

-- If the filled bytes begin with an APDU of `end` bytes, it contains all held bytes and ends within `piece`.
pub first_ends_in_piece : {S F : Type 0} (handles : Handles S F) → AgainLaw
    → (old new piece : List ℕ) (size filled end : ℕ) (before now : S) → Fills old new size piece filled → Holds size old
    → HandlesFirst handles (take filled new) before (Ok (Ok end)) now → (size ≤ end) × (end - size ≤ length piece)
first_ends_in_piece handles again old new piece size filled end before now fills is first =
    let apdu = first.2 in
    let later = ends_after again (take size old) (take (filled - size) piece) (take filled new) end apdu.0 is.unfinished
    fills.parts first.1 apdu.1 in
    let long = length-take-le size old (omega (arith, fills.few, fills.room)) in
    let whole = filled_length old new piece size filled fills in
    (omega (arith, later, long), omega (arith, first.1, whole, fills.count))

-- If the first APDU of `held ++ piece` was handled, handling the rest has the outcome of a push of `piece`.
push_after_first : {S F : Type 0} (handles : Handles S F) (held piece later : List ℕ) (apdu : Apdu) (before now after : S)
    (result : Result (Option DerFault) F) (new : FeedState)
    → Begins (held ++ piece) (apdu ∷ []) later → handles before apdu (Ok tt) now
    → HandlesRest handles (Ok held, now) later result (new, after)
    → HandlesEach handles (Ok held, before) piece result (new, after)
push_after_first handles held piece later apdu before now after (Ok fault) new begins first on =
    let others = on.1 in
    let feeds = others.1 in (
      on.0,
      (
        apdu ∷ others.0,
        (feeds.0, begins_join (held ++ piece) later feeds.0 (apdu ∷ []) others.0 begins feeds.1, feeds.2),
        (now, first, others.2),
      ),
    )
push_after_first handles held piece later apdu before now after (Err fault) new begins first on =
    (on.0, fails_later handles (held ++ piece) later before now after apdu fault begins first on.1)

-- If the first APDU of the filled bytes was handled, handling the rest has the outcome of a push of `piece`.
-- `begun` says that `held ++ piece` begins with this APDU. `on` says that the rest was handled. `on_rest` is `on` with
-- the slice of `piece` as a `drop`. `on_held` is `on_rest` with the held bytes of `old`.
pub push_after_filled : {S F : Type 0} (handles : Handles S F) → AgainLaw
    → (old new piece : List ℕ) (size filled end : ℕ) (before now after : S) (was : FeedState)
    (result : Result (Option DerFault) F)
    (feed : FeedState)
    → Fills old new size piece filled → Holds size old → was ≡ Ok (take size old)
    → HandlesFirst handles (take filled new) before (Ok (Ok end)) now
    → HandlesRest handles (Ok (take size new), now) (take (length piece - (end - size)) (drop (end - size) piece)) result
    (feed, after)
    → HandlesEach handles (was, before) piece result (feed, after)
push_after_filled handles again old new piece size filled end before now after was result feed fills is opened first on =
    let held = take size old in
    let there = first_ends_in_piece handles again old new piece size filled end before now fills is first in
    let long : length held ≡ size = length-take-le size old (omega (arith, fills.few, fills.room)) in
    let later : length held ≤ end = omega (arith, long, there.0) in
    let few : filled - size ≤ length piece = omega (arith, fills.count) in
    let apdu = first.2 in
    let begins = begins_held held piece (take filled new) (filled - size) end apdu.0 few fills.parts later first.1 apdu.1 in
    let begun = subst (λ (n : ℕ). Begins (held ++ piece) (apdu.0 ∷ []) (drop (end - n) piece)) long begins in
    let on_rest = subst (λ (x : List ℕ). HandlesRest handles (Ok (take size new), now) x result (feed, after))
    (take_rest piece (end - size)) on in
    let on_held = subst (λ (x : List ℕ). HandlesRest handles (Ok x, now) (drop (end - size) piece) result (feed, after))
    (still_held old new piece size filled fills) on_rest in
    subst (λ (h : FeedState). HandlesEach handles (h, before) piece result (feed, after)) (sym opened)
    (push_after_first handles held piece (drop (end - size) piece) apdu.0 before now after result feed begun apdu.2 on_held)

-- If nothing was held, handling `piece` has the outcome of a push of `piece`.
push_when_empty : {S F : Type 0} (handles : Handles S F) (held piece : List ℕ) (before after : S)
    (result : Result (Option DerFault) F)
    (new : FeedState)
    → held ≡ []
    → HandlesRest handles (Ok held, before) piece result (new, after)
    → HandlesEach handles (Ok held, before) piece result (new, after)
push_when_empty handles held piece before after (Ok fault) new none on =
    subst (λ (x : List ℕ). HandlesEach handles (Ok x, before) piece (Ok fault) (new, after)) (sym none) on
push_when_empty handles held piece before after (Err fault) new none on =
    (on.0, subst (λ (x : List ℕ). FailsIn handles (x ++ piece) before fault after) (sym none) on.1)

-- If `was` is open and holds nothing, handling `piece` has the outcome of a push of `piece`.
pub push_when_open_and_empty : {S F : Type 0} (handles : Handles S F) (held piece : List ℕ) (before after : S) (was : FeedState)
    (result : Result (Option DerFault) F) (new : FeedState)
    → was ≡ Ok held → held ≡ []
    → HandlesRest handles (was, before) piece result (new, after) → HandlesEach handles (was, before) piece result (new, after)
push_when_open_and_empty handles held piece before after was result new opened none on =
    subst (λ (h : FeedState). HandlesEach handles (h, before) piece result (new, after)) (sym opened)
    (push_when_empty handles held piece before after result new none
    (subst (λ (h : FeedState). HandlesRest handles (h, before) piece result (new, after)) opened on))

-- If `held ++ piece` begins with no APDU and leaves `new`, a push of `piece` handles no APDU and keeps the state.
pub all_left : {S F : Type 0} (handles : Handles S F) (held piece : List ℕ) (before after : S) (was new : FeedState)
    → was ≡ Ok held → Leaves (held ++ piece) new → after ≡ before
    → HandlesEach handles (was, before) piece (Ok (fault_of new)) (new, after)
all_left handles held piece before after was new opened leaves same =
    subst (λ (h : FeedState). HandlesEach handles (h, before) piece (Ok (fault_of new)) (new, after)) (sym opened)
    (refl, ([], (held ++ piece, begins_none (held ++ piece), leaves), same))

-- A fault of the filled bytes other than Short is the fault of the held bytes followed by all of `piece`.
pub fault_of_all : (old new piece : List ℕ) (size filled : ℕ) (fault : DerFault) → Fills old new size piece filled
    → IfShort fault ⊥ → apdu_at (take filled new) ≡ Err fault
    → Leaves (take size old ++ piece) (Err fault)
fault_of_all old new piece size filled fault fills other e =
    let k = filled - size in (
      ap apdu_at (sym (whole_piece k (take size old) piece (take filled new) fills.parts))
          ∙ fault_stays (take filled new) (drop k piece) fault other e,
      other,
    )

-- If handling the first APDU of the filled bytes failed, a push of `piece` into `was` failed at that APDU.
pub fails_first : {S F : Type 0} (handles : Handles S F) (old new piece : List ℕ) (size filled : ℕ) (before after : S)
    (was : FeedState) (fault : F)
    → Fills old new size piece filled
    → was ≡ Ok (take size old) → HandlesFirst handles (take filled new) before (Err fault) after
    → FailsAt handles was piece before fault after
fails_first handles old new piece size filled before after was fault fills opened first =
    let k = filled - size in
    let held = take size old in
    let rest = first.1 ++ drop k piece in
    let begins =
    subst (λ (x : List ℕ). Begins x (first.0 ∷ []) rest) (whole_piece k held piece (take filled new) fills.parts)
    (begins_more (take filled new) first.1 (drop k piece) (first.0 ∷ []) first.2) in
    let failed : FailsIn handles (held ++ piece) before fault after = ([], first.0, rest, before, begins, refl, first.3) in
    subst (λ (h : FeedState). FailsAt handles h piece before fault after) (sym opened) failed

-- If handling failed, the feed is open, and its held bytes, followed by `piece`, begin with an APDU.
pub fails_at_apdu : {S F : Type 0} (handles : Handles S F) (old : FeedState) (piece : List ℕ) (before after : S) (fault : F)
    → FailsAt handles old piece before fault after → HasApdu old piece
fails_at_apdu handles (Ok held) piece before after fault fails = begins_first (held ++ piece) fails.0 fails.1 fails.2 fails.4
fails_at_apdu handles (Err closed) piece before after fault fails = fails

-- ---- keeping the APDUs

-- If `handles` appends each APDU to a list, handling `apdus` appends all of them to it, in order.
pub all_kept : {S F : Type 0} (handles : Handles S F) (kept : S → List Apdu)
    → ((before after : S) (apdu : Apdu) → handles before apdu (Ok tt) after → kept after ≡ kept before ++ apdu ∷ [])
    → (before after : S) (apdus : List Apdu) → Handled handles before apdus after → kept after ≡ kept before ++ apdus
all_kept handles kept law before after [] same = ap kept same ∙ sym (append-nil (kept before))
all_kept handles kept law before after (apdu ∷ apdus) handled =
    all_kept handles kept law handled.0 after apdus handled.2
    ∙ ap (λ (x : List Apdu). x ++ apdus) (law before handled.0 apdu handled.1)
    ∙ append_assoc (kept before) (apdu ∷ []) apdus
