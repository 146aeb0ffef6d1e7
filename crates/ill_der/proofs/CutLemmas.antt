-- If bytes are cut into pieces in two ways, the pushes of both give equal APDUs and equal feeds (`any_cut`).
use Rattle.std.proofs.Common.{◌≡◌, ℕ, ◌≤◌, List, [], ◌∷◌, ◌++◌, length, Ok, Err, refl, sym, ap, subst, ◌∙◌, arith, append_assoc}
use Rattle.std.specs.List.{flat_map, concat}
use Rattle.std.proofs.lemmas.List.{append-nil}
use Rattle.ill_values.specs.declared.apdu.Apdu.{Apdu}
use Rattle.ill_der.specs.declared.fault.DerFault.{DerFault}
use Rattle.ill_der.specs.declared.fault.DerFault.TheVariants.{Short}
use Rattle.ill_der.specs.ShortForm.{encoding, header_at, outer_at, apdu_at}
use Rattle.ill_der.specs.Stream.{IsUnfinished, IfShort}
use Rattle.ill_der.specs.Feed.{Begins, FeedState, Leaves, Feeds, FeedsAll}
use Rattle.ill_der.proofs.Chains.{no_value, ok_is, fault_is}
use Rattle.ill_der.proofs.ShortFormLaws.{fault_stays}
use Rattle.ill_der.proofs.FeedLemmas.{AgainLaw, ShortLaw, begins_join, begins_more}

-- ---- pieces one after another

-- If `prefix` and then `piece` are pushed, one push of `prefix ++ piece` gives all their APDUs and the second feed.
-- The cases are: both pushes find an open feed, the first push closes it, and it was closed before.
pub two_pushes : (old middle new : FeedState) (prefix piece : List ℕ) (first more : List Apdu) → Feeds old prefix first middle
    → Feeds middle piece more new → Feeds old (prefix ++ piece) (first ++ more) new
two_pushes (Ok held) (Ok between) new prefix piece first more a b =
    let bytes : (held ++ prefix) ++ piece ≡ held ++ (prefix ++ piece) = append_assoc held prefix piece in
    let left = a.2 in
    let begun = subst (λ (x : List ℕ). Begins ((held ++ prefix) ++ piece) first (x ++ piece)) (sym left.0)
    (begins_more (held ++ prefix) a.0 piece first a.1) in
    let begins = begins_join ((held ++ prefix) ++ piece) (between ++ piece) b.0 first more begun b.1 in
    (b.0, subst (λ (x : List ℕ). Begins x (first ++ more) b.0) bytes begins, b.2)
two_pushes (Ok held) (Err fault) new prefix piece first more a b =
    let bytes : (held ++ prefix) ++ piece ≡ held ++ (prefix ++ piece) = append_assoc held prefix piece in
    let begun = subst (λ (x : List ℕ). Begins x first (a.0 ++ piece)) bytes (begins_more (held ++ prefix) a.0 piece first a.1) in
    let all : first ≡ first ++ more = sym (append-nil first) ∙ ap (λ (x : List Apdu). first ++ x) (sym b.0) in
    let left = a.2 in
    let leaves : Leaves (a.0 ++ piece) (Err fault) = (fault_stays a.0 piece fault left.1 left.0, left.1) in (
      a.0 ++ piece,
      subst (λ (x : List Apdu). Begins (held ++ (prefix ++ piece)) x (a.0 ++ piece)) all begun,
      subst (Leaves (a.0 ++ piece)) (sym b.1) leaves,
    )
two_pushes (Err fault) middle new prefix piece first more a b =
    let closed : Feeds (Err fault) piece more new = subst (λ (m : FeedState). Feeds m piece more new) a.1 b in
    (ap (λ (x : List Apdu). x ++ more) a.0 ∙ closed.0, closed.1)

-- The feed is closed, or it is open and holds unfinished bytes.
abbrev IsFeed : FeedState → Type 0
IsFeed (Ok held) = IsUnfinished held
IsFeed (Err fault) = Unit {0}

-- If `rest` leaves the feed `new`, `new` is closed or holds unfinished bytes.
is_left : (rest : List ℕ) (new : FeedState) → Leaves rest new → IsFeed new
is_left rest (Ok held) leaves = subst IsUnfinished (sym leaves.0) leaves.1
is_left rest (Err fault) leaves = tt

-- After a push, the feed `new` is closed or holds unfinished bytes.
is_fed : (old : FeedState) (piece : List ℕ) (apdus : List Apdu) (new : FeedState) → Feeds old piece apdus new → IsFeed new
is_fed (Ok held) piece apdus new feeds = is_left feeds.0 new feeds.2
is_fed (Err fault) piece apdus new feeds = subst IsFeed (sym feeds.1) tt

-- If `old` is closed or holds unfinished bytes, a push of no bytes gives no APDU and keeps `old`.
no_push : (old : FeedState) → IsFeed old → Feeds old [] [] old
no_push (Ok held) is = (held, record { encoded = tt; parts = append-nil held }, (refl, is))
no_push (Err fault) is = (refl, refl)

-- If `pieces` are pushed into `old` one after another, one push of all their bytes gives equal APDUs and an equal feed.
pub all_pushes : (pieces : List (List ℕ)) (old : FeedState) (apdus : List Apdu) (new : FeedState) → IsFeed old
    → FeedsAll old pieces apdus new → Feeds old (concat pieces) apdus new
all_pushes [] old apdus new is all =
    subst (λ (x : List Apdu). Feeds old [] x new) (sym all.0)
    (subst (λ (h : FeedState). Feeds old [] [] h) (sym all.1) (no_push old is))
all_pushes (piece ∷ pieces) old apdus new is all =
    let later = all_pushes pieces all.2 all.1 new (is_fed old piece all.0 all.2 all.3) all.4 in
    subst (λ (x : List Apdu). Feeds old (piece ++ concat pieces) x new) (sym all.5)
    (two_pushes old all.2 new piece (concat pieces) all.0 all.1 all.3 later)

-- ---- equal results of all cuts

-- If `rest` leaves a feed, `rest` has a fault.
has_fault : (rest : List ℕ) (new : FeedState) → Leaves rest new → (d : DerFault) × (apdu_at rest ≡ Err d)
has_fault rest (Ok held) leaves = (Short (length rest), leaves.1)
has_fault rest (Err fault) leaves = (fault, leaves.0)

-- If `bytes` is `apdu`, `apdus` and then `rest`, `apdu_at` reads `apdu` and leaves the encodings of `apdus` and `rest`.
first_again : AgainLaw → (bytes rest : List ℕ) (apdu : Apdu) (apdus : List Apdu) → Begins bytes (apdu ∷ apdus) rest
    → apdu_at bytes ≡ Ok (apdu, flat_map encoding apdus ++ rest)
first_again again bytes rest apdu apdus begins =
    ap apdu_at (begins.parts ∙ append_assoc (encoding apdu) (flat_map encoding apdus) rest)
    ∙ again apdu (flat_map encoding apdus ++ rest) begins.encoded.0

-- If all of `bytes` is a rest that leaves a feed, `bytes` begins with no APDU.
no_first : AgainLaw → (bytes rest after : List ℕ) (new : FeedState) (apdu : Apdu) (apdus : List Apdu) → Begins bytes [] rest
    → Leaves rest new → Begins bytes (apdu ∷ apdus) after → ⊥
no_first again bytes rest after new apdu apdus none leaves some =
    let fault = has_fault rest new leaves in
    no_value fault.0 (apdu, flat_map encoding apdus ++ after)
    (sym (first_again again bytes after apdu apdus some) ∙ ap apdu_at none.parts ∙ fault.1)

-- If `rest` leaves the feed `a` and leaves the feed `b`, `a` equals `b`.
same_left : (rest : List ℕ) (a b : FeedState) → Leaves rest a → Leaves rest b → a ≡ b
same_left rest (Ok one) (Ok other) a b = ap Ok (a.0 ∙ sym b.0)
same_left rest (Ok one) (Err fault) a b =
    absurd (subst (λ (f : DerFault). IfShort f ⊥) (fault_is fault (Short (length rest)) (sym b.0 ∙ a.1)) b.1)
same_left rest (Err fault) (Ok other) a b =
    absurd (subst (λ (f : DerFault). IfShort f ⊥) (fault_is fault (Short (length rest)) (sym a.0 ∙ b.1)) a.1)
same_left rest (Err one) (Err other) a b = ap Err (fault_is one other (sym a.0 ∙ b.0))

-- If `bytes` is divided into APDUs and a rest in two ways, the APDUs are equal, and the rests leave equal feeds.
-- By `first_again` the first APDUs are equal. By `no_first` it is absurd that only one way has a first APDU.
one_cut : AgainLaw → (first second : List Apdu) (bytes rest after : List ℕ) (a b : FeedState) → Begins bytes first rest
    → Leaves rest a → Begins bytes second after → Leaves after b
    → (first ≡ second) × (a ≡ b)
one_cut again [] [] bytes rest after a b x leaves y other =
    (refl, same_left rest a b leaves (subst (λ (r : List ℕ). Leaves r b) (sym y.parts ∙ x.parts) other))
one_cut again [] (apdu ∷ apdus) bytes rest after a b x leaves y other =
    absurd (no_first again bytes rest after a apdu apdus x leaves y)
one_cut again (apdu ∷ apdus) [] bytes rest after a b x leaves y other =
    absurd (no_first again bytes after rest b apdu apdus y other x)
one_cut again (apdu ∷ apdus) (one ∷ ones) bytes rest after a b x leaves y other =
    let tail = flat_map encoding apdus ++ rest in
    let last = flat_map encoding ones ++ after in
    let same = ok_is (apdu, tail) (one, last)
    (sym (first_again again bytes rest apdu apdus x) ∙ first_again again bytes after one ones y) in
    let head : apdu ≡ one = ap (λ (r : Apdu × List ℕ). r.0) same in
    let tails : tail ≡ last = ap (λ (r : Apdu × List ℕ). r.1) same in
    let later =
    one_cut again apdus ones tail rest after a b (record { encoded = x.encoded.1; parts = refl }) leaves
    (record { encoded = y.encoded.1; parts = tails }) other in
    (ap (λ (e : Apdu). e ∷ apdus) head ∙ ap (λ (es : List Apdu). one ∷ es) later.0, later.1)

-- The empty list of bytes is unfinished: it is less than an APDU.
nothing_held : IsUnfinished []
unfolding apdu_at outer_at header_at
nothing_held = refl

-- Let two lists of pieces have equal bytes. Pushed into empty feeds, both give equal APDUs and leave equal feeds.
pub any_cut : AgainLaw → (pieces others : List (List ℕ)) (first second : List Apdu) (a b : FeedState)
    → concat pieces ≡ concat others → FeedsAll (Ok []) pieces first a → FeedsAll (Ok []) others second b
    → (first ≡ second) × (a ≡ b)
any_cut again pieces others first second a b same one other =
    let x = all_pushes pieces (Ok []) first a nothing_held one in
    let y = all_pushes others (Ok []) second b nothing_held other in
    one_cut again first second (concat pieces) x.0 y.0 a b x.1 x.2
    (subst (λ (bytes : List ℕ). Begins bytes second y.0) (sym same) y.1) y.2

-- If a feed was empty, it holds at most 358 bytes after any pushes.
pub few_are_held : ShortLaw → (pieces : List (List ℕ)) (apdus : List Apdu) (held : List ℕ)
    → FeedsAll (Ok []) pieces apdus (Ok held) → length held ≤ 358
few_are_held law pieces apdus held all =
    let fed = all_pushes pieces (Ok []) apdus (Ok held) nothing_held all in
    let left = fed.2 in
    let most = law fed.0 (length fed.0) left.1 in
    omega (arith, most.1, ap length left.0)
