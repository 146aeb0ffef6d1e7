-- The laws of a `Format`, a description of fields. Each way to build a `Format` from others keeps the laws.
use Rattle.std.proofs.Common.{Result, ◌≡◌, ℕ, ◌+◌, ◌<◌, ◌≤◌, Bool, false, List, [], ◌++◌, length, Option, Some, None, Ok, Err}
use Rattle.std.proofs.Common.{refl, sym, ap, subst, ◌∙◌, inl, inr, append_assoc, arith, cond, true}
use Rattle.std.specs.Prelude.{IfSome}
use Rattle.std.proofs.lemmas.List.{append-nil, length-append}
use Rattle.ill_der.specs.declared.fault.DerFault.{DerFault}
use Rattle.ill_der.specs.Contents.{Contents}
use Rattle.ill_der.specs.Format.{◌>>=◌, element, Cursor, cursor_at, element_at, begins_with, ended, Codec, Format, value_of}
use Rattle.ill_der.specs.Format.{required, optional, followed_by, where_yes, constructed}
use Rattle.ill_der.proofs.Chains.{bind_ok, bind_err, chosen, ok_is, no_value, IsInside, field_inside}
use Rattle.ill_der.specs.Laws.{IsBytes}
use Rattle.ill_der.proofs.Lengths.{overhead}
use Rattle.ill_der.proofs.Elements.{element_takes, element_again, element_bound, element_begins, element_faults, ended_faults}
use Rattle.ill_der.proofs.Elements.{ended_is}

-- ---- contents

-- `kind` reads exactly the encodings of values that satisfy `P`, and these have at most `most` octets.
pub record IsContents {V : Type 0} (P : V → Type 0) (most : ℕ) (kind : Contents V) : Type 0 where
  pub takes : (bytes : List ℕ) (v : V) → IsBytes bytes → kind.read bytes ≡ Some v → (bytes ≡ kind.encode v) × P v
  pub again : (v : V) → P v → kind.read (kind.encode v) ≡ Some v
  pub bound : (v : V) → P v → length (kind.encode v) ≤ most

-- ---- fields

-- `bytes` is the encoding of `v` followed by `rest`, `v` satisfies `P`, and `rest` are octets.
abbrev pub Takes : {E V : Type 0} → Codec E V → (V → Type 0) → List ℕ → V → List ℕ → Type 0
Takes f P bytes v rest = (bytes ≡ f.encode v ++ rest) × P v × IsBytes rest

-- `f` reads `v` from its encoding at the offset `at`, and leaves the bytes `more` after it.
abbrev pub ReadsAgain : {E V : Type 0} → Codec E V → V → ℕ → List ℕ → Type 0
ReadsAgain f v at more = (after : ℕ) × (f.read (cursor_at at (f.encode v ++ more)) ≡ Ok (v, cursor_at after more))

-- `f` reads only encodings of values that satisfy `P`. It reads each of them if the bytes after it satisfy `Follows`.
pub record IsCodec {E V : Type 0} (P : V → Type 0) (Follows : List ℕ → Type 0) (f : Codec E V) : Type 0 where
  pub takes : (left : Cursor) (v : V) (rest : Cursor) → IsBytes left.bytes → f.read left ≡ Ok (v, rest)
      → Takes f P left.bytes v rest.bytes
  pub again : (v : V) (at : ℕ) (more : List ℕ) → P v → Follows more → ReadsAgain f v at more

-- `f` obeys `IsCodec`. An encoding has at most `most` bytes, and each fault of reading is Tag, Length or Field.
pub record IsFormat {V : Type 0} (P : V → Type 0) (Follows : List ℕ → Type 0) (most : ℕ) (f : Format V) : Type 0 where
  pub codec : IsCodec P Follows f
  pub bound : (v : V) → P v → length (f.encode v) ≤ most
  pub faults : (left : Cursor) (d : DerFault) → f.read left ≡ Err d → IsInside d

-- `more` is any bytes.
abbrev pub Any : List ℕ → Type 0
Any more = Unit {0}

-- ---- a required primitive field

-- If `value_of o at` gives `v`, `o` is `Some v`.
value_found : {V : Type 0} (o : Option V) (at : ℕ) (v : V) → value_of o at ≡ Ok v → o ≡ Some v
value_found (Some x) at v e = ap Some (ok_is x v e)
value_found None at v e = absurd cc

-- Each fault of `value_of` is Tag, Length or Field.
value_faults : {V : Type 0} (o : Option V) (at : ℕ) (d : DerFault) → value_of o at ≡ Err d → IsInside d
value_faults (Some x) at d e = absurd (no_value d x e)
value_faults None at d e = field_inside at d e

-- If `required` reads `v` from `left`, `left` is the encoding of `v` followed by `rest`, and `v` satisfies `P`.
-- `part` is the element that was read, and `found` the value of its contents.
required_takes : {V : Type 0} (P : V → Type 0) (most : ℕ) (kind : Contents V) (identifier : ℕ) → IsContents P most kind
    → (left : Cursor) (v : V) (rest : Cursor) → IsBytes left.bytes → (required identifier kind).read left ≡ Ok (v, rest)
    → Takes (required identifier kind) P left.bytes v rest.bytes
required_takes {V} P most kind identifier is left v rest fits e =
    let part = bind_ok (element_at identifier left)
    (λ part. value_of (kind.read part.0.bytes) part.0.at >>= λ value. Ok (value, part.1)) (v, rest) e in
    let found = bind_ok (value_of (kind.read part.value.0.bytes) part.value.0.at) (λ value. Ok (value, part.value.1)) (v, rest)
    part.follows in
    let both : (found.value, part.value.1) ≡ (v, rest) = ok_is (found.value, part.value.1) (v, rest) found.follows in
    let taken = element_takes identifier left part.value.0 part.value.1 fits part.given in
    let value = is.takes part.value.0.bytes found.value taken.inside_fits
    (value_found (kind.read part.value.0.bytes) part.value.0.at found.value found.given) in
    let parts : left.bytes ≡ element identifier (kind.encode found.value) ++ part.value.1.bytes =
    taken.parts ∙ ap (λ (x : List ℕ). element identifier x ++ part.value.1.bytes) value.0 in
    subst (λ (x : V × Cursor). Takes (required identifier kind) P left.bytes x.0 x.1.bytes) both (parts, value.1, taken.rest_fits)

-- If `most` is below 65536, `required` reads each value that satisfies `P` from its encoding, whatever follows.
required_again : {V : Type 0} (P : V → Type 0) (most : ℕ) (kind : Contents V) (identifier : ℕ) → most < 65536
    → IsContents P most kind
    → (v : V) (at : ℕ) (more : List ℕ) → P v → ReadsAgain (required identifier kind) v at more
required_again P most kind identifier small is v at more p =
    let read = element_again identifier at (kind.encode v) more (omega (arith, is.bound v p)) in
    (read.1, rw (read.2, is.again v p) refl)

-- Each fault of `required` is Tag, Length or Field.
required_faults : {V : Type 0} (kind : Contents V) (identifier : ℕ) (left : Cursor) (d : DerFault)
    → (required identifier kind).read left ≡ Err d → IsInside d
required_faults {V} kind identifier left d e =
    elim (bind_err (element_at identifier left)
    (λ part. value_of (kind.read part.0.bytes) part.0.at >>= λ value. Ok (value, part.1)) d e) [
      | inl h ↦ element_faults identifier left d h
      | inr part ↦ elim (bind_err (value_of (kind.read part.value.0.bytes) part.value.0.at) (λ value. Ok (value, part.value.1)) d
          part.follows) [
            | inl g ↦ value_faults (kind.read part.value.0.bytes) part.value.0.at d g
            | inr found ↦ absurd (no_value d (found.value, part.value.1) found.follows)
          ]
    ]

-- If `kind` obeys `IsContents` with `most` below 65536, its required field obeys `IsFormat`.
pub required_is : {V : Type 0} (P : V → Type 0) (most : ℕ) (kind : Contents V) (identifier : ℕ) → most < 65536
    → IsContents P most kind
    → IsFormat P Any (overhead most + most) (required identifier kind)
required_is P most kind identifier small is = record {
  codec = record {
    takes = required_takes P most kind identifier is;
    again = λ v at more p any. required_again P most kind identifier small is v at more p;
  };
  bound = λ v p. element_bound identifier most (kind.encode v) (is.bound v p);
  faults = required_faults kind identifier;
}

-- ---- an optional primitive field

-- `b` is true exactly if `more` begins with `identifier`.
abbrev pub Begins : Bool → ℕ → List ℕ → Type 0
Begins b identifier more = begins_with identifier more ≡ b

-- If `optional` reads `o` from `left`, `left` is the encoding of `o` followed by `rest`. A value in `o` satisfies `P`.
optional_takes : {V : Type 0} (P : V → Type 0) (most : ℕ) (kind : Contents V) (identifier : ℕ) → IsContents P most kind
    → (left : Cursor) (o : Option V) (rest : Cursor) → IsBytes left.bytes → (optional identifier kind).read left ≡ Ok (o, rest)
    → Takes (optional identifier kind) (λ o. IfSome o P) left.bytes o rest.bytes
optional_takes {V} P most kind identifier is left o rest fits e =
    elim (chosen (begins_with identifier left.bytes)
    ((required identifier kind).read left >>= λ field. Ok (Some field.0, field.1)) (Ok (None, left)) (Ok (o, rest)) e) [
      | inl h ↦
          let field = bind_ok ((required identifier kind).read left) (λ field. Ok (Some field.0, field.1)) (o, rest) h.1 in
          let both : (Some field.value.0, field.value.1) ≡ (o, rest) =
          ok_is (Some field.value.0, field.value.1) (o, rest) field.follows in
          let taken = required_takes P most kind identifier is left field.value.0 field.value.1 fits field.given in
          subst (λ (x : Option V × Cursor). Takes (optional identifier kind) (λ o. IfSome o P) left.bytes x.0 x.1.bytes) both
          taken
      | inr h ↦
          let both : (None, left) ≡ (o, rest) = ok_is (None, left) (o, rest) h.1 in
          subst (λ (x : Option V × Cursor). Takes (optional identifier kind) (λ o. IfSome o P) left.bytes x.0 x.1.bytes) both
          (refl, tt, fits)
    ]

-- `optional` reads each `o` from its encoding, if the bytes after it do not begin with `identifier`.
optional_again : {V : Type 0} (P : V → Type 0) (most : ℕ) (kind : Contents V) (identifier : ℕ) → most < 65536
    → IsContents P most kind
    → (o : Option V) (at : ℕ) (more : List ℕ) → IfSome o P → Begins false identifier more
    → ReadsAgain (optional identifier kind) o at more
optional_again P most kind identifier small is None at more p follows = (at, rw follows refl)
optional_again P most kind identifier small is (Some v) at more p follows =
    let read = required_again P most kind identifier small is v at more p in
    (read.0, rw (element_begins identifier (kind.encode v) more, read.1) refl)

-- The encoding of an optional field has at most `overhead most + most` bytes.
optional_bound : {V : Type 0} (P : V → Type 0) (most : ℕ) (kind : Contents V) (identifier : ℕ) → IsContents P most kind
    → (o : Option V) → IfSome o P → length ((optional identifier kind).encode o) ≤ overhead most + most
optional_bound P most kind identifier is None p = omega arith
optional_bound P most kind identifier is (Some v) p = element_bound identifier most (kind.encode v) (is.bound v p)

-- Each fault of `optional` is Tag, Length or Field.
optional_faults : {V : Type 0} (kind : Contents V) (identifier : ℕ) (left : Cursor) (d : DerFault)
    → (optional identifier kind).read left ≡ Err d → IsInside d
optional_faults {V} kind identifier left d e =
    elim (chosen (begins_with identifier left.bytes)
    ((required identifier kind).read left >>= λ field. Ok (Some field.0, field.1)) (Ok (None, left)) (Err d) e) [
      | inl h ↦ elim (bind_err ((required identifier kind).read left) (λ field. Ok (Some field.0, field.1)) d h.1) [
        | inl g ↦ required_faults kind identifier left d g
        | inr field ↦ absurd (no_value d (Some field.value.0, field.value.1) field.follows)
      ]
      | inr h ↦ absurd (no_value d (None, left) h.1)
    ]

-- If `kind` obeys `IsContents` with `most` below 65536, its optional field obeys `IsFormat`.
-- Bytes that follow the field must not begin with `identifier`.
pub optional_is : {V : Type 0} (P : V → Type 0) (most : ℕ) (kind : Contents V) (identifier : ℕ) → most < 65536
    → IsContents P most kind
    → IsFormat (λ o. IfSome o P) (Begins false identifier) (overhead most + most) (optional identifier kind)
optional_is P most kind identifier small is = record {
  codec = record { takes = optional_takes P most kind identifier is; again = optional_again P most kind identifier small is };
  bound = optional_bound P most kind identifier is;
  faults = optional_faults kind identifier;
}

-- ---- fields followed by further fields

-- The first part of the pair `v` satisfies `P`, and the second satisfies `Q`.
abbrev pub Both : {V W : Type 0} → (V → Type 0) → (W → Type 0) → V × W → Type 0
Both P Q v = P v.0 × Q v.1

-- If `followed_by f g` reads `v` from `left`, `left` is the encoding of `v` followed by `rest`, and `v` is in range.
-- `former` is the value that `f` read, and `latter` the one that `g` read after it.
followed_takes : {E V W : Type 0} (P : V → Type 0) (Q : W → Type 0) (F G : List ℕ → Type 0) (f : Codec E V) (g : Codec E W)
    → IsCodec P F f → IsCodec Q G g
    → (left : Cursor) (v : V × W) (rest : Cursor) → IsBytes left.bytes → (followed_by f g).read left ≡ Ok (v, rest)
    → Takes (followed_by f g) (Both P Q) left.bytes v rest.bytes
followed_takes {E} {V} {W} P Q F G f g fs gs left v rest fits e =
    let former = bind_ok (f.read left) (λ a. g.read a.1 >>= λ b. Ok ((a.0, b.0), b.1)) (v, rest) e in
    let latter = bind_ok (g.read former.value.1) (λ b. Ok ((former.value.0, b.0), b.1)) (v, rest) former.follows in
    let both : ((former.value.0, latter.value.0), latter.value.1) ≡ (v, rest) =
    ok_is {E = E} ((former.value.0, latter.value.0), latter.value.1) (v, rest) latter.follows in
    let first = fs.takes left former.value.0 former.value.1 fits former.given in
    let second = gs.takes former.value.1 latter.value.0 latter.value.1 first.2 latter.given in
    let parts : left.bytes ≡ (f.encode former.value.0 ++ g.encode latter.value.0) ++ latter.value.1.bytes =
    first.0 ∙ ap (λ (x : List ℕ). f.encode former.value.0 ++ x) second.0
    ∙ sym (append_assoc (f.encode former.value.0) (g.encode latter.value.0) latter.value.1.bytes) in
    subst (λ (x : (V × W) × Cursor). Takes (followed_by f g) (Both P Q) left.bytes x.0 x.1.bytes) both
    (parts, (first.1, second.1), second.2)

-- If `f` and `g` obey `IsCodec`, and each encoding by `g` may follow `f`, `followed_by f g` obeys `IsCodec`.
pub followed_codec : {E V W : Type 0} (P : V → Type 0) (Q : W → Type 0) (F G : List ℕ → Type 0) (f : Codec E V) (g : Codec E W)
    → IsCodec P F f → IsCodec Q G g
    → ((w : W) (more : List ℕ) → Q w → F (g.encode w ++ more)) → IsCodec (Both P Q) G (followed_by f g)
followed_codec P Q F G f g fs gs joins = record {
  takes = followed_takes P Q F G f g fs gs;
  again = λ v at more p follows.
      let first = fs.again v.0 at (g.encode v.1 ++ more) p.0 (joins v.1 more p.1) in
      let second = gs.again v.1 first.0 more p.1 follows in
      (second.0, rw (append_assoc (f.encode v.0) (g.encode v.1) more, first.1, second.1) refl);
}

-- Each fault of `followed_by f g` is Tag, Length or Field.
followed_faults : {V W : Type 0} (P : V → Type 0) (Q : W → Type 0) (F G : List ℕ → Type 0) (m n : ℕ) (f : Format V) (g : Format W)
    → IsFormat P F m f → IsFormat Q G n g
    → (left : Cursor) (d : DerFault) → (followed_by f g).read left ≡ Err d → IsInside d
followed_faults P Q F G m n f g fs gs left d e =
    elim (bind_err (f.read left) (λ a. g.read a.1 >>= λ b. Ok ((a.0, b.0), b.1)) d e) [
      | inl h ↦ fs.faults left d h
      | inr former ↦ elim (bind_err (g.read former.value.1) (λ b. Ok ((former.value.0, b.0), b.1)) d former.follows) [
        | inl i ↦ gs.faults former.value.1 d i
        | inr latter ↦ absurd (no_value d ((former.value.0, latter.value.0), latter.value.1) latter.follows)
      ]
    ]

-- If `f` and `g` obey `IsFormat`, and each encoding by `g` may follow `f`, `followed_by f g` obeys `IsFormat`.
pub followed_is : {V W : Type 0} (P : V → Type 0) (Q : W → Type 0) (F G : List ℕ → Type 0) (m n : ℕ) (f : Format V) (g : Format W)
    → IsFormat P F m f → IsFormat Q G n g
    → ((w : W) (more : List ℕ) → Q w → F (g.encode w ++ more)) → IsFormat (Both P Q) G (m + n) (followed_by f g)
followed_is P Q F G m n f g fs gs joins = record {
  codec = followed_codec P Q F G f g fs.codec gs.codec joins;
  bound = λ v p. omega (arith, length-append (f.encode v.0) (g.encode v.1), fs.bound v.0 p.0, gs.bound v.1 p.1);
  faults = followed_faults P Q F G m n f g fs gs;
}

-- ---- a yes or no, with a further field after a yes

-- If `where_yes` reads `o` from `left`, `left` is the encoding of `o` followed by `rest`. A value in `o` satisfies `P`.
-- `flag` is the yes or no that was read. The first case is a yes, and `found` is the field after it.
where_takes : {E V : Type 0} (Q : Bool → Type 0) (P : V → Type 0) (F G : List ℕ → Type 0) (yes_no : Codec E Bool)
    (field : Codec E V)
    → IsCodec Q F yes_no → IsCodec P G field
    → (left : Cursor) (o : Option V) (rest : Cursor) → IsBytes left.bytes
    → (where_yes yes_no field).read left ≡ Ok (o, rest)
    → Takes (where_yes yes_no field) (λ o. IfSome o P) left.bytes o rest.bytes
where_takes {E} {V} Q P F G yes_no field qs fs left o rest fits e =
    let flag = bind_ok (yes_no.read left)
    (λ is_yes. cond is_yes.0 (field.read is_yes.1 >>= λ found. Ok (Some found.0, found.1)) (Ok (None, is_yes.1))) (o, rest)
    e in
    let first = qs.takes left flag.value.0 flag.value.1 fits flag.given in
    elim (chosen {A = Result (Option V × Cursor) E} flag.value.0
    (field.read flag.value.1 >>= λ found. Ok (Some found.0, found.1)) (Ok (None, flag.value.1)) (Ok (o, rest)) flag.follows) [
      | inl h ↦
          let found = bind_ok (field.read flag.value.1) (λ found. Ok (Some found.0, found.1)) (o, rest) h.1 in
          let both : (Some found.value.0, found.value.1) ≡ (o, rest) =
          ok_is {E = E} (Some found.value.0, found.value.1) (o, rest) found.follows in
          let second = fs.takes flag.value.1 found.value.0 found.value.1 first.2 found.given in
          let parts : left.bytes ≡ (yes_no.encode true ++ field.encode found.value.0) ++ found.value.1.bytes =
          first.0 ∙ ap (λ (b : Bool). yes_no.encode b ++ flag.value.1.bytes) h.0
          ∙ ap (λ (x : List ℕ). yes_no.encode true ++ x) second.0
          ∙ sym (append_assoc (yes_no.encode true) (field.encode found.value.0) found.value.1.bytes) in
          subst (λ (x : Option V × Cursor). Takes (where_yes yes_no field) (λ o. IfSome o P) left.bytes x.0 x.1.bytes) both
          (parts, second.1, second.2)
      | inr h ↦
          let both : (None, flag.value.1) ≡ (o, rest) = ok_is {E = E} (None, flag.value.1) (o, rest) h.1 in
          let parts : left.bytes ≡ (yes_no.encode false ++ []) ++ flag.value.1.bytes =
          first.0 ∙ ap (λ (b : Bool). yes_no.encode b ++ flag.value.1.bytes) h.0
          ∙ ap (λ (x : List ℕ). x ++ flag.value.1.bytes) (sym (append-nil (yes_no.encode false))) in
          subst (λ (x : Option V × Cursor). Takes (where_yes yes_no field) (λ o. IfSome o P) left.bytes x.0 x.1.bytes) both
          (parts, tt, first.2)
    ]

-- If yes and no are in range and `more` may follow `field`, `where_yes` reads each `o` from its encoding.
where_again : {E V : Type 0} (Q : Bool → Type 0) (P : V → Type 0) (G : List ℕ → Type 0) (yes_no : Codec E Bool)
    (field : Codec E V)
    → IsCodec Q Any yes_no → IsCodec P G field
    → ((b : Bool) → Q b) → (o : Option V) (at : ℕ) (more : List ℕ) → IfSome o P → G more
    → ReadsAgain (where_yes yes_no field) o at more
where_again Q P G yes_no field qs fs each None at more p follows =
    let first = qs.again false at more (each false) tt in
    (first.0, rw (append-nil (yes_no.encode false), first.1) refl)
where_again Q P G yes_no field qs fs each (Some v) at more p follows =
    let first = qs.again true at (field.encode v ++ more) (each true) tt in
    let second = fs.again v first.0 more p follows in
    (second.0, rw (append_assoc (yes_no.encode true) (field.encode v) more, first.1, second.1) refl)

-- If `yes_no` and `field` obey `IsCodec`, and yes and no are in range, `where_yes` of both obeys `IsCodec`.
pub where_codec : {E V : Type 0} (Q : Bool → Type 0) (P : V → Type 0) (G : List ℕ → Type 0) (yes_no : Codec E Bool)
    (field : Codec E V)
    → IsCodec Q Any yes_no → IsCodec P G field
    → ((b : Bool) → Q b) → IsCodec (λ o. IfSome o P) G (where_yes yes_no field)
where_codec Q P G yes_no field qs fs each = record {
  takes = where_takes Q P Any G yes_no field qs fs;
  again = where_again Q P G yes_no field qs fs each;
}

-- The encoding of `o` by `where_yes` has at most `m + n` bytes.
where_bound : {V : Type 0} (Q : Bool → Type 0) (P : V → Type 0) (F G : List ℕ → Type 0) (m n : ℕ) (yes_no : Format Bool)
    (field : Format V)
    → IsFormat Q F m yes_no → IsFormat P G n field
    → ((b : Bool) → Q b) → (o : Option V) → IfSome o P → length ((where_yes yes_no field).encode o) ≤ m + n
where_bound Q P F G m n yes_no field qs fs each None p =
    omega (arith, length-append (yes_no.encode false) [], qs.bound false (each false))
where_bound Q P F G m n yes_no field qs fs each (Some v) p =
    omega (arith, length-append (yes_no.encode true) (field.encode v), qs.bound true (each true), fs.bound v p)

-- Each fault of `where_yes` is Tag, Length or Field.
where_faults : {V : Type 0} (Q : Bool → Type 0) (P : V → Type 0) (F G : List ℕ → Type 0) (m n : ℕ) (yes_no : Format Bool)
    (field : Format V)
    → IsFormat Q F m yes_no → IsFormat P G n field
    → (left : Cursor) (d : DerFault) → (where_yes yes_no field).read left ≡ Err d → IsInside d
where_faults {V} Q P F G m n yes_no field qs fs left d e =
    elim (bind_err (yes_no.read left)
    (λ is_yes. cond is_yes.0 (field.read is_yes.1 >>= λ found. Ok (Some found.0, found.1)) (Ok (None, is_yes.1))) d e) [
      | inl h ↦ qs.faults left d h
      | inr flag ↦ elim (chosen {A = Result (Option V × Cursor) DerFault} flag.value.0
          (field.read flag.value.1 >>= λ found. Ok (Some found.0, found.1)) (Ok (None, flag.value.1)) (Err d) flag.follows) [
            | inl g ↦ elim (bind_err (field.read flag.value.1) (λ found. Ok (Some found.0, found.1)) d g.1) [
              | inl i ↦ fs.faults flag.value.1 d i
              | inr found ↦ absurd (no_value d (Some found.value.0, found.value.1) found.follows)
            ]
            | inr g ↦ absurd (no_value d (None, flag.value.1) g.1)
          ]
    ]

-- If `yes_no` and `field` obey `IsFormat`, and yes and no are in range, `where_yes` of both obeys `IsFormat`.
pub where_is : {V : Type 0} (Q : Bool → Type 0) (P : V → Type 0) (G : List ℕ → Type 0) (m n : ℕ) (yes_no : Format Bool)
    (field : Format V)
    → IsFormat Q Any m yes_no → IsFormat P G n field
    → ((b : Bool) → Q b) → IsFormat (λ o. IfSome o P) G (m + n) (where_yes yes_no field)
where_is Q P G m n yes_no field qs fs each = record {
  codec = where_codec Q P G yes_no field qs.codec fs.codec each;
  bound = where_bound Q P Any G m n yes_no field qs fs each;
  faults = where_faults Q P Any G m n yes_no field qs fs;
}

-- ---- a constructed field

-- If `constructed` reads `v` from `left`, `left` is the encoding of `v` followed by `rest`, and `v` satisfies `P`.
-- `part` is the element that was read, `found` the fields in it, and `over` the end after them.
constructed_takes : {V : Type 0} (P : V → Type 0) (F : List ℕ → Type 0) (m : ℕ) (f : Format V) (identifier : ℕ) → IsFormat P F m f
    → (left : Cursor) (v : V) (rest : Cursor) → IsBytes left.bytes → (constructed identifier f).read left ≡ Ok (v, rest)
    → Takes (constructed identifier f) P left.bytes v rest.bytes
constructed_takes {V} P F m f identifier fs left v rest fits e =
    let part = bind_ok (element_at identifier left)
    (λ part. f.read part.0 >>= λ found. ended found.1 >>= λ _. Ok (found.0, part.1)) (v, rest) e in
    let found = bind_ok (f.read part.value.0) (λ found. ended found.1 >>= λ _. Ok (found.0, part.value.1)) (v, rest)
    part.follows in
    let over = bind_ok (ended found.value.1) (λ _. Ok (found.value.0, part.value.1)) (v, rest) found.follows in
    let both : (found.value.0, part.value.1) ≡ (v, rest) = ok_is (found.value.0, part.value.1) (v, rest) over.follows in
    let taken = element_takes identifier left part.value.0 part.value.1 fits part.given in
    let inside = fs.codec.takes part.value.0 found.value.0 found.value.1 taken.inside_fits found.given in
    let whole : part.value.0.bytes ≡ f.encode found.value.0 =
    inside.0 ∙ ap (λ (x : List ℕ). f.encode found.value.0 ++ x) (ended_is found.value.1 over.value over.given)
    ∙ append-nil (f.encode found.value.0) in
    let parts : left.bytes ≡ element identifier (f.encode found.value.0) ++ part.value.1.bytes =
    taken.parts ∙ ap (λ (x : List ℕ). element identifier x ++ part.value.1.bytes) whole in
    subst (λ (x : V × Cursor). Takes (constructed identifier f) P left.bytes x.0 x.1.bytes) both
    (parts, inside.1, taken.rest_fits)

-- If `f` may be the last field, `constructed` reads each value that satisfies `P` from its encoding, whatever follows.
constructed_again : {V : Type 0} (P : V → Type 0) (F : List ℕ → Type 0) (m : ℕ) (f : Format V) (identifier : ℕ)
    → m < 65536 → IsFormat P F m f → F []
    → (v : V) (at : ℕ) (more : List ℕ) → P v → ReadsAgain (constructed identifier f) v at more
constructed_again P F m f identifier small fs closes v at more p =
    let read = element_again identifier at (f.encode v) more (omega (arith, fs.bound v p)) in
    let inside = fs.codec.again v read.0 [] p closes in
    let whole : f.read (cursor_at read.0 (f.encode v)) ≡ Ok (v, cursor_at inside.0 []) =
    ap (λ (x : List ℕ). f.read (cursor_at read.0 x)) (sym (append-nil (f.encode v))) ∙ inside.1 in
    (read.1, rw (read.2, whole) refl)

-- Each fault of `constructed` is Tag, Length or Field.
constructed_faults : {V : Type 0} (P : V → Type 0) (F : List ℕ → Type 0) (m : ℕ) (f : Format V) (identifier : ℕ)
    → IsFormat P F m f
    → (left : Cursor) (d : DerFault) → (constructed identifier f).read left ≡ Err d → IsInside d
constructed_faults P F m f identifier fs left d e =
    elim (bind_err (element_at identifier left) (λ part. f.read part.0 >>= λ found. ended found.1 >>= λ _. Ok (found.0, part.1)) d
    e) [
      | inl h ↦ element_faults identifier left d h
      | inr part ↦ elim (bind_err (f.read part.value.0) (λ found. ended found.1 >>= λ _. Ok (found.0, part.value.1)) d
          part.follows) [
            | inl g ↦ fs.faults part.value.0 d g
            | inr found ↦ elim (bind_err (ended found.value.1) (λ _. Ok (found.value.0, part.value.1)) d found.follows) [
              | inl k ↦ ended_faults found.value.1 d k
              | inr over ↦ absurd (no_value d (found.value.0, part.value.1) over.follows)
            ]
          ]
    ]

-- If `f` obeys `IsFormat` with `m` below 65536 and may be the last field, `constructed` obeys `IsFormat`.
pub constructed_is : {V : Type 0} (P : V → Type 0) (F : List ℕ → Type 0) (m : ℕ) (f : Format V) (identifier : ℕ)
    → m < 65536 → IsFormat P F m f → F []
    → IsFormat P Any (overhead m + m) (constructed identifier f)
constructed_is P F m f identifier small fs closes = record {
  codec = record {
    takes = constructed_takes P F m f identifier fs;
    again = λ v at more p any. constructed_again P F m f identifier small fs closes v at more p;
  };
  bound = λ v p. element_bound identifier m (f.encode v) (fs.bound v p);
  faults = constructed_faults P F m f identifier fs;
}
