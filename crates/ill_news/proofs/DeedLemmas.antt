-- Proves which messages of a desk are printed since dates have made them due.
use Rattle.std.proofs.Common.{◌≡◌, ℕ, Bool, true, false, cond, List, [], ◌∷◌, ◌++◌, Some, ap, refl, sym}
use Rattle.std.proofs.Common.{true≢false}
use Rattle.std.proofs.Common.{append_assoc, ◌∙◌}
use Rattle.std.specs.Prelude.{filter}
use Rattle.std.specs.List.{flat_map}
use Rattle.std.proofs.lemmas.Grind.{flat_map-append}
use Rattle.std.proofs.lemmas.List.Elements.{filter-append}
use Rattle.ill_values.specs.Day.{Date}
use Rattle.ill_values.specs.Body.{Body}
use Rattle.ill_values.specs.declared.apdu.Apdu.{Apdu}
use Rattle.ill_values.specs.declared.apdu.BodyWith.TheVariants as types
use Rattle.ill_core.specs.Responder.{ResponderRecord}
use Rattle.ill_record.specs.declared.side.Side.{Side}
use Rattle.ill_record.specs.declared.side.Side.TheVariants.{Requester, Responder}
use Rattle.ill_record.specs.Ranges.{Each}
use Rattle.ill_beside.specs.Heard.{is_heard, responder_heard}
use Rattle.ill_news.specs.Deeds.{deeds_at, deeds_since, is_by_date, is_deed_since}

-- If `x` passes `keeps`, `filter keeps` leaves it between the items of `first` and those of `last` that pass.
pub kept_within : {X : Type 0} (keeps : X → Bool) (first last : List X) (x : X) → keeps x ≡ true
    → filter keeps (first ++ x ∷ last) ≡ filter keeps first ++ x ∷ filter keeps last
kept_within keeps first last x is =
    filter-append keeps first (x ∷ last) ∙ ap (λ rest. filter keeps first ++ rest) (rw is refl)

-- If `y` issued `a`, and a date has made `a` due since `day`, `a` is among the deeds printed. `here` has the deeds of
-- the sides before `y`, and `rest` those of the sides after it.
pub deed_printed : (day : Date) (lines : List (List ℕ)) (before after : List Side) (y : ResponderRecord) (first last : List Apdu)
    (a : Apdu) → y.issued ≡ first ++ a ∷ last → is_deed_since day lines a ≡ true
    → (more less : List Apdu) × (deeds_since (Some day) lines (before ++ Responder y ∷ after) ≡ more ++ a ∷ less)
deed_printed day lines before after y first last a issued is =
    let keeps = is_deed_since day lines in
    let here = flat_map (deeds_at day lines) before in
    let rest = flat_map (deeds_at day lines) after in
    let mine : deeds_at day lines (Responder y) ≡ filter keeps first ++ a ∷ filter keeps last =
    ap (filter keeps) issued ∙ kept_within keeps first last a is in (
      here ++ filter keeps first,
      filter keeps last ++ rest,
      flat_map-append (deeds_at day lines) before (Responder y ∷ after)
          ∙ ap (λ deeds. here ++ (deeds ++ rest)) mine
          ∙ ap (λ deeds. here ++ deeds) (append_assoc (filter keeps first) (a ∷ filter keeps last) rest)
          ∙ sym (append_assoc here (filter keeps first) (a ∷ (filter keeps last ++ rest))),
    )

-- Each item of `filter keeps xs` passes `keeps`.
each_kept : {X : Type 0} (keeps : X → Bool) (xs : List X) → Each (λ x. keeps x ≡ true) (filter keeps xs)
unfolding Each
each_kept keeps [] = tt
each_kept keeps (x ∷ xs) = go (keeps x) refl (each_kept keeps xs)
  where
    -- `is` is true if `x` passes.
    go : (is : Bool) → keeps x ≡ is → Each (λ x. keeps x ≡ true) (filter keeps xs)
        → Each (λ x. keeps x ≡ true) (cond is (x ∷ filter keeps xs) (filter keeps xs))
    go true is rest = (is, rest)
    go false is rest = rest

-- If `P` holds of each item of both lists, it holds of each item of the joined list.
each_joined : {X : Type 0} (P : X → Type 0) (xs more : List X) → Each P xs → Each P more → Each P (xs ++ more)
unfolding Each
each_joined P [] more each others = others
each_joined P (x ∷ xs) more each others = (each.0, each_joined P xs more each.1 others)

-- A date has made each message of `deeds_at` due since `day`.
due_at : (day : Date) (lines : List (List ℕ)) (side : Side)
    → Each (λ a. is_deed_since day lines a ≡ true) (deeds_at day lines side)
unfolding Each
due_at day lines (Requester x) = tt
due_at day lines (Responder y) = each_kept (is_deed_since day lines) y.issued

-- A date has made each message of `deeds_since` due since `day`.
pub deeds_alone : (day : Date) (lines : List (List ℕ)) (sides : List Side)
    → Each (λ a. is_deed_since day lines a ≡ true) (deeds_since (Some day) lines sides)
unfolding Each
deeds_alone day lines [] = tt
deeds_alone day lines (side ∷ sides) =
    each_joined (λ a. is_deed_since day lines a ≡ true) (deeds_at day lines side) (deeds_since (Some day) lines sides)
    (due_at day lines side) (deeds_alone day lines sides)

-- No body of a message that a responder takes is one that a date makes due.
body_apart : (y : ResponderRecord) (number : ℕ) (body : Body) → responder_heard y number body ≡ true → is_by_date body ≡ false
body_apart y number (types.Overdue day) heard = absurd (true≢false (sym heard))
body_apart y number types.Expired heard = absurd (true≢false (sym heard))
body_apart y number (types.IllRequest expiry item) heard = refl
body_apart y number (types.IllAnswer result) heard = refl
body_apart y number (types.ConditionalReply answers is_yes) heard = refl
body_apart y number types.Cancel heard = refl
body_apart y number (types.CancelReply answers is_yes) heard = refl
body_apart y number (types.Shipped day) heard = refl
body_apart y number types.Received heard = refl
body_apart y number types.Recall heard = refl
body_apart y number types.Returned heard = refl
body_apart y number types.CheckedIn heard = refl
body_apart y number (types.Renew wished) heard = refl
body_apart y number (types.RenewAnswer answers granted) heard = refl

-- No message that a responder takes is one that a date makes due.
pub heard_apart : (y : ResponderRecord) (a : Apdu) → is_heard (Responder y) a ≡ true → is_by_date a.body ≡ false
heard_apart y a heard = body_apart y a.number a.body heard
