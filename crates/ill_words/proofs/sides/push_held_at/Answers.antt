-- Answers the contract of `push_held_at` (`src/sides.rt`).
use Rattle.std.proofs.Common.{rules, ◌≡◌, ◌++◌, [], ◌∷◌, Option, Some, None, map, ap, sym, subst, ◌∙◌}
use Rattle.std.specs.Prelude.{slice_get}
use Rattle.std.specs.Option.{option_to_list}
use Rattle.std.proofs.lemmas.List.{append-nil, map-append}
use Rattle.ill_record.specs.Side.{txn_of}
use Rattle.ill_saved.specs.Holdings.{DeskEntry}
use Rattle.ill_saved.specs.ManySides.{held_for, sides_held}
use Rattle.ill_words.specs.Sides.{held_of}
use Rattle.ill_words.proofs.SidesLemmas.{held_there, none_there}
use Rattle.ill_words.proofs.sides.push_held_at.Goals as goal

-- Proves the contract of `push_held_at` if a side is at `place`. By `held_there` the entry pushed is the entry at
-- `place`.
pub returns-in_ok-push : goal.returns-in_ok-push
returns-in_ok-push g c =
    let live = c.args.desk.now.live in
    let side = c.in-Some.side.now in
    let there : slice_get (sides_held live).sides c.args.place ≡ Some side = search rules in
    let counted : c.released-released.result ≡ (held_for (txn_of side) live).released = search rules in
    let pushed : map held_of c.push.new.self.items
    ≡ map held_of c.args.all.now.items ++ record { side = side; released = c.released-released.result } ∷ [] =
    ap (map held_of) c.in_ok-push.ensures.items
    ∙ map-append held_of c.args.all.now.items
    (record { side = c.in-Some.side; released = c.released-released.result } ∷ []) in
    subst (λ (found : Option DeskEntry).
    map held_of c.push.new.self.items ≡ map held_of c.args.all.now.items ++ option_to_list found)
    (sym (held_there live c.args.place side c.released-released.result c.requires.apart there counted)) pushed

-- Proves the contract of `push_held_at` if no side is at `place`. By `none_there` no entry is to be pushed.
pub returns-in_default : goal.returns-in_default
returns-in_default g c =
    let live = c.args.desk.now.live in
    let none : slice_get (sides_held live).sides c.args.place ≡ None = search rules in
    subst (λ (found : Option DeskEntry).
    map held_of c.args.all.now.items ≡ map held_of c.args.all.now.items ++ option_to_list found)
    (sym (none_there live c.args.place none)) (sym (append-nil (map held_of c.args.all.now.items)))
