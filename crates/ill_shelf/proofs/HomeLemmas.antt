-- Proves which desk a command on a shelf opens, and what its effect is if it opens none.
use Rattle.std.proofs.Common.{◌≡◌, ℕ, Bool, List, Option, None, Some, Result, Ok, Err, inl, inr, refl, ap, subst, ◌∙◌}
use Rattle.std.specs.Prelude.{IsErrAnd}
use Rattle.ill_record.specs.declared.role.Role.{Role}
use Rattle.ill_record.specs.declared.role.Role.TheVariants.{Requester}
use Rattle.ill_text.specs.declared.fault.ToolFault.{ToolFault}
use Rattle.ill_text.specs.Fault.{IsOpenFault}
use Rattle.ill_saved.specs.Desk.{DeskOf}
use Rattle.ill_saved.specs.ManySides.{DeskContents}
use Rattle.ill_place.specs.Place.{OpensAs, PlaceOf, ShelfOf, place_of}
use Rattle.ill_files.specs.ShelfNames.{desk_path, own_path}
use Rattle.ill_desk.specs.Performing.{command_state, view_of}
use Rattle.ill_commands.specs.AtFile.{ActsOn, MessageOf}
use Rattle.ill_commands.specs.Letters.{SendsWith}
use Rattle.ill_shelf.specs.Home.{ActsAtHome, IsDeskFor, IsHome, SendsAtHome, ShelfAction, role_to_begin}

-- If `path` is that of the desk of `part` in `own`, it is that of the desk of `group` in `folder`. `own` is `folder`,
-- and `part` is `group`.
pub at_home : (folder own : List ℕ) (role : Role) (group part path : List ℕ) → own ≡ folder → part ≡ group
    → path ≡ desk_path own role part → path ≡ desk_path folder role group
at_home folder own role group part path is_own is_part is =
    is ∙ ap (λ (folder : List ℕ). desk_path folder role part) is_own
    ∙ ap (λ (group : List ℕ). desk_path folder role group) is_part

-- If `path` is that of the desk of `part` in `own`, it is that of the desk of `group` in `folder` (`IsHome`). `own` is
-- `folder`, and `part` is `group`.
pub is_home : (folder own : List ℕ) (role : Role) (group part path : List ℕ) → own ≡ folder → part ≡ group
    → path ≡ desk_path own role part → IsHome folder group path
is_home folder own role group part path is_own is_part is =
    (role, at_home folder own role group part path is_own is_part is)

-- If `path` is that of the desk of `part`, which is `group`, the desk there takes messages of `group` (`IsDeskFor`).
pub home_is_for : (folder : List ℕ) (role : Role) (group part path : List ℕ) → part ≡ group → path ≡ desk_path folder role part
    → IsDeskFor folder group path
home_is_for folder role group part path is_part is =
    inl (role, is ∙ ap (λ (group : List ℕ). desk_path folder role group) is_part)

-- If `path` is that of the shelf's own desk, the desk there takes messages of any `group`.
pub own_is_for : (folder group path : List ℕ) → path ≡ own_path folder → IsDeskFor folder group path
own_is_for folder group path is = inr is

-- If `path` is that of the desk of the group, and a desk that was opened there (`OpensAs`) was acted on, the action was
-- performed or tried at home (`ActsAtHome`).
pub acted_at_home : {S : Type 0} (shelf : ShelfOf S) (role : Role) (action : ShelfAction) (path : List ℕ)
    (old new : DeskOf DeskContents S) (before after : Option (List ℕ)) (result : Result Bool ToolFault)
    → path ≡ desk_path shelf.folder role action.asking.txn.group
    → OpensAs (role_to_begin action.is_new_group role) (place_of shelf.state path) old
    → ActsOn action.asking action.is_long (command_state (view_of shelf.state old) before) result
    (command_state (view_of shelf.state new) after) → ActsAtHome shelf action before after result
acted_at_home shelf role action path old new before after result at opens acted =
    let begins : List ℕ → Type 0 = λ path. OpensAs (role_to_begin action.is_new_group role) (place_of shelf.state path) old in
    (role, inr (old, new, subst begins at opens, acted))

-- If `result` is a fault of opening, and nothing was written, `ActsAtHome` allows it.
pub not_acted : {S : Type 0} (shelf : ShelfOf S) (action : ShelfAction) (written : Option (List ℕ))
    (result : Result Bool ToolFault) → IsErrAnd result IsOpenFault → ActsAtHome shelf action written written result
not_acted shelf action written result opens = (Requester, inl (opens, refl))

-- If `result` is a fault of opening, and nothing was written, `SendsWith` allows it, with a key and without one.
unsent : {S : Type 0} (place : PlaceOf S) (key : Option (List ℕ)) (message : MessageOf) (written : Option (List ℕ))
    (result : Result Bool ToolFault) → IsErrAnd result IsOpenFault → SendsWith place key message written written result
unsent place None message written result opens = inl (opens, refl)
unsent place (Some key) message written (Ok done) opens = absurd opens
unsent place (Some key) message written (Err fault) opens = inl (inr opens, refl)

-- If `result` is a fault of opening, and nothing was written, `SendsAtHome` allows it.
pub not_sent : {S : Type 0} (shelf : ShelfOf S) (key : Option (List ℕ)) (message : MessageOf) (written : Option (List ℕ))
    (result : Result Bool ToolFault) → IsErrAnd result IsOpenFault → SendsAtHome shelf key message written written result
not_sent shelf key message written result opens =
    let path = desk_path shelf.folder Requester message.txn.group in
    (path, (Requester, refl), unsent (place_of shelf.state path) key message written result opens)
