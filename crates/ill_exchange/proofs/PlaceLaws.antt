-- Proves that no night ends well at a place from which no desk was loaded.
use Rattle.std.proofs.Common.{ℕ, Bool, List, Option, Ok, inl, inr}
use Rattle.ill_saved.specs.Desk.{DeskOf}
use Rattle.ill_saved.specs.ManySides.{DeskContents}
use Rattle.ill_place.specs.Place.{PlaceOf, StartsAt}
use Rattle.ill_exchange.specs.Nights.{AskedNight, ExchangesAtFile, InboxAtFile, OutboxAtFile}

-- If no desk starts at `place`, no `inbox` ends well there.
pub takes_nowhere : {S : Type 0} (place : PlaceOf S) (is_success : Bool) (before after : Option (List ℕ))
    → ((desk : DeskOf DeskContents S) → StartsAt place desk → ⊥) → InboxAtFile place before after (Ok is_success) → ⊥
takes_nowhere place is_success before after elsewhere (inl fails) = absurd fails.0
takes_nowhere place is_success before after elsewhere (inr takes) = elsewhere takes.0 takes.2

-- If no desk starts at `place`, no `outbox` ends well there.
pub sends_nowhere : {S : Type 0} (place : PlaceOf S) (has_folder is_success : Bool) (before after : Option (List ℕ))
    → ((desk : DeskOf DeskContents S) → StartsAt place desk → ⊥)
    → OutboxAtFile has_folder place before after (Ok is_success) → ⊥
sends_nowhere place has_folder is_success before after elsewhere (inl fails) = absurd fails.0
sends_nowhere place has_folder is_success before after elsewhere (inr sends) = elsewhere sends.0 sends.1

-- If no desk starts at `place`, no `exchange` ends well there.
pub exchanges_nowhere : {S : Type 0} (place : PlaceOf S) (asked : AskedNight) (is_success : Bool) (before after : Option (List ℕ))
    → ((desk : DeskOf DeskContents S) → StartsAt place desk → ⊥)
    → ExchangesAtFile asked place before after (Ok is_success) → ⊥
exchanges_nowhere place asked is_success before after elsewhere (inl fails) = absurd fails.0
exchanges_nowhere place asked is_success before after elsewhere (inr exchanges) = elsewhere exchanges.0 exchanges.2
