-- Proves that no `act`, `take`, `send`, `status`, `slip` or `note` ends well at a place from which no desk was loaded.
use Rattle.std.proofs.Common.{ℕ, Bool, List, Option, Ok, inl, inr}
use Rattle.ill_values.specs.TxnId.{Qualifiers}
use Rattle.ill_saved.specs.Desk.{DeskOf}
use Rattle.ill_saved.specs.ManySides.{DeskContents}
use Rattle.ill_desk.specs.ActAs.{Asking}
use Rattle.ill_desk.specs.declared.take.TakeForm.{TakeForm}
use Rattle.ill_place.specs.Place.{PlaceOf, StartsAt}
use Rattle.ill_text.specs.declared.form.Form.{Form}
use Rattle.ill_commands.specs.AtFile.{ActsAtFile, MessageOf, SendsAtFile, ShowsFile, SlipAtFile, TakesAtFile}
use Rattle.ill_commands.specs.Note.{NotesAtFile}
use Rattle.ill_commands.specs.Streams.{Streams}

-- If no desk starts at `place`, no action that is done or tried there ends well.
pub acts_nowhere : {S : Type 0} (place : PlaceOf S) (asked : Asking) (is_long is_success : Bool) (before after : Option (List ℕ))
    → ((desk : DeskOf DeskContents S) → StartsAt place desk → ⊥) → ActsAtFile place asked is_long before after (Ok is_success) → ⊥
acts_nowhere place asked is_long is_success before after elsewhere (inl fails) = absurd fails.0
acts_nowhere place asked is_long is_success before after elsewhere (inr acts) = elsewhere acts.0 acts.2

-- If no desk starts at `place`, no `take` ends well there.
pub takes_nowhere : {S : Type 0} (place : PlaceOf S) (form : TakeForm) (is_success : Bool) (old new : Streams)
    → ((desk : DeskOf DeskContents S) → StartsAt place desk → ⊥) → TakesAtFile place form old (Ok is_success) new → ⊥
takes_nowhere place form is_success old new elsewhere (inl fails) = absurd fails.0.0
takes_nowhere place form is_success old new elsewhere (inr takes) = elsewhere takes.0 takes.2

-- If no desk starts at `place`, no `send` ends well there.
pub sends_nowhere : {S : Type 0} (place : PlaceOf S) (message : MessageOf) (is_success : Bool) (before after : Option (List ℕ))
    → ((desk : DeskOf DeskContents S) → StartsAt place desk → ⊥) → SendsAtFile place message before after (Ok is_success) → ⊥
sends_nowhere place message is_success before after elsewhere (inl fails) = absurd fails.0
sends_nowhere place message is_success before after elsewhere (inr sends) = elsewhere sends.0 sends.1

-- If no desk starts at `place`, no `status` ends well there.
pub shows_nowhere : {S : Type 0} (place : PlaceOf S) (form : Form) (is_success : Bool) (before after : Option (List ℕ))
    → ((desk : DeskOf DeskContents S) → StartsAt place desk → ⊥) → ShowsFile place form before after (Ok is_success) → ⊥
shows_nowhere place form is_success before after elsewhere (inl fails) = absurd fails.0
shows_nowhere place form is_success before after elsewhere (inr shows) = elsewhere shows.0 shows.1

-- If no desk starts at `place`, no `slip` ends well there.
pub slips_nowhere : {S : Type 0} (place : PlaceOf S) (txn : Qualifiers) (is_success : Bool) (before after : Option (List ℕ))
    → ((desk : DeskOf DeskContents S) → StartsAt place desk → ⊥) → SlipAtFile place txn before after (Ok is_success) → ⊥
slips_nowhere place txn is_success before after elsewhere (inl fails) = absurd fails.0
slips_nowhere place txn is_success before after elsewhere (inr slips) = elsewhere slips.0 slips.1

-- If no desk starts at `place`, no `note` ends well there.
pub notes_nowhere : {S : Type 0} (place : PlaceOf S) (txn : Qualifiers) (words : List ℕ) (is_success : Bool)
    (before after : Option (List ℕ))
    → ((desk : DeskOf DeskContents S) → StartsAt place desk → ⊥) → NotesAtFile place txn words before after (Ok is_success) → ⊥
notes_nowhere place txn words is_success before after elsewhere (inl fails) = absurd fails.0
notes_nowhere place txn words is_success before after elsewhere (inr notes) = elsewhere notes.0 notes.1
