-- Proves the order at the end of a night: the copy of the desk, then its messages, then the sign of life.
use Rattle.std.proofs.Common.{◌≡◌, ◌⊎◌, inl, inr, refl, sym, subst, ◌∙◌, ℕ, Bool, List, Option, Result, Ok, Err}
use Rattle.ill_values.specs.Day.{Date}
use Rattle.ill_saved.specs.ManySides.{DeskContents, sides_held}
use Rattle.ill_text.specs.declared.fault.ToolFault.{ToolFault}
use Rattle.ill_text.specs.Fault.{IsOpenFault}
use Rattle.ill_desk.specs.Performing.{CommandState, HeldAndCommitted, command_state}
use Rattle.ill_night.specs.declared.night.Dates.{Dates}
use Rattle.ill_text.specs.declared.form.Form.{Form}
use Rattle.ill_inbox.specs.Inbox.{Arrived}
use Rattle.ill_night.specs.Outbox.{Putting}
use Rattle.ill_room.specs.Room.{Answers}
use Rattle.ill_room.specs.Backup.{BackupState, CopiesDesk, HasCopy, IsSameWish, Signs, is_correct_backup}
use Rattle.ill_exchange.specs.Nights.{AskedNight, ExchangesAt, FinishesNight, Night, TakesMessageFiles}
use Rattle.ill_exchange.specs.Rooms.{NightOver, OutState, PutsAsked, SendsInRooms, SendsThenSigns, TakesFound}

-- If `HasCopy` holds of `x`, and `y` has the copy and the wish of `x`, `HasCopy` holds of `y`.
still_copied : (desk : DeskContents) (x y : BackupState) → y.copied ≡ x.copied → IsSameWish x y →
    HasCopy (sides_held desk) x → HasCopy (sides_held desk) y
still_copied desk x y same wish (inl none) = inl (wish.copy ∙ none)
still_copied desk x y same wish (inr there) = inr (same ∙ there)

-- Let `y` have the signs of `x`. If `z` has those of `y`, or `All` holds, then `z` has those of `x`, or `All` holds.
signs_as_before : {All : Type 0} (x y z : BackupState) → y.signs ≡ x.signs → (z.signs ≡ y.signs) ⊎ All →
    (z.signs ≡ x.signs) ⊎ All
signs_as_before x y z same (inl stays) = inl (stays ∙ same)
signs_as_before x y z same (inr all) = inr all

-- If the copy is done, and then messages are sent and signed (`SendsThenSigns`), both together are `SendsInRooms`.
pub sends_copied : {M A : Type 0} (Puts : Putting M) (asked : List ℕ) (desk : DeskContents) (old new : OutState M)
    (copy : BackupState) (done : A) →
    Answers is_correct_backup (CopiesDesk (sides_held desk)) old.backup (Ok done) copy →
    SendsThenSigns Puts asked desk (record old { backup = copy }) new → SendsInRooms Puts asked desk old new
sends_copied Puts asked desk old new copy done copies sending = record {
  sends = sending.sends;
  copy_first = λ correct. let there = copies.correct ∙ correct in
      inr (still_copied desk copy new.backup (sending.copied there) (sending.wish there) (copies.done correct).has);
  sign_last = λ correct. signs_as_before old.backup copy new.backup (copies.done correct).signs
      (sending.sign_last (copies.correct ∙ correct));
}

-- If the copy fails, and nothing else changes, `SendsInRooms` holds: nothing was sent and no sign given.
pub sends_nothing : {M : Type 0} (Puts : Putting M) (asked : List ℕ) (desk : DeskContents) (old : OutState M)
    (copy : BackupState) (fault : ToolFault)
    → Answers is_correct_backup (CopiesDesk {A = Unit {0}} (sides_held desk)) old.backup (Err fault) copy →
    SendsInRooms Puts asked desk old (record old { backup = copy })
sends_nothing Puts asked desk old copy fault copies = record {
  sends = inl refl;
  copy_first = λ correct. inl refl;
  sign_last = λ correct. inl (copies.done correct).signs;
}

-- If all messages were put, and then a sign of life was given, or that failed, `SendsThenSigns` holds.
pub signs_after : {M A : Type 0} (Puts : Putting M) (asked : List ℕ) (desk : DeskContents) (old : OutState M)
    (sign : BackupState) (after : Option M) (done : A) → PutsAsked Puts asked desk old.out after (Ok done) →
    ((answer : Result (Unit {0}) ToolFault) × Answers is_correct_backup Signs old.backup answer sign) →
    SendsThenSigns Puts asked desk old (record old { backup = sign; out = after })
signs_after Puts asked desk old sign after done puts (answer, signs) = record {
  sends = inr (Ok puts.0, puts.1);
  sign_last = λ correct. inr puts;
  copied = λ correct. (signs.done correct).copied;
  wish = λ correct. (signs.done correct).wish;
}

-- If the putting of messages failed, and nothing else changes, `SendsThenSigns` holds: no sign was given.
pub signs_never : {M : Type 0} (Puts : Putting M) (asked : List ℕ) (desk : DeskContents) (old : OutState M)
    (after : Option M) (fault : ToolFault) → PutsAsked {A = Unit {0}} Puts asked desk old.out after (Err fault) →
    SendsThenSigns Puts asked desk old (record old { out = after })
signs_never Puts asked desk old after fault puts = record {
  sends = inr puts;
  sign_last = λ correct. inl refl;
  copied = λ correct. refl;
  wish = λ correct. record { copy = refl; sign = refl };
}

-- ---- the commands `inbox` and `exchange`

-- If the message files that arrived were taken (`TakesFound`), `TakesMessageFiles` holds in their form.
pub found_taken : (arrived : Arrived) (old new : CommandState DeskContents) (result : Result Night ToolFault) →
    TakesFound arrived old result new → TakesMessageFiles arrived.form old result new
found_taken arrived old new result (answer, runs, settles) = inr (arrived.message_files, arrived.waiting, answer, runs, settles)

-- If the message files that arrived were taken, `TakesMessageFiles` holds in their form, with the output from `before`
-- to `after`. Nothing was written before (`opened` is `before`) and after that (`after` is `printed`).
pub message_files_taken : (arrived : Arrived) (form : Form) (old new : HeldAndCommitted DeskContents)
    (before opened printed after : Option (List ℕ)) (answer result : Result Night ToolFault) →
    TakesFound arrived (command_state old opened) answer (command_state new printed) →
    arrived.form ≡ form → opened ≡ before → after ≡ printed → answer ≡ result →
    TakesMessageFiles form (command_state old before) result (command_state new after)
message_files_taken arrived form old new before opened printed after answer result takes in_form quiet ended same =
    let begun = subst (λ (start : Option (List ℕ)).
    TakesFound arrived (command_state old start) answer (command_state new printed))
    quiet takes in
    let whole = subst (λ (end : Option (List ℕ)). TakesFound arrived (command_state old before) answer (command_state new end))
    (sym ended) begun in
    let answered = subst (λ (end : Result Night ToolFault). TakesFound arrived (command_state old before) end
    (command_state new after)) same whole in
    subst (λ (shown : Form). TakesMessageFiles shown (command_state old before) result (command_state new after)) in_form
    (found_taken arrived (command_state old before) (command_state new after) result answered)

-- Returns the arguments of a night over the message files that arrived.
abbrev pub asked_by_day : Arrived → Option (Date × Dates) → AskedNight
asked_by_day arrived dates = record { form = arrived.form; dates = dates }

-- If a night over the message files that arrived was performed (`NightOver`), `ExchangesAt` holds, with the output from
-- `before` to `after`. Nothing was written before (`opened` is `before`) and after that (`after` is `printed`).
pub night_opened : (arrived : Arrived) (dates : Option (Date × Dates)) (old new : HeldAndCommitted DeskContents)
    (before opened printed after : Option (List ℕ)) (answer result : Result Bool ToolFault) →
    NightOver arrived dates (command_state old opened) answer (command_state new printed) →
    opened ≡ before → after ≡ printed → result ≡ answer →
    ExchangesAt (asked_by_day arrived dates) (command_state old before) result (command_state new after)
night_opened arrived dates old new before opened printed after answer result (met, written, taken, takes, finishes) quiet
    ended same = (
      command_state met written,
      taken,
      found_taken arrived (command_state old before) (command_state met written) taken
          (subst (λ (start : Option (List ℕ)). TakesFound arrived (command_state old start) taken
          (command_state met written)) quiet takes),
      subst (λ (end : Option (List ℕ)). FinishesNight (asked_by_day arrived dates) taken (command_state met written) result
          (command_state new end))
          (sym ended)
          (subst (λ (end : Result Bool ToolFault).
          FinishesNight (asked_by_day arrived dates) taken (command_state met written) end
          (command_state new printed)) (sym same) finishes),
    )

-- If the message files of a desk are not opened because of `fault`, and nothing is written, `ExchangesAt` allows that
-- fault.
pub night_unopened : (asked : AskedNight) (desk : HeldAndCommitted DeskContents)
    (before after : Option (List ℕ)) (fault : ToolFault) → IsOpenFault fault → after ≡ before →
    ExchangesAt asked (command_state desk before) (Err fault) (command_state desk after)
night_unopened asked desk before after fault opens quiet =
    (command_state desk after, Err fault, inl ((opens, quiet), refl), (refl, refl, refl))
