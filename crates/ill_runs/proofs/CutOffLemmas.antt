-- Proves that a command in which the power goes is a command whose save failed, or a shorter one.
use Rattle.std.proofs.Common.{◌≡◌, inl, inr, ℕ, zero, suc, Bool, true, List, [], ◌∷◌, length, take, map, Option, Some, None}
use Rattle.std.proofs.Common.{option_map, Result, Ok, Err, refl, sym, ap, ◌∙◌, subst, append-nil, arith, ◌≤◌}
use Rattle.std.specs.Io.KnownBytes.{Appends, append_known}
use Rattle.std.proofs.KnownBytes.{Appends-nil}
use Rattle.ill_values.specs.Apdu.{IsApdu}
use Rattle.ill_values.specs.declared.apdu.Apdu.{Apdu}
use Rattle.ill_der.specs.ShortForm.{encoding}
use Rattle.ill_store.specs.declared.store.StoreFault.TheVariants.{Failed}
use Rattle.ill_saved.specs.declared.fault.DeskFault.TheVariants as faults
use Rattle.ill_record.specs.Side.{other}
use Rattle.ill_record.specs.Ranges.{Each}
use Rattle.ill_saved.specs.ManySides.{DeskContents, many_sides}
use Rattle.ill_text.specs.declared.fault.ToolFault.{ToolFault}
use Rattle.ill_text.specs.declared.fault.ToolFault.TheVariants.{Desk}
use Rattle.ill_desk.specs.Performing.{HeldAndCommitted, CommandState, command_state, with_input, saved, IsFaulted}
use Rattle.ill_der.specs.Handling.{Handled}
use Rattle.ill_desk.specs.Take.{Progress, RunsTaking, TakesMessage, kept_text, progress}
use Rattle.ill_desk.specs.Telling.{Wording}
use Rattle.ill_night.specs.Outbox.{Issue, leaving_desk}
use Rattle.ill_exchange.specs.Nights.{AskedNight, ExchangesAt}
use Rattle.ill_world.specs.World.{party}
use Rattle.ill_runs.specs.MessageFile.{IsOneOf, IsOutbox, IsReleased, LeavesIfDone, Leaves}
use Rattle.ill_runs.specs.Libraries.{Library, Libraries, StartsFrom, IsCommand, Acts, Takes, TakesMessageFile, Sends}
use Rattle.ill_runs.specs.Libraries.{Exchanges, Commands, Happens, IsHistory}
use Rattle.ill_runs.specs.CutOff.{ActSaves, TakeReaches, TakeSaves, InboxSaves, NightReaches, DeedsSave, IsCutInSave}
use Rattle.ill_runs.specs.CutOff.{IsCutBetweenSaves, IsCutInSending, LosesPower, HappensOrLoses, IsPoweredHistory, with_first}
use Rattle.ill_runs.specs.CutOff.{IsPoweredShelfHistory}
use Rattle.ill_runs.specs.ShelfLibraries.{ShelfLibraries, GroupVisit, IsShelfHistory, after_visit}
use Rattle.ill_runs.proofs.Lists.{each_append, each_take}

-- The fault of a command whose save failed.
abbrev save_failed : ToolFault
save_failed = Desk (faults.Store Failed)

-- ---- the save

-- A save of the desk `now` may fail so that its store has the record `file`.
record FailsWith (now : HeldAndCommitted DeskContents) (file : List ℕ) : Type 0 where
  end : HeldAndCommitted DeskContents
  faulted : IsFaulted many_sides now end
  committed : end.committed ≡ Some (Some file)

-- If the power goes in a save, this save may fail with the record that is left.
fails_with : (others : List Apdu) (before after : Library) (cut : IsCutInSave others before after) → FailsWith cut.now after.file
fails_with others before after cut = elim cut.file [
  | inl old ↦ record {
    end = cut.now;
    faulted = inl refl;
    committed = cut.committed ∙ ap (λ (file : List ℕ). Some (Some file)) (sym old);
  }
  | inr new ↦ record {
    end = record cut.now { committed = (saved many_sides cut.now).committed };
    faulted = inr (refl, cut.encoded);
    committed = ap (λ (content : Option (Option (List ℕ))). option_map (λ _. Some (many_sides.encoding cut.now.live)) content)
        cut.committed ∙ ap (λ (file : List ℕ). Some (Some file)) (sym new);
  }
]

-- ---- each command

-- If the power goes in the save of the command `act`, this is a command `act` whose save failed.
act_cut : (others : List Apdu) (before after : Library) (cut : IsCutInSave others before after) → ActSaves cut.old cut.now
    → IsCommand Acts before after
act_cut others before after cut saves =
    let failed = fails_with others before after cut in
    record {
      old = command_state cut.old None;
      new = command_state failed.end None;
      leaving = [];
      starts = cut.starts;
      runs = (
        saves.0,
        Some saves.1,
        Err save_failed,
        (
          Err save_failed,
          [],
          (saves.2.0, subst (λ desk. IsFaulted many_sides desk failed.end) saves.2.1 failed.faulted),
          tt,
          (refl, refl),
        ),
        refl,
      );
      committed = failed.committed;
      left = cut.left ∙ sym (append-nil before.left);
    }

-- If `bytes` are appended to a content, known or not, the new content is as `Appends` says.
grown : (content : Option (List ℕ)) (bytes : List ℕ) → Appends content (append_known content bytes) bytes
grown (Some content) bytes = refl
grown None bytes = tt

-- If the power goes in a save of `take`, this is a `take` whose save failed at its last message. This message has at
-- most 359 bytes (`longest`).
take_cut : ((a : Apdu) → IsApdu a → length (encoding a) ≤ 359) → (others : List Apdu) (before after : Library)
    (cut : IsCutInSave others before after) → TakeSaves others cut.old cut.now → IsCommand (Takes others) before after
unfolding Each
take_cut longest others before after cut saves =
    let failed = fails_with others before after cut in
    let last = saves.0 in
    let reached = saves.1 in
    let a = saves.2 in
    let old : CommandState DeskContents = with_input None reached.start in
    let new : CommandState DeskContents = record {
      desk = failed.end;
      unread = None;
      kept = append_known last.state.kept (kept_text reached.is_kept a);
      written = last.state.written;
    } in
    let taken : RunsTaking reached.is_kept reached.printed many_sides old (Err save_failed) new = (
      Err save_failed,
      last.fine,
      refl,
      record {
        apdus = reached.apdus;
        bytes = encoding a;
        ahead = [];
        last = last;
        encoded = reached.are;
        most = reached.most;
        few = omega (arith, longest a saves.4);
        read = tt;
        handled = reached.handled;
        ended = inr (
          a,
          saves.4,
          refl,
          saves.5,
          inr (
            Err save_failed,
            [],
            (saves.6.0, subst (λ desk. IsFaulted many_sides desk failed.end) saves.6.1 failed.faulted),
            inl (grown last.state.kept (kept_text reached.is_kept a)),
            Appends-nil last.state.written,
            (refl, refl),
          ),
        );
      },
    ) in
    record {
      old = old;
      new = new;
      leaving = [];
      starts = subst (StartsFrom before.file) (sym reached.from) cut.starts;
      runs = (
        reached.is_kept,
        reached.printed,
        Err save_failed,
        taken,
        each_append (IsOneOf others) reached.apdus (a ∷ []) reached.came (saves.3, tt),
        refl,
      );
      committed = failed.committed;
      left = cut.left ∙ sym (append-nil before.left);
    }

-- If the power goes in the save of the message files that came, this is a command `inbox` whose save failed.
inbox_cut : (others : List Apdu) (before after : Library) (cut : IsCutInSave others before after)
    → InboxSaves others cut.old cut.now → IsCommand (TakesMessageFile others) before after
inbox_cut others before after cut saves =
    let failed = fails_with others before after cut in
    record {
      old = command_state cut.old None;
      new = command_state failed.end None;
      leaving = [];
      starts = cut.starts;
      runs = (
        saves.0,
        Err save_failed,
        inr (
          saves.1,
          0,
          Err save_failed,
          (
            inl tt,
            (refl, saves.3.0, subst (λ desk. IsFaulted many_sides desk failed.end) saves.3.1 failed.faulted),
          ),
          refl,
        ),
        saves.2,
        refl,
      );
      committed = failed.committed;
      left = cut.left ∙ sym (append-nil before.left);
    }

-- If the power goes in the save of a day's deeds, this is an `exchange` whose save of deeds failed.
deeds_cut : (others : List Apdu) (before after : Library) (cut : IsCutInSave others before after)
    → DeedsSave others cut.old cut.now → IsCommand (Exchanges others) before after
deeds_cut others before after cut saves =
    let failed = fails_with others before after cut in
    let met = saves.0 in
    let reached = saves.1 in
    let new : CommandState DeskContents = record met { desk = failed.end } in
    let asked : AskedNight = record { form = reached.form; dates = Some (saves.2, saves.3) } in
    let night : ExchangesAt asked reached.start (Err save_failed) new = (
      met,
      Ok reached.night,
      reached.taken,
      (
        new,
        Err save_failed,
        (refl, saves.4.0, subst (λ desk. IsFaulted many_sides desk failed.end) saves.4.1 failed.faulted),
        (refl, refl),
        refl,
      ),
    ) in
    record {
      old = reached.start;
      new = new;
      leaving = [];
      starts = subst (StartsFrom before.file) (sym reached.from) cut.starts;
      runs = (asked, Err save_failed, night, reached.came, refl);
      committed = failed.committed;
      left = cut.left ∙ sym (append-nil before.left);
    }

-- A command in whose save the power goes is a command.
save_is_command : ((a : Apdu) → IsApdu a → length (encoding a) ≤ 359) → (others : List Apdu) (before after : Library)
    → IsCutInSave others before after → Commands others before after
save_is_command longest others before after cut = elim cut.saves [
  | inl acts ↦ inl (act_cut others before after cut acts)
  | inr further ↦ elim further [
    | inl takes ↦ inr (inl (take_cut longest others before after cut takes))
    | inr beyond ↦ elim beyond [
      | inl message_files ↦ inr (inr (inl (inbox_cut others before after cut message_files)))
      | inr deeds ↦ inr (inr (inr (inr (inl (deeds_cut others before after cut deeds)))))
    ]
  ]
]

-- ---- between two saves

-- Returns the progress without what is left of the input.
abbrev without_input : Progress DeskContents → Progress DeskContents
without_input state = progress state.state state.fine

-- If messages are handled from `before` to `after`, the same messages are handled between both without the input left.
handled_without : (is_kept : Bool) (printed : Wording) (before after : Progress DeskContents) (apdus : List Apdu)
    → Handled (TakesMessage is_kept printed many_sides) before apdus after
    → Handled (TakesMessage is_kept printed many_sides) (without_input before) apdus (without_input after)
handled_without is_kept printed before after [] same = ap without_input same
handled_without is_kept printed before after (a ∷ apdus) is =
    (without_input is.0, is.1, handled_without is_kept printed is.0 after apdus is.2)

-- If the power goes between two saves of the command `take`, this is a command `take` of fewer messages.
take_stopped : (others : List Apdu) (before after : Library) (cut : IsCutBetweenSaves others before after)
    (last : Progress DeskContents) → TakeReaches others cut.old last → cut.now ≡ last.state.desk
    → IsCommand (Takes others) before after
take_stopped others before after cut last reached now =
    let old : CommandState DeskContents = with_input None reached.start in
    let new : CommandState DeskContents = with_input None last.state in
    let taken : RunsTaking reached.is_kept reached.printed many_sides old (Ok last.fine) new = (
      Ok (length reached.apdus),
      last.fine,
      refl,
      record {
        apdus = reached.apdus;
        bytes = [];
        ahead = [];
        last = without_input last;
        encoded = reached.are;
        most = reached.most;
        few = omega arith;
        read = tt;
        handled = handled_without reached.is_kept reached.printed (progress reached.start true) last reached.apdus
            reached.handled;
        ended = (refl, refl, (refl, tt), refl);
      },
    ) in
    record {
      old = old;
      new = new;
      leaving = [];
      starts = subst (StartsFrom before.file) (sym reached.from) cut.starts;
      runs = (
        reached.is_kept,
        reached.printed,
        Ok last.fine,
        taken,
        subst (Each (IsOneOf others)) (sym (append-nil reached.apdus)) reached.came,
        refl,
      );
      committed = subst (λ (desk : HeldAndCommitted DeskContents). desk.committed ≡ Some (Some after.file)) now cut.committed;
      left = cut.left ∙ sym (append-nil before.left);
    }

-- If the power goes in a night after its message files were saved, this is a command `inbox`.
night_stopped : (others : List Apdu) (before after : Library) (cut : IsCutBetweenSaves others before after)
    (met : CommandState DeskContents) → NightReaches others cut.old met → cut.now ≡ met.desk
    → IsCommand (TakesMessageFile others) before after
night_stopped others before after cut met reached now = record {
  old = reached.start;
  new = met;
  leaving = [];
  starts = subst (StartsFrom before.file) (sym reached.from) cut.starts;
  runs = (reached.form, Ok reached.night, reached.taken, reached.came, refl);
  committed = subst (λ (desk : HeldAndCommitted DeskContents). desk.committed ≡ Some (Some after.file)) now cut.committed;
  left = cut.left ∙ sym (append-nil before.left);
}

-- Two libraries with equal files and equal messages are equal.
same_library : (before after : Library) → after.file ≡ before.file → after.left ≡ before.left → after ≡ before
same_library before after file left =
    ap (λ (bytes : List ℕ). record after { file = bytes }) file
    ∙ ap (λ (apdus : List Apdu). record before { left = apdus }) left

-- A command that has saved nothing leaves the library as it was.
nothing_saved : (before after : Library) (cut_old now : HeldAndCommitted DeskContents) → StartsFrom before.file cut_old
    → now ≡ cut_old → now.committed ≡ Some (Some after.file) → after.left ≡ before.left → after ≡ before
nothing_saved before after old now starts same committed left =
    let contents : ◌≡◌ {A = Option (Option (List ℕ))} (Some (Some after.file)) (Some (Some before.file)) =
    sym committed ∙ ap (λ (desk : HeldAndCommitted DeskContents). desk.committed) same ∙ starts.1 in
    let file : after.file ≡ before.file = cc in same_library before after file left

-- A command whose power goes between its saves is a command.
between_is_command : (others : List Apdu) (before after : Library) → IsCutBetweenSaves others before after
    → Commands others before after
between_is_command others before after cut = elim cut.reaches [
  | inl same ↦ inr (inr (inr (inr (inr (nothing_saved before after cut.old cut.now cut.starts same cut.committed cut.left)))))
  | inr further ↦ elim further [
    | inl takes ↦ inr (inl (take_stopped others before after cut takes.0 takes.1 takes.2))
    | inr night ↦ inr (inr (inl (night_stopped others before after cut night.0 night.1 night.2)))
  ]
]

-- ---- fewer messages

-- The first `n` of the first `m` items of a list are its first `k`, for some `k`.
first_of_first : {X : Type 0} (n m : ℕ) (xs : List X) → (k : ℕ) × (take n (take m xs) ≡ take k xs)
first_of_first zero m xs = (zero, refl)
first_of_first (suc n) zero xs = (zero, refl)
first_of_first (suc n) (suc m) [] = (zero, refl)
first_of_first (suc n) (suc m) (x ∷ xs) =
    let further = first_of_first n m xs in (suc further.0, ap (λ items. x ∷ items) further.1)

-- The first messages of an outbox are an outbox.
fewer_of_outbox : (live : DeskContents) (left : List Apdu) (size : ℕ) → IsOutbox live left → IsOutbox live (take size left)
fewer_of_outbox live left size (asking, all, is) =
    let first = first_of_first size all (map (λ (issue : Issue). issue.apdu) (leaving_desk asking live.held)) in
    (asking, first.0, ap (λ apdus. take size apdus) is ∙ first.1)

-- Of no messages the first ones are none.
fewer_of_none : (left : List Apdu) (size : ℕ) → left ≡ [] → take size left ≡ []
fewer_of_none left zero none = refl
fewer_of_none left (suc size) none = ap (λ (apdus : List Apdu). take (suc size) apdus) none

-- If `left` leaves after the deeds of a night, its first `size` messages may leave alone.
fewer_if_done : (said : Result (Unit {0}) ToolFault) (live : DeskContents) (left : List Apdu) (size : ℕ)
    → LeavesIfDone said live left → LeavesIfDone said live (take size left)
fewer_if_done (Ok done) live left size is = fewer_of_outbox live left size is
fewer_if_done (Err fault) live left size none = fewer_of_none left size none

-- If `left` leaves in a night, its first `size` messages may leave alone.
fewer_of_night : (asked : AskedNight) (old new : CommandState DeskContents) (result : Result Bool ToolFault)
    (night : ExchangesAt asked old result new) (left : List Apdu) (size : ℕ) → Leaves asked night left
    → Leaves asked night (take size left)
fewer_of_night asked old new result (met, Err fault, taken, ends) left size none = fewer_of_none left size none
fewer_of_night asked old new result (met, Ok night, taken, ends) left size is =
    fewer_if_done ends.1 ends.0.desk.live left size is

-- A night of which only the first messages have left is a command.
fewer_exchanged : (others : List Apdu) (before after : Library) (size : ℕ)
    → (command : IsCommand (Exchanges others) before after)
    → Commands others before (with_first size before command.leaving after)
fewer_exchanged others before after size command =
    let runs = command.runs in
    inr (inr (inr (inr (inl (record {
      old = command.old;
      new = command.new;
      leaving = take size command.leaving;
      starts = command.starts;
      runs = (
        runs.0,
        runs.1,
        runs.2,
        runs.3,
        fewer_of_night runs.0 command.old command.new runs.1 runs.2 command.leaving size runs.4,
      );
      committed = command.committed;
      left = refl;
    })))))

-- An outbox of which only the first messages have left is a command.
fewer_sent : (others : List Apdu) (before after : Library) (size : ℕ) → (command : IsCommand Sends before after)
    → Commands others before (with_first size before command.leaving after)
fewer_sent others before after size command =
    let live = command.old.desk.live in
    inr (inr (inr (inl (record {
      old = command.old;
      new = command.new;
      leaving = take size command.leaving;
      starts = command.starts;
      runs = (
        command.runs.0,
        elim command.runs.1 [
          | inl is ↦ inl (fewer_of_outbox live command.leaving size is)
          | inr may ↦ inr (each_take (IsReleased live) size command.leaving may)
        ],
      );
      committed = command.committed;
      left = refl;
    }))))

-- A command whose power goes when it sends is a command.
sending_is_command : (others : List Apdu) (before after : Library) → IsCutInSending others before after
    → Commands others before after
sending_is_command others before after (whole, size, cut) = elim cut [
  | inl night ↦ subst (Commands others before) (sym night.1) (fewer_exchanged others before whole size night.0)
  | inr sends ↦ subst (Commands others before) (sym sends.1) (fewer_sent others before whole size sends.0)
]

-- ---- any moment

-- A command in which the power goes is a command.
pub cut_is_command : ((a : Apdu) → IsApdu a → length (encoding a) ≤ 359) → (others : List Apdu) (before after : Library)
    → LosesPower others before after → Commands others before after
cut_is_command longest others before after loses = elim loses [
  | inl save ↦ save_is_command longest others before after save
  | inr further ↦ elim further [
    | inl between ↦ between_is_command others before after between
    | inr sending ↦ sending_is_command others before after sending
  ]
]

-- ---- histories

-- If a loss of power leaves a command (`loses`), a step of a history through such losses is a command.
powered_happens : ((others : List Apdu) (before after : Library) → LosesPower others before after
    → Commands others before after) → (before after : Libraries) → HappensOrLoses before after → Happens before after
powered_happens loses before after happens =
    let role = happens.0 in (
      role,
      elim happens.1 [
        | inl command ↦ command
        | inr lost ↦ loses (party before (other role)).left (party before role) (party after role) lost
      ],
      happens.2,
    )

-- A history through losses of power is a history.
pub powered_is_history : ((others : List Apdu) (before after : Library) → LosesPower others before after
    → Commands others before after) → (now : Libraries) (later : List Libraries) → IsPoweredHistory now later
    → IsHistory now later
unfolding IsHistory IsPoweredHistory
powered_is_history loses now [] is = tt
powered_is_history loses now (next ∷ later) is =
    (powered_happens loses now next is.0, powered_is_history loses next later is.1)

-- A history of shelves through losses of power is a history of shelves.
pub powered_is_shelf_history : ((others : List Apdu) (before after : Library) → LosesPower others before after
    → Commands others before after) → (w : ShelfLibraries) (visits : List GroupVisit) → IsPoweredShelfHistory w visits
    → IsShelfHistory w visits
unfolding IsShelfHistory IsPoweredShelfHistory
powered_is_shelf_history loses w [] is = tt
powered_is_shelf_history loses w (visit ∷ later) is = (
  powered_happens loses (w visit.group) visit.after is.0,
  powered_is_shelf_history loses (after_visit w visit) later is.1,
)
