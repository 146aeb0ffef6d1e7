-- Wrong entries of a turn in a diary, as staff would say it.
use Rattle.std.specs.Prelude.{◌≡◌, ◌+◌, ℕ, false, List, [], Option, Some, Ok}
use Rattle.ill_values.specs.Day.{Date, date_text}
use Rattle.ill_core.specs.declared.verb.Verb.{Verb}
use Rattle.ill_core.specs.Verbs.{verb_name}
use Rattle.ill_record.specs.declared.side.Action.{Action}
use Rattle.ill_record.specs.SideVerbs.{verb_of}
use Rattle.ill_text.specs.Diary.{Stamped, diary_line, name_or_dash}
use Rattle.ill_post.specs.declared.answer.Posted.{Posted}
use Rattle.ill_post.specs.declared.answer.Posted.TheVariants.{Done}
use Rattle.ill_web.specs.Acts.{SentForm, Turn, form_of}
use Rattle.ill_web.specs.Entries.{issued_at}

-- Returns the action of the form of a turn.
abbrev pub action_in : Stamped → SentForm → Turn → Option Action
action_in stamp sent turn = (form_of stamp.day turn.old.live.role sent).action

-- Returns the number of the next message of the loan, at the desk before the turn.
abbrev pub number_in : SentForm → Turn → ℕ
number_in sent turn = issued_at sent.loan.txn turn.old.live + 1

-- The form was done and the diary has not failed. Exactly this line was entered.
abbrev pub HasEntered : Turn → (line : List ℕ) → Type 0
HasEntered turn line =
    (turn.came ≡ Ok Done) × (turn.entered.diary.has_failed ≡ false) × (turn.entered.diary.bytes ≡ Some line)

-- The turn of a form has a wrong entry. `stamp` has its day and its user.
pub data MisentersTurn (stamp : Stamped) (sent : SentForm) (turn : Turn) : Type 0 where
  -- The form was not done. But something was entered.
  not_done_enters : (posted : Posted) → (posted ≡ Done → ⊥) → turn.came ≡ Ok posted →
      (turn.entered.diary.bytes ≡ Some [] → ⊥) → MisentersTurn stamp sent turn
  -- The form was done. But nothing was entered.
  done_enters_nothing : HasEntered turn [] → MisentersTurn stamp sent turn
  -- The form was done. But its line has the name of another user.
  done_by_another : (action : Action) → action_in stamp sent turn ≡ Some action → (other : Option (List ℕ)) →
      (name_or_dash other ≡ name_or_dash stamp.by → ⊥) →
      HasEntered turn (diary_line stamp.day other sent.loan.txn (verb_name (verb_of action)) (number_in sent turn)) →
      MisentersTurn stamp sent turn
  -- The form was done. But its line has another day.
  done_on_another_day : (action : Action) → action_in stamp sent turn ≡ Some action → (other : Date) →
      (date_text other ≡ date_text stamp.day → ⊥) →
      HasEntered turn (diary_line other stamp.by sent.loan.txn (verb_name (verb_of action)) (number_in sent turn)) →
      MisentersTurn stamp sent turn
  -- The form was done. But its line names another action.
  done_names_another : (action : Action) → action_in stamp sent turn ≡ Some action → (other : Verb) →
      (verb_name other ≡ verb_name (verb_of action) → ⊥) →
      HasEntered turn (diary_line stamp.day stamp.by sent.loan.txn (verb_name other) (number_in sent turn)) →
      MisentersTurn stamp sent turn
  -- The entry is in the diary of another desk.
  enters_elsewhere : (turn.entered.beside ≡ turn.file → ⊥) → MisentersTurn stamp sent turn
