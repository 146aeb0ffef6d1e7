-- Proves the contract of `answer` (`src/act.rt`), if memory runs out before the form is answered.
use Rattle.std.proofs.Common.{◌≡◌, Err, inr, refl, rules}
use Rattle.ill_saved.specs.declared.fault.DeskFault.TheVariants.{OutOfMemory}
use Rattle.ill_web.specs.Entries.{Entered, no_entry}
use Rattle.ill_web.specs.Troubles.{no_memory}
use Rattle.ill_web.proofs.act.answer.Goals as goal

-- If memory runs out for the words, nothing is done or entered.
pub returns-in_err-words : goal.returns-in_err-words
returns-in_err-words g c =
    let told : c.from_residual.result ≡ Err no_memory = search rules in
    let none : Entered = record { beside = c.args.sent.now.place.now.desk.now; diary = no_entry } in
    (Err OutOfMemory, none, inr (refl, refl), (refl, inr refl), told)

-- If memory runs out for the action, nothing is done or entered.
pub returns-in_err-action : goal.returns-in_err-action
returns-in_err-action g c =
    let told : c.from_residual-in_err-action.result ≡ Err no_memory = search rules in
    let none : Entered = record { beside = c.args.sent.now.place.now.desk.now; diary = no_entry } in
    (Err OutOfMemory, none, inr (refl, refl), (refl, inr refl), told)

-- If memory runs out for the line of the diary, nothing is done or entered.
pub returns-in_err-line : goal.returns-in_err-line
returns-in_err-line g c =
    let told : c.from_residual-in_err-line.result ≡ Err no_memory = search rules in
    let none : Entered = record { beside = c.args.sent.now.place.now.desk.now; diary = no_entry } in
    (Err OutOfMemory, none, inr (refl, refl), (refl, inr refl), told)
