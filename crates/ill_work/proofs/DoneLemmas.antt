-- Proves that each verb of the work with a side is possible on the day.
use Rattle.std.proofs.Common.{◌≡◌, ℕ, true, Some}
use Rattle.ill_values.specs.Day.{Date}
use Rattle.ill_core.specs.declared.verb.Verb.{Verb}
use Rattle.ill_core.specs.Requester.{is_declined, is_received_by}
use Rattle.ill_core.specs.Verbs.{is_verb_among}
use Rattle.ill_record.specs.declared.side.Side.{Side}
use Rattle.ill_record.specs.declared.side.Side.TheVariants as sides
use Rattle.ill_words.specs.Possible.{possible_on}
use Rattle.ill_work.specs.Work.{work_verbs}
use Rattle.ill_work.specs.Table.{kind_of_work, dates_on}
use Rattle.ill_work.proofs.RequesterWork as asking
use Rattle.ill_work.proofs.ResponderWork as lending

-- Each verb of the work with a side is possible on the day.
pub work_is_possible : (today : Date) (ahead : ℕ) (side : Side) (verb : Verb)
    → is_verb_among (work_verbs (kind_of_work today ahead side)) verb ≡ true
    → is_verb_among (possible_on (Some today) side) verb ≡ true
work_is_possible today ahead (sides.Requester x) verb =
    asking.is_possible x.state (is_declined x) (is_received_by x) x.checked_in (dates_on today ahead (sides.Requester x)) today
    (sides.Requester x) verb
work_is_possible today ahead (sides.Responder y) verb = lending.is_possible y y.state y.received today ahead verb
