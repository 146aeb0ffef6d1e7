-- Answers the contract of `acting_prefix` (`src/escape.rt`).
use Rattle.std.proofs.Common.{sym, ◌∙◌}
use Rattle.std.proofs.lemmas.List.{nil_from_length}
use Rattle.ill_text.proofs.EscapeLemmas.{first_of_three_stays, first_of_two_stays, last_stays}
use Rattle.ill_text.proofs.escape.acting_prefix.Goals as goal

-- Proves the contract of `acting_prefix` if `first` is the last byte. `written` writes this by itself.
pub returns-in_default : goal.returns-in_default
returns-in_default c = last_stays c.args._escaping c.args.first c.args.after.now
    (nil_from_length c.args.after.now c.in_default.ensures.cases)

-- Proves the contract of `acting_prefix` if two bytes are left and do not act. `written` writes the first by itself.
pub returns-in_default-split_first : goal.returns-in_default-split_first
returns-in_default-split_first c =
    let none = nil_from_length c.in-Some.rest.now c.in_default-split_first.ensures.cases in
    first_of_two_stays c.args._escaping c.args.first c.in-Some.second.now c.args.after.now c.in-Some.rest.now
    c.in-Some.ensures.cases.0 none (sym c.is_acting_pair.ensures ∙ c.if-is_acting_pair.false)

-- Proves the contract of `acting_prefix` if three bytes are left and do not act. `written` writes the first by itself.
pub returns-in_default-split_first-2 : goal.returns-in_default-split_first-2
returns-in_default-split_first-2 c =
    let none = nil_from_length c.in-Some-split_first.rest.now c.in_default-split_first-2.ensures.cases in
    first_of_three_stays c.args._escaping c.args.first c.in-Some.second.now c.in-Some-split_first.third.now c.args.after.now
    c.in-Some.rest.now c.in-Some-split_first.rest.now c.in-Some.ensures.cases.0 c.in-Some-split_first.ensures.cases.0 none
    (sym c.is_acting_pair.ensures ∙ c.if-is_acting_pair.false) (sym c.is_acting_triple.ensures ∙ c.if-is_acting_triple.false)
