-- Answers the contract of `push_names` (`src/slip.rt`).
use Rattle.std.proofs.Common.{◌++◌, ap, ◌∙◌}
use Rattle.ill_values.specs.TxnId.{Qualifiers}
use Rattle.ill_record.specs.Side.{due_date_of, txn_of}
use Rattle.ill_text.specs.Html.{html_text}
use Rattle.ill_slip.specs.declared.slip_parts.TheConstants.{GROUP, TRANSACTION, NAMED}
use Rattle.ill_slip.specs.Slip.{due_part, names_part}
use Rattle.ill_slip.proofs.PathLemmas.{grown}
use Rattle.ill_slip.proofs.slip.push_names.Goals as goal

-- Proves the contract of `push_names`. By `grown` the texts that are appended make up the names and the date. `first`
-- to `last` are the page after each of these texts.
pub returns : goal.returns
unfolding names_part
returns c =
    let side = c.args.side.now in
    let before = c.args.page.now.items in
    let first = c.push_plain.new.text.items in
    let second = c.push_text.new.page.items in
    let third = c.push_plain-2.new.text.items in
    let fourth = c.push_text-2.new.page.items in
    let fifth = c.push_due.new.page.items in
    let last = c.push_plain-3.new.text.items in
    let group = html_text (txn_of side).group in
    let transaction = html_text (txn_of side).transaction in
    let due = due_part (due_date_of side) in
    grown before first last GROUP.now (group ++ (TRANSACTION.now ++ (transaction ++ (due ++ NAMED.now))))
    c.in_ok-push_plain.ensures
    (grown first second last group (TRANSACTION.now ++ (transaction ++ (due ++ NAMED.now)))
    (c.in_ok-push_text.ensures.text
    ∙ ap (λ text. first ++ html_text text) (c.group.ensures.value ∙ ap (λ (txn : Qualifiers). txn.group) c.txn.ensures))
    (grown second third last TRANSACTION.now (transaction ++ (due ++ NAMED.now)) c.in_ok-push_plain-2.ensures
    (grown third fourth last transaction (due ++ NAMED.now)
    (c.in_ok-push_text-2.ensures.text
    ∙ ap (λ text. third ++ html_text text)
    (c.transaction.ensures.value ∙ ap (λ (txn : Qualifiers). txn.transaction) c.txn-2.ensures))
    (grown fourth fifth last due NAMED.now (c.in_ok-push_due.ensures ∙ ap (λ day. fourth ++ due_part day) c.due.ensures)
    c.in_ok-push_plain-3.ensures))))
