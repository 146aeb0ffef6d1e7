-- Answers the contract of `push_head` (`src/slip.rt`).
use Rattle.std.proofs.Common.{◌++◌, ap, ◌∙◌}
use Rattle.ill_record.specs.Side.{role_of}
use Rattle.ill_words.specs.Possible.{item_asked, request_of}
use Rattle.ill_slip.specs.declared.slip_parts.TheConstants.{PAGE, ROLE}
use Rattle.ill_slip.specs.Slip.{head_part, role_text, title_part}
use Rattle.ill_slip.proofs.PathLemmas.{grown}
use Rattle.ill_slip.proofs.slip.push_head.Goals as goal

-- Proves the contract of `push_head`. By `grown` the texts that are appended make up the head. `first` to `last` are
-- the page after each of these texts.
pub returns : goal.returns
unfolding head_part
returns c =
    let side = c.args.side.now in
    let before = c.args.page.now.items in
    let first = c.push_plain.new.text.items in
    let second = c.push_title.new.page.items in
    let third = c.push_plain-2.new.text.items in
    let last = c.push_plain-3.new.text.items in
    let title = title_part (item_asked (request_of side)) in
    let role = role_text (role_of side) in
    grown before first last PAGE.now (title ++ (ROLE.now ++ role)) c.in_ok-push_plain.ensures
    (grown first second last title (ROLE.now ++ role) c.in_ok-push_title.ensures
    (grown second third last ROLE.now role c.in_ok-push_plain-2.ensures
    (c.in_ok-push_plain-3.ensures ∙ ap (λ bytes. third ++ bytes) (c.role_text.ensures ∙ ap role_text c.role.ensures))))
