-- Answers the contract of `push_desk` (`src/shelf.rt`).
use Rattle.std.proofs.Common.{ℕ, List, Bor, Option, subst}
use Rattle.std.specs.Prelude.{IfSome, string_bytes}
use Rattle.ill_files.specs.ShelfNames.{IsDeskName}
use Rattle.ill_files.proofs.DesksLemmas.{one_more}
use Rattle.ill_files.proofs.shelf.push_desk.Goals as goal

-- Proves the contract of `push_desk` if the text is the name of a desk.
pub returns-in_ok-push-in-Some : goal.returns-in_ok-push-in-Some
returns-in_ok-push-in-Some c = λ all.
    let is = subst (λ (found : Option (Bor (List ℕ))). IfSome found (λ desk. IsDeskName c.args.role desk.now)) c.in-Some.is
    c.in_ok-desk.ensures in
    one_more (IsDeskName c.args.role) (λ name. string_bytes name) c.args.desks.now.items c.push.new.self.items
    c.in_ok-from_str-in-Some.field-0 c.in-Some.desk.now c.in_ok-push-in-Some.ensures.items c.in_ok-from_str-in-Some.ensures.ok
    is all
