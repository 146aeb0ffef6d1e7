-- Answers the contract of `have_all` (`src/copy.rt`).
use Rattle.std.proofs.Common.{Bor, List, map, refl, subst}
use Rattle.std.specs.Prelude.{All}
use Rattle.std.proofs.lemmas.List.{take_all}
use Rattle.ill_record.specs.declared.side.Side.{Side}
use Rattle.ill_night.specs.CopyOver.{HasLoan}
use Rattle.ill_night.proofs.CopyLemmas.{lacks_one}
use Rattle.ill_night.proofs.copy.have_all.Goals as goal

-- Proves the contract of `have_all` if a loan is missing.
pub returns-then-not-has_loan : goal.returns-then-not-has_loan
returns-then-not-has_loan c =
    lacks_one c.args.own.now.sides c.args.copied.now c.loop-side.side-index c.side-item.result c.loop-side-test.true
    c.side-item.is c.if-not-has_loan.ensures

-- Proves the contract of `have_all` after the loop, which has found each loan.
pub returns : goal.returns
returns c =
    let own = c.args.own.now.sides in
    let all = take_all c.loop-side.side-index c.args.copied.now c.loop-side-test.false in
    let held = subst (λ (sides : List (Bor Side)). All (HasLoan own) (map (λ (side : Bor Side). side.now) sides)) all
    c.loop-side.invariant.held in
    (λ yes. held, λ held. refl)
