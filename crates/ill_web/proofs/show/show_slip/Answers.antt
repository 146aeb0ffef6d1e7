-- Proves the contract of `show_slip` (`src/show.rt`).
use Rattle.std.proofs.Common.{inl, subst}
use Rattle.ill_browser.specs.Wanted.{LoanAsked}
use Rattle.ill_web.specs.Pages.{ShowsSlip, said}
use Rattle.ill_web.proofs.show.show_slip.Goals as goal

-- If the desk is named, the reply of `slip_reply` is that for the loan that was asked for.
pub returns : goal.returns
returns g c =
    inl (
      c.in_ok-place.ensures.0,
      subst (λ (loan : LoanAsked). ShowsSlip loan (said c.slip_reply.result)) c.in_ok-place.ensures.1 c.slip_reply.ensures,
    )
