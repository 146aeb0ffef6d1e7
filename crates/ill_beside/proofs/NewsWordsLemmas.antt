-- Proves which words of what came say no, and what they say of the record.
use Rattle.std.proofs.Common.{◌≡◌, ℕ, true, false, [], ◌∷◌, Option, None}
use Rattle.std.proofs.Common.{Some}
use Rattle.std.proofs.Common.{rules, true≢false, refl, sym, ◌∙◌}
use Rattle.ill_values.specs.Day.{Date}
use Rattle.ill_values.specs.declared.apdu.Apdu.{Apdu}
use Rattle.ill_values.specs.Body.{Body}
use Rattle.ill_values.specs.declared.apdu.BodyWith.TheVariants as types
use Rattle.ill_values.specs.declared.apdu.AnswerResult.TheVariants as results
use Rattle.ill_values.specs.Bodies.{is_unsupplied}
use Rattle.ill_core.specs.declared.state.State.{State}
use Rattle.ill_core.specs.declared.state.State.TheVariants as states
use Rattle.ill_core.specs.State.{is_among}
use Rattle.ill_core.specs.Requester.{RequesterRecord}
use Rattle.ill_beside.specs.Heard.{requester_heard}
use Rattle.ill_beside.specs.NewsWords.{news_words, says_no}

-- The words of a message say no if, and only if, it ends the request without the item (`is_unsupplied`).
pub no_is_unsupplied : (due : Option Date) (body : Body) → says_no (news_words due body) ≡ is_unsupplied body
no_is_unsupplied due (types.IllRequest None item) = refl
no_is_unsupplied due (types.IllRequest (Some day) item) = refl
no_is_unsupplied due (types.IllAnswer results.Conditional) = refl
no_is_unsupplied due (types.IllAnswer results.Retry) = refl
no_is_unsupplied due (types.IllAnswer results.Unfilled) = refl
no_is_unsupplied due (types.IllAnswer results.LocationsProvided) = refl
no_is_unsupplied due (types.IllAnswer results.WillSupply) = refl
no_is_unsupplied due (types.IllAnswer results.HoldPlaced) = refl
no_is_unsupplied due (types.IllAnswer results.Estimate) = refl
no_is_unsupplied due (types.ConditionalReply answers true) = refl
no_is_unsupplied due (types.ConditionalReply answers false) = refl
no_is_unsupplied due types.Cancel = refl
no_is_unsupplied due (types.CancelReply answers true) = refl
no_is_unsupplied due (types.CancelReply answers false) = refl
no_is_unsupplied due (types.Shipped day) = refl
no_is_unsupplied due types.Received = refl
no_is_unsupplied due types.Recall = refl
no_is_unsupplied due types.Returned = refl
no_is_unsupplied due types.CheckedIn = refl
no_is_unsupplied due (types.Overdue day) = refl
no_is_unsupplied due (types.Renew None) = refl
no_is_unsupplied due (types.Renew (Some day)) = refl
no_is_unsupplied None (types.RenewAnswer answers None) = refl
no_is_unsupplied (Some day) (types.RenewAnswer answers None) = refl
no_is_unsupplied due (types.RenewAnswer answers (Some day)) = refl
no_is_unsupplied due types.Expired = refl

-- A state among NOT-SUPPLIED alone is NOT-SUPPLIED.
not_supplied : (state : State) → is_among (states.NotSupplied ∷ []) state ≡ true → state ≡ states.NotSupplied
not_supplied state among = search (rules, among)

-- If the record `x` shows a message as taken that ends the request without the item, `x` is in NOT-SUPPLIED. Any other
-- body fails one of both premises.
unsupplied_ends : (x : RequesterRecord) (number : ℕ) (body : Body) → is_unsupplied body ≡ true
    → requester_heard x number body ≡ true → x.state ≡ states.NotSupplied
unsupplied_ends x number (types.IllAnswer results.Retry) ends heard = not_supplied x.state heard
unsupplied_ends x number (types.IllAnswer results.Unfilled) ends heard = not_supplied x.state heard
unsupplied_ends x number (types.IllAnswer results.LocationsProvided) ends heard = not_supplied x.state heard
unsupplied_ends x number (types.IllAnswer results.Estimate) ends heard = not_supplied x.state heard
unsupplied_ends x number (types.IllAnswer results.Conditional) ends heard = absurd (true≢false (sym ends))
unsupplied_ends x number (types.IllAnswer results.WillSupply) ends heard = absurd (true≢false (sym ends))
unsupplied_ends x number (types.IllAnswer results.HoldPlaced) ends heard = absurd (true≢false (sym ends))
unsupplied_ends x number types.Expired ends heard = not_supplied x.state heard
unsupplied_ends x number (types.IllRequest expiry item) ends heard = absurd (true≢false (sym heard))
unsupplied_ends x number (types.ConditionalReply answers is_yes) ends heard = absurd (true≢false (sym heard))
unsupplied_ends x number types.Cancel ends heard = absurd (true≢false (sym heard))
unsupplied_ends x number (types.CancelReply answers true) ends heard = absurd (true≢false (sym ends))
unsupplied_ends x number (types.CancelReply answers false) ends heard = absurd (true≢false (sym ends))
unsupplied_ends x number (types.Shipped due) ends heard = absurd (true≢false (sym ends))
unsupplied_ends x number types.Received ends heard = absurd (true≢false (sym heard))
unsupplied_ends x number types.Recall ends heard = absurd (true≢false (sym ends))
unsupplied_ends x number types.Returned ends heard = absurd (true≢false (sym heard))
unsupplied_ends x number types.CheckedIn ends heard = absurd (true≢false (sym ends))
unsupplied_ends x number (types.Overdue due) ends heard = absurd (true≢false (sym ends))
unsupplied_ends x number (types.Renew wished) ends heard = absurd (true≢false (sym heard))
unsupplied_ends x number (types.RenewAnswer answers granted) ends heard = absurd (true≢false (sym ends))

-- If the record `x` shows the message `a` as taken, and its words say no, `x` is in NOT-SUPPLIED.
pub no_ends : (x : RequesterRecord) (due : Option Date) (a : Apdu) → says_no (news_words due a.body) ≡ true
    → requester_heard x a.number a.body ≡ true → x.state ≡ states.NotSupplied
no_ends x due a says heard = unsupplied_ends x a.number a.body (sym (no_is_unsupplied due a.body) ∙ says) heard
