-- The constant texts of forms.
use Rattle.std.specs.Prelude.{ℕ, Bool, true, false, List, [], ◌∷◌}
use Rattle.ill_core.specs.declared.verb.Verb.{Verb}
use Rattle.ill_core.specs.declared.verb.Verb.TheVariants as verbs
use Rattle.ill_page.specs.declared.parts.Inputs.{Inputs}
use Rattle.ill_page.specs.declared.parts.Inputs.TheVariants as inputs
use Rattle.ill_page.specs.declared.words.TheConstants.{BARE, YES_NO, WISHED, DUE, DUE_END, GRANT, GRANT_END, DENY, RESULT}
use Rattle.ill_page.specs.declared.words.TheConstants.{TO_REQUEST, TO_CANCEL, TO_REPLY, TO_RECEIVE}
use Rattle.ill_page.specs.declared.words.TheConstants.{TO_RENEW, TO_RETURN, TO_ANSWER, TO_CANCEL_REPLY}
use Rattle.ill_page.specs.declared.words.TheConstants.{TO_SHIP, TO_RENEW_ANSWER, TO_OVERDUE, TO_RECALL, TO_CHECK_IN, TO_EXPIRE}

-- Returns the text of inputs before the day that is proposed. If none is proposed, it is their whole text.
abbrev pub before : Inputs → List ℕ
before inputs.Bare = BARE.now
before inputs.YesNo = YES_NO.now
before inputs.Wished = WISHED.now
before inputs.Due = DUE.now
before inputs.Grant = GRANT.now
before inputs.Deny = DENY.now
before inputs.Result = RESULT.now

-- Returns true if inputs have a day that is proposed.
abbrev pub has_day : Inputs → Bool
has_day inputs.Due = true
has_day inputs.Grant = true
has_day other = false

-- Returns the text of inputs after the day that is proposed. If none is proposed, it is empty.
abbrev pub after : Inputs → List ℕ
after inputs.Due = DUE_END.now
after inputs.Grant = GRANT_END.now
after other = []

-- Returns the inputs of each form of a verb. The answer to a renewal has two forms. A request has its own form.
abbrev pub inputs_of : Verb → List Inputs
inputs_of verbs.Request = []
inputs_of verbs.Reply = inputs.YesNo ∷ []
inputs_of verbs.CancelReply = inputs.YesNo ∷ []
inputs_of verbs.Renew = inputs.Wished ∷ []
inputs_of verbs.Answer = inputs.Result ∷ []
inputs_of verbs.Ship = inputs.Due ∷ []
inputs_of verbs.RenewAnswer = inputs.Grant ∷ inputs.Deny ∷ []
inputs_of other = inputs.Bare ∷ []

-- Returns the text that tells people what an action of this verb means.
abbrev pub meaning : Verb → List ℕ
meaning verbs.Request = TO_REQUEST.now
meaning verbs.Cancel = TO_CANCEL.now
meaning verbs.Reply = TO_REPLY.now
meaning verbs.Receive = TO_RECEIVE.now
meaning verbs.Renew = TO_RENEW.now
meaning verbs.Return = TO_RETURN.now
meaning verbs.Answer = TO_ANSWER.now
meaning verbs.CancelReply = TO_CANCEL_REPLY.now
meaning verbs.Ship = TO_SHIP.now
meaning verbs.RenewAnswer = TO_RENEW_ANSWER.now
meaning verbs.Overdue = TO_OVERDUE.now
meaning verbs.Recall = TO_RECALL.now
meaning verbs.CheckIn = TO_CHECK_IN.now
meaning verbs.Expire = TO_EXPIRE.now
