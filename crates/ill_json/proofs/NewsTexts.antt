-- Proves that the words of a message in the news are UTF-8.
use Rattle.std.proofs.Common.{◌≡◌, ℕ, true, false, List, ◌++◌, Option, Some, None, refl, codes, IsUtf8}
use Rattle.std.proofs.lemmas.Str.{IsUtf8-append}
use Rattle.ill_values.specs.Day.{Date, iso_text}
use Rattle.ill_values.specs.Body.{Body}
use Rattle.ill_values.specs.declared.apdu.BodyWith.TheVariants as types
use Rattle.ill_values.specs.declared.apdu.AnswerResult.TheVariants as results
use Rattle.ill_record.specs.declared.side.Side.{Side}
use Rattle.ill_record.specs.declared.side.Side.TheVariants as sides
use Rattle.ill_record.specs.Side.{due_date_of}
use Rattle.ill_beside.specs.NewsWords.{lender_words, news_words, printed_words}
use Rattle.ill_news.specs.News.{words_by}
use Rattle.ill_json.proofs.Fields.{day_utf8}
use Rattle.ill_json.proofs.Shown.{are_printable, printable_shown}

-- Printable words are UTF-8.
plain_utf8 : (words : List ℕ) → are_printable words ≡ true → IsUtf8 words
plain_utf8 words plain = (printable_shown words plain).utf8

-- Printable words and a day are UTF-8.
dated_utf8 : (words : List ℕ) (d : Date) → are_printable words ≡ true → IsUtf8 (words ++ iso_text d)
dated_utf8 words d plain = IsUtf8-append words (iso_text d) (plain_utf8 words plain) (day_utf8 d)

-- The words of a message that came are UTF-8.
words_utf8 : (due : Option Date) (body : Body) → IsUtf8 (news_words due body)
words_utf8 due (types.IllRequest None item) = plain_utf8 _ refl
words_utf8 due (types.IllRequest (Some day) item) = dated_utf8 (codes "asked for, until ") day refl
words_utf8 due (types.IllAnswer results.Conditional) = plain_utf8 _ refl
words_utf8 due (types.IllAnswer results.Retry) = plain_utf8 _ refl
words_utf8 due (types.IllAnswer results.Unfilled) = plain_utf8 _ refl
words_utf8 due (types.IllAnswer results.LocationsProvided) = plain_utf8 _ refl
words_utf8 due (types.IllAnswer results.WillSupply) = plain_utf8 _ refl
words_utf8 due (types.IllAnswer results.HoldPlaced) = plain_utf8 _ refl
words_utf8 due (types.IllAnswer results.Estimate) = plain_utf8 _ refl
words_utf8 due (types.ConditionalReply answers true) = plain_utf8 _ refl
words_utf8 due (types.ConditionalReply answers false) = plain_utf8 _ refl
words_utf8 due types.Cancel = plain_utf8 _ refl
words_utf8 due (types.CancelReply answers true) = plain_utf8 _ refl
words_utf8 due (types.CancelReply answers false) = plain_utf8 _ refl
words_utf8 due (types.Shipped day) = dated_utf8 (codes "shipped, due ") day refl
words_utf8 due types.Received = plain_utf8 _ refl
words_utf8 due types.Recall = plain_utf8 _ refl
words_utf8 due types.Returned = plain_utf8 _ refl
words_utf8 due types.CheckedIn = plain_utf8 _ refl
words_utf8 due (types.Overdue day) = dated_utf8 (codes "overdue, was due ") day refl
words_utf8 due (types.Renew None) = plain_utf8 _ refl
words_utf8 due (types.Renew (Some day)) = dated_utf8 (codes "asks to renew, until ") day refl
words_utf8 None (types.RenewAnswer answers None) = plain_utf8 _ refl
words_utf8 (Some day) (types.RenewAnswer answers None) = dated_utf8 (codes "renewal refused, still due ") day refl
words_utf8 due (types.RenewAnswer answers (Some day)) = dated_utf8 (codes "renewed, due ") day refl
words_utf8 due types.Expired = plain_utf8 _ refl

-- The words of a message in the news of a lender's loan are UTF-8.
lender_utf8 : (due : Option Date) (body : Body) → IsUtf8 (lender_words due body)
lender_utf8 due (types.Overdue day) = plain_utf8 _ refl
lender_utf8 due types.Expired = plain_utf8 _ refl
lender_utf8 due (types.IllRequest expiry item) = words_utf8 due (types.IllRequest expiry item)
lender_utf8 due (types.IllAnswer result) = words_utf8 due (types.IllAnswer result)
lender_utf8 due (types.ConditionalReply answers is_yes) = words_utf8 due (types.ConditionalReply answers is_yes)
lender_utf8 due types.Cancel = words_utf8 due types.Cancel
lender_utf8 due (types.CancelReply answers is_yes) = words_utf8 due (types.CancelReply answers is_yes)
lender_utf8 due (types.Shipped day) = words_utf8 due (types.Shipped day)
lender_utf8 due types.Received = words_utf8 due types.Received
lender_utf8 due types.Recall = words_utf8 due types.Recall
lender_utf8 due types.Returned = words_utf8 due types.Returned
lender_utf8 due types.CheckedIn = words_utf8 due types.CheckedIn
lender_utf8 due (types.Renew wished) = words_utf8 due (types.Renew wished)
lender_utf8 due (types.RenewAnswer answers granted) = words_utf8 due (types.RenewAnswer answers granted)

-- The words of a message in the news of a loan are UTF-8.
pub printed_utf8 : (side : Side) (body : Body) → IsUtf8 (printed_words side body)
printed_utf8 (sides.Requester x) body = words_utf8 (due_date_of (sides.Requester x)) body
printed_utf8 (sides.Responder y) body = lender_utf8 (due_date_of (sides.Responder y)) body

-- The words of a message are UTF-8, also if there is no side.
pub words_by_utf8 : (side : Option Side) (body : Body) → IsUtf8 (words_by side body)
words_by_utf8 None body = words_utf8 None body
words_by_utf8 (Some side) body = printed_utf8 side body
