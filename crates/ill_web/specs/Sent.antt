-- A form that was sent, as the code has it.
use Rattle.std.specs.Prelude.{map}
use Rattle.ill_web.specs.declared.act.Sent.{Sent}
use Rattle.ill_web.specs.Acts.{SentForm}
use Rattle.ill_web.specs.Pages.{asked_at}

-- Returns what a `Sent` of the code holds.
abbrev pub sent_form : Sent → SentForm
sent_form sent = record {
  loan = asked_at sent.place.now;
  stamp = sent.stamp.now;
  words = map (λ word. word.items) sent.words.now;
}
