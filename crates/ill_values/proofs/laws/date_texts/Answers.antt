-- Proves the law `laws::date_texts`: the date text of a day, and no other text, is read as that day.
use Rattle.ill_values.proofs.Dates.{date_again, date_read}
use Rattle.ill_values.proofs.laws.date_texts.Goals as goal

-- The date text of a day in range is read as that day.
pub returns-clause-encoded : goal.returns-clause-encoded
returns-clause-encoded c = date_again

-- A text that is read as a day is its date text.
pub returns-clause-read : goal.returns-clause-read
returns-clause-read c = date_read
