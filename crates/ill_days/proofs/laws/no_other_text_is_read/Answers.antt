-- Proves the law `laws::no_other_text_is_read`, which is `text_read`.
use Rattle.ill_days.proofs.DayTexts.{text_read}
use Rattle.ill_days.proofs.laws.no_other_text_is_read.Goals as goal

pub returns : goal.returns
returns c = text_read
