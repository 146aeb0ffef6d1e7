-- Proves that `DayDisplay::fmt` never reaches its error arm, because a date text is UTF-8.
use Rattle.std.proofs.Common.{subst, sym}
use Rattle.std.specs.Str.{IsUtf8}
use Rattle.ill_values.proofs.Texts.{date_utf8}
use Rattle.ill_values.proofs.day.DayDisplay.fmt.Goals as goal

pub unreachable-requires : goal.unreachable-requires
unreachable-requires g c =
    c.in-Err.ensures.cases.0 (subst IsUtf8 (sym c.digits.ensures.value) (date_utf8 c.args.self.now))
