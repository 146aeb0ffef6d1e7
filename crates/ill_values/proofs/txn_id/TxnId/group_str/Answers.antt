-- Proves that `TxnId::group_str` never reaches its error arm, because a qualifier is UTF-8.
use Rattle.std.proofs.Common.{subst, sym}
use Rattle.std.specs.Str.{IsUtf8}
use Rattle.ill_values.proofs.Texts.{qualifier_utf8}
use Rattle.ill_values.proofs.txn_id.TxnId.group_str.Goals as goal

pub unreachable-requires : goal.unreachable-requires
unreachable-requires c =
    c.in-Err.ensures.cases.0 (subst IsUtf8 (sym c.group.ensures.value)
    (qualifier_utf8 c.args.self.now.group c.group.ensures.id.group))
