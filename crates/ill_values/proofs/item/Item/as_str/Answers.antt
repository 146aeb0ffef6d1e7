-- Proves that `Item::as_str` never reaches its error arm, because an item is UTF-8.
use Rattle.std.proofs.Common.{subst, sym}
use Rattle.std.specs.Str.{IsUtf8}
use Rattle.ill_values.proofs.Texts.{item_utf8}
use Rattle.ill_values.proofs.item.Item.as_str.Goals as goal

pub unreachable-requires : goal.unreachable-requires
unreachable-requires c =
    c.in-Err.ensures.cases.0 (subst IsUtf8 (sym c.text.ensures.bytes) (item_utf8 c.args.self.now c.text.ensures.item))
