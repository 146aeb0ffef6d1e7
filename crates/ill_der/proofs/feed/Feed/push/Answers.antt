-- Proves the contract of `Feed::push`: it returns the APDUs of the push, or the feed is unchanged.
-- The collector appends each APDU that it handles to its list.
use Rattle.std.proofs.Common.{◌≡◌, List, ◌++◌, ap, sym, subst, ◌∙◌}
use Rattle.ill_values.specs.declared.apdu.Apdu.{Apdu}
use Rattle.ill_der.specs.declared.feed.Collector.{Collector}
use Rattle.ill_der.specs.Feed.{Feeds}
use Rattle.ill_der.specs.FeedView.{CollectsApdu}
use Rattle.ill_der.proofs.FeedLemmas.{all_kept, fails_at_apdu}
use Rattle.ill_der.proofs.feed.Feed.push.Goals as goal

-- The list of the collector was empty, so it is now the list of the APDUs of the push (`all`).
pub returns-in-Ok : goal.returns-in-Ok
returns-in-Ok c =
    let is = c.in-Ok.ensures in
    let handled = is.1 in
    let empty : Collector × Unit {0} = (record { apdus = c.new.result }, tt) in
    let full : Collector × Unit {0} = (c.each.new.handler, c.each.new.context) in
    let items = λ (s : Collector × Unit {0}). s.0.apdus.items in
    let kept = all_kept CollectsApdu items (λ before after apdu keeps. keeps) empty full handled.0 handled.2 in
    let all : c.each.new.handler.apdus.items ≡ handled.0 = kept ∙ ap (λ (x : List Apdu). x ++ handled.0) c.new.ensures.items in
    (subst (λ (x : List Apdu). Feeds c.args.self.now c.args.piece.now x c.each.new.self) (sym all) handled.1, is.0)

-- If memory ran out, the feed is unchanged, and its held bytes with the piece begin with an APDU.
pub returns-in-Err : goal.returns-in-Err
returns-in-Err c = (
  c.in-Err.ensures.0,
  fails_at_apdu CollectsApdu c.args.self.now c.args.piece.now _ _ c.in-Err.fault c.in-Err.ensures.1,
)
