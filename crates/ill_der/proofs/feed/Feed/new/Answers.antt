-- Proves the invariant of the feed that `Feed::new` returns: the bytes that it holds are unfinished.
use Rattle.ill_der.proofs.FeedLemmas.{holds_nothing}
use Rattle.ill_der.proofs.feed.Feed.new.Goals as goal

pub invariant_of-result : goal.invariant_of-result
invariant_of-result c = holds_nothing _
