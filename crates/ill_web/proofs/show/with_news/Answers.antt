-- Proves the contract of `with_news` (`src/show.rt`), by the news that `news_since` has found.
use Rattle.std.proofs.Common.{List, Option, ap}
use Rattle.ill_values.specs.declared.apdu.Apdu.{Apdu}
use Rattle.ill_beside.specs.Since.{AnnexRead, annex_of}
use Rattle.ill_web.proofs.show.with_news.Goals as goal

pub returns : goal.returns
returns g c =
    let annex = annex_of c.args.annex in
    let told : Option (List Apdu) → AnnexRead =
    λ news. record { notes = annex.notes; diary = annex.diary; came = annex.came; news = news } in
    ap told c.in_ok-news.ensures
