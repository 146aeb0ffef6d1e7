-- Answers the contract of `list_file` (`src/listing.rt`).
use Rattle.std.proofs.Common.{◌≡◌, List, Option, inl, inr, refl, subst}
use Rattle.ill_values.specs.declared.apdu.Apdu.{Apdu}
use Rattle.ill_saved.specs.ManySides.{sides_held}
use Rattle.ill_record.specs.Sides.{SidesOf}
use Rattle.ill_news.specs.PrintedNews.{news_since}
use Rattle.ill_text.specs.declared.fault.ToolFault.TheVariants.{OutOfMemory}
use Rattle.ill_beside.specs.Since.{annex_of}
use Rattle.ill_files.proofs.OpenLemmas.{open_fault}
use Rattle.ill_visits.proofs.listing.list_file.Goals as goal

-- Proves the contract of `list_file` if the desk is opened. `run_desk_list` lists its sides, with the news of the
-- annex.
pub returns : goal.returns
returns g c =
    let annex = annex_of c.in_ok-annex.annex in
    let news : Option (List Apdu) = c.in_ok-news.news in
    let printed = subst (λ (held : SidesOf). news ≡ news_since c.args.wanted.now.since annex held.sides) c.sides.ensures.value
    c.in_ok-news.ensures in
    inr (
      (sides_held c.in_ok-desk.desk.live).sides,
      record { notes = annex.notes; diary = annex.diary; came = annex.came; news = news },
      printed,
      (c.run_desk_list-answer.result, c.run_desk_list-answer.ensures, c.all_succeed.ensures),
    )

-- Proves the contract of `list_file` if memory runs out for the news. Then nothing is written.
pub returns-in_err-news : goal.returns-in_err-news
returns-in_err-news g c =
    inl (open_fault c.from_residual-in_err-news.result OutOfMemory c.from_residual-in_err-news.ensures.1 tt, refl)

-- Proves the contract of `list_file` if the desk is not opened. Then nothing is written.
pub returns-in_err-desk : goal.returns-in_err-desk
returns-in_err-desk g c =
    let result = c.from_residual-in_err-desk.result in
    inl (open_fault result c.in_err-desk.field-0.0 c.from_residual-in_err-desk.ensures.1 c.in_err-desk.ensures, refl)
