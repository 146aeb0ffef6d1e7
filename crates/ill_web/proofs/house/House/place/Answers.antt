-- Proves the contract of `House::place` (`src/house.rt`).
use Rattle.std.proofs.Common.{◌≡◌, ◌∙◌, List, ℕ, map, Some, ap, subst, sym, option_copied, option_map, string_bytes}
use Rattle.ill_browser.specs.Wanted.{LoanAsked}
use Rattle.ill_web.specs.Pages.{file_named}
use Rattle.ill_web.proofs.PlaceLemmas.{named_is}
use Rattle.ill_web.proofs.house.House.place.Goals as goal

-- If a file is found, its path is the text for the desk (`named_is`). So the place has this text.
pub returns-in-Some : goal.returns-in-Some
returns-in-Some g c =
    let files = map (λ file. string_bytes file) c.args.self.now.files.now in
    let desk = c.args.loan.now.desk.items in
    let named : file_named files c.deref.result.now ≡ Some (string_bytes c.in-Some.file.now) =
    sym c.file_named.ensures
    ∙ ap (λ found. option_map (λ file. string_bytes file) (option_copied found)) c.in-Some.is in
    let same = named_is files c.deref.result.now (string_bytes c.in-Some.file.now) named ∙ c.deref.ensures.value in
    let at : List ℕ → LoanAsked = λ desk. record { desk = desk; txn = c.args.loan.now.txn } in (
      subst (λ (text : List ℕ). file_named files text ≡ Some desk) c.deref.ensures.value (named ∙ ap (λ file. Some file) same),
      ap at (c.as_str.ensures.value ∙ same),
    )
