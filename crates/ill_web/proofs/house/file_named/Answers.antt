-- Proves the contract of `file_named` (`src/house.rt`).
use Rattle.std.proofs.Common.{◌∙◌, ap, sym, option_map, string_bytes}
use Rattle.std.specs.Prelude.{bytes_eq}
use Rattle.ill_browser.proofs.FieldLemmas.{find_mapped}
use Rattle.ill_web.proofs.house.file_named.Goals as goal

-- By `find_mapped` the first path with the text is that of the first file with these bytes.
pub returns : goal.returns
returns c =
    ap (λ found. option_map (λ file. string_bytes file) found) c.file_with.ensures
    ∙ sym (find_mapped (λ file. string_bytes file) (λ file. bytes_eq file c.args.desk.now) c.args.files.now)
