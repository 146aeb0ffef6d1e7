-- States the loop invariant of `read_fields` (`src/field.rt`).
use Rattle.std.proofs.Common.{◌≡◌, ◌++◌, map}
use Rattle.form_urlencoded.specs.Parse.{raw_pairs_left}
use Rattle.ill_browser.specs.Fields.{decoded, field_shown, fields_in}
use Rattle.ill_browser.proofs.field.read_fields.Given as goal

-- The fields so far, and those that are left, are the fields of the form.
abbrev pub invariant-loop-name : goal.invariant-loop-name
invariant-loop-name l =
    map field_shown l.fields.items ++ map decoded (raw_pairs_left l.name-iterator) ≡ fields_in l.form
