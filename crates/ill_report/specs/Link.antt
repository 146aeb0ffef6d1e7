-- The URLs of the pages of loans, relative to the program that shows the pages, and links to them.
use Rattle.std.specs.Prelude.{ℕ, List, ◌++◌, codes, Option, Some, None}
use Rattle.form_urlencoded.specs.Form.{byte_serialize}
use Rattle.ill_values.specs.TxnId.{Qualifiers}
use Rattle.ill_text.specs.Html.{html_escaped}
use Rattle.ill_report.specs.declared.link.Place.{Place}
use Rattle.ill_report.specs.declared.link.TheConstants.{LINK, LINKED, LINK_END}

-- A loan: the text that names its desk, and its transaction.
pub record PlaceShown : Type 0 where
  pub desk : List ℕ
  pub txn : Qualifiers

-- Returns what a `Place` of the code holds.
abbrev pub place_shown : Place → PlaceShown
place_shown place = record { desk = place.desk.now; txn = place.txn.now }

-- Returns `name`, and then `text` as a form of HTML encodes it.
unfoldable pub named_text : List ℕ → List ℕ → List ℕ
named_text name text = name ++ byte_serialize text

-- Returns the URL of the page of a loan.
unfoldable pub place_text : PlaceShown → List ℕ
place_text place =
    named_text (codes "?desk=") place.desk
    ++ (named_text (codes "&group=") place.txn.group ++ named_text (codes "&transaction=") place.txn.transaction)

-- Returns `text` within a link to the page of a loan.
unfoldable pub link_text : PlaceShown → (text : List ℕ) → List ℕ
link_text place text = LINK.now ++ (html_escaped (place_text place) ++ (LINKED.now ++ (text ++ LINK_END.now)))

-- Returns `text`, within a link to the page of a loan if there is a text for the desk.
abbrev pub linked_text : (desk : Option (List ℕ)) → Qualifiers → (text : List ℕ) → List ℕ
linked_text None txn text = text
linked_text (Some desk) txn text = link_text (record { desk = desk; txn = txn }) text
