-- Proves that the field of the news of a listed loan is read (`FieldReads`).
use Rattle.std.proofs.Common.{Bool, true, false, cond, not, ◌&&◌, List, [], ◌∷◌, ◌++◌, fold, Option, Some, None, refl}
use Rattle.std.proofs.Common.{IfSome}
use Rattle.ill_values.specs.TxnId.{Qualifiers}
use Rattle.ill_values.specs.declared.apdu.Apdu.{Apdu}
use Rattle.ill_values.specs.Apdu.{IsApdu}
use Rattle.ill_core.specs.Issued.{is_same_txn}
use Rattle.ill_record.specs.declared.side.Side.{Side}
use Rattle.ill_record.specs.Side.{txn_of}
use Rattle.ill_record.specs.Ranges.{Each}
use Rattle.ill_text.specs.Json.{optional}
use Rattle.ill_beside.specs.Kept.{is_among, kept_of, with_new}
use Rattle.ill_list.specs.ListedNews.{heard_array, heard_fields, heard_object, listed_news_fields}
use Rattle.ill_json.proofs.Fields.{array_value, field_reads, optional_value, text_value}
use Rattle.ill_json.proofs.NewsTexts.{printed_utf8}
use Rattle.ill_json.proofs.Sides.{each_append, message_number}
use Rattle.ill_json.proofs.Values.{FieldReads, HasValue, object_reads}

-- If `P` holds of each message that came, it holds of each that is kept.
kept_each : (P : Apdu → Type 0) (txn : Qualifiers) (kept came : List Apdu) → Each P kept → Each P came
    → Each P (fold (with_new txn) kept came)
unfolding Each
kept_each P txn kept [] so_far each = so_far
kept_each P txn kept (a ∷ came) so_far each =
    kept_each P txn (with_new txn kept a) came (go (is_same_txn a.txn txn && not (is_among kept a))) each.1
  where
    -- The message `a` is kept, or not.
    go : (is_new : Bool) → Each P (cond is_new (kept ++ a ∷ []) kept)
    go true = each_append P kept (a ∷ []) so_far (each.0, tt)
    go false = so_far

-- The fields of a message are read.
heard_reads : (side : Side) (a : Apdu) → IsApdu a → Each (FieldReads 0) (heard_fields side a)
unfolding Each
heard_reads side a is = (
  field_reads 0 _ _ refl (message_number 0 a.number is.number),
  (field_reads 0 _ _ refl (text_value 0 _ (printed_utf8 side a.body)), tt),
)

-- The objects of messages have values.
heard_values : (side : Side) (apdus : List Apdu) → Each IsApdu apdus → Each (λ a. HasValue 1 (heard_object side a)) apdus
unfolding Each
heard_values side [] each = tt
heard_values side (a ∷ apdus) each = (
  record { value = _; reads = object_reads 0 (heard_fields side a) (heard_reads side a each.0) refl },
  heard_values side apdus each.1,
)

-- An array of messages, if there is one, has a value.
news_has : (side : Side) (news : Option (List Apdu)) → IfSome news (Each IsApdu)
    → HasValue 2 (optional (λ printed. heard_array side (kept_of (txn_of side) printed)) news)
unfolding Each
news_has side None printed = optional_value 2 (λ printed. heard_array side (kept_of (txn_of side) printed)) None tt
news_has side (Some news) printed =
    array_value 1 (heard_object side) (kept_of (txn_of side) news)
    (heard_values side (kept_of (txn_of side) news) (kept_each IsApdu (txn_of side) [] news tt printed))

-- The field of the news of a loan is read.
pub listed_news_reads : (news : Option (List Apdu)) (side : Side) → IfSome news (Each IsApdu)
    → Each (FieldReads 2) (listed_news_fields news side)
unfolding Each
listed_news_reads news side printed = (field_reads 2 _ _ refl (news_has side news printed), tt)
