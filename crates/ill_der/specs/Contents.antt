-- The contents of the primitive fields of an APDU, for both directions.
use Rattle.std.specs.Prelude.{ℕ, Bool, true, false, ◌&&◌, ◌==◌, nat_lt, nat_le, if◌then◌else◌, List, [], ◌∷◌, Option, Some, None}
use Rattle.std.specs.Prelude.{is_ok, find}
use Rattle.std.specs.Str.{bytes_eq}
use Rattle.std.specs.Result.{result_ok}
use Rattle.ill_values.specs.declared.apdu.AnswerResult.{AnswerResult}
use Rattle.ill_values.specs.declared.apdu.AnswerResult.TheVariants.{Conditional, Retry, Unfilled, LocationsProvided, WillSupply}
use Rattle.ill_values.specs.declared.apdu.AnswerResult.TheVariants.{HoldPlaced, Estimate}
use Rattle.ill_values.specs.Day.{Date, date_text, read_date}
use Rattle.ill_values.specs.Results.{all_results}
use Rattle.ill_values.specs.Text.{qualifier_check, item_check}

-- Describes one kind of contents: `encode` encodes a value, and `read` reads a value from all octets.
pub record Contents (V : Type 0) : Type 0 where
  pub encode : V → List ℕ
  pub read : List ℕ → Option V

-- Returns the number `n`, 1 to 255, as a minimal INTEGER in two's complement: one or two octets (X.690 8.3).
abbrev pub number_octets : ℕ → List ℕ
number_octets n = if nat_lt n 128 then n ∷ [] else 0 ∷ n ∷ []

-- Returns the number from 1 to 255 of which the octets are the minimal INTEGER, if there is one.
abbrev pub number_from : List ℕ → Option ℕ
number_from [] = None
number_from (n ∷ []) = if nat_le 1 n && nat_lt n 128 then Some n else None
number_from (high ∷ n ∷ []) = if (high == 0) && nat_le 128 n then Some n else None
number_from (high ∷ n ∷ more ∷ rest) = None

-- The contents of a number: an INTEGER.
abbrev pub number : Contents ℕ
number = record { encode = number_octets; read = number_from }

-- Returns the version if `bytes` is the one octet 01. This profile has no other version.
abbrev pub version_from : List ℕ → Option (Unit {0})
version_from bytes = if bytes_eq bytes (1 ∷ []) then Some tt else None

-- The contents of the version: the one octet 01.
abbrev pub version : Contents (Unit {0})
version = record { encode = λ _. 1 ∷ []; read = version_from }

-- Returns `bytes` if it is a qualifier.
abbrev pub qualifier_from : List ℕ → Option (List ℕ)
qualifier_from bytes = if is_ok (qualifier_check bytes) then Some bytes else None

-- The contents of a qualifier: its own bytes.
abbrev pub qualifier : Contents (List ℕ)
qualifier = record { encode = λ text. text; read = qualifier_from }

-- Returns `bytes` if it is an item.
abbrev pub item_from : List ℕ → Option (List ℕ)
item_from bytes = if is_ok (item_check bytes) then Some bytes else None

-- The contents of an item: its own bytes.
abbrev pub item : Contents (List ℕ)
item = record { encode = λ text. text; read = item_from }

-- The contents of a day: its date text.
abbrev pub date : Contents Date
date = record { encode = date_text; read = λ bytes. result_ok (read_date bytes) }

-- Returns the octet that encodes a result (this profile's own).
abbrev pub code_of : AnswerResult → ℕ
code_of Conditional = 1
code_of Retry = 2
code_of Unfilled = 3
code_of LocationsProvided = 4
code_of WillSupply = 5
code_of HoldPlaced = 6
code_of Estimate = 7

-- Returns the result that the octets encode, if they are one octet that encodes a result.
abbrev pub result_from : List ℕ → Option AnswerResult
result_from [] = None
result_from (code ∷ []) = find (λ result. code == code_of result) all_results
result_from (code ∷ more ∷ rest) = None

-- The contents of a result: its octet.
abbrev pub answer_result : Contents AnswerResult
answer_result = record { encode = λ result. code_of result ∷ []; read = result_from }

-- Returns the value of a BOOLEAN: no for the one octet 00, and yes for the one octet FF (X.690 8.2, 11.1).
abbrev pub yes_no_from : List ℕ → Option Bool
yes_no_from [] = None
yes_no_from (octet ∷ []) =
    if octet == 0 then Some false else (if octet == 0xFF then Some true else None)
yes_no_from (octet ∷ more ∷ rest) = None

-- The contents of a yes or no: a BOOLEAN.
abbrev pub yes_no : Contents Bool
yes_no = record { encode = λ is_yes. (if is_yes then 0xFF else 0) ∷ []; read = yes_no_from }
