-- Defines the results of an ILL-Answer, and their names.
use Rattle.std.specs.Prelude.{ℕ, List, [], ◌∷◌, Option, codes}
use Rattle.ill_values.specs.declared.apdu.AnswerResult.{AnswerResult}
use Rattle.ill_values.specs.declared.apdu.AnswerResult.TheVariants.{Conditional, Retry, Unfilled, LocationsProvided, WillSupply}
use Rattle.ill_values.specs.declared.apdu.AnswerResult.TheVariants.{HoldPlaced, Estimate}
use Rattle.ill_values.specs.Names.{named_by}

-- Returns the name of a result.
abbrev pub result_name : AnswerResult → List ℕ
result_name Conditional = codes "conditional"
result_name Retry = codes "retry"
result_name Unfilled = codes "unfilled"
result_name LocationsProvided = codes "locations-provided"
result_name WillSupply = codes "will-supply"
result_name HoldPlaced = codes "hold-placed"
result_name Estimate = codes "estimate"

-- Lists the seven results of an ILL-Answer.
abbrev pub all_results : List AnswerResult
all_results =
    Conditional ∷ Retry ∷ Unfilled ∷ LocationsProvided ∷ WillSupply ∷ HoldPlaced ∷ Estimate ∷ []

-- Returns the result whose name is the text, or `None`.
abbrev pub result_named : List ℕ → Option AnswerResult
result_named = named_by result_name all_results
