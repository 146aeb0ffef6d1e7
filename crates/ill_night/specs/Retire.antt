-- The last words of a desk whose loans are all over.
use Rattle.std.specs.Prelude.{◌≡◌, ℕ, Bool, true, false, List, [], ◌++◌, length, codes, Option, None, Some, Result, Ok, Err}
use Rattle.std.specs.List.{flat_map, list_all}
use Rattle.ill_values.specs.declared.apdu.Apdu.{Apdu}
use Rattle.ill_core.specs.Issued.{message}
use Rattle.ill_record.specs.declared.side.Side.{Side}
use Rattle.ill_record.specs.declared.side.Side.TheVariants as sides
use Rattle.ill_words.specs.Sending.{is_over}
use Rattle.ill_text.specs.declared.fault.ToolFault.{ToolFault}
use Rattle.ill_text.specs.declared.fault.ToolFault.TheVariants.{OutOfMemory}
use Rattle.ill_der.specs.ShortForm.{encoding}
use Rattle.ill_night.specs.Copy.{Copies}

-- Returns true if all loans of a desk are over.
abbrev pub are_all_over : List Side → Bool
are_all_over sides = list_all is_over sides

-- Returns the last message of a responder's side. In a loan that is over it says how the loan ended, which is enough
-- for the requester. A requester's side needs none.
abbrev pub last_word : Side → Option Apdu
last_word (sides.Requester x) = None
last_word (sides.Responder y) = message y.issued (length y.issued)

-- Returns the bytes of a message, if there is one.
abbrev pub word_bytes : Option Apdu → List ℕ
word_bytes None = []
word_bytes (Some a) = encoding a

-- Returns the bytes of the last words of some sides, one after another.
abbrev pub last_words : List Side → List ℕ
last_words sides = flat_map (λ side. word_bytes (last_word side)) sides

-- Returns the bytes of the file that marks a retired group: a line, and the last word of each loan.
abbrev pub retired_mark : List Side → List ℕ
retired_mark sides = codes "retired\n" ++ last_words sides

-- The group of a desk is marked as retired if all loans of the desk are over. The content of the mark's store
-- goes from `old` to `new`. If a loan is not over, or memory ran out, the store is unchanged.
abbrev pub Retires : List Side → Option (Option (List ℕ)) → Result Bool ToolFault → Option (Option (List ℕ)) → Type 0
Retires sides old (Ok true) new = (are_all_over sides ≡ true) × Copies (retired_mark sides) old (Ok tt) new
Retires sides old (Ok false) new = (are_all_over sides ≡ false) × (new ≡ old)
Retires sides old (Err OutOfMemory) new = new ≡ old
Retires sides old (Err fault) new = (are_all_over sides ≡ true) × Copies (retired_mark sides) old (Err fault) new
