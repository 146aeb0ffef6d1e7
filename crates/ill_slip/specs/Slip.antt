-- The command `slip`: a page of HTML to print and to lay in the item of a loan. Texts that people wrote go into it by
-- `html_text`: the item and both qualifiers. All else is a constant of this program, a date, or bars.
use Rattle.std.specs.Prelude.{◌≡◌, ℕ, ◌+◌, ◌*◌, Bool, ◌&&◌, ◌||◌, ◌==◌, nat_le, if◌then◌else◌, List, [], ◌∷◌, ◌++◌, length, codes}
use Rattle.std.specs.Prelude.{Option, None, Some, Result, Err}
use Rattle.std.specs.List.{list_all}
use Rattle.std.specs.Fmt.{decimal}
use Rattle.std.specs.Io.KnownBytes.{Appends}
use Rattle.ill_values.specs.Day.{Date, iso_text}
use Rattle.ill_values.specs.TxnId.{Qualifiers}
use Rattle.ill_record.specs.declared.role.Role.{Role}
use Rattle.ill_record.specs.declared.role.Role.TheVariants.{Requester, Responder}
use Rattle.ill_record.specs.declared.side.Side.{Side}
use Rattle.ill_record.specs.Side.{due_date_of, role_of, txn_of}
use Rattle.ill_saved.specs.Holdings.{DeskEntry}
use Rattle.ill_saved.specs.declared.fault.DeskFault.TheVariants.{NoSuchTransaction}
use Rattle.ill_words.specs.Possible.{item_asked, request_of}
use Rattle.ill_text.specs.declared.fault.ToolFault.{ToolFault}
use Rattle.ill_text.specs.declared.fault.ToolFault.TheVariants.{Desk}
use Rattle.ill_text.specs.Html.{html_text}
use Rattle.ill_text.specs.Output.{WritesText}
use Rattle.ill_slip.specs.Code128.{encoded, path}
use Rattle.ill_slip.specs.declared.slip_parts.TheConstants.{PAGE, ROLE, GROUP, TRANSACTION, DUE, NAMED, CODE, VIEW, BARS}
use Rattle.ill_slip.specs.declared.slip_parts.TheConstants.{CODE_END, NOTE}

-- ---- the code

-- Returns true if `byte` is a letter, a digit or one of `-`, `.`, `/`, `:`, `_` and `+`. In a shell it stands for
-- itself.
abbrev pub is_plain : ℕ → Bool
is_plain byte =
    (nat_le 0x2D byte && nat_le byte 0x3A) || ((nat_le 0x41 byte && nat_le byte 0x5A)
    || ((nat_le 0x61 byte && nat_le byte 0x7A) || (byte == 0x5F || byte == 0x2B)))

-- Returns the words that follow the desk in a command: both qualifiers.
abbrev pub loan_words : Qualifiers → List ℕ
loan_words txn = txn.group ++ 0x20 ∷ txn.transaction

-- Returns the width in modules of the code of `text`, with ten modules of quiet zone on each side.
abbrev pub code_width : List ℕ → ℕ
code_width text = 11 * length text + 55

-- Returns the picture of the code of `text`.
unfoldable pub code_picture : List ℕ → List ℕ
code_picture text =
    CODE.now ++ (decimal (code_width text) ++ (VIEW.now ++ (decimal (code_width text)
    ++ (BARS.now ++ (path (encoded text) ++ CODE_END.now)))))

-- Returns the picture of the code of a loan. If a qualifier has a character that is not plain, there is none. A
-- partner may have chosen it, and a scanner would type it into a shell.
abbrev pub code_part : Qualifiers → List ℕ
code_part txn =
    if list_all is_plain txn.group && list_all is_plain txn.transaction then code_picture (loan_words txn) else []

-- ---- the page

-- Returns the item of a slip, or a dash if none is known.
abbrev pub title_part : Option (List ℕ) → List ℕ
title_part None = codes "-"
title_part (Some item) = html_text item

-- Returns the words for the role of this library.
abbrev pub role_text : Role → List ℕ
role_text Requester = codes "Asked by us"
role_text Responder = codes "Lent by us"

-- Returns the due date with the text before it, or nothing if there is none.
abbrev pub due_part : Option Date → List ℕ
due_part None = []
due_part (Some day) = DUE.now ++ iso_text day

-- Returns the item and the role, with the texts before them.
unfoldable pub head_part : Side → List ℕ
head_part side = PAGE.now ++ (title_part (item_asked (request_of side)) ++ (ROLE.now ++ role_text (role_of side)))

-- Returns both qualifiers and the due date, with the texts around them.
unfoldable pub names_part : Side → List ℕ
names_part side =
    GROUP.now ++ (html_text (txn_of side).group ++ (TRANSACTION.now ++ (html_text (txn_of side).transaction
    ++ (due_part (due_date_of side) ++ NAMED.now))))

-- Returns the slip of a loan.
unfoldable pub slip_page : Side → List ℕ
slip_page side = head_part side ++ (names_part side ++ (code_part (txn_of side) ++ NOTE.now))

-- ---- the command

-- The command writes the slip of a loan. If the side is not held, the fault is `NoSuchTransaction`, and nothing is
-- written.
abbrev pub RunsSlip : Option DeskEntry → Option (List ℕ) → Option (List ℕ) → Result (Unit {0}) ToolFault → Type 0
RunsSlip None before after result = (result ≡ Err (Desk NoSuchTransaction)) × Appends before after []
RunsSlip (Some held) before after result = WritesText before after (slip_page held.side) result
