-- Proves that the lines of a loan before its history do not depend on a diary.
use Rattle.std.proofs.Common.{◌≡◌, ℕ, List, [], ◌++◌, Option, sym, ap, append-nil}
use Rattle.ill_values.specs.declared.apdu.Apdu.{Apdu}
use Rattle.ill_saved.specs.Holdings.{DeskEntry}
use Rattle.ill_show.specs.declared.loan.LoanForm.TheVariants.{Lines}
use Rattle.ill_show.specs.LoanLines.{kept_lines}
use Rattle.ill_show.specs.Loan.{loan_text}
use Rattle.ill_beside.specs.Diary.{history_lines, history_of, messages_of}

-- The lines of a loan with a `diary` are those without one, followed by its history by the diary.
pub nothing_else : (words : Option (List ℕ)) (diary : List (List ℕ)) (held : DeskEntry) (kept : List Apdu)
    → loan_text Lines words diary held kept
    ≡ loan_text Lines words [] held kept ++ history_lines (history_of (messages_of held.side kept) diary)
unfolding history_of
nothing_else words diary held kept =
    ap (λ (text : List ℕ). text ++ history_lines (history_of (messages_of held.side kept) diary))
    (sym (append-nil (kept_lines words held kept)))
