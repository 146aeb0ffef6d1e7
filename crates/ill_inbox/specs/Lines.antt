-- The lines of a night: of its counts, its deeds and its messages (this profile's own).
use Rattle.std.specs.Prelude.{ℕ, List, ◌++◌, codes}
use Rattle.std.specs.Fmt.{decimal}
use Rattle.ill_values.specs.TxnId.{Qualifiers}
use Rattle.ill_core.specs.Verbs.{deed_verb, verb_name}
use Rattle.ill_saved.specs.Holdings.{Effects}
use Rattle.ill_text.specs.LongLines.{word}
use Rattle.ill_desk.specs.Telling.{done_line, once_saved, shown_at}
use Rattle.ill_inbox.specs.declared.due.Due.{Due}
use Rattle.ill_inbox.specs.declared.tally.Tally.{Tally}

-- ---- counts

-- Returns the text of the counts of done message files, whose files are removed.
unfoldable pub done_text : Tally → List ℕ
done_text tally =
    codes "taken " ++ decimal tally.taken ++ codes ", repeat " ++ decimal tally.repeat ++ codes ", stale "
    ++ decimal tally.stale ++ codes ", conflict " ++ decimal tally.conflict ++ codes ", unknown "
    ++ decimal tally.unknown

-- Returns the text of the counts of message files that are quarantined or wait. `waiting` message files had no room in
-- this run.
unfoldable pub staying_text : Tally → ℕ → List ℕ
staying_text tally waiting =
    codes ", aside " ++ decimal tally.quarantined ++ codes ", left " ++ decimal tally.left ++ codes ", waiting "
    ++ decimal waiting ++ codes "\n"

-- Returns the line of all counts.
abbrev pub tally_line : Tally → ℕ → List ℕ
tally_line tally waiting = done_text tally ++ staying_text tally waiting

-- ---- deeds and sent messages

-- Returns the line of a deed that was done. It has the transaction, the verb, and the state of the side once
-- all is saved.
abbrev pub deed_line : {L : Type 0} → Effects L Qualifiers → L → Due → List ℕ
deed_line effects live due =
    word due.txn.group ++ (word due.txn.transaction ++ (word (verb_name (deed_verb due.deed))
    ++ done_line (once_saved (shown_at effects due.txn live))))

-- Returns the line with the number of message files that left.
abbrev pub sent_line : ℕ → List ℕ
sent_line count = codes "sent " ++ decimal count ++ codes "\n"
