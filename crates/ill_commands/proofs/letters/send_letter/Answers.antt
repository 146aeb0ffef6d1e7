-- Answers the contract of `send_letter` (`src/letters.rt`).
use Rattle.std.proofs.Common.{inr}
use Rattle.ill_commands.proofs.letters.send_letter.Goals as goal

-- Proves that the letter has a message of the desk that was loaded at the place.
pub returns : goal.returns
returns g c =
    inr (
      c.in_ok-desk.desk,
      c.in_ok-desk.ensures.starts,
      _,
      (c.send_letter_of-sent.result, c.send_letter_of-sent.ensures, c.all_succeed.ensures),
    )
