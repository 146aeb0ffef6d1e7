-- States the loop invariant of `past_of` (`src/came_since.rt`).
use Rattle.std.proofs.Common.{◌≡◌, ◌+◌, length}
use Rattle.std.specs.Prelude.{not}
use Rattle.std.specs.List.{suffix_len}
use Rattle.ill_news.specs.CameSince.{came_before}
use Rattle.ill_news.proofs.came_since.past_of.Given as goal

-- No message after `rest` came before the day.
abbrev pub invariant-loop-last : goal.invariant-loop-last
invariant-loop-last l = record {
  later : length l.rest + suffix_len (λ a. not (came_before l.day l.diary a)) l.apdus
      ≡ length l.apdus + suffix_len (λ a. not (came_before l.day l.diary a)) l.rest;
}

-- Returns the number of messages that were not looked at yet.
abbrev pub decreases-loop-last : goal.decreases-loop-last
decreases-loop-last l = length l.rest
