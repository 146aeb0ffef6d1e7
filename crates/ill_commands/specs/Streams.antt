-- The input and the output of a command.
use Rattle.std.specs.Prelude.{ℕ, List, Option}

-- `unread` has the bytes that are left of the input, and `written` the bytes of the output. A stream whose bytes are
-- not known is `None`.
pub record Streams : Type 0 where
  pub unread : Option (List ℕ)
  pub written : Option (List ℕ)

-- Returns the streams with these bytes.
abbrev pub streams_of : (unread written : Option (List ℕ)) → Streams
streams_of unread written = record { unread = unread; written = written }
