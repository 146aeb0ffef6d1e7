-- The bytes after a part of a text was appended to them.
use Rattle.std.specs.Prelude.{◌≡◌, ℕ, ◌<◌, List, ◌++◌, length}

-- `new` is `old` followed by a proper prefix of `text`, which may be empty.
pub record AddsPrefix (old new text : List ℕ) : Type 0 where
  pub prefix : List ℕ
  pub rest : List ℕ
  pub parts : text ≡ prefix ++ rest
  pub added : new ≡ old ++ prefix
  pub lacks : 0 < length rest
