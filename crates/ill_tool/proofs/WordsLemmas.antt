-- Proves that an optional argument of a request is there if and only if its text is. The commands `outbox` need it.
use Rattle.std.proofs.Common.{◌≡◌, Option, Some, None, refl}
use Rattle.std.specs.Prelude.{is_some, option_map}

-- An option and its image under `text` are both `Some` or both `None`.
pub is_some_mapped : {X Y : Type 0} (text : X → Y) (folder : Option X) → is_some folder ≡ is_some (option_map text folder)
is_some_mapped text (Some folder) = refl
is_some_mapped text None = refl
