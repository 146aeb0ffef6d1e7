-- Proves the law `laws::no_moment_is_left_out`. What holds throughout holds at each moment. So if `d` is the disk of a
-- moment, not each disk differs from `d`.
use Rattle.std.proofs.Common.{◌≡◌, refl}
use Rattle.ill_disk.proofs.Moments.{each_moment}
use Rattle.ill_disk.proofs.laws.no_moment_is_left_out.Goals as goal

pub returns : goal.returns
returns c old new d held moment = each_moment (λ e. e ≡ d → ⊥) old new d held moment refl
