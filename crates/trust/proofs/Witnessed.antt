-- The witnesses, by computation. Assumes nothing.
use Rattle.std.proofs.Common.{refl}
use Rattle.sets.specs.Sets.{any_below, all_below}
use Rattle.trust.specs.Trust.{consistent, available, sound}
use Rattle.trust.specs.Witness.{Witnesses}

pub witnessed : Witnesses
unfolding sound available consistent any_below all_below
witnessed = record { three_sound = refl; two_unsound = refl; none_unsound = refl }
