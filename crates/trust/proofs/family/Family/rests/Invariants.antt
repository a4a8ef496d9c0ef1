use Rattle.std.proofs.Common.{◌≡◌, min, map, take}
use Rattle.sets.specs.Sets.{rest}
use Rattle.trust.proofs.family.Family.rests.Given as goal

abbrev pub invariant-loop-mask : goal.invariant-loop-mask
invariant-loop-mask l = l.rests ≡ map (rest (min l.n 16)) (take l.mask-index l.self)
