use Rattle.std.proofs.Common.{refl}
use Rattle.sets.proofs.Sets.{has_or}
use Rattle.sets.proofs.NodeSet.union.Goals as goal

pub returns : goal.returns
returns c = record { value = refl; members = has_or c.args.self.0 c.args.other.0 }
