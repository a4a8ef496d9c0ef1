use Rattle.std.proofs.Common.{refl}
use Rattle.sets.proofs.Sets.{has_and}
use Rattle.sets.proofs.NodeSet.common.Goals as goal

pub returns : goal.returns
returns c = record { value = refl; members = has_and c.args.self.0 c.args.other.0 }
