use Rattle.std.proofs.Common.{refl, arith}
use Rattle.sets.proofs.Members.{meets_is}
use Rattle.sets.proofs.NodeSet.meets.Goals as goal

pub returns : goal.returns
returns c = record { value = refl; members = meets_is 16 c.args.self.0 c.args.other.0 (omega arith) }
