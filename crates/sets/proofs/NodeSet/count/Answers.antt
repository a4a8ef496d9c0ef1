use Rattle.std.proofs.Common.{refl, arith}
use Rattle.sets.proofs.Counts.{ones_members}
use Rattle.sets.proofs.NodeSet.count.Goals as goal

pub returns : goal.returns
returns c = record { value = refl; members = ones_members 16 c.args.self.0 (omega arith) }
