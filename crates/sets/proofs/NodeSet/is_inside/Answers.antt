use Rattle.std.proofs.Common.{refl, arith}
use Rattle.sets.proofs.Members.{inside_is}
use Rattle.sets.proofs.NodeSet.is_inside.Goals as goal

pub returns : goal.returns
returns c = record { value = refl; members = inside_is 16 c.args.self.0 c.args.other.0 (omega arith) }
