use Rattle.std.proofs.Common.{◌≡◌, length, take}
use Rattle.trust.specs.NodeTrusts.{of_each}
use Rattle.trust.proofs.statement.Statement.of_lists.Given as goal

abbrev pub invariant-loop-k : goal.invariant-loop-k
invariant-loop-k l = (length l.trust ≡ 16) × (take l.k l.trust ≡ of_each (take l.k l.fails) (take l.k l.quorums))
