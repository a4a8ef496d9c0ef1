use Rattle.std.proofs.Common.{◌≡◌}
use Rattle.sets.specs.Sets.{nodes_with}
use Rattle.protocol.specs.Hearing.{is, entry}
use Rattle.protocol.proofs.record.recorded_with.Given as goal

abbrev pub invariant-loop-k : goal.invariant-loop-k
invariant-loop-k l = l.nodes.0 ≡ nodes_with l.k (λ i. is l.place (entry l.entries i))
