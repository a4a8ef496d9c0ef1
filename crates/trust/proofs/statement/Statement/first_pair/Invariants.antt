use Rattle.std.proofs.Common.{Bool}
use Rattle.std.specs.Prelude.{None}
use Rattle.trust.specs.declared.node_trust.NodeTrust.{NodeTrust}
use Rattle.trust.specs.Judging.{FirstPair}
use Rattle.trust.specs.NodeTrusts.{trust_at, AnswersAs}
use Rattle.trust.proofs.statement.Statement.first_pair.Given as goal

abbrev pub invariant-loop-i : goal.invariant-loop-i
invariant-loop-i g l =
    (p : NodeTrust → NodeTrust → Bool) → AnswersAs g.F.Fn l.fn.passes p
    → FirstPair l.i l.self.nodes (λ i j. p (trust_at l.self.trust i) (trust_at l.self.trust j)) None
