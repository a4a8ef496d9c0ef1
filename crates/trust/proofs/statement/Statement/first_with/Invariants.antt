use Rattle.std.proofs.Common.{Bool}
use Rattle.std.specs.Prelude.{None}
use Rattle.trust.specs.declared.node_trust.NodeTrust.{NodeTrust}
use Rattle.trust.specs.Judging.{FirstNode}
use Rattle.trust.specs.NodeTrusts.{trust_at, AnswersAs}
use Rattle.trust.proofs.statement.Statement.first_with.Given as goal

abbrev pub invariant-loop-j : goal.invariant-loop-j
invariant-loop-j g l = (p : NodeTrust → NodeTrust → Bool) → AnswersAs g.F.Fn l.fn.passes p → FirstNode l.j (λ j. p l.ours (trust_at l.self.trust j)) None
