use Rattle.std.proofs.Common.{◌≡◌, ℕ, Bool}
use Rattle.sets.specs.Sets.{nodes_with}
use Rattle.trust.specs.Keeping.{NodesAnswerAs}
use Rattle.trust.proofs.sorting.nodes_where.Given as goal

abbrev pub invariant-loop-k : goal.invariant-loop-k
invariant-loop-k g l = (p : ℕ → Bool) → NodesAnswerAs g.F.Fn l.fn.passes p → l.nodes.0 ≡ nodes_with l.k p
