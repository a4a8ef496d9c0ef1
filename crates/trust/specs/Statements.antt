-- What a statement says of each node, and the trust rule that it means. Assumes nothing.
use Rattle.std.specs.Prelude.{ℕ, List}
use Rattle.trust.specs.declared.statement.Statement.{Statement}
use Rattle.trust.specs.Trust.{Trust}
use Rattle.trust.specs.ByLists.{by_lists}
use Rattle.trust.specs.NodeTrusts.{trust_at}

-- the fail-prone sets of node i
abbrev pub fail_sets : Statement → ℕ → List ℕ
fail_sets x i = (trust_at x.trust i).fails

-- the quorums of node i
abbrev pub quorum_sets : Statement → ℕ → List ℕ
quorum_sets x i = (trust_at x.trust i).quorums

abbrev pub meant : Statement → Trust
meant x = by_lists x.nodes (fail_sets x) (quorum_sets x)
