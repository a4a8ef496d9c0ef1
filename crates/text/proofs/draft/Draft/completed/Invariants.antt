use Rattle.std.proofs.Common.{◌≡◌, ◌++◌, map, take, drop}
use Rattle.text.specs.Drafts.{complete}
use Rattle.text.proofs.draft.Draft.completed.Given as goal

abbrev pub invariant-loop-node : goal.invariant-loop-node
invariant-loop-node l =
    l.node-items ≡ map (complete l.nodes) (take l.node-index l.fn.self.trust) ++ drop l.node-index l.fn.self.trust
