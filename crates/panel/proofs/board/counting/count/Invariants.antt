use Rattle.std.proofs.Common.{◌≡◌, ℕ, ◌≤◌, Bool}
use Rattle.broadcast.specs.Counts.{count}
use Rattle.panel.specs.Broadcasts.{Tests}
use Rattle.panel.proofs.board.counting.count.Given as goal

abbrev pub invariant-loop-k : goal.invariant-loop-k
invariant-loop-k g l =
    ((p : ℕ → Bool) → Tests (goal.F-post g l.test) p → l.passed ≡ count l.k p)
    × (l.passed ≤ l.k)
