use Rattle.std.proofs.Common.{◌≡◌, ℕ, ◌*◌, ◌≤◌, ◌&&◌, Bool}
use Rattle.broadcast.specs.Slots.{correct?}
use Rattle.broadcast.specs.Counts.{sum, count}
use Rattle.protocol.specs.declared.message.Kind.{Kind}
use Rattle.panel.specs.Broadcasts.{setting_of, TestsRoutes}
use Rattle.panel.proofs.board.parties.Broadcast.count_kind.Given as goal

abbrev pub invariant-loop-k : goal.invariant-loop-k
invariant-loop-k g l =
    let w = setting_of l.self in
    ((p : Kind → ℕ → ℕ → Bool) → TestsRoutes (goal.F-post g l.test) p
    → l.passed ≡ sum l.k (λ i. count l.self.parties.size (λ k. correct? w i && correct? w k && p l.kind i k)))
    × (l.passed ≤ 16 * l.k)
