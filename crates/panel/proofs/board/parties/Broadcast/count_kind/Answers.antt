use Rattle.std.proofs.Common.{◌+◌, ◌&&◌, arith, rules}
use Rattle.broadcast.specs.Slots.{correct?}
use Rattle.broadcast.specs.Counts.{count}
use Rattle.panel.specs.Broadcasts.{setting_of}
use Rattle.panel.proofs.Nodes.{sum_none, sum_more, at_end}
use Rattle.panel.proofs.board.parties.Broadcast.count_kind.Goals as goal

pub loop-k-init : goal.loop-k-init
loop-k-init g c = (λ p _. sum_none _, omega arith)

pub loop-k-preserved : goal.loop-k-preserved
loop-k-preserved g c =
    let b = c.args.self.now in
    let w = setting_of b in (
      λ p h.
          sum_more (λ i. count b.parties.size (λ k. correct? w i && correct? w k && p c.args.kind i k)) c.loop-k.passed c.loop-k.k c.count-passed.result
          (c.loop-k.invariant.0 p h) (c.count-passed.ensures.value (λ k. correct? w (c.loop-k.k + 1) && correct? w k && p c.args.kind (c.loop-k.k + 1) k) (λ m b e. search rules)),
      omega arith,
    )

pub returns-clause-value : goal.returns-clause-value
returns-clause-value g c p h = at_end _ (c.loop-k.invariant.0 p h) c.loop-k.auto.k-end c.loop-k-test.false
