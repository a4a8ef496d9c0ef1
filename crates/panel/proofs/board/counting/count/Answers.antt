use Rattle.std.proofs.Common.{◌∙◌, arith}
use Rattle.panel.proofs.Nodes.{sum_none, count_passed, count_failed}
use Rattle.panel.proofs.board.counting.count.Goals as goal
use Rattle.panel.proofs.board.counting.count.Goals.{then-test, else-test}

pub loop-k-init : goal.loop-k-init
loop-k-init g c = (λ p _. sum_none _, omega arith)

pub loop-k-preserved : goal.loop-k-preserved
loop-k-preserved g c =
    elim c.if-test.branch [
      | then-test w ↦
          (λ p h. w.passed-is ∙ count_passed p c.loop-k.passed c.loop-k.k (c.loop-k.invariant.0 p h) c.test.result (h _ _ c.test.ensures) w.if-test.true, omega (arith, w.passed-is))
      | else-test w ↦
          (λ p h. w.passed-is ∙ count_failed p c.loop-k.passed c.loop-k.k (c.loop-k.invariant.0 p h) c.test.result (h _ _ c.test.ensures) w.if-test.false, omega (arith, w.passed-is))
    ]
