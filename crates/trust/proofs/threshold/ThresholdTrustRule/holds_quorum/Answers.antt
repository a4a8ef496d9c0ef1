use Rattle.std.proofs.Common.{leb, ap, ◌∙◌}
use Rattle.trust.specs.Guards.{then_guard, else_guard}
use Rattle.trust.specs.ThresholdQuestions.{holds_quorum_is}
use Rattle.trust.proofs.threshold.ThresholdTrustRule.holds_quorum.Goals as goal

pub returns-then-in_range : goal.returns-then-in_range
returns-then-in_range c =
    let x = c.args.self.now in
    ap (leb x.q) c.count.ensures.value
    ∙ then_guard _ _ _ _ c.in_range.ensures c.if-in_range.true (holds_quorum_is x.n x.f x.q c.args.node.0 c.args.set.0)

pub returns-else-in_range : goal.returns-else-in_range
returns-else-in_range c =
    let x = c.args.self.now in
    else_guard _ _ _ _ c.in_range.ensures c.if-in_range.false (holds_quorum_is x.n x.f x.q c.args.node.0 c.args.set.0)
