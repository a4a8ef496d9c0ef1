use Rattle.std.proofs.Common.{◌-◌, ◌^◌, ltb, ap, sym, ◌∙◌, arith}
use Rattle.std.proofs.lemmas.Bool.{and_parts, ltb-true}
use Rattle.sets.specs.Sets.{node?, set?}
use Rattle.sets.proofs.Counts.{ones_rest}
use Rattle.trust.specs.Guards.{then_guard, else_guard}
use Rattle.trust.specs.ThresholdQuestions.{holds_kernel_is}
use Rattle.trust.proofs.threshold.ThresholdTrustRule.holds_kernel.Goals as goal

-- a set within the nodes has no more members than there are nodes
pub overflow_sub-result : goal.overflow_sub-result
overflow_sub-result c =
    let x = c.args.self.now in
    let both = and_parts (node? x.n c.args.node.0) (set? x.n c.args.set.0) (sym c.in_range.ensures ∙ c.if-in_range.true) in
    omega (arith, ones_rest x.n c.args.set.0 (ltb-true c.args.set.0 (2 ^ x.n) both.1), c.count.ensures.value)

pub returns-then-in_range : goal.returns-then-in_range
returns-then-in_range c =
    let x = c.args.self.now in
    ap (λ k. ltb (x.n - k) x.q) c.count.ensures.value
    ∙ then_guard _ _ _ _ c.in_range.ensures c.if-in_range.true (holds_kernel_is x.n x.f x.q c.args.node.0 c.args.set.0)

pub returns-else-in_range : goal.returns-else-in_range
returns-else-in_range c =
    let x = c.args.self.now in
    else_guard _ _ _ _ c.in_range.ensures c.if-in_range.false (holds_kernel_is x.n x.f x.q c.args.node.0 c.args.set.0)
