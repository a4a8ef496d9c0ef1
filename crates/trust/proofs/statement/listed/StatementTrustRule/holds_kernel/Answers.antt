use Rattle.std.proofs.Common.{ap, ◌∙◌}
use Rattle.sets.specs.Sets.{meets}
use Rattle.sets.specs.Lists.{all_of}
use Rattle.trust.specs.Guards.{then_guard, else_guard}
use Rattle.trust.proofs.Meanings.{kernel_is}
use Rattle.trust.proofs.statement.listed.StatementTrustRule.holds_kernel.Goals as goal

pub returns-then-in_range : goal.returns-then-in_range
returns-then-in_range c =
    c.all_meet.ensures ∙ ap (λ t. let s = t.quorums in all_of s (λ q. meets q c.args.set.0)) c.of.ensures ∙ then_guard _ _ _ _ c.in_range.ensures c.if-in_range.true (kernel_is c.args.self.now c.args.node.0 c.args.set.0)

pub returns-else-in_range : goal.returns-else-in_range
returns-else-in_range c = else_guard _ _ _ _ c.in_range.ensures c.if-in_range.false (kernel_is c.args.self.now c.args.node.0 c.args.set.0)
