use Rattle.std.proofs.Common.{ap, ◌∙◌}
use Rattle.sets.specs.Sets.{inside}
use Rattle.sets.specs.Lists.{any_of}
use Rattle.trust.specs.Guards.{then_guard, else_guard}
use Rattle.trust.proofs.Meanings.{quorum_is}
use Rattle.trust.proofs.statement.listed.StatementTrustRule.holds_quorum.Goals as goal

pub returns-then-in_range : goal.returns-then-in_range
returns-then-in_range c =
    c.has_inside.ensures ∙ ap (λ t. let s = t.quorums in any_of s (λ q. inside q c.args.set.0)) c.of.ensures ∙ then_guard _ _ _ _ c.in_range.ensures c.if-in_range.true (quorum_is c.args.self.now c.args.node.0 c.args.set.0)

pub returns-else-in_range : goal.returns-else-in_range
returns-else-in_range c = else_guard _ _ _ _ c.in_range.ensures c.if-in_range.false (quorum_is c.args.self.now c.args.node.0 c.args.set.0)
