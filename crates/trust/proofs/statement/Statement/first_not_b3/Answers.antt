use Rattle.std.proofs.Common.{sym, ◌∙◌, rules}
use borrow.Author.Tests.{tests}
use Rattle.trust.specs.NodeTrusts.{b3_with?}
use Rattle.trust.proofs.Meanings.{b3_pairs}
use Rattle.trust.proofs.statement.Statement.first_not_b3.Goals as goal

pub returns : goal.returns
returns c = c.first_pair.ensures (b3_with? c.args.self.now.nodes) (λ a b r h. search (rules, tests)) ∙ sym (b3_pairs c.args.self.now)
