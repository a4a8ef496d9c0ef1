use Rattle.std.proofs.Common.{sym, ◌∙◌, rules}
use borrow.Author.Tests.{tests}
use Rattle.trust.specs.NodeTrusts.{consistent_with?}
use Rattle.trust.proofs.Meanings.{consistent_pairs}
use Rattle.trust.proofs.statement.Statement.first_inconsistent.Goals as goal

pub returns : goal.returns
returns c = c.first_pair.ensures (consistent_with?) (λ a b r h. search (rules, tests)) ∙ sym (consistent_pairs c.args.self.now)
