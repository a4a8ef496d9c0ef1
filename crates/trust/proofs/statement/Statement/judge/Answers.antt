use Rattle.std.proofs.Common.{sym, ◌∙◌, subst}
use Rattle.trust.specs.Trust.{consistent, available}
use Rattle.trust.specs.Judging.{b3, FirstNode, FirstPair}
use Rattle.trust.specs.Statements.{meant}
use Rattle.trust.proofs.Firsts.{node_says, pair_says}
use Rattle.trust.proofs.Judged.{sound_is}
use Rattle.trust.proofs.statement.Statement.judge.Goals as goal

pub returns : goal.returns
returns c =
    let x = c.args.self.now in
    let t = meant x in
    let n = x.nodes in
    let b3s = c.first_not_b3.ensures in
    let pairs = c.first_inconsistent.ensures in
    let nodes = c.first_unavailable.ensures in
    record {
      b3_is = b3s;
      consistency_is = pairs;
      availability_is = nodes;
      b3_says = subst (FirstPair n n (b3 t)) (sym b3s) (pair_says n n (b3 t));
      consistency_says = subst (FirstPair n n (consistent t)) (sym pairs) (pair_says n n (consistent t));
      availability_says = subst (FirstNode n (available t)) (sym nodes) (node_says n (available t));
      soundness = ((λ e. let (p, q) = (sound_is t).0 e in (pairs ∙ p, nodes ∙ q)), (λ (p, q). (sound_is t).1 (sym pairs ∙ p, sym nodes ∙ q)));
    }
