use Rattle.std.proofs.Common.{suc, sym, ap, ◌∙◌, subst, arith}
use Rattle.std.specs.Prelude.{Some, None}
use Rattle.trust.specs.NodeTrusts.{trust_at}
use Rattle.trust.specs.Judging.{FirstNode, first_node}
use Rattle.trust.proofs.Firsts.{node_says, only_pair, next_row, passed_row}
use Rattle.trust.proofs.Stated.{item_is}
use Rattle.trust.proofs.statement.Statement.first_pair.Goals as goal

pub returns-in-Some : goal.returns-in-Some
returns-in-Some g c = λ p acts.
    let x = c.args.self.now in
    let i = c.loop-i.i in
    let here = item_is x.nodes i x.trust c.stated-ours-items.result.now c.ours-item.result c.stated-ours-items.ensures.list (omega arith) c.loop-i-test.true c.ours-item.is in
    let row = ap (λ t. first_node x.nodes (λ j. p t (trust_at x.trust j))) here ∙ sym (c.first_with.ensures p acts) ∙ c.in-Some.is in
    ap (λ k. Some (record { 0 = k }, c.in-Some.node)) c.node_at.ensures
    ∙ next_row x.nodes x.nodes (λ i j. p (trust_at x.trust i) (trust_at x.trust j)) i c.in-Some.node (omega arith) (c.loop-i.invariant p acts)
    (subst (FirstNode x.nodes (λ j. p (trust_at x.trust (suc i)) (trust_at x.trust j))) row (node_says x.nodes _))

pub loop-i-preserved : goal.loop-i-preserved
loop-i-preserved g c = λ p acts.
    let x = c.args.self.now in
    let i = c.loop-i.i in
    let here = item_is x.nodes i x.trust c.stated-ours-items.result.now c.ours-item.result c.stated-ours-items.ensures.list (omega arith) c.loop-i-test.true c.ours-item.is in
    let row = ap (λ t. first_node x.nodes (λ j. p t (trust_at x.trust j))) here ∙ sym (c.first_with.ensures p acts) ∙ c.in_default.is in
    passed_row x.nodes (λ i j. p (trust_at x.trust i) (trust_at x.trust j)) i (c.loop-i.invariant p acts)
    (subst (FirstNode x.nodes (λ j. p (trust_at x.trust (suc i)) (trust_at x.trust j))) row (node_says x.nodes _))

pub returns : goal.returns
returns g c = λ p acts.
    let x = c.args.self.now in
    only_pair x.nodes x.nodes (λ i j. p (trust_at x.trust i) (trust_at x.trust j)) None (λ a b la ha lb hb. c.loop-i.invariant p acts a b la (omega arith) lb hb)
