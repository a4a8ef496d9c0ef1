use Rattle.std.proofs.Common.{sym, ap, ◌∙◌, refl, arith}
use Rattle.std.specs.Prelude.{Some, None}
use Rattle.trust.specs.NodeTrusts.{trust_at}
use Rattle.trust.proofs.Firsts.{only_node, next_node, passed_node}
use Rattle.trust.proofs.Stated.{item_is}
use Rattle.trust.proofs.statement.Statement.first_with.Goals as goal

pub returns-then-not-passes : goal.returns-then-not-passes
returns-then-not-passes g c = λ p acts.
    let x = c.args.self.now in
    let j = c.loop-j.j in
    let there = item_is x.nodes j x.trust c.stated-theirs-items.result.now c.theirs-item.result c.stated-theirs-items.ensures.list (omega arith) c.loop-j-test.true c.theirs-item.is in
    let says = acts c.args.ours.now c.theirs-item.result c.passes.result (record { first = c.args.ours; second = _; shows = (refl, refl); says = record { met = c.passes.ensures } }) in
    ap (λ k. Some (record { 0 = k })) c.node_at.ensures ∙ next_node x.nodes (λ j. p c.args.ours.now (trust_at x.trust j)) j (omega arith) (c.loop-j.invariant p acts) (ap (p c.args.ours.now) there ∙ sym says ∙ c.if-not-passes.true)

pub loop-j-preserved : goal.loop-j-preserved
loop-j-preserved g c = λ p acts.
    let x = c.args.self.now in
    let j = c.loop-j.j in
    let there = item_is x.nodes j x.trust c.stated-theirs-items.result.now c.theirs-item.result c.stated-theirs-items.ensures.list (omega arith) c.loop-j-test.true c.theirs-item.is in
    let says = acts c.args.ours.now c.theirs-item.result c.passes.result (record { first = c.args.ours; second = _; shows = (refl, refl); says = record { met = c.passes.ensures } }) in
    passed_node (λ j. p c.args.ours.now (trust_at x.trust j)) j (c.loop-j.invariant p acts) (ap (p c.args.ours.now) there ∙ sym says ∙ c.if-not-passes.false)

pub returns : goal.returns
returns g c = λ p acts.
    let x = c.args.self.now in
    only_node x.nodes (λ j. p c.args.ours.now (trust_at x.trust j)) None (λ k low high. c.loop-j.invariant p acts k low (omega arith))
