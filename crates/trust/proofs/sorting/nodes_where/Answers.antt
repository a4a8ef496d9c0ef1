use Rattle.std.proofs.Common.{◌+◌, true, false, sym, refl, ap, ◌∙◌, arith}
use Rattle.sets.specs.Sets.{nodes_with}
use Rattle.sets.proofs.Members.{with_next}
use Rattle.sets.proofs.Sets.{one_more, nodes_with_lt}
use Rattle.trust.proofs.sorting.nodes_where.Goals as goal
use Rattle.trust.proofs.sorting.nodes_where.Goals.{then-passes, else-passes}

pub loop-k-init : goal.loop-k-init
unfolding nodes_with
loop-k-init g c = λ p acts. refl

pub loop-k-preserved : goal.loop-k-preserved
loop-k-preserved g c = λ p acts.
    let k = c.loop-k.k in
    let m = c.loop-k.nodes.0 in
    let so_far = c.loop-k.invariant p acts in
    let here = acts (k + 1) c.passes.result (record { met = c.passes.ensures }) in
    elim c.if-passes.branch [
      | then-passes w ↦
          one_more k m p true c.if-passes.nodes.0 so_far (sym w.if-passes.true ∙ here)
          (ap (λ (s : _). s.0) w.nodes-is ∙ w.with-nodes.ensures.value ∙ with_next m k (omega (arith, c.requires.few)) (omega (arith, nodes_with_lt k p, so_far)))
      | else-passes w ↦ one_more k m p false c.if-passes.nodes.0 so_far (sym w.if-passes.false ∙ here) (ap (λ (s : _). s.0) w.nodes-is ∙ omega arith)
    ]
