use Rattle.std.proofs.Common.{refl, ap, ◌∙◌}
use Rattle.sets.specs.Sets.{nodes_with}
use Rattle.protocol.proofs.Recording.{added, passed}
use Rattle.protocol.proofs.record.recorded_with.Goals as goal
use Rattle.protocol.proofs.record.recorded_with.Goals.{then-is_place, else-is_place}

pub loop-k-init : goal.loop-k-init
unfolding nodes_with
loop-k-init c = refl

pub loop-k-preserved : goal.loop-k-preserved
loop-k-preserved c =
    let xs = c.args.entries.now in
    let k = c.loop-k.k in
    let m = c.loop-k.nodes.0 in
    elim c.if-is_place.branch [
      | then-is_place w ↦ added xs c.args.place k m _ c.loop-k-test.true c.loop-k.invariant w.if-is_place.ensures (ap (λ s. s.0) w.nodes-is ∙ w.with-nodes.ensures.value)
      | else-is_place w ↦ passed xs c.args.place k m _ c.loop-k-test.true c.loop-k.invariant w.if-is_place.ensures (ap (λ s. s.0) w.nodes-is)
    ]
