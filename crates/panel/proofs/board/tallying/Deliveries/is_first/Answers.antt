use Rattle.std.proofs.Common.{◌≤◌, ◌∙◌, not, length, take, ap, arith, rules, tests, length-take}
use Rattle.std.proofs.lemmas.Iterator.{YieldsList-from_slice}
use Rattle.std.proofs.lemmas.Iterator.Search.{all_from_yields_List}
use Rattle.broadcast.specs.Slots.{record_at}
use Rattle.runs.specs.Calls.{no_slot}
use Rattle.runs.specs.Readings.{meant_at, claims}
use Rattle.panel.proofs.Tallies.{all_lower}
use Rattle.panel.proofs.board.tallying.Deliveries.is_first.Goals as goal

pub returns : goal.returns
returns g c =
    let values = g.V.ValueKind.values in
    let d = c.args.self.now in
    let slots = d.board.now.slots in
    let n = c.args.slot.number in
    let unclaimed = λ (s : _). not (claims values (values.claim (values.meaning c.args.value.now)) (meant_at values d.row.now (record_at s d.node.node.0).delivered)) in
    let le : n ≤ length slots = omega (arith, ap length c.below.ensures.slots, c.below.ensures.count, length-take n slots) in
    all_from_yields_List unclaimed _ _ c.all.result c.all.ensures.ran (YieldsList-from_slice (take n slots) cc) (λ s b q k. search (rules, tests)) ∙ all_lower unclaimed slots no_slot n le
