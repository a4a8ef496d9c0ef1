use Rattle.std.proofs.Common.{◌≡◌, ◌≤◌}
use Rattle.runs.specs.Readings.{tally_of}
use Rattle.panel.specs.Boards.{state_on, of_slots}
use Rattle.panel.proofs.board.tallying.Deliveries.tally.Given as goal

abbrev pub invariant-loop-number : goal.invariant-loop-number
invariant-loop-number g l =
    let values = g.V.ValueKind.values in
    ((l.counted, l.left_out) ≡ tally_of values (of_slots l.number) (state_on l.self.board.now l.self.row.now) l.self.node.node.0 l.account)
    × (l.counted ≤ l.number) × (l.left_out ≤ l.number)
