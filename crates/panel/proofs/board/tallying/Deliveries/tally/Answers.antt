use Rattle.std.proofs.Common.{◌≡◌, ap, ◌∙◌, arith}
use Rattle.broadcast.specs.Slots.{record_at}
use Rattle.runs.specs.Readings.{meant_at, held, of_account}
use Rattle.panel.specs.Boards.{state_on}
use Rattle.panel.proofs.Tallies.{tally_none, tally_other, tally_counted, tally_left_out}
use Rattle.panel.proofs.board.tallying.Deliveries.tally.Goals as goal
use Rattle.panel.proofs.board.tallying.Deliveries.tally.Goals.{then-is_of+then-is_counted, then-is_of+else-is_counted, else-is_of}

pub loop-number-init : goal.loop-number-init
loop-number-init g c =
    (tally_none g.V.ValueKind.values (state_on c.args.self.now.board.now c.args.self.now.row.now) c.args.self.now.node.node.0 c.args.account, omega arith, omega arith)

pub loop-number-preserved : goal.loop-number-preserved
loop-number-preserved g c =
    let values = g.V.ValueKind.values in
    let x = state_on c.args.self.now.board.now c.args.self.now.row.now in
    let i = c.loop-number.number in
    let m = c.loop-number.counted in
    let n = c.loop-number.left_out in
    let k = c.if-is_of.counted in
    let l = c.if-is_of.left_out in
    let of : c.is_of.result ≡ of_account values c.args.account (held values x c.args.self.now.node.node.0 i) =
    c.is_of.ensures ∙ ap (λ s. of_account values c.args.account (meant_at values x.row (record_at s c.args.self.now.node.node.0).delivered)) c.slot.ensures in
    elim c.if-is_of.branch [
      | then-is_of+then-is_counted w ↦ (
        tally_counted values x c.args.self.now.node.node.0 c.args.account i m n k l c.loop-number.invariant.0 c.is_of.result of w.is_counted.result w.is_counted.ensures w.if-is_of.true w.if-is_counted.true w.counted-is w.left_out-is,
        omega (arith, w.counted-is),
        omega (arith, w.left_out-is),
      )
      | then-is_of+else-is_counted w ↦ (
        tally_left_out values x c.args.self.now.node.node.0 c.args.account i m n k l c.loop-number.invariant.0 c.is_of.result of w.is_counted.result w.is_counted.ensures w.if-is_of.true w.if-is_counted.false w.counted-is w.left_out-is,
        omega (arith, w.counted-is),
        omega (arith, w.left_out-is),
      )
      | else-is_of w ↦ (
        tally_other values x c.args.self.now.node.node.0 c.args.account i m n k l c.loop-number.invariant.0 c.is_of.result of w.if-is_of.false w.counted-is w.left_out-is,
        omega (arith, w.counted-is),
        omega (arith, w.left_out-is),
      )
    ]
