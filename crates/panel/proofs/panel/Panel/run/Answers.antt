use Rattle.std.proofs.Common.{arith}
use Rattle.runs.proofs.TableHolds.{all_hold, further_hold}
use Rattle.panel.proofs.Playing.{plays_turn, plays_all}
use Rattle.panel.proofs.Promising.{promised}
use Rattle.panel.proofs.panel.Panel.run.Goals as goal

pub loop-entry-preserved : goal.loop-entry-preserved
loop-entry-preserved g c =
    plays_turn g.V.ValueKind.values g.R.TrustRule.meaning c.args.self.now c.args.roll.now c.args.log.now c.loop-entry.log c.loop-entry.entry-index c.entry-item.result c.loop-entry.self c.make-entry.new.self c.loop-entry.roll c.make-entry.new.roll c.make-entry.result
    (omega arith) (omega arith) c.loop-entry.invariant.1 c.loop-entry.invariant.0 c.make-entry.ensures

pub returns : goal.returns
returns g c =
    let plays = plays_all g.V.ValueKind.values g.R.TrustRule.meaning c.args.self.now c.args.roll.now c.args.log.now c.loop-entry.log c.loop-entry.entry-index c.loop-entry.self c.loop-entry.roll (omega arith) (omega arith) c.loop-entry.invariant.0 in
    record {
      plays = plays;
      promise = promised g.V.ValueKind.values g.R.TrustRule.meaning c.args.self.now c.loop-entry.self c.args.roll.now c.loop-entry.roll c.args.log.now c.loop-entry.log plays;
      laws = all_hold g.V.ValueKind.values;
      further = further_hold g.V.ValueKind.values;
    }
