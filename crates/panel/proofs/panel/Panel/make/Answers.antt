use Rattle.std.proofs.Common.{sym, subst}
use Rattle.runs.specs.declared.call.Call.{Call}
use Rattle.panel.specs.Views.{Does}
use Rattle.panel.proofs.Answering.{hands_do}
use Rattle.panel.proofs.panel.Panel.make.Goals as goal

pub returns-in-Hand : goal.returns-in-Hand
returns-in-Hand g c =
    let p = c.args.self.now in
    let roll = c.args.roll.now in
    subst (λ (x : Call g.row.V.Denot). Does g.V.ValueKind.values g.R.TrustRule.meaning p roll x c.hand.result c.hand.new.self roll) (sym c.in-Hand.is)
    (hands_do g.V.ValueKind.values g.R.TrustRule.meaning p c.hand.new.self roll c.in-Hand.kind c.in-Hand.slot c.in-Hand.from c.in-Hand.to c.hand.result c.hand.ensures)
