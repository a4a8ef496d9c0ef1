use Rattle.std.proofs.Common.{◌≡◌, Ok, ◌∙◌, not, ap}
use Rattle.trust.specs.declared.refusal.Refusal.TheVariants.{NoSuch}
use Rattle.runs.specs.Calls.{slot?}
use Rattle.runs.specs.Readings.{counted}
use Rattle.panel.specs.Views.{world_of}
use Rattle.panel.proofs.Refusing.{fails}
use Rattle.panel.proofs.Settings.{counts_same}
use Rattle.panel.proofs.panel.Panel.counts.Goals as goal

pub returns : goal.returns
returns g c =
    let w = world_of g.R.TrustRule.meaning c.args.self.now in
    let slots = c.args.self.now.board.slots in
    let at = c.in_ok-slot.slot.number in
    let in_slots = fails (not (slot? w c.args.slot)) NoSuch c.in_ok-slot.ensures.refused in
    let read : c.counts.result ≡ counted w slots c.args.slot =
    c.counts.ensures ∙ counts_same w slots at c.broadcast.result c.broadcast.ensures ∙ ap (counted w slots) c.in_ok-slot.ensures.same in
    rw in_slots (ap Ok read)
