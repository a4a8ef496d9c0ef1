use Rattle.std.proofs.Common.{set, sym, ap, ◌∙◌, ap₂}
use Rattle.protocol.specs.Hearing.{hear}
use Rattle.broadcast.specs.Slots.{record_at}
use Rattle.broadcast.specs.Events.{hears}
use Rattle.runs.specs.Calls.{slot_at}
use Rattle.panel.specs.Views.{world_of}
use Rattle.panel.proofs.panel.Panel.bring.Goals as goal

pub returns-clause-hears : goal.returns-clause-hears
returns-clause-hears g c =
    let w = world_of g.R.TrustRule.meaning c.args.self.now in
    let b = c.args.self.now.board.slots in
    let s = c.args.slot.number in
    let r = c.args.route in
    let k = r.to.node.0 in
    ap (λ d. ((hear w.trust k d (record_at (slot_at b s) k) r.kind r.from.node.0 c.args.place).1, set b s (hears (record { trust = w.trust; faulty = w.faulty; sender = d }) r.kind r.from.node.0 k c.args.place (slot_at b s))))
    (sym c.sender-sender.ensures)
    ∙ ap₂ (λ x y. (x, y)) (sym c.hear.ensures.said) (sym (c.hear.ensures.slots w.faulty))
