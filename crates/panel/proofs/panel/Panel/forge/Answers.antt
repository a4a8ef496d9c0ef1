use Rattle.std.proofs.Common.{sym, refl, ◌∙◌, ap₂}
use Rattle.runs.specs.Calls.{hears_in}
use Rattle.panel.specs.Views.{world_of}
use Rattle.panel.proofs.Forging.{ends_roll, ends_message, ends_party, ends_unfit, ends_ignored, ends_full, ends_heard}
use Rattle.panel.proofs.panel.Panel.forge.Goals as goal

pub returns-in_err-check_roll : goal.returns-in_err-check_roll
returns-in_err-check_roll g c =
    ends_roll g.V.ValueKind.values g.R.TrustRule.meaning c.args.self.now c.args.roll.now c.args.kind c.args.slot c.args.from c.args.to c.args.value _ _ c.in_err-check_roll.ensures.refused c.from_residual.ensures.1

pub returns-in_err-slot : goal.returns-in_err-slot
returns-in_err-slot g c =
    ends_message g.V.ValueKind.values g.R.TrustRule.meaning c.args.self.now c.args.roll.now c.args.kind c.args.slot c.args.from c.args.to c.args.value c.in_ok-check_roll.ensures.refused
    _ _ c.in_err-slot.ensures.refused c.from_residual-in_err-slot.ensures.1

pub returns-then-not-is_forgeable : goal.returns-then-not-is_forgeable
returns-then-not-is_forgeable g c =
    ends_party g.V.ValueKind.values g.R.TrustRule.meaning c.args.self.now c.args.roll.now c.args.kind c.args.slot c.args.from c.args.to c.args.value c.in_ok-check_roll.ensures.refused
    c.in_ok-slot.ensures.refused c.in_ok-slot.slot c.in_ok-slot.route c.in_ok-slot.ensures.same c.if-not-is_forgeable.ensures

pub returns-then-not-fit : goal.returns-then-not-fit
returns-then-not-fit g c =
    ends_unfit g.V.ValueKind.values g.R.TrustRule.meaning c.args.self.now c.args.roll.now c.args.kind c.args.slot c.args.from c.args.to c.args.value c.in_ok-check_roll.ensures.refused
    c.in_ok-slot.ensures.refused c.in_ok-slot.slot c.in_ok-slot.route c.in_ok-slot.ensures.same c.if-not-is_forgeable.ensures c.if-not-fit.ensures

pub returns-then-not-heeds : goal.returns-then-not-heeds
returns-then-not-heeds g c =
    ends_ignored g.V.ValueKind.values g.R.TrustRule.meaning c.args.self.now c.args.roll.now c.args.kind c.args.slot c.args.from c.args.to c.args.value c.in_ok-check_roll.ensures.refused
    c.in_ok-slot.ensures.refused c.in_ok-slot.slot c.in_ok-slot.route c.in_ok-slot.ensures.same c.if-not-is_forgeable.ensures c.if-not-fit.ensures c.if-not-heeds.ensures

pub returns-in_err-place : goal.returns-in_err-place
returns-in_err-place g c =
    ends_full g.V.ValueKind.values g.R.TrustRule.meaning c.args.self.now c.args.roll.now c.args.kind c.args.slot c.args.from c.args.to c.args.value c.in_ok-check_roll.ensures.refused
    c.in_ok-slot.ensures.refused c.in_ok-slot.slot c.in_ok-slot.route c.in_ok-slot.ensures.same c.if-not-is_forgeable.ensures c.if-not-fit.ensures c.if-not-heeds.ensures
    c.in_ok-check_roll.ensures.ok.0 c.find-known.result c.find-known.ensures _ _ refl
    c.in_err-place.ensures.err.0 c.in_err-place.ensures.slots c.in_err-place.ensures.err.1 _ _ c.in_err-place.ensures.full c.from_residual-in_err-place.ensures.1

pub returns : goal.returns
returns g c =
    ends_heard g.V.ValueKind.values g.R.TrustRule.meaning c.args.self.now c.args.roll.now c.args.kind c.args.slot c.args.from c.args.to c.args.value c.in_ok-check_roll.ensures.refused
    c.in_ok-slot.ensures.refused c.in_ok-slot.slot c.in_ok-slot.route c.in_ok-slot.ensures.same c.if-not-is_forgeable.ensures c.if-not-fit.ensures c.if-not-heeds.ensures
    c.in_ok-check_roll.ensures.ok.0 c.find-known.result c.find-known.ensures _ _ c.bring.ensures.same_world
    (c.bring.ensures.same_used ∙ c.in_ok-place.ensures.used) c.in_ok-place.ensures.roll c.in_ok-place.ensures.full _
    (ap₂ (λ b q. hears_in (world_of g.R.TrustRule.meaning c.args.self.now) b c.in_ok-slot.slot.number c.in_ok-slot.route.kind c.in_ok-slot.route.from.node.0 c.in_ok-slot.route.to.node.0 q)
    (sym c.in_ok-place.ensures.slots) (sym c.in_ok-place.ensures.place) ∙ c.bring.ensures.hears)
