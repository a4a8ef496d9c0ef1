use Rattle.std.proofs.Common.{refl, ◌∙◌, ap₂}
use Rattle.runs.specs.Calls.{with_proposal}
use Rattle.panel.proofs.Proposing.{ends_roll, ends_slot, ends_sender, ends_unfit, ends_other, ends_again, ends_full, ends_proposed}
use Rattle.panel.proofs.panel.Panel.propose.Goals as goal

pub returns-in_err-check_roll : goal.returns-in_err-check_roll
returns-in_err-check_roll g c =
    ends_roll g.V.ValueKind.values g.R.TrustRule.meaning c.args.self.now c.args.roll.now c.args.slot c.args.value _ _ c.in_err-check_roll.ensures.refused c.from_residual.ensures.1

pub returns-in_err-slot : goal.returns-in_err-slot
returns-in_err-slot g c =
    ends_slot g.V.ValueKind.values g.R.TrustRule.meaning c.args.self.now c.args.roll.now c.args.slot c.args.value c.in_ok-check_roll.ensures.refused
    _ _ c.in_err-slot.ensures.refused c.from_residual-in_err-slot.ensures.1

pub returns-then-not-has_correct_sender : goal.returns-then-not-has_correct_sender
returns-then-not-has_correct_sender g c =
    ends_sender g.V.ValueKind.values g.R.TrustRule.meaning c.args.self.now c.args.roll.now c.args.slot c.args.value c.in_ok-check_roll.ensures.refused
    c.in_ok-slot.ensures.refused _ c.in_ok-slot.ensures.same c.if-not-has_correct_sender.ensures

pub returns-then-not-fit : goal.returns-then-not-fit
returns-then-not-fit g c =
    ends_unfit g.V.ValueKind.values g.R.TrustRule.meaning c.args.self.now c.args.roll.now c.args.slot c.args.value c.in_ok-check_roll.ensures.refused
    c.in_ok-slot.ensures.refused _ c.in_ok-slot.ensures.same c.if-not-has_correct_sender.ensures c.if-not-fit.ensures

pub returns-then-eq : goal.returns-then-eq
returns-then-eq g c =
    ends_again g.V.ValueKind.values g.R.TrustRule.meaning c.args.self.now c.args.roll.now c.args.slot c.args.value c.in_ok-check_roll.ensures.refused
    c.in_ok-slot.ensures.refused _ c.in_ok-slot.ensures.same c.if-not-has_correct_sender.ensures c.if-not-fit.ensures c.in_ok-check_roll.ensures.ok.0
    c.find-known.result c.find-known.ensures c.slot-2.result.now c.slot-2.ensures c.in-Some.place c.in-Some.is c.if-eq.ensures

pub returns-else-eq : goal.returns-else-eq
returns-else-eq g c =
    ends_other g.V.ValueKind.values g.R.TrustRule.meaning c.args.self.now c.args.roll.now c.args.slot c.args.value c.in_ok-check_roll.ensures.refused
    c.in_ok-slot.ensures.refused _ c.in_ok-slot.ensures.same c.if-not-has_correct_sender.ensures c.if-not-fit.ensures c.in_ok-check_roll.ensures.ok.0
    c.find-known.result c.find-known.ensures c.slot-2.result.now c.slot-2.ensures c.in-Some.place c.in-Some.is c.if-eq.ensures

pub returns-in_err-place : goal.returns-in_err-place
returns-in_err-place g c =
    ends_full g.V.ValueKind.values g.R.TrustRule.meaning c.args.self.now c.args.roll.now c.args.slot c.args.value c.in_ok-check_roll.ensures.refused
    c.in_ok-slot.ensures.refused _ c.in_ok-slot.ensures.same c.if-not-has_correct_sender.ensures c.if-not-fit.ensures c.in_ok-check_roll.ensures.ok.0
    c.find-known.result c.find-known.ensures c.slot-2.result.now c.slot-2.ensures c.in_default.is _ _ refl
    c.in_err-place.ensures.err.0 c.in_err-place.ensures.slots c.in_err-place.ensures.err.1 _ _ c.in_err-place.ensures.full c.from_residual-in_err-place.ensures.1

pub returns : goal.returns
returns g c =
    ends_proposed g.V.ValueKind.values g.R.TrustRule.meaning c.args.self.now c.args.roll.now c.args.slot c.args.value c.in_ok-check_roll.ensures.refused
    c.in_ok-slot.ensures.refused _ c.in_ok-slot.ensures.same c.if-not-has_correct_sender.ensures c.if-not-fit.ensures c.in_ok-check_roll.ensures.ok.0
    c.find-known.result c.find-known.ensures c.slot-2.result.now c.slot-2.ensures c.in_default.is _ _ refl
    (c.set_proposal.ensures.used ∙ c.in_ok-place.ensures.used)
    (c.set_proposal.ensures.slots ∙ ap₂ (λ b k. with_proposal b c.in_ok-slot.slot.number k) c.in_ok-place.ensures.slots c.in_ok-place.ensures.place)
    c.in_ok-place.ensures.roll c.in_ok-place.ensures.full
