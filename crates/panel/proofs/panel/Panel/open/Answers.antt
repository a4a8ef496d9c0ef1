use Rattle.std.proofs.Common.{◌≡◌, [], length, None, Option, sym, refl, subst, ap₂, rules}
use Rattle.trust.specs.declared.refusal.Refusal.{Refusal}
use Rattle.runs.specs.Calls.{World, State, opening, fresh}
use Rattle.runs.specs.Promise.{CameAbout}
use Rattle.runs.specs.Promise.CameAbout.{opened}
use Rattle.panel.proofs.panel.Panel.open.Goals as goal

pub returns : goal.returns
returns g c =
    let w : World = record { trust = g.R.TrustRule.meaning c.args.rule.now; slots = c.args.slots; faulty = c.args.faulty.0 } in
    let free : ◌≡◌ {A = Option Refusal} (opening w (length c.args.roll.now)) None = search rules in
    let none : ◌≡◌ {A = State g.row.V.Denot} (record { used = c.fresh.result.used; row = []; board = c.fresh.result.slots }) fresh =
    ap₂ (λ n b. record { used = n; row = []; board = b }) c.fresh.ensures.0 c.fresh.ensures.1 in
    (free, refl, refl, none, subst (λ x. CameAbout g.V.ValueKind.values w [] x) (sym none) (opened (length c.args.roll.now) (g.met.R.TrustRule.sized c.args.rule.now).1 free))
