use Rattle.std.proofs.Common.{◌&&◌, sym, refl, ap, ap₂, ◌∙◌}
use Rattle.std.specs.Prelude.{is_none}
use Rattle.trust.specs.Judging.{first_pair}
use Rattle.trust.specs.Statements.{meant}
use Rattle.trust.specs.Trust.{consistent}
use Rattle.trust.proofs.Judged.{none_by, sound_by}
use Rattle.trust.proofs.statement.listed.StatementTrustRule.sound.Goals as goal

pub returns-then-is_none : goal.returns-then-is_none
returns-then-is_none c =
    let v = none_by c.first_unavailable.result c.is_none.result c.is_none.ensures in
    let w = none_by c.first_inconsistent.result c.is_none-then-is_none.result c.is_none-then-is_none.ensures in
    ap (λ b. b && c.is_none-then-is_none.result) (sym c.if-is_none.true) ∙ ap₂ (λ a b. a && b) v w
    ∙ sound_by (meant c.args.self.now) c.first_unavailable.result c.first_inconsistent.result c.first_unavailable.ensures c.first_inconsistent.ensures

pub returns-else-is_none : goal.returns-else-is_none
returns-else-is_none c =
    let x = c.args.self.now in
    let pairs = first_pair x.nodes x.nodes (consistent (meant x)) in
    let v = none_by c.first_unavailable.result c.is_none.result c.is_none.ensures in
    c.if-is_none.false ∙ ap (λ b. b && is_none pairs) (sym c.if-is_none.false ∙ v) ∙ sound_by (meant x) c.first_unavailable.result pairs c.first_unavailable.ensures refl
