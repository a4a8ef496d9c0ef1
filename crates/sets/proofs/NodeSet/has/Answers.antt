use Rattle.std.proofs.Common.{◌≡◌, suc, ◌-◌, sym, ap, ◌∙◌, arith}
use Rattle.sets.specs.Sets.{has}
use Rattle.sets.proofs.Members.{has_out, node_bounds, test_is}
use Rattle.sets.proofs.NodeSet.has.Goals as goal

pub returns-then-is_among : goal.returns-then-is_among
returns-then-is_among c =
    let k = c.args.node.0 in
    let (low, high) = node_bounds 16 k (sym c.is_among.ensures ∙ c.if-is_among.true) in
    let e : suc (k - 1) ≡ k = omega arith in
    test_is c.args.self.0 (k - 1) (omega arith) ∙ ap (has c.args.self.0) e

pub returns-else-is_among : goal.returns-else-is_among
returns-else-is_among c = c.if-is_among.false ∙ sym (has_out c.args.self.0 c.args.node.0 (omega arith) (sym c.is_among.ensures ∙ c.if-is_among.false))
