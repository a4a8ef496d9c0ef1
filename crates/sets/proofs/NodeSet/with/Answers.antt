use Rattle.std.proofs.Common.{◌-◌, ◌^◌, cond, sym, ap, ◌∙◌, arith}
use lib.Bits.{bit_or}
use Rattle.std.proofs.lemmas.Nat.{one_shl}
use Rattle.sets.specs.Sets.{has}
use Rattle.sets.proofs.Members.{has_with, node_bounds}
use Rattle.sets.proofs.NodeSet.with.Goals as goal

pub returns : goal.returns
returns c =
    let s = c.args.self.0 in
    let k = c.args.node.0 in
    let e = sym c.is_among.ensures ∙ c.if-not-is_among.false in
    let (low, high) = node_bounds 16 k e in
    let v = ap (bit_or s) (one_shl (k - 1) 16 (omega arith)) ∙ ap (λ b. cond b (bit_or s (2 ^ (k - 1))) s) (sym e) in
    record { value = v; members = λ j. ap (λ x. has x j) v ∙ has_with s k j }
