use Rattle.std.proofs.Common.{min, ap, ◌∙◌, arith}
use Rattle.sets.specs.Sets.{has, rest}
use Rattle.sets.proofs.Rests.{code_rest, in_rest}
use Rattle.sets.proofs.NodeSet.rest_within.Goals as goal

pub returns : goal.returns
returns c =
    let a = c.args.self.0 in
    let m = min c.args.n 16 in
    let v = code_rest c.min.result a (omega arith) ∙ ap (λ n. rest n a) c.min.ensures in
    record { value = v; members = λ k. ap (λ x. has x k) v ∙ in_rest m a k }
