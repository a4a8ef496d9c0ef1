use Rattle.std.proofs.Common.{◌-◌, ◌+◌, ◌∙◌, sym, ap, drop, replicate, length-set, arith}
use Rattle.std.proofs.lemmas.List.{drop-drop, drop-set-lt, drop-replicate}
use Rattle.trust.proofs.family.Family.push.Goals as goal

pub invariant_of-self : goal.invariant_of-self
invariant_of-self c =
    let m = c.self.inside.masks in
    let n = c.self.inside.count in (
      length-set m n c.args.set.0 ∙ c.self.told,
      omega arith,
      drop-set-lt (n + 1) m n c.args.set.0 (omega arith) ∙ sym (drop-drop 1 n m) ∙ ap (drop 1) c.self.invariant.2 ∙ drop-replicate 1 (16 - n) 0 ∙ ap (λ k. replicate k 0) (omega arith),
    )
