use Rattle.std.proofs.Common.{◌≡◌, ℕ, zero, suc, ◌<◌, List, [], ◌∷◌, ◌++◌, length, take, get_or, length-set, Ok, Err, Some, None, refl, sym, ap, ◌∙◌, ap₂, subst, add-one, arith}
use Rattle.std.proofs.lemmas.List.{take_more_set, take_all}
use Rattle.trust.specs.declared.node_trust.NodeTrust.{NodeTrust}
use Rattle.trust.specs.Fitting.{unfit}
use Rattle.trust.specs.NodeTrusts.{of_each}
use Rattle.trust.proofs.statement.Statement.of_lists.Goals as goal

-- one node more
each_more : (fs qs : List (List ℕ)) (k : ℕ) (d e : List ℕ) → k < length fs → k < length qs
    → of_each (take (suc k) fs) (take (suc k) qs) ≡ of_each (take k fs) (take k qs) ++ (record { fails = get_or fs k d; quorums = get_or qs k e }) ∷ []
unfolding of_each
each_more [] qs k d e l m = absurd (omega arith)
each_more (f ∷ fs) [] k d e l m = absurd (omega arith)
each_more (f ∷ fs) (q ∷ qs) zero d e l m = refl
each_more (f ∷ fs) (q ∷ qs) (suc k) d e l m = ap (λ ts. record { fails = f; quorums = q } ∷ ts) (each_more fs qs k d e (omega arith) (omega arith))

pub loop-k-init : goal.loop-k-init
unfolding of_each
loop-k-init c = (refl, refl)

pub loop-k-preserved : goal.loop-k-preserved
loop-k-preserved c =
    let fs = c.args.fails in
    let qs = c.args.quorums in
    let k = c.loop-k.k in
    let d = c.index-fails-k.result in
    let e = c.index-quorums-k.result in
    let x : NodeTrust = record { fails = get_or fs k d; quorums = get_or qs k e } in (
      length-set c.loop-k.trust k x ∙ c.loop-k.invariant.0,
      take_more_set c.loop-k.trust k x (omega (arith, c.loop-k.invariant.0)) ∙ ap (λ ts. ts ++ x ∷ []) c.loop-k.invariant.1 ∙ sym (each_more fs qs k d e (omega arith) (omega arith)) ∙ ap (λ n. of_each (take n fs) (take n qs)) (sym (add-one k)),
    )

pub returns : goal.returns
returns c =
    let fs = c.args.fails in
    let qs = c.args.quorums in
    let whole : c.loop-k.k ≡ 16 = omega arith in
    let all : c.loop-k.trust ≡ of_each fs qs = sym (take_all c.loop-k.k c.loop-k.trust (omega (arith, c.loop-k.invariant.0))) ∙ c.loop-k.invariant.1 ∙ ap₂ of_each (take_all c.loop-k.k fs (omega arith)) (take_all c.loop-k.k qs (omega arith)) in
    subst (λ ts. elim c.new.result as (λ _. Type 0) [ Ok x ↦ (unfit c.args.nodes ts ≡ None) × (x.nodes ≡ c.args.nodes) × (x.trust ≡ ts) | Err e ↦ unfit c.args.nodes ts ≡ Some e ]) all c.new.ensures
