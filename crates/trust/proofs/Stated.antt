-- The list of what a statement's nodes trust. Assumes nothing.
use Rattle.std.proofs.Common.{◌≡◌, ℕ, zero, suc, ◌<◌, ◌≤◌, Bool, true, false, ◌&&◌, List, length, get_or, take, refl, sym, ap, ◌∙◌, add-one, arith}
use Rattle.std.specs.List.{list_all}
use Rattle.std.proofs.lemmas.List.Folds.{list_all_more}
use Rattle.sets.specs.Sets.{all_below}
use Rattle.std.proofs.lemmas.List.{get_or-take, get_or_default}
use Rattle.trust.specs.declared.node_trust.NodeTrust.{NodeTrust}
use Rattle.trust.specs.NodeTrusts.{nothing, trust_at}

and_turned : (a b : Bool) → (a && b) ≡ (b && a)
and_turned true true = refl
and_turned true false = refl
and_turned false true = refl
and_turned false false = refl

-- the k-th of the first n is what node k + 1 trusts
pub stated_at : (n k : ℕ) (all ts : List NodeTrust) → ts ≡ take n all → k < n → trust_at all (suc k) ≡ get_or ts k nothing
stated_at n k all ts e l = sym (ap (λ l. get_or l k nothing) e ∙ get_or-take n all k nothing l)

pub item_is : (n k : ℕ) (all ts : List NodeTrust) (t : NodeTrust) → ts ≡ take n all → k < n → k < length ts → t ≡ get_or ts k t → trust_at all (suc k) ≡ t
item_is n k all ts t e l in_ts is = stated_at n k all ts e l ∙ sym (is ∙ get_or_default ts k t nothing in_ts)

-- a test of the first n places, place by place
pub stated_all : {X : Type 0} (p : X → Bool) (d : X) (n : ℕ) (ts : List X) → n ≤ length ts → list_all p (take n ts) ≡ all_below n (λ k. p (get_or ts k d))
unfolding all_below
stated_all p d zero ts le = refl
stated_all p d (suc n) ts le =
    ap (λ k. list_all p (take k ts)) (sym (add-one n)) ∙ list_all_more p ts n d (omega arith)
    ∙ and_turned (list_all p (take n ts)) (p (get_or ts n d)) ∙ ap (λ b. p (get_or ts n d) && b) (stated_all p d n ts (omega arith))
