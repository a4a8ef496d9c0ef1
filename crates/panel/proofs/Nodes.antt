-- A loop over the nodes 1 to n that sums or counts.
use Rattle.std.proofs.Common.{◌≡◌, ℕ, ◌+◌, ◌≤◌, Bool, true, false, sym, refl, ap, ◌∙◌, add-one, arith}
use Rattle.broadcast.specs.Counts.{one, sum, count}

-- before node 1
pub sum_none : (f : ℕ → ℕ) → 0 ≡ sum 0 f
unfolding sum
sum_none f = refl

-- one node more
pub sum_more : (f : ℕ → ℕ) (n k d : ℕ) → n ≡ sum k f → d ≡ f (k + 1) → n + d ≡ sum (k + 1) f
unfolding sum
sum_more f n k d so_far is = let e = rw add-one at is in rw add-one (omega arith)

-- one node more that passes, or that does not
module _ (p : ℕ → Bool) (n k : ℕ) (so_far : n ≡ count k p) (b : Bool) (test : b ≡ p (k + 1)) where
  adds : n + one b ≡ count (k + 1) p
  adds = sum_more (λ i. one (p i)) n k (one b) so_far (ap one test)

  pub count_passed : b ≡ true → n + 1 ≡ count (k + 1) p
  count_passed t = ap (λ t. n + one t) (sym t) ∙ adds

  pub count_failed : b ≡ false → n ≡ count (k + 1) p
  count_failed t = let e = ap (λ t. n + one t) (sym t) ∙ adds in omega arith

-- after node n
pub at_end : (f : ℕ → ℕ) {m n k : ℕ} → m ≡ sum k f → k ≤ n → n ≤ k → m ≡ sum n f
at_end f {m} {n} {k} so_far le ge = let e : n ≡ k = omega arith in rw e so_far
