-- Sums over the nodes 1 to n. Assumes nothing.
use Rattle.std.proofs.Common.{◌≡◌, ℕ, zero, suc, ◌+◌, ◌*◌, ◌≤◌, sym, refl, ⊎_elim, mul-add, arith}
use Rattle.std.proofs.lemmas.Bool.{cases_eq}
use Rattle.broadcast.specs.Counts.{sum}

pub sum_same : (n : ℕ) (f g : ℕ → ℕ) → ((i : ℕ) → 1 ≤ i → i ≤ n → g i ≡ f i) → sum n g ≡ sum n f
unfolding sum
sum_same zero f g h = refl
sum_same (suc n) f g h = omega (arith, sum_same n f g (λ i low high. h i low (omega arith)), h (suc n) (omega arith) (omega arith))

pub sum_zero : (n : ℕ) (f : ℕ → ℕ) → ((i : ℕ) → 1 ≤ i → i ≤ n → f i ≡ 0) → sum n f ≡ 0
unfolding sum
sum_zero zero f h = refl
sum_zero (suc n) f h = omega (arith, sum_zero n f (λ i low high. h i low (omega arith)), h (suc n) (omega arith) (omega arith))

-- one place more by d
pub sum_more : (n k d : ℕ) (f g : ℕ → ℕ) → 1 ≤ k → k ≤ n → g k ≡ f k + d → ((i : ℕ) → 1 ≤ i → i ≤ n → (i ≡ k → ⊥) → g i ≡ f i) → sum n g ≡ sum n f + d
unfolding sum
sum_more zero k d f g low high here there = omega arith
sum_more (suc n) k d f g low high here there =
    ⊎_elim
    (λ e. let b : g (suc n) ≡ f (suc n) + d = rw (← e) here in
    omega (arith, sum_same n f g (λ i l h. there i l (omega arith) (λ same. omega arith))))
    (λ ne. omega (arith, sum_more n k d f g low (omega arith) here (λ i l h. there i l (omega arith)), there (suc n) (omega arith) (omega arith) (λ same. ne (sym same))))
    (cases_eq k (suc n))

pub sum_add : (n : ℕ) (f g : ℕ → ℕ) → sum n (λ i. f i + g i) ≡ sum n f + sum n g
unfolding sum
sum_add zero f g = refl
sum_add (suc n) f g = omega (arith, sum_add n f g)

pub sum_times : (n c : ℕ) (f : ℕ → ℕ) → sum n (λ i. c * f i) ≡ c * sum n f
unfolding sum
sum_times zero c f = omega arith
sum_times (suc n) c f = omega (arith, sum_times n c f, mul-add c (f (suc n)) (sum n f))

pub sum_le : (n : ℕ) (f g : ℕ → ℕ) → ((i : ℕ) → f i ≤ g i) → sum n f ≤ sum n g
unfolding sum
sum_le zero f g h = omega arith
sum_le (suc n) f g h = omega (arith, sum_le n f g h, h (suc n))

-- a sum that is 0 has no other part
pub sum_none : (n : ℕ) (f : ℕ → ℕ) → sum n f ≡ 0 → (j : ℕ) → 1 ≤ j → j ≤ n → f j ≡ 0
unfolding sum
sum_none zero f e j low high = omega arith
sum_none (suc n) f e j low high = ⊎_elim (λ h. rw h (omega arith)) (λ ne. sum_none n f (omega arith) j low (omega arith)) (cases_eq j (suc n))
