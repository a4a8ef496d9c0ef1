-- Tests, searches over numbers, and the ends of loops over numbers. Assumes nothing.
use Rattle.std.proofs.Common.{◌≡◌, ℕ, ◌<◌, ◌≤◌, Bool, true, false, not, ◌||◌, Decides, sym, refl, ⊎_elim, arith}
use Rattle.std.proofs.lemmas.Bool.{cases_Bool, false≢true, both_ways}
use Rattle.std.proofs.lemmas.Bool.Decides.{Decides-below_and, Decides-below_or}
use Rattle.sets.specs.Sets.{any_below, all_below}

-- two tests, each true where the other is
pub same_answer : (a b : Bool) → (a ≡ true → b ≡ true) → (b ≡ true → a ≡ true) → a ≡ b
same_answer true true f g = refl
same_answer true false f g = sym (f refl)
same_answer false true f g = g refl
same_answer false false f g = refl

-- `not a || b`
pub implies : (a b : Bool) → (not a || b) ≡ true → a ≡ true → b ≡ true
implies true b e h = e
implies false b e h = absurd (false≢true h)

pub implies_from : (a b : Bool) → (a ≡ true → b ≡ true) → (not a || b) ≡ true
implies_from true b h = h refl
implies_from false b h = refl

-- as predicates "the test passes", for `any_below` and `all_below`
abbrev Passes : (ℕ → Bool) → ℕ → Type 0
Passes p k = p k ≡ true

pub any_is : (n : ℕ) (p : ℕ → Bool) → Decides (any_below n p) ((k : ℕ) × (k < n) × (p k ≡ true))
unfolding any_below
any_is n p = Decides-below_or p (Passes p) (λ m. any_below m p) (λ k. ((λ e. e), (λ e. e))) refl (λ _. refl) n

pub all_is : (n : ℕ) (p : ℕ → Bool) → Decides (all_below n p) ((k : ℕ) → k < n → p k ≡ true)
unfolding all_below
all_is n p = Decides-below_and p (Passes p) (λ m. all_below m p) (λ k. ((λ e. e), (λ e. e))) refl (λ _. refl) n

-- the ends of a loop over the numbers below n
module _ (n : ℕ) (p : ℕ → Bool) (i : ℕ) where
  pub below_broken : i < n → false ≡ p i → false ≡ all_below n p
  below_broken l e = ⊎_elim (λ t. absurd (both_ways (p i) (sym e) ((all_is n p).0 t i l))) sym (cases_Bool (all_below n p))

  pub below_held : n ≤ i → ((k : ℕ) → k < i → p k ≡ true) → true ≡ all_below n p
  below_held le h = sym ((all_is n p).1 (λ k l. h k (omega arith)))
