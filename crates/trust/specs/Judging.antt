-- B3, the first node or pair that fails a test, and what a judgement says. Assumes nothing.
use Rattle.std.specs.Prelude.{◌≡◌, ℕ, zero, suc, ◌^◌, ◌<◌, ◌≤◌, Bool, true, false, cond, not, ◌&&◌, ◌||◌, ◌⊎◌, Decides, Some, None, Option, ◌==◌, bit_or}
use Rattle.std.specs.Option.{option_or}
use Rattle.sets.specs.declared.Node.{Node}
use Rattle.sets.specs.Sets.{rest, all_below}
use Rattle.trust.specs.declared.judging.Judgement.{Judgement}
use Rattle.trust.specs.Trust.{Trust, consistent, available, sound}

-- no two sets that i and j tolerate, and a third that both do, are all n nodes together
unfoldable pub b3 : Trust → ℕ → ℕ → Bool
b3 t i j =
    all_below (2 ^ t.size) (λ a. not (t.tolerated i a) || all_below (2 ^ t.size) (λ b. not (t.tolerated j b)
    || all_below (2 ^ t.size) (λ x. not (t.tolerated i x && t.tolerated j x && bit_or (bit_or a b) x == rest t.size 0))))

-- the node i failed
abbrev pub failing_node : ℕ → Option Node
failing_node i = Some (record { 0 = i })

-- i with the node found for it
abbrev pub with_first : ℕ → Option Node → Option (Node × Node)
with_first i (Some j) = Some (record { 0 = i }, j)
with_first i None = None

-- the lowest of the nodes 1 to n that fails
unfoldable pub first_node : ℕ → (ℕ → Bool) → Option Node
first_node zero p = None
first_node (suc n) p = option_or (first_node n p) (cond (p (suc n)) None (failing_node (suc n)))

-- the first failing pair of the nodes 1 to m and 1 to n: lowest i, then lowest j
unfoldable pub first_pair : ℕ → ℕ → (ℕ → ℕ → Bool) → Option (Node × Node)
first_pair zero n p = None
first_pair (suc m) n p = option_or (first_pair m n p) (with_first (suc m) (first_node n (p (suc m))))

-- in words: every node passes, or i fails and every lower node passes
abbrev pub FirstNode : ℕ → (ℕ → Bool) → Option Node → Type 0
FirstNode n p None = (k : ℕ) → 1 ≤ k → k ≤ n → p k ≡ true
FirstNode n p (Some i) = (1 ≤ i.0) × (i.0 ≤ n) × (p i.0 ≡ false) × ((k : ℕ) → 1 ≤ k → k < i.0 → p k ≡ true)

-- the pair (a, b) is tried before (i, j)
abbrev pub Before : ℕ → ℕ → ℕ → ℕ → Type 0
Before a b i j = (a < i) ⊎ ((a ≡ i) × (b < j))

-- every pair passes, or (i, j) fails and every earlier pair passes
abbrev pub FirstPair : ℕ → ℕ → (ℕ → ℕ → Bool) → Option (Node × Node) → Type 0
FirstPair m n p None = (a b : ℕ) → 1 ≤ a → a ≤ m → 1 ≤ b → b ≤ n → p a b ≡ true
FirstPair m n p (Some (i, j)) =
    (1 ≤ i.0) × (i.0 ≤ m) × (1 ≤ j.0) × (j.0 ≤ n) × (p i.0 j.0 ≡ false)
    × ((a b : ℕ) → 1 ≤ a → 1 ≤ b → b ≤ n → Before a b i.0 j.0 → p a b ≡ true)

-- what the judgement r of a rule says
pub record Judged (t : Trust) (r : Judgement) : Type 0 where
  pub b3_is : r.b3 ≡ first_pair t.size t.size (b3 t)
  pub consistency_is : r.consistency ≡ first_pair t.size t.size (consistent t)
  pub availability_is : r.availability ≡ first_node t.size (available t)
  -- in words
  pub b3_says : FirstPair t.size t.size (b3 t) r.b3
  pub consistency_says : FirstPair t.size t.size (consistent t) r.consistency
  pub availability_says : FirstNode t.size (available t) r.availability
  -- sound exactly where no pair is inconsistent and no node unavailable
  pub soundness : Decides (sound t) ((r.consistency ≡ None) × (r.availability ≡ None))
