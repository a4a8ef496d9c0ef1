-- The threshold rule, which counts nodes. Assumes nothing.
use Rattle.std.specs.Prelude.{ℕ, ◌≤◌, Bool, ◌&&◌, ◌==◌, count_ones, nat_le}
use Rattle.sets.specs.Sets.{set?}
use Rattle.trust.specs.Trust.{Trust}

-- the counts that make a rule
abbrev pub Counts : ℕ → ℕ → ℕ → Type 0
Counts n f q = (1 ≤ n) × (n ≤ 16) × (f ≤ 16) × (q ≤ 16)

-- a set of exactly q of the nodes 1 to n
abbrev pub exactly? : ℕ → ℕ → ℕ → Bool
exactly? n q s = set? n s && count_ones s == q

-- a set of at most f of the nodes 1 to n
abbrev pub at_most? : ℕ → ℕ → ℕ → Bool
at_most? n f s = set? n s && nat_le (count_ones s) f

-- the same for every node
abbrev pub threshold : ℕ → ℕ → ℕ → Trust
threshold n f q = record { size = n; quorum = λ i s. exactly? n q s; tolerated = λ i s. at_most? n f s }
