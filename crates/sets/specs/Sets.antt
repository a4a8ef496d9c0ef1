-- Sets of nodes as masks: node k is the bit worth 2 ^ (k - 1). Assumes nothing.
use Rattle.std.specs.Prelude.{ℕ, zero, suc, ◌+◌, ◌-◌, ◌*◌, ◌/◌, ◌%◌, ◌^◌, Bool, true, false, cond, not, ◌&&◌, ◌||◌, ◌==◌, bit_and, bit_or, nat_le, nat_lt}

-- a node from 1 to n
abbrev pub node? : ℕ → ℕ → Bool
node? n k = nat_le 1 k && nat_le k n

-- a set of such nodes: no bit above n
abbrev pub set? : ℕ → ℕ → Bool
set? n s = nat_lt s (2 ^ n)

abbrev pub digit : ℕ → ℕ → ℕ
digit s j = s / 2 ^ j % 2

-- node k is in s
abbrev pub has : ℕ → ℕ → Bool
has s zero = false
has s (suc j) = digit s j == 1

-- every node of a is in b
abbrev pub inside : ℕ → ℕ → Bool
inside a b = bit_and a b == a

-- some node is in both
abbrev pub meets : ℕ → ℕ → Bool
meets a b = not (bit_and a b == 0)

-- s and node k, where k is from 1 to 16
abbrev pub with_node : ℕ → ℕ → ℕ
with_node s k = cond (node? 16 k) (bit_or s (2 ^ (k - 1))) s

-- some number below n passes
unfoldable pub any_below : ℕ → (ℕ → Bool) → Bool
any_below zero p = false
any_below (suc n) p = p n || any_below n p

-- every number below n passes
unfoldable pub all_below : ℕ → (ℕ → Bool) → Bool
all_below zero p = true
all_below (suc n) p = p n && all_below n p

-- the set of those nodes 1 to n that pass
unfoldable pub nodes_with : ℕ → (ℕ → Bool) → ℕ
nodes_with zero p = 0
nodes_with (suc n) p = nodes_with n p + cond (p (suc n)) 1 0 * 2 ^ n

-- how many of the nodes 1 to n pass
unfoldable pub how_many : ℕ → (ℕ → Bool) → ℕ
how_many zero p = 0
how_many (suc n) p = how_many n p + cond (p (suc n)) 1 0

-- the nodes 1 to n outside a
abbrev pub rest : ℕ → ℕ → ℕ
rest n a = nodes_with n (λ k. not (has a k))
