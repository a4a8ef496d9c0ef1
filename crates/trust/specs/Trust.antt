-- What a trust rule means. A node and a set outside its range get no. Assumes nothing.
use Rattle.std.specs.Prelude.{ℕ, suc, ◌^◌, Bool, not, ◌&&◌, ◌||◌, bit_and}
use Rattle.sets.specs.Sets.{node?, set?, inside, meets, any_below, all_below}

-- of n nodes: the quorums of each, and the sets that each tolerates
pub record Trust : Type 0 where
  pub size : ℕ
  pub quorum : ℕ → ℕ → Bool
  pub tolerated : ℕ → ℕ → Bool

-- a node from 1 to n, and a set of such nodes
abbrev pub asked? : Trust → ℕ → ℕ → Bool
asked? t i s = node? t.size i && set? t.size s

-- all of one quorum of i is in s
unfoldable pub holds_quorum : Trust → ℕ → ℕ → Bool
holds_quorum t i s = asked? t i s && any_below (2 ^ t.size) (λ q. t.quorum i q && inside q s)

-- s meets every quorum of i
unfoldable pub holds_kernel : Trust → ℕ → ℕ → Bool
holds_kernel t i s = asked? t i s && all_below (2 ^ t.size) (λ q. not (t.quorum i q) || meets q s)

-- i tolerates s
unfoldable pub tolerates : Trust → ℕ → ℕ → Bool
tolerates t i s = asked? t i s && t.tolerated i s

-- no quorum of i and quorum of j have their common part inside a set that both tolerate
unfoldable pub consistent : Trust → ℕ → ℕ → Bool
consistent t i j =
    all_below (2 ^ t.size) (λ q. not (t.quorum i q) || all_below (2 ^ t.size) (λ r. not (t.quorum j r)
    || all_below (2 ^ t.size) (λ x. not (t.tolerated i x && t.tolerated j x && inside (bit_and q r) x))))

-- each set that i tolerates misses one of its quorums
unfoldable pub available : Trust → ℕ → Bool
available t i = all_below (2 ^ t.size) (λ x. not (t.tolerated i x) || any_below (2 ^ t.size) (λ q. t.quorum i q && not (meets q x)))

-- every node is available, and every pair consistent
unfoldable pub sound : Trust → Bool
sound t = all_below t.size (λ i. available t (suc i) && all_below t.size (λ j. consistent t (suc i) (suc j)))
