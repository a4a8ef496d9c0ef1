-- The nodes sorted for a faulty set. Assumes nothing.
use Rattle.std.specs.Prelude.{ℕ, zero, suc, ◌^◌, Bool, cond, not, ◌&&◌, ◌||◌, bit_or}
use Rattle.sets.specs.Sets.{has, inside, all_below, nodes_with}
use Rattle.trust.specs.Trust.{Trust, holds_quorum, tolerates}

-- a correct node that tolerates the faulty set, or does not
abbrev pub wise? : Trust → ℕ → ℕ → Bool
wise? t f i = not (has f i) && tolerates t i f

abbrev pub naive? : Trust → ℕ → ℕ → Bool
naive? t f i = not (has f i) && not (tolerates t i f)

abbrev pub wise_mask : Trust → ℕ → ℕ
wise_mask t f = nodes_with t.size (wise? t f)

abbrev pub naive_mask : Trust → ℕ → ℕ
naive_mask t f = nodes_with t.size (naive? t f)

-- wise nodes that hold a quorum of each of them
unfoldable pub guild? : Trust → ℕ → ℕ → Bool
guild? t f g = inside g (wise_mask t f) && all_below t.size (λ k. not (has g (suc k)) || holds_quorum t (suc k) g)

-- the union of those sets below m that pass
unfoldable pub union_below : ℕ → (ℕ → Bool) → ℕ
union_below zero p = 0
union_below (suc m) p = cond (p m) (bit_or m (union_below m p)) (union_below m p)

-- the maximal guild: the union of all guilds
abbrev pub max_guild : Trust → ℕ → ℕ
max_guild t f = union_below (2 ^ t.size) (guild? t f)
