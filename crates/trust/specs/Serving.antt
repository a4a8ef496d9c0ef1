-- What a sound rule gives a broadcast, in words of members. Assumes nothing.
use Rattle.std.specs.Prelude.{◌≡◌, ℕ, ◌^◌, ◌<◌, true, false}
use Rattle.sets.specs.Sets.{node?, has}
use Rattle.trust.specs.Trust.{Trust, holds_quorum, tolerates, sound}
use Rattle.trust.specs.Sorting.{wise_mask, max_guild}

-- one of the nodes 1 to n, and not faulty
abbrev pub Correct : Trust → ℕ → ℕ → Type 0
Correct t f i = (node? t.size i ≡ true) × (has f i ≡ false)

pub record Sides (t : Trust) (f : ℕ) : Type 0 where
  -- the wise nodes are correct and tolerate the faulty set
  pub wise_correct : (i : ℕ) → has (wise_mask t f) i ≡ true → Correct t f i × (tolerates t i f ≡ true)
  -- the maximal guild is a guild: wise nodes that hold a quorum of each of them
  pub guild_wise : (i : ℕ) → has (max_guild t f) i ≡ true → has (wise_mask t f) i ≡ true
  pub guild_quorum : (i : ℕ) → has (max_guild t f) i ≡ true → holds_quorum t i (max_guild t f) ≡ true
  -- sets that hold quorums of two wise nodes share a correct node
  pub shared : (i j a b : ℕ) → has (wise_mask t f) i ≡ true → has (wise_mask t f) j ≡ true → holds_quorum t i a ≡ true → holds_quorum t j b ≡ true
      → (c : ℕ) × Correct t f c × (has a c ≡ true) × (has b c ≡ true)

abbrev pub SoundServes : Type 0
SoundServes = (t : Trust) (f : ℕ) → sound t ≡ true → f < 2 ^ t.size → Sides t f
