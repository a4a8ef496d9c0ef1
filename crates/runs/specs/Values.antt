-- A kind of value: what its values mean, and what a meaning says.
use Rattle.std.specs.Prelude.{◌≡◌, ℕ, Bool, Decides}

pub record Values (V : Type 0) : Type 1 where
  pub Meaning : Type 0
  pub meaning : V → Meaning
  -- two meanings are equal
  pub same : Meaning → Meaning → Bool
  pub same_is : (a b : Meaning) → Decides (same a b) (a ≡ b)
  pub fit : Meaning → Bool
  pub Claim : Type 0
  pub claim : Meaning → Claim
  -- two claims are equal
  pub same_claim : Claim → Claim → Bool
  pub same_claim_is : (a b : Claim) → Decides (same_claim a b) (a ≡ b)
  pub account : Meaning → ℕ
