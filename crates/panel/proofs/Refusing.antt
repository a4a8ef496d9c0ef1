-- A check of the code refuses or passes as its condition holds or does not. Assumes nothing.
use Rattle.std.proofs.Common.{◌≡◌, Bool, true, false, [], ◌∷◌, Some, None, refl}
use Rattle.trust.specs.declared.refusal.Refusal.{Refusal}
use Rattle.trust.specs.Refusals.{first_of}

pub holds : (b : Bool) (n e : Refusal) → Some e ≡ first_of ((b, n) ∷ []) → (b ≡ true) × (e ≡ n)
holds true n e h = (refl, cc)
holds false n e h = cc

pub fails : (b : Bool) (n : Refusal) → None ≡ first_of ((b, n) ∷ []) → b ≡ false
fails true n h = cc
fails false n h = refl
