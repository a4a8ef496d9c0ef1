-- Sixteen places of which the last are 0, from the list of the first. Assumes nothing.
use Rattle.std.specs.Prelude.{◌≡◌, ℕ, ◌-◌, ◌≤◌, List, ◌++◌, length, take, drop, replicate}
use Rattle.std.proofs.Common.{sym, ap, ◌∙◌, arith, length-take}
use Rattle.std.proofs.lemmas.List.{take-append-drop}

module _ (m : List ℕ) (c : ℕ) (n : length m ≡ 16) (few : c ≤ 16) (zeros : drop c m ≡ replicate (16 - c) 0) where
  pub first_len : length (take c m) ≡ c
  first_len = omega (arith, length-take c m)

  pub padded : take c m ++ replicate (16 - length (take c m)) 0 ≡ m
  padded = ap (λ k. take c m ++ replicate (16 - k) 0) first_len ∙ ap (λ z. take c m ++ z) (sym zeros) ∙ take-append-drop c m
