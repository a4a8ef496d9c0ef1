-- Rules that are sound, and rules that are not. Assumes nothing.
use Rattle.std.specs.Prelude.{◌≡◌, ℕ, true, false, List, [], ◌∷◌}
use Rattle.trust.specs.Trust.{Trust, sound}
use Rattle.trust.specs.ByLists.{by_lists}

-- four nodes, each with these quorums, and prepared for any one node to fail
abbrev pub of_four : List ℕ → Trust
of_four quorums = by_lists 4 (λ _. 1 ∷ 2 ∷ 4 ∷ 8 ∷ []) (λ _. quorums)

pub record Witnesses : Type 0 where
  -- quorums of any three
  pub three_sound : sound (of_four (7 ∷ 11 ∷ 13 ∷ 14 ∷ [])) ≡ true
  -- quorums of the nodes 1 and 2, and of 3 and 4
  pub two_unsound : sound (of_four (3 ∷ 12 ∷ [])) ≡ false
  -- no quorums
  pub none_unsound : sound (of_four []) ≡ false
