-- A rule of one node that trusts itself. Assumes nothing.
use Rattle.std.proofs.Common.{◌≡◌, ℕ, Bool, true, List, [], ◌∷◌, refl, ◌∙◌, ap₂}
use Rattle.sets.specs.Sets.{any_below, all_below}
use Rattle.trust.specs.Trust.{consistent, available, sound}
use Rattle.trust.specs.ByLists.{by_lists}

pub lone_sound : (fails quorums : ℕ → List ℕ) → fails 1 ≡ 0 ∷ [] → quorums 1 ≡ 1 ∷ [] → sound (by_lists 1 fails quorums) ≡ true
unfolding sound available consistent any_below all_below
lone_sound fails quorums e f =
    let only : List ℕ → List ℕ → Bool = λ fs qs. sound (by_lists 1 (λ _. fs) (λ _. qs)) in
    let same : sound (by_lists 1 fails quorums) ≡ only (fails 1) (quorums 1) = refl in
    same ∙ ap₂ only e f
