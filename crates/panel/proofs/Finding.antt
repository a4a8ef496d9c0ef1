-- The place at which a value is known is the position of the first that is the same.
use Rattle.std.proofs.Common.{◌≡◌, ℕ, suc, ◌+◌, Bool, true, false, cond, List, [], ◌∷◌, Some, refl, ap, ◌∙◌, add-one}
use Rattle.std.specs.List.{position_from}
use Rattle.std.specs.Option.{option_map}
use Rattle.protocol.specs.declared.message.Place.{Place}
use Rattle.runs.specs.Values.{Values}
use Rattle.runs.specs.Calls.{known_from}

module _ {V : Type 0} (values : Values V) (v : V) where
  abbrev pub same_as : V → Bool
  same_as u = values.same (values.meaning u) (values.meaning v)

  abbrev pub place_at : ℕ → Place
  place_at i = record { 0 = i }

  pub known_is_position : (n : ℕ) (row : List V) → option_map place_at (position_from same_as n row) ≡ known_from values n row v
  known_is_position n [] = refl
  known_is_position n (u ∷ us) = go (known_is_position (n + 1) us) (same_as u)
    where
      go : option_map place_at (position_from same_as (n + 1) us) ≡ known_from values (n + 1) us v
          → (b : Bool) → option_map place_at (cond b (Some n) (position_from same_as (n + 1) us)) ≡ cond b (Some (place_at n)) (known_from values (suc n) us v)
      go rest true = refl
      go rest false = rest ∙ ap (λ k. known_from values k us v) (add-one n)
