-- A rule is sound exactly where no node and no pair fails. Assumes nothing.
use Rattle.std.proofs.Common.{◌≡◌, ℕ, zero, suc, ◌<◌, Bool, true, false, ◌&&◌, Decides, not, sym, refl, ◌∙◌, subst, ⊎_elim, arith}
use Rattle.std.proofs.lemmas.Option.{none-some}
use Rattle.std.proofs.lemmas.Bool.{cases_Bool, and_parts, and_from, both_ways}
use Rattle.std.specs.Prelude.{Some, None, Option, is_none, is_some}
use Rattle.sets.specs.Sets.{all_below}
use Rattle.sets.specs.declared.Node.{Node}
use Rattle.sets.proofs.Tests.{all_is}
use Rattle.trust.specs.Trust.{Trust, consistent, available, sound}
use Rattle.trust.specs.Judging.{first_node, first_pair, FirstNode, FirstPair}
use Rattle.trust.proofs.Firsts.{node_says, pair_says}

-- where all pass, none is found
no_node : (n : ℕ) (p : ℕ → Bool) (v : Option Node) → FirstNode n p v → FirstNode n p None → v ≡ None
no_node n p None says all = refl
no_node n p (Some i) (low, high, fails, before) all = absurd (both_ways (p i.0) fails (all i.0 low high))

no_pair : (m n : ℕ) (p : ℕ → ℕ → Bool) (v : Option (Node × Node)) → FirstPair m n p v → FirstPair m n p None → v ≡ None
no_pair m n p None says all = refl
no_pair m n p (Some (i, j)) (low, high, low_j, high_j, fails, before) all = absurd (both_ways (p i.0 j.0) fails (all i.0 j.0 low high low_j high_j))

-- all nodes by their places, from 0
by_places : (n : ℕ) (p : ℕ → Bool) → ((k : ℕ) → k < n → p (suc k) ≡ true) → FirstNode n p None
by_places n p h zero low high = absurd (omega arith)
by_places n p h (suc k) low high = h k (omega arith)

-- what `is_none` answered
pub none_by : {A : Type 0} (v : Option A) (r : Bool) → is_some v ≡ not r → r ≡ is_none v
none_by None true e = refl
none_by None false e = e
none_by (Some x) true e = e
none_by (Some x) false e = refl

module _ (t : Trust) where
  abbrev n : ℕ
  n = t.size

  abbrev row : ℕ → Bool
  row i = all_below n (λ j. consistent t (suc i) (suc j))

  each : sound t ≡ true → (i : ℕ) → i < n → (available t (suc i) ≡ true) × (row i ≡ true)
  unfolding sound
  each e i l = and_parts (available t (suc i)) (row i) ((all_is n (λ i. available t (suc i) && row i)).0 e i l)

  pub sound_is : Decides (sound t) ((first_pair n n (consistent t) ≡ None) × (first_node n (available t) ≡ None))
  unfolding sound
  sound_is = (
    (λ e. (
      no_pair n n (consistent t) _ (pair_says n n (consistent t)) (λ a b la ha lb hb.
          by_places n (λ i. consistent t i b) (λ i l. by_places n (consistent t (suc i)) ((all_is n (λ j. consistent t (suc i) (suc j))).0 (each e i l).1) b lb hb) a la ha),
      no_node n (available t) _ (node_says n (available t)) (by_places n (available t) (λ i l. (each e i l).0)),
    )),
    (λ (pairs, nodes). (all_is n (λ i. available t (suc i) && row i)).1 (λ i l. and_from (available t (suc i)) (row i)
        (subst (FirstNode n (available t)) nodes (node_says n (available t)) (suc i) (omega arith) (omega arith))
        ((all_is n (λ j. consistent t (suc i) (suc j))).1 (λ j lj.
        subst (FirstPair n n (consistent t)) pairs (pair_says n n (consistent t)) (suc i) (suc j) (omega arith) (omega arith) (omega arith) (omega arith))))),
  )

  not_sound : (sound t ≡ true → ⊥) → false ≡ sound t
  not_sound h = ⊎_elim (λ s. absurd (h s)) sym (cases_Bool (sound t))

  -- no node and no pair was found, or one was
  pub sound_by : (v : Option Node) (w : Option (Node × Node)) → v ≡ first_node n (available t) → w ≡ first_pair n n (consistent t) → (is_none v && is_none w) ≡ sound t
  sound_by None None v w = sym (sound_is.1 (sym w, sym v))
  sound_by None (Some p) v w = not_sound (λ e. none-some p (sym (w ∙ (sound_is.0 e).0)))
  sound_by (Some i) w v _ = not_sound (λ e. none-some i (sym (v ∙ (sound_is.0 e).1)))
