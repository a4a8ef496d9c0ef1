-- An entry compared with a value, and one turn of the loop that collects the nodes recorded with a value. Assumes nothing.
use Rattle.std.proofs.Common.{◌≡◌, ℕ, ◌+◌, ◌-◌, ◌*◌, ◌^◌, ◌<◌, Bool, true, false, cond, eqb, List, get_or, Some, None, Option, sym, refl, ap, ◌∙◌, add-one, arith}
use Rattle.std.specs.Option.{option_eq}
use lib.Bits.{bit_or}
use Rattle.sets.specs.Sets.{node?, nodes_with, with_node}
use Rattle.sets.proofs.Sets.{node_at, nodes_with_lt, one_more}
use Rattle.sets.proofs.Members.{or_next}
use Rattle.protocol.specs.Hearing.{is, entry}
use Rattle.protocol.specs.declared.message.Place.{Place}

-- `entry == Some(place)`
pub is_entry : (o : Option Place) (v : Place) → option_eq (λ a b. eqb a.0 b.0) o (Some v) ≡ is v o
is_entry None v = refl
is_entry (Some u) v = refl

-- the set m of the first k nodes, and the set n after the turn at k
module _ (xs : List (Option Place)) (v : Place) (k m n : ℕ) (low : k < 16) (so_far : m ≡ nodes_with k (λ i. is v (entry xs i))) where
  abbrev p : ℕ → Bool
  p i = is v (entry xs i)

  back : k + 1 - 1 ≡ k
  back = omega arith

  next : (b : Bool) → b ≡ is v (get_or xs k None) → n ≡ m + cond b 1 0 * 2 ^ k → n ≡ nodes_with (k + 1) p
  next b e = one_more k m p b n so_far (e ∙ ap (λ j. is v (get_or xs j None)) (sym back))

  pub added : true ≡ is v (get_or xs k None) → n ≡ with_node m (k + 1) → n ≡ nodes_with (k + 1) p
  added e same =
      let in_range : node? 16 (k + 1) ≡ true = ap (node? 16) (add-one k) ∙ node_at 16 k low in
      let small : m < 2 ^ k = omega (arith, nodes_with_lt k p) in
      next true e (same ∙ ap (λ b. cond b (bit_or m (2 ^ (k + 1 - 1))) m) in_range ∙ ap (λ j. bit_or m (2 ^ j)) back ∙ or_next k m small)

  pub passed : false ≡ is v (get_or xs k None) → n ≡ m → n ≡ nodes_with (k + 1) p
  passed e same = next false e (same ∙ omega arith)
