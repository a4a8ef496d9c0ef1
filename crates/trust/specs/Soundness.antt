-- The listed sets alone tell what all sets would. Assumes nothing.
use Rattle.std.specs.Prelude.{◌≡◌, ℕ, zero, suc, ◌^◌, ◌<◌, Bool, true, false, not, ◌&&◌, ◌||◌, List, ◌==◌, ◌≢◌, bit_and, bit_or, slice_index, slice_index_or}
use Rattle.std.proofs.Math.Path.{refl, ap}
use Rattle.std.proofs.Common.{◌∙◌, ⊎_elim}
use Rattle.std.specs.Int.Bits.{and_lt}
use Rattle.std.proofs.lemmas.Nat.{or_lt}
use Rattle.std.proofs.lemmas.Bool.{cases_Bool, and_parts, and_from, not-true, not_from_false, both_ways}
use Rattle.sets.specs.Sets.{node?, set?, inside, meets, rest, any_below, all_below}
use Rattle.sets.specs.Lists.{any_of, all_of, listed?, of_nodes?}
use Rattle.sets.proofs.Tests.{all_is, same_answer}
use Rattle.sets.proofs.Sets.{no_node, node_low, inside_at, inside_self, inside_trans, or_grows, or_grows_r}
use Rattle.sets.proofs.Rests.{apart_at, apart_from, not_meets, meets_not, rest_lt, rest_down, cover_is}
use Rattle.sets.proofs.Lists.{any_of_at, any_of_from, any_not, all_of_at, all_of_from, all_of_same, all_below_same, listed_lt, any_listed, all_listed, all_parts}
use Rattle.trust.specs.Trust.{Trust, asked?, holds_quorum, holds_kernel, tolerates, consistent, available}
use Rattle.trust.specs.Judging.{b3}
use Rattle.trust.specs.ByLists.{by_lists, part?, both_part?, misses?, leaves_open?, b3_pair?, keeps_with?, pair?}
use Rattle.trust.specs.Guards.{guarded}

not_since : (b : Bool) → (b ≢ true) → b ≡ false
not_since b h = ⊎_elim (λ yes. absurd (h yes)) (λ no. no) (cases_Bool b)

-- parts of a part
pub part_down : (n : ℕ) (fs : List ℕ) (a b : ℕ) → a < 2 ^ n → inside a b ≡ true → part? fs b ≡ true → part? fs a ≡ true
part_down n fs a b lt within e =
    let (k, l, in_k) = any_of_at fs (λ x. inside b x) e in
    any_of_from fs (λ x. inside a x) k l (inside_trans n a b (slice_index fs k) lt within in_k)

-- a smaller set misses what a larger misses
misses_down : (n q a b : ℕ) → q < 2 ^ n → inside a b ≡ true → not (meets q b) ≡ true → not (meets q a) ≡ true
misses_down n q a b lt within e =
    meets_not q a (apart_from n q a lt (λ k l in_q in_a. apart_at q b (suc k) (not_meets q b e) in_q (inside_at a b (suc k) within in_a)))

both_down : (n : ℕ) (fs gs : List ℕ) (s x : ℕ) → s < 2 ^ n → inside s x ≡ true → both_part? fs gs x ≡ true → both_part? fs gs s ≡ true
both_down n fs gs s x lt within e =
    let (on_f, on_g) = and_parts (part? fs x) (part? gs x) e in
    and_from (part? fs s) (part? gs s) (part_down n fs s x lt within on_f) (part_down n gs s x lt within on_g)

-- no set that both tolerate has s in it: s itself is not tolerated by both
both_is : (n : ℕ) (fs gs : List ℕ) (s : ℕ) → s < 2 ^ n → all_below (2 ^ n) (λ x. not (part? fs x && part? gs x && inside s x)) ≡ not (both_part? fs gs s)
both_is n fs gs s lt =
    same_answer _ (not (both_part? fs gs s))
    (λ e. not_from_false (both_part? fs gs s) (not_since (both_part? fs gs s)
    (λ yes. both_ways _ (not-true _ ((all_is (2 ^ n) (λ x. not (part? fs x && part? gs x && inside s x))).0 e s lt)) (and_from (both_part? fs gs s) (inside s s) yes (inside_self s)))))
    (λ e. (all_is (2 ^ n) (λ x. not (part? fs x && part? gs x && inside s x))).1 (λ x l. not_from_false _ (not_since (part? fs x && part? gs x && inside s x)
    (λ yes. let (both, within) = and_parts (both_part? fs gs x) (inside s x) yes in
    both_ways (both_part? fs gs s) (not-true (both_part? fs gs s) e) (both_down n fs gs s x lt within both)))))

-- a smaller set leaves more open
open_down : (n : ℕ) (fs gs : List ℕ) (u v : ℕ) → inside u v ≡ true → leaves_open? n fs gs v ≡ true → leaves_open? n fs gs u ≡ true
open_down n fs gs u v within e =
    not_from_false (both_part? fs gs (rest n u)) (not_since (both_part? fs gs (rest n u))
    (λ yes. both_ways (both_part? fs gs (rest n v)) (not-true (both_part? fs gs (rest n v)) e) (both_down n fs gs (rest n v) (rest n u) (rest_lt n v) (rest_down n u v within) yes)))

-- no third set that both tolerate
third_is : (n : ℕ) (fs gs : List ℕ) (u : ℕ) → u < 2 ^ n → all_below (2 ^ n) (λ x. not (part? fs x && part? gs x && bit_or u x == rest n 0)) ≡ leaves_open? n fs gs u
third_is n fs gs u lu =
    all_below_same (2 ^ n) _ (λ x. not (part? fs x && part? gs x && inside (rest n u) x)) (λ x lx. ap (λ b. not (part? fs x && part? gs x && b)) (cover_is n u x lu lx))
    ∙ both_is n fs gs (rest n u) (rest_lt n u)

module _ (n : ℕ) (fails quorums : ℕ → List ℕ) (fits : (i : ℕ) → i < n → (of_nodes? n (fails (suc i)) ≡ true) × (of_nodes? n (quorums (suc i)) ≡ true)) where
  abbrev t : Trust
  t = by_lists n fails quorums

  -- a node and a set in range
  in_range : {A : Type 0} (i s : ℕ) → ((k : ℕ) → i ≡ suc k → k < n → A) → asked? t i s ≡ true → A
  in_range zero s f e = absurd (no_node n (and_parts (node? n 0) (set? n s) e).0)
  in_range (suc k) s f e = f k refl (node_low n k (and_parts (node? n (suc k)) (set? n s) e).0)

  quorums_fit : (i k : ℕ) → i ≡ suc k → k < n → of_nodes? n (quorums i) ≡ true
  quorums_fit i k e l = ap (λ j. of_nodes? n (quorums j)) e ∙ (fits k l).1

  pub holds_quorum_is : (i s : ℕ) → holds_quorum t i s ≡ (asked? t i s && any_of (quorums i) (λ q. inside q s))
  unfolding holds_quorum
  holds_quorum_is i s = guarded (asked? t i s) _ _ (in_range i s (λ k e l. any_listed n (quorums i) (quorums_fit i k e l) (λ q. inside q s)))

  pub holds_kernel_is : (i s : ℕ) → holds_kernel t i s ≡ (asked? t i s && all_of (quorums i) (λ q. meets q s))
  unfolding holds_kernel
  holds_kernel_is i s = guarded (asked? t i s) _ _ (in_range i s (λ k e l. all_listed n (quorums i) (quorums_fit i k e l) (λ q. meets q s)))

  pub tolerates_is : (i s : ℕ) → tolerates t i s ≡ (asked? t i s && part? (fails i) s)
  unfolding tolerates
  tolerates_is i s = refl

  pub available_is : (i : ℕ) → i < n → available t (suc i) ≡ misses? (fails (suc i)) (quorums (suc i))
  unfolding available
  available_is i l =
      let fs = fails (suc i) in
      let qs = quorums (suc i) in
      let as_list : (x : ℕ) → any_below (2 ^ n) (λ q. listed? qs q && not (meets q x)) ≡ any_of qs (λ q. not (meets q x)) = λ x. any_listed n qs (fits i l).1 (λ q. not (meets q x)) in
      all_below_same (2 ^ n) _ (λ x. not (part? fs x) || any_of qs (λ q. not (meets q x))) (λ x _. ap (λ b. not (part? fs x) || b) (as_list x))
      ∙ all_parts n fs (fits i l).0 (λ x. any_of qs (λ q. not (meets q x))) (λ a b la _ within e.
      let (k, lk, miss) = any_of_at qs (λ q. not (meets q b)) e in
      any_of_from qs (λ q. not (meets q a)) k lk (misses_down n (slice_index qs k) a b (listed_lt n qs (fits i l).1 k lk) within miss))
      ∙ all_of_same fs (λ x. any_of qs (λ q. not (meets q x))) (λ x. not (all_of qs (λ q. meets q x))) (λ k _. any_not qs (λ q. meets q (slice_index fs k)))

  pub consistent_is : (i j : ℕ) → i < n → j < n → consistent t (suc i) (suc j) ≡ pair? (fails (suc i)) (fails (suc j)) (quorums (suc i)) (quorums (suc j))
  unfolding consistent
  consistent_is i j li lj =
      let fs = fails (suc i) in
      let gs = fails (suc j) in
      let qs = quorums (suc i) in
      let rs = quorums (suc j) in
      let fq = (fits i li).1 in
      let fr = (fits j lj).1 in
      let apart : ℕ → ℕ → Bool = λ q r. all_below (2 ^ n) (λ x. not (part? fs x && part? gs x && inside (bit_and q r) x)) in
      all_listed n qs fq (λ q. all_below (2 ^ n) (λ r. not (listed? rs r) || apart q r))
      ∙ all_of_same qs (λ q. all_below (2 ^ n) (λ r. not (listed? rs r) || apart q r)) (keeps_with? fs gs rs) (λ k lk.
      let q = slice_index_or qs k 0 in
      all_listed n rs fr (apart q)
      ∙ all_of_same rs (apart q) (λ r. not (both_part? fs gs (bit_and q r))) (λ m lm.
      both_is n fs gs (bit_and q (slice_index rs m)) (and_lt n q (slice_index rs m) (listed_lt n qs fq k lk) (listed_lt n rs fr m lm))))

  pub b3_is : (i j : ℕ) → i < n → j < n → b3 t (suc i) (suc j) ≡ b3_pair? n (fails (suc i)) (fails (suc j))
  unfolding b3
  b3_is i j li lj =
      let fs = fails (suc i) in
      let gs = fails (suc j) in
      let ff = (fits i li).0 in
      let fg = (fits j lj).0 in
      let third : ℕ → ℕ → Bool = λ a b. all_below (2 ^ n) (λ x. not (part? fs x && part? gs x && bit_or (bit_or a b) x == rest n 0)) in
      let free : ℕ → ℕ → Bool = λ a b. leaves_open? n fs gs (bit_or a b) in
      let row : (a : ℕ) → a < 2 ^ n → all_below (2 ^ n) (λ b. not (part? gs b) || third a b) ≡ all_of gs (free a) =
      λ a la. all_below_same (2 ^ n) (λ b. not (part? gs b) || third a b) (λ b. not (part? gs b) || free a b) (λ b lb. ap (λ x. not (part? gs b) || x) (third_is n fs gs (bit_or a b) (or_lt n a b la lb)))
      ∙ all_parts n gs fg (free a) (λ b c lb lc within. open_down n fs gs (bit_or a b) (bit_or a c) (or_grows_r n a b c la lb within)) in
      all_below_same (2 ^ n) (λ a. not (part? fs a) || all_below (2 ^ n) (λ b. not (part? gs b) || third a b)) (λ a. not (part? fs a) || all_of gs (free a)) (λ a la. ap (λ x. not (part? fs a) || x) (row a la))
      ∙ all_parts n fs ff (λ a. all_of gs (free a)) (λ a c la lc within e. all_of_from gs (free a) (λ k lk.
      let b = slice_index_or gs k 0 in
      open_down n fs gs (bit_or a b) (bit_or c b) (or_grows n a c b la (listed_lt n gs fg k lk) within) (all_of_at gs (free c) e k lk)))
