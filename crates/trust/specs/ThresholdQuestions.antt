-- The threshold rule's questions by counts. Assumes nothing.
use Rattle.std.specs.Prelude.{◌≡◌, ℕ, ◌+◌, ◌-◌, ◌^◌, ◌<◌, ◌≤◌, true, not, ◌&&◌, ◌||◌, ◌==◌, bit_and, bit_or, count_ones, nat_le, nat_lt}
use Rattle.std.proofs.Math.Path.{ap}
use Rattle.std.proofs.Common.{⊎_elim, arith}
use Rattle.std.proofs.lemmas.Nat.{or_lt, ones-le}
use Rattle.std.proofs.lemmas.Bool.{cases_lt, cases_Bool, eqb-true, eq-eqb, leb-true, le-leb, ltb-true, lt-ltb, and_parts, and_from, not-true, not_from_false, both_ways}
use Rattle.sets.specs.Sets.{set?, inside, meets, rest, any_below, all_below}
use Rattle.sets.proofs.Tests.{any_is, all_is, same_answer, implies, implies_from}
use Rattle.sets.proofs.Rests.{not_meets, meets_not, rest_lt, rest_apart}
use Rattle.sets.proofs.Counts.{ones_apart, ones_inside, ones_rest, part_of}
use Rattle.trust.specs.Trust.{Trust, asked?, holds_quorum, holds_kernel, tolerates}
use Rattle.trust.specs.Threshold.{exactly?, at_most?, threshold}
use Rattle.trust.specs.Guards.{guarded, asked_set}

-- sets of the nodes 1 to n by their counts

pub exactly_says : (n q s : ℕ) → exactly? n q s ≡ true → count_ones s ≡ q
exactly_says n q s e = eqb-true (count_ones s) q (and_parts (set? n s) (count_ones s == q) e).1

pub exactly_from : (n q s : ℕ) → s < 2 ^ n → count_ones s ≡ q → exactly? n q s ≡ true
exactly_from n q s lt e = and_from (set? n s) (count_ones s == q) (lt-ltb s (2 ^ n) lt) (eq-eqb (count_ones s) q e)

pub at_most_says : (n f s : ℕ) → at_most? n f s ≡ true → count_ones s ≤ f
at_most_says n f s e = leb-true (count_ones s) f (and_parts (set? n s) (nat_le (count_ones s) f) e).1

pub at_most_from : (n f s : ℕ) → s < 2 ^ n → count_ones s ≤ f → at_most? n f s ≡ true
at_most_from n f s lt le = and_from (set? n s) (nat_le (count_ones s) f) (lt-ltb s (2 ^ n) lt) (le-leb (count_ones s) f le)

-- two sets with nothing in common
pub apart_counts : (n a b : ℕ) → a < 2 ^ n → b < 2 ^ n → bit_and a b ≡ 0 → count_ones a + count_ones b ≤ n
apart_counts n a b la lb e = omega (arith, ones_apart a b e, ones-le n (bit_or a b) (or_lt n a b la lb))

-- outside of s there are sets of each count that has room
pub part_outside : (n s k : ℕ) → s < 2 ^ n → k + count_ones s ≤ n → (m : ℕ) × (m < 2 ^ n) × (bit_and m s ≡ 0) × (count_ones m ≡ k)
part_outside n s k lt room =
    let (m, l, in_rest, c) = part_of n (rest n s) k (rest_lt n s) (omega (arith, ones_rest n s lt)) in
    (m, l, rest_apart n s m l in_rest, c)

module _ (n q s : ℕ) (lt : s < 2 ^ n) where
  quorum_is : any_below (2 ^ n) (λ x. exactly? n q x && inside x s) ≡ nat_le q (count_ones s)
  quorum_is =
      same_answer _ (nat_le q (count_ones s))
      (λ e. let (x, l, both) = (any_is (2 ^ n) (λ x. exactly? n q x && inside x s)).0 e in
      let (c, in_s) = and_parts (exactly? n q x) (inside x s) both in
      le-leb q (count_ones s) (omega (arith, exactly_says n q x c, ones_inside x s in_s)))
      (λ e. let (x, l, in_s, c) = part_of n s q lt (leb-true q (count_ones s) e) in
      (any_is (2 ^ n) (λ x. exactly? n q x && inside x s)).1 (x, l, and_from (exactly? n q x) (inside x s) (exactly_from n q x l c) in_s))

  kernel_is : all_below (2 ^ n) (λ x. not (exactly? n q x) || meets x s) ≡ nat_lt (n - count_ones s) q
  kernel_is =
      same_answer _ (nat_lt (n - count_ones s) q)
      (λ e. ⊎_elim (λ less. lt-ltb (n - count_ones s) q less)
      (λ room. let (x, l, apart, c) = part_outside n s q lt (omega (arith, ones-le n s lt)) in
      absurd (both_ways (meets x s) (not-true (meets x s) (meets_not x s apart))
      (implies (exactly? n q x) (meets x s) ((all_is (2 ^ n) (λ x. not (exactly? n q x) || meets x s)).0 e x l) (exactly_from n q x l c))))
      (cases_lt (n - count_ones s) q))
      (λ e. (all_is (2 ^ n) (λ x. not (exactly? n q x) || meets x s)).1 (λ x l. implies_from (exactly? n q x) (meets x s) (λ c.
      ⊎_elim (λ yes. yes)
      (λ no. absurd (omega (arith, ltb-true (n - count_ones s) q e, exactly_says n q x c, apart_counts n x s l lt (not_meets x s (not_from_false (meets x s) no)))))
      (cases_Bool (meets x s)))))

module _ (n f q i s : ℕ) where
  abbrev t : Trust
  t = threshold n f q

  pub holds_quorum_is : holds_quorum t i s ≡ (asked? t i s && nat_le q (count_ones s))
  unfolding holds_quorum
  holds_quorum_is = guarded (asked? t i s) _ _ (λ e. quorum_is n q s (asked_set n i s e))

  pub holds_kernel_is : holds_kernel t i s ≡ (asked? t i s && nat_lt (n - count_ones s) q)
  unfolding holds_kernel
  holds_kernel_is = guarded (asked? t i s) _ _ (λ e. kernel_is n q s (asked_set n i s e))

  pub tolerates_is : tolerates t i s ≡ (asked? t i s && nat_le (count_ones s) f)
  unfolding tolerates
  tolerates_is = guarded (asked? t i s) _ _ (λ e. ap (λ b. b && nat_le (count_ones s) f) (lt-ltb s (2 ^ n) (asked_set n i s e)))
