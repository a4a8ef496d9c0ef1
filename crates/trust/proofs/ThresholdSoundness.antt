-- The threshold rule is sound exactly where 2 q > n + f and q + f ≤ n. Assumes nothing.
use Rattle.std.proofs.Common.{◌≡◌, ℕ, suc, ◌+◌, ◌-◌, ◌*◌, ◌^◌, ◌<◌, ◌≤◌, min, true, not, ◌&&◌, ◌||◌, ltb, leb, sym, ◌∙◌, ⊎_elim, arith}
use lib.Bits.{bit_and, bit_or, and_lt, or_lt}
use lib.Count.{ones, ones-le}
use Rattle.std.proofs.lemmas.Bool.{cases_lt, cases_Bool, leb-true, le-leb, ltb-true, lt-ltb, and_parts, and_from, or_cases, not-true, not_from_false, both_ways}
use Rattle.sets.specs.Sets.{has, inside, meets, rest, any_below, all_below}
use Rattle.sets.proofs.Tests.{any_is, all_is, same_answer, implies, implies_from}
use Rattle.sets.proofs.Sets.{has_and, has_or, inside_at, inside_from}
use Rattle.sets.proofs.Rests.{not_meets, meets_not, apart_at, apart_from, rest_lt}
use Rattle.sets.proofs.Counts.{all_ones, ones_or_and, ones_apart, ones_inside, part_of}
use Rattle.trust.specs.Trust.{Trust, consistent, available, sound}
use Rattle.trust.specs.Threshold.{exactly?, at_most?, threshold}
use Rattle.trust.specs.ThresholdQuestions.{exactly_says, exactly_from, at_most_says, at_most_from, apart_counts, part_outside}

module _ (n f q : ℕ) where
  abbrev t : Trust
  t = threshold n f q

  -- what availability and consistency say here, in words of counts
  abbrev Available : Type 0
  Available = (x : ℕ) → x < 2 ^ n → ones x ≤ f → (a : ℕ) × (a < 2 ^ n) × (ones a ≡ q) × (bit_and a x ≡ 0)

  abbrev Consistent : Type 0
  Consistent = (a b x : ℕ) → a < 2 ^ n → b < 2 ^ n → x < 2 ^ n → ones a ≡ q → ones b ≡ q → ones x ≤ f → inside (bit_and a b) x ≡ true → ⊥

  available_says : (i : ℕ) → available t i ≡ true → Available
  unfolding available
  available_says i e x l c =
      let some = implies (at_most? n f x) _ ((all_is (2 ^ n) (λ x. not (at_most? n f x) || any_below (2 ^ n) (λ a. exactly? n q a && not (meets a x)))).0 e x l) (at_most_from n f x l c) in
      let (a, la, both) = (any_is (2 ^ n) (λ a. exactly? n q a && not (meets a x))).0 some in
      let (ca, apart) = and_parts (exactly? n q a) (not (meets a x)) both in
      (a, la, exactly_says n q a ca, not_meets a x apart)

  available_from : (i : ℕ) → Available → available t i ≡ true
  unfolding available
  available_from i h =
      (all_is (2 ^ n) (λ x. not (at_most? n f x) || any_below (2 ^ n) (λ a. exactly? n q a && not (meets a x)))).1 (λ x l.
      implies_from (at_most? n f x) _ (λ c.
      let (a, la, ca, apart) = h x l (at_most_says n f x c) in
      (any_is (2 ^ n) (λ a. exactly? n q a && not (meets a x))).1 (a, la, and_from (exactly? n q a) (not (meets a x)) (exactly_from n q a la ca) (meets_not a x apart))))

  consistent_says : (i j : ℕ) → consistent t i j ≡ true → Consistent
  unfolding consistent
  consistent_says i j e a b x la lb lx ca cb cx within =
      let at_a = implies (exactly? n q a) _ ((all_is (2 ^ n) _).0 e a la) (exactly_from n q a la ca) in
      let at_b = implies (exactly? n q b) _ ((all_is (2 ^ n) _).0 at_a b lb) (exactly_from n q b lb cb) in
      let no = (all_is (2 ^ n) _).0 at_b x lx in
      let small = at_most_from n f x lx cx in
      both_ways _ (not-true _ no) (and_from (at_most? n f x && at_most? n f x) (inside (bit_and a b) x) (and_from (at_most? n f x) (at_most? n f x) small small) within)

  consistent_from : (i j : ℕ) → Consistent → consistent t i j ≡ true
  unfolding consistent
  consistent_from i j h =
      (all_is (2 ^ n) _).1 (λ a la. implies_from (exactly? n q a) _ (λ ca.
      (all_is (2 ^ n) _).1 (λ b lb. implies_from (exactly? n q b) _ (λ cb.
      (all_is (2 ^ n) _).1 (λ x lx.
      ⊎_elim
      (λ yes. let (small, within) = and_parts (at_most? n f x && at_most? n f x) (inside (bit_and a b) x) yes in
      absurd (h a b x la lb lx (exactly_says n q a ca) (exactly_says n q b cb) (at_most_says n f x (and_parts (at_most? n f x) (at_most? n f x) small).0) within))
      (λ no. not_from_false _ no)
      (cases_Bool (at_most? n f x && at_most? n f x && inside (bit_and a b) x)))))))

  -- from the counts
  enough_available : q + f ≤ n → Available
  enough_available room x l c =
      let (a, la, apart, ca) = part_outside n x q l (omega arith) in (a, la, ca, apart)

  enough_consistent : n + f < 2 * q → Consistent
  enough_consistent many a b x la lb lx ca cb cx within =
      omega (arith, ones_or_and a b, ones-le n (bit_or a b) (or_lt n a b la lb), ones_inside (bit_and a b) x within)

  -- and back: two quorums that meet as little as can be
  little : (a k : ℕ) → a < 2 ^ n → ones a ≡ q → k ≤ q → q + q ≤ n + k → (b x : ℕ) × (b < 2 ^ n) × (x < 2 ^ n) × (ones b ≡ q) × (ones x ≡ k) × (inside (bit_and a b) x ≡ true)
  little a k la ca le room =
      let (x, lx, in_a, cx) = part_of n a k la (omega arith) in
      let (d, ld, apart, cd) = part_outside n a (q - k) la (omega arith) in
      let b = bit_or x d in
      let none = apart_from n x d lx (λ j l p r. apart_at d a (suc j) apart r (inside_at x a (suc j) in_a p)) in (
        b,
        x,
        or_lt n x d lx ld,
        lx,
        omega (arith, ones_apart x d none),
        cx,
        inside_from n (bit_and a b) x (and_lt n a b la (or_lt n x d lx ld)) (λ j l h.
            let (in_a', in_b) = and_parts (has a (suc j)) (has b (suc j)) (sym (has_and a b (suc j)) ∙ h) in
            ⊎_elim (λ in_x. in_x) (λ in_d. absurd (apart_at d a (suc j) apart in_d in_a')) (or_cases (has x (suc j)) (has d (suc j)) (sym (has_or x d (suc j)) ∙ in_b))),
      )

  enough_since : Available → Consistent → (n + f < 2 * q) × (q + f ≤ n)
  enough_since av co =
      let m = min f n in
      let (x, lx, in_all, cx) = part_of n (rest n 0) m (rest_lt n 0) (omega (arith, all_ones n)) in
      let (a, la, ca, apart) = av x lx (omega arith) in
      let room = apart_counts n a x la lx apart in
      let many : n + m < 2 * q =
      ⊎_elim (λ l. l)
      (λ few. let (b, y, lb, ly, cb, cy, within) = little a (2 * q - n) la ca (omega arith) (omega arith) in
      absurd (co a b y la lb ly ca cb (omega arith) within))
      (cases_lt (n + m) (2 * q)) in
      (omega arith, omega arith)

  pub sound_is : 1 ≤ n → sound t ≡ (ltb (n + f) (2 * q) && leb (q + f) n)
  unfolding sound
  sound_is some = same_answer (sound t) _
      (λ e. let (av, co) = and_parts (available t 1) _ ((all_is n (λ i. available t (suc i) && all_below n (λ j. consistent t (suc i) (suc j)))).0 e 0 (omega arith)) in
      let (many, room) = enough_since (available_says 1 av) (consistent_says 1 1 ((all_is n (λ j. consistent t 1 (suc j))).0 co 0 (omega arith))) in
      and_from (ltb (n + f) (2 * q)) (leb (q + f) n) (lt-ltb (n + f) (2 * q) many) (le-leb (q + f) n room))
      (λ e. let (many, room) = and_parts (ltb (n + f) (2 * q)) (leb (q + f) n) e in
      (all_is n (λ i. available t (suc i) && all_below n (λ j. consistent t (suc i) (suc j)))).1 (λ i l.
      and_from (available t (suc i)) _ (available_from (suc i) (enough_available (leb-true (q + f) n room)))
      ((all_is n (λ j. consistent t (suc i) (suc j))).1 (λ j _. consistent_from (suc i) (suc j) (enough_consistent (ltb-true (n + f) (2 * q) many))))))
