-- What a sound rule gives. Assumes nothing.
use Rattle.std.proofs.Common.{◌≡◌, ℕ, zero, suc, ◌^◌, ◌<◌, Bool, true, false, cond, not, ◌&&◌, sym, refl, ap, ◌∙◌, ⊎_elim, arith}
use lib.Bits.{bit_and, bit_or, and_lt}
use Rattle.std.proofs.lemmas.Bool.{cases_lt, cases_Bool, and_parts, and_from, or_cases, not-true, not_from_false, false≢true, both_ways}
use Rattle.sets.specs.Sets.{node?, has, inside, any_below, all_below, nodes_with}
use Rattle.sets.proofs.Tests.{any_is, all_is, implies}
use Rattle.sets.proofs.Sets.{node_at, has_and, has_or, has_high, has_nodes_with, inside_at, inside_from, nodes_with_lt}
use Rattle.trust.specs.Trust.{Trust, asked?, holds_quorum, tolerates, consistent, available, sound}
use Rattle.trust.specs.Sorting.{wise?, wise_mask, guild?, union_below, max_guild}
use Rattle.trust.specs.Serving.{Correct, SoundServes}
use Rattle.trust.proofs.Guilds.{guild_parts, quorum_more, union_lt, in_union}

-- a member of a set by a test passes it
member : (n : ℕ) (p : ℕ → Bool) (i : ℕ) → has (nodes_with n p) i ≡ true → (k : ℕ) × (k < n) × (i ≡ suc k) × (p i ≡ true)
member n p zero e = absurd (false≢true e)
member n p (suc k) e =
    ⊎_elim (λ l. (k, l, refl, sym (has_nodes_with n p k l) ∙ e))
    (λ g. absurd (both_ways (has (nodes_with n p) (suc k)) (has_high n (nodes_with n p) (suc k) (nodes_with_lt n p) (omega arith)) e)) (cases_lt k n)

-- a member of a union is one of some set of it
of_union : (m k : ℕ) (p : ℕ → Bool) → has (union_below m p) (suc k) ≡ true → (g : ℕ) × (g < m) × (p g ≡ true) × (has g (suc k) ≡ true)
unfolding union_below
of_union zero k p e = absurd (both_ways (has 0 (suc k)) (has_high 0 0 (suc k) (omega arith) (omega arith)) e)
of_union (suc m) k p e =
    let u = union_below m p in
    let as_if : (b : Bool) → p m ≡ b → has (cond b (bit_or m u) u) (suc k) ≡ true = λ b t. ap (λ c. has (cond c (bit_or m u) u) (suc k)) (sym t) ∙ e in
    let below : has u (suc k) ≡ true → (g : ℕ) × (g < suc m) × (p g ≡ true) × (has g (suc k) ≡ true) = λ h. let (g, l, t, x) = of_union m k p h in (g, omega arith, t, x) in
    ⊎_elim
    (λ t. ⊎_elim (λ in_m. (m, omega arith, t, in_m)) below (or_cases (has m (suc k)) (has u (suc k)) (sym (has_or m u (suc k)) ∙ as_if true t)))
    (λ f. below (as_if false f))
    (cases_Bool (p m))

module _ (t : Trust) (f : ℕ) where
  abbrev n : ℕ
  n = t.size

  wise_at : (i : ℕ) → has (wise_mask t f) i ≡ true → Correct t f i × (tolerates t i f ≡ true)
  wise_at i e =
      let (k, l, is, passes) = member n (wise? t f) i e in
      let (out, tolerant) = and_parts (not (has f i)) (tolerates t i f) passes in
      ((ap (node? n) is ∙ node_at n k l, not-true (has f i) out), tolerant)

  -- a member of the maximal guild is one of some guild
  guild_of : (i : ℕ) → has (max_guild t f) i ≡ true → (k g : ℕ) × (k < n) × (i ≡ suc k) × (g < 2 ^ n) × (guild? t f g ≡ true) × (has g (suc k) ≡ true)
  guild_of zero e = absurd (false≢true e)
  guild_of (suc k) e =
      let (g, l, is_guild, in_g) = of_union (2 ^ n) k (guild? t f) e in
      ⊎_elim (λ low. (k, g, low, refl, l, is_guild, in_g))
      (λ high. absurd (both_ways (has g (suc k)) (has_high n g (suc k) l (omega arith)) in_g)) (cases_lt k n)

  guild_wise : (i : ℕ) → has (max_guild t f) i ≡ true → has (wise_mask t f) i ≡ true
  guild_wise i e =
      let (k, g, l, is, lg, is_guild, in_g) = guild_of i e in
      ap (has (wise_mask t f)) is ∙ inside_at g (wise_mask t f) (suc k) (guild_parts t f g is_guild).0 in_g

  guild_quorum : (i : ℕ) → has (max_guild t f) i ≡ true → holds_quorum t i (max_guild t f) ≡ true
  guild_quorum i e =
      let (k, g, l, is, lg, is_guild, in_g) = guild_of i e in
      let within = inside_from n g (max_guild t f) lg (λ j lj h. in_union (2 ^ n) g (suc j) (guild? t f) lg is_guild h) in
      ap (λ j. holds_quorum t j (max_guild t f)) is
      ∙ quorum_more t (suc k) g (max_guild t f) (union_lt n (2 ^ n) (guild? t f) (omega arith)) within ((guild_parts t f g is_guild).1 k l in_g)

  -- the quorum that a set holds
  quorum_in : (i a : ℕ) → holds_quorum t i a ≡ true → (q : ℕ) × (q < 2 ^ n) × (t.quorum i q ≡ true) × (inside q a ≡ true)
  unfolding holds_quorum
  quorum_in i a e =
      let (q, l, both) = (any_is (2 ^ n) (λ q. t.quorum i q && inside q a)).0 (and_parts (asked? t i a) _ e).1 in
      let (of_i, in_a) = and_parts (t.quorum i q) (inside q a) both in
      (q, l, of_i, in_a)

  tolerated_at : (i : ℕ) → tolerates t i f ≡ true → t.tolerated i f ≡ true
  unfolding tolerates
  tolerated_at i e = (and_parts (asked? t i f) (t.tolerated i f) e).1

  -- soundness at a pair, in words
  consistent_at : (i j q r : ℕ) → consistent t i j ≡ true → q < 2 ^ n → r < 2 ^ n → f < 2 ^ n → t.quorum i q ≡ true → t.quorum j r ≡ true
      → t.tolerated i f ≡ true → t.tolerated j f ≡ true → inside (bit_and q r) f ≡ true → ⊥
  unfolding consistent
  consistent_at i j q r e lq lr lf qi rj ti tj within =
      let at_q = implies (t.quorum i q) _ ((all_is (2 ^ n) _).0 e q lq) qi in
      let at_r = implies (t.quorum j r) _ ((all_is (2 ^ n) _).0 at_q r lr) rj in
      both_ways _ (not-true _ ((all_is (2 ^ n) _).0 at_r f lf)) (and_from (t.tolerated i f && t.tolerated j f) (inside (bit_and q r) f) (and_from (t.tolerated i f) (t.tolerated j f) ti tj) within)

  sound_at : (i j : ℕ) → sound t ≡ true → i < n → j < n → consistent t (suc i) (suc j) ≡ true
  unfolding sound
  sound_at i j e li lj =
      (all_is n (λ j. consistent t (suc i) (suc j))).0
      (and_parts (available t (suc i)) _ ((all_is n (λ i. available t (suc i) && all_below n (λ j. consistent t (suc i) (suc j)))).0 e i li)).1 j lj

  shared : sound t ≡ true → f < 2 ^ n → (i j a b : ℕ) → has (wise_mask t f) i ≡ true → has (wise_mask t f) j ≡ true → holds_quorum t i a ≡ true → holds_quorum t j b ≡ true
      → (c : ℕ) × Correct t f c × (has a c ≡ true) × (has b c ≡ true)
  shared s lf i j a b wi wj qa qb =
      let (k, lk, i_is, _) = member n (wise? t f) i wi in
      let (m, lm, j_is, _) = member n (wise? t f) j wj in
      let (q, lq, of_i, q_in) = quorum_in i a qa in
      let (r, lr, of_j, r_in) = quorum_in j b qb in
      let common : ℕ → Bool = λ c. has a (suc c) && has b (suc c) && not (has f (suc c)) in
      ⊎_elim
      (λ found. let (c, lc, h) = (any_is n common).0 found in
      let (both, out) = and_parts (has a (suc c) && has b (suc c)) (not (has f (suc c))) h in
      let (in_a, in_b) = and_parts (has a (suc c)) (has b (suc c)) both in
      (suc c, (node_at n c lc, not-true (has f (suc c)) out), in_a, in_b))
      (λ none. absurd (consistent_at i j q r (rw (i_is, j_is) (sound_at k m s lk lm)) lq lr lf of_i of_j (tolerated_at i (wise_at i wi).1) (tolerated_at j (wise_at j wj).1)
      (inside_from n (bit_and q r) f (and_lt n q r lq lr) (λ c lc h.
      let (in_q, in_r) = and_parts (has q (suc c)) (has r (suc c)) (sym (has_and q r (suc c)) ∙ h) in
      ⊎_elim (λ in_f. in_f)
      (λ out. absurd (both_ways (any_below n common) none ((any_is n common).1 (
        c,
        lc,
        and_from (has a (suc c) && has b (suc c)) (not (has f (suc c)))
            (and_from (has a (suc c)) (has b (suc c)) (inside_at q a (suc c) q_in in_q) (inside_at r b (suc c) r_in in_r)) (not_from_false (has f (suc c)) out),
      ))))
      (cases_Bool (has f (suc c)))))))
      (cases_Bool (any_below n common))

pub sound_serves : SoundServes
sound_serves t f s lf = record { wise_correct = wise_at t f; guild_wise = guild_wise t f; guild_quorum = guild_quorum t f; shared = shared t f s lf }
