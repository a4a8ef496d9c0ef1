-- Leaving out, again and again, those that hold no quorum ends at the union of all guilds. Assumes nothing.
use Rattle.std.proofs.Common.{◌≡◌, ℕ, zero, suc, ◌^◌, ◌<◌, ◌≤◌, Bool, true, not, ◌&&◌, ◌||◌, sym, ap, ◌∙◌, ⊎_elim, arith}
use lib.Bits.{bit_and, bit_or, and_zero_l, or_lt}
use Rattle.std.proofs.lemmas.Nat.{pow_pos}
use Rattle.std.proofs.lemmas.Bool.{cases_eq, and_parts, and_from, or_left, or_right, lt-ltb, eq-eqb, cond_both}
use Rattle.sets.specs.Sets.{node?, set?, has, inside}
use Rattle.sets.proofs.Tests.{any_is, all_is, implies, implies_from}
use Rattle.sets.proofs.Sets.{inside_at, inside_from, inside_self, inside_trans, inside_both, or_inside, has_or, nodes_with_lt, has_nodes_with}
use Rattle.trust.specs.Trust.{Trust, holds_quorum}
use Rattle.trust.specs.Keeping.{keep, keep?}
use Rattle.trust.specs.Sorting.{wise?, wise_mask, guild?, union_below, max_guild}

-- unions

pub union_lt : (n m : ℕ) (p : ℕ → Bool) → m ≤ 2 ^ n → union_below m p < 2 ^ n
unfolding union_below
union_lt n zero p le = pow_pos n
union_lt n (suc m) p le =
    let rest = union_lt n m p (omega arith) in
    cond_both (p m) (bit_or m (union_below m p)) (union_below m p) (λ x. x < 2 ^ n) (λ _. or_lt n m (union_below m p) (omega arith) rest) (λ _. rest)

pub union_inside : (n m c : ℕ) (p : ℕ → Bool) → m ≤ 2 ^ n → ((g : ℕ) → g < m → p g ≡ true → inside g c ≡ true) → inside (union_below m p) c ≡ true
unfolding union_below
union_inside n zero c p le h = eq-eqb (bit_and 0 c) 0 (and_zero_l c)
union_inside n (suc m) c p le h =
    let rest = union_inside n m c p (omega arith) (λ g l. h g (omega arith)) in
    cond_both (p m) (bit_or m (union_below m p)) (union_below m p) (λ x. inside x c ≡ true)
    (λ e. or_inside n m (union_below m p) c (omega arith) (union_lt n m p (omega arith)) (h m (omega arith) e) rest) (λ _. rest)

pub in_union : (m g k : ℕ) (p : ℕ → Bool) → g < m → p g ≡ true → has g k ≡ true → has (union_below m p) k ≡ true
unfolding union_below
in_union zero g k p l e h = absurd (omega arith)
in_union (suc m) g k p l e h =
    let u = union_below m p in
    ⊎_elim
    (λ same. let pm : p m ≡ true = ap p (sym same) ∙ e in
    rw pm (has_or m u k ∙ or_left (has m k) (has u k) (ap (λ x. has x k) (sym same) ∙ h)))
    (λ ne. let rest = in_union m g k p (omega arith) e h in
    cond_both (p m) (bit_or m u) u (λ x. has x k ≡ true) (λ _. has_or m u k ∙ or_right (has m k) (has u k) rest) (λ _. rest))
    (cases_eq g m)

module _ (t : Trust) where
  abbrev n : ℕ
  n = t.size

  -- a larger set holds a quorum too
  pub quorum_more : (i g h : ℕ) → h < 2 ^ n → inside g h ≡ true → holds_quorum t i g ≡ true → holds_quorum t i h ≡ true
  unfolding holds_quorum
  quorum_more i g h lt within e =
      let (asked, some) = and_parts _ _ e in
      let (q, l, both) = (any_is (2 ^ n) (λ x. t.quorum i x && inside x g)).0 some in
      let (of_i, in_g) = and_parts (t.quorum i q) (inside q g) both in
      and_from _ _ (and_from (node? n i) (set? n h) (and_parts (node? n i) (set? n g) asked).0 (lt-ltb h (2 ^ n) lt))
      ((any_is (2 ^ n) (λ x. t.quorum i x && inside x h)).1 (q, l, and_from (t.quorum i q) (inside q h) of_i (inside_trans n q g h l in_g within)))

  keep_lt : (g : ℕ) → keep t g < 2 ^ n
  keep_lt g = nodes_with_lt n (keep? t g)

  pub keep_inside : (g : ℕ) → inside (keep t g) g ≡ true
  keep_inside g = inside_from n (keep t g) g (keep_lt g) (λ k l h. (and_parts (has g (suc k)) (holds_quorum t (suc k) g) (sym (has_nodes_with n (keep? t g) k l) ∙ h)).0)

  module _ (f : ℕ) where
    pub guild_parts : (g : ℕ) → guild? t f g ≡ true → (inside g (wise_mask t f) ≡ true) × ((k : ℕ) → k < n → has g (suc k) ≡ true → holds_quorum t (suc k) g ≡ true)
    unfolding guild?
    guild_parts g e =
        let (wise, each) = and_parts _ _ e in
        (wise, λ k l h. implies (has g (suc k)) _ ((all_is n (λ j. not (has g (suc j)) || holds_quorum t (suc j) g)).0 each k l) h)

    -- every guild is inside g
    abbrev HoldsGuilds : ℕ → Type 0
    HoldsGuilds g = (h : ℕ) → h < 2 ^ n → guild? t f h ≡ true → inside h g ≡ true

    wise_holds : HoldsGuilds (wise_mask t f)
    wise_holds h lt e = (guild_parts h e).0

    -- no guild loses a member
    keep_holds : (g : ℕ) → g < 2 ^ n → HoldsGuilds g → HoldsGuilds (keep t g)
    keep_holds g lt all h lh e =
        let within = all h lh e in
        inside_from n h (keep t g) lh (λ k l member.
        has_nodes_with n (keep? t g) k l
        ∙ and_from (has g (suc k)) (holds_quorum t (suc k) g) (inside_at h g (suc k) within member) (quorum_more (suc k) h g lt within ((guild_parts h e).1 k l member)))

    -- where nobody is left out, a guild is left
    fixed_guild : (g : ℕ) → inside g (wise_mask t f) ≡ true → keep t g ≡ g → guild? t f g ≡ true
    unfolding guild?
    fixed_guild g wise e =
        and_from _ _ wise ((all_is n (λ j. not (has g (suc j)) || holds_quorum t (suc j) g)).1 (λ k l. implies_from (has g (suc k)) (holds_quorum t (suc k) g) (λ h.
        (and_parts (has g (suc k)) (holds_quorum t (suc k) g) (sym (has_nodes_with n (keep? t g) k l) ∙ ap (λ x. has x (suc k)) e ∙ h)).1)))

    -- what each round keeps: wise nodes, and every guild among them
    abbrev pub Narrows : ℕ → Type 0
    Narrows g = (g < 2 ^ n) × (inside g (wise_mask t f) ≡ true) × HoldsGuilds g

    pub narrows_wise : Narrows (wise_mask t f)
    narrows_wise = (nodes_with_lt n (wise? t f), inside_self (wise_mask t f), wise_holds)

    pub narrows_keep : (g : ℕ) → Narrows g → Narrows (keep t g)
    narrows_keep g (lt, wise, all) = (keep_lt g, inside_trans n (keep t g) g (wise_mask t f) (keep_lt g) (keep_inside g) wise, keep_holds g lt all)

    pub largest_guild : (g : ℕ) → Narrows g → keep t g ≡ g → g ≡ max_guild t f
    largest_guild g (lt, wise, all) e =
        inside_both n g (max_guild t f) lt (union_lt n (2 ^ n) (guild? t f) (omega arith))
        (inside_from n g (max_guild t f) lt (λ k l h. in_union (2 ^ n) g (suc k) (guild? t f) lt (fixed_guild g wise e) h))
        (union_inside n (2 ^ n) g (guild? t f) (omega arith) all)
