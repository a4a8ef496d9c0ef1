-- Searches over a list of sets, and over all sets of which the listed ones count. Assumes nothing.
use Rattle.std.proofs.Common.{◌≡◌, ℕ, zero, suc, ◌^◌, ◌<◌, ◌≤◌, Bool, true, false, not, ◌&&◌, ◌||◌, eqb, ltb, List, [], ◌∷◌, length, get_or, sym, refl, ap, ◌∙◌, ⊎_elim, arith}
use Rattle.std.proofs.lemmas.Bool.{cases_Bool, eqb-true, eq-eqb, ltb-true, and_parts, and_from, or_cases, or_left, or_right, false≢true, both_ways}
use Rattle.sets.specs.Sets.{inside, any_below, all_below}
use Rattle.sets.specs.Lists.{any_of, all_of, listed?, of_nodes?}
use Rattle.sets.proofs.Tests.{any_is, all_is, same_answer, implies, implies_from}
use Rattle.sets.proofs.Sets.{inside_self}

-- the k-th of a list passes
abbrev pub At : List ℕ → (ℕ → Bool) → ℕ → Type 0
At xs p k = p (get_or xs k 0) ≡ true

pub any_of_from : (xs : List ℕ) (p : ℕ → Bool) (k : ℕ) → k < length xs → At xs p k → any_of xs p ≡ true
any_of_from [] p k l e = absurd (omega arith)
any_of_from (x ∷ xs) p zero l e = or_left (p x) (any_of xs p) e
any_of_from (x ∷ xs) p (suc k) l e = or_right (p x) (any_of xs p) (any_of_from xs p k (omega arith) e)

pub any_of_at : (xs : List ℕ) (p : ℕ → Bool) → any_of xs p ≡ true → (k : ℕ) × (k < length xs) × At xs p k
any_of_at [] p e = absurd (false≢true e)
any_of_at (x ∷ xs) p e =
    ⊎_elim (λ h. (0, omega arith, h)) (λ h. let (k, l, t) = any_of_at xs p h in (suc k, omega arith, t)) (or_cases (p x) (any_of xs p) e)

pub all_of_at : (xs : List ℕ) (p : ℕ → Bool) → all_of xs p ≡ true → (k : ℕ) → k < length xs → At xs p k
all_of_at [] p e k l = absurd (omega arith)
all_of_at (x ∷ xs) p e zero l = (and_parts (p x) (all_of xs p) e).0
all_of_at (x ∷ xs) p e (suc k) l = all_of_at xs p (and_parts (p x) (all_of xs p) e).1 k (omega arith)

pub all_of_from : (xs : List ℕ) (p : ℕ → Bool) → ((k : ℕ) → k < length xs → At xs p k) → all_of xs p ≡ true
all_of_from [] p h = refl
all_of_from (x ∷ xs) p h = and_from (p x) (all_of xs p) (h 0 (omega arith)) (all_of_from xs p (λ k l. h (suc k) (omega arith)))

-- what a loop leaves behind: nothing passed, or something did not
pub none_of : (xs : List ℕ) (p : ℕ → Bool) → ((k : ℕ) → k < length xs → p (get_or xs k 0) ≡ false) → any_of xs p ≡ false
none_of xs p h =
    ⊎_elim (λ e. let (k, l, t) = any_of_at xs p e in absurd (both_ways (p (get_or xs k 0)) (h k l) t)) (λ e. e) (cases_Bool (any_of xs p))

pub not_all_of : (xs : List ℕ) (p : ℕ → Bool) (k : ℕ) → k < length xs → p (get_or xs k 0) ≡ false → all_of xs p ≡ false
not_all_of xs p k l e =
    ⊎_elim (λ t. absurd (both_ways (p (get_or xs k 0)) e (all_of_at xs p t k l))) (λ f. f) (cases_Bool (all_of xs p))

not_both : (a b : Bool) → (not a || not b) ≡ not (a && b)
not_both true b = refl
not_both false b = refl

-- some fail, where not all pass
pub any_not : (xs : List ℕ) (p : ℕ → Bool) → any_of xs (λ x. not (p x)) ≡ not (all_of xs p)
any_not [] p = refl
any_not (x ∷ xs) p = ap (λ b. not (p x) || b) (any_not xs p) ∙ not_both (p x) (all_of xs p)

-- the same test by other words
pub all_of_same : (xs : List ℕ) (p q : ℕ → Bool) → ((k : ℕ) → k < length xs → p (get_or xs k 0) ≡ q (get_or xs k 0)) → all_of xs p ≡ all_of xs q
all_of_same xs p q h =
    same_answer (all_of xs p) (all_of xs q) (λ e. all_of_from xs q (λ k l. sym (h k l) ∙ all_of_at xs p e k l)) (λ e. all_of_from xs p (λ k l. h k l ∙ all_of_at xs q e k l))

pub all_below_same : (n : ℕ) (p q : ℕ → Bool) → ((k : ℕ) → k < n → p k ≡ q k) → all_below n p ≡ all_below n q
all_below_same n p q h =
    same_answer (all_below n p) (all_below n q) (λ e. (all_is n q).1 (λ k l. sym (h k l) ∙ (all_is n p).0 e k l)) (λ e. (all_is n p).1 (λ k l. h k l ∙ (all_is n q).0 e k l))

-- a list of sets of the nodes 1 to n
module _ (n : ℕ) (xs : List ℕ) (fit : of_nodes? n xs ≡ true) where
  pub listed_lt : (k : ℕ) → k < length xs → get_or xs k 0 < 2 ^ n
  listed_lt k l = ltb-true (get_or xs k 0) (2 ^ n) (all_of_at xs (λ x. ltb x (2 ^ n)) fit k l)

  -- some listed set passes
  pub any_listed : (p : ℕ → Bool) → any_below (2 ^ n) (λ s. listed? xs s && p s) ≡ any_of xs p
  any_listed p =
      same_answer _ (any_of xs p)
      (λ e. let (s, l, both) = (any_is (2 ^ n) (λ s. listed? xs s && p s)).0 e in
      let (here, passes) = and_parts (listed? xs s) (p s) both in
      let (k, lk, same) = any_of_at xs (λ x. eqb x s) here in
      any_of_from xs p k lk (ap p (eqb-true (get_or xs k 0) s same) ∙ passes))
      (λ e. let (k, lk, passes) = any_of_at xs p e in
      let s = get_or xs k 0 in
      (any_is (2 ^ n) (λ s. listed? xs s && p s)).1 (s, listed_lt k lk, and_from (listed? xs s) (p s) (any_of_from xs (λ x. eqb x s) k lk (eq-eqb s s refl)) passes))

  -- every listed set passes
  pub all_listed : (p : ℕ → Bool) → all_below (2 ^ n) (λ s. not (listed? xs s) || p s) ≡ all_of xs p
  all_listed p =
      same_answer _ (all_of xs p)
      (λ e. all_of_from xs p (λ k lk. let s = get_or xs k 0 in
      implies (listed? xs s) (p s) ((all_is (2 ^ n) (λ s. not (listed? xs s) || p s)).0 e s (listed_lt k lk)) (any_of_from xs (λ x. eqb x s) k lk (eq-eqb s s refl))))
      (λ e. (all_is (2 ^ n) (λ s. not (listed? xs s) || p s)).1 (λ s l. implies_from (listed? xs s) (p s) (λ here.
      let (k, lk, same) = any_of_at xs (λ x. eqb x s) here in
      ap p (sym (eqb-true (get_or xs k 0) s same)) ∙ all_of_at xs p e k lk)))

  -- every part of a listed set passes, where what passes of a set passes of its parts
  pub all_parts : (p : ℕ → Bool) → ((a b : ℕ) → a < 2 ^ n → b < 2 ^ n → inside a b ≡ true → p b ≡ true → p a ≡ true)
      → all_below (2 ^ n) (λ s. not (any_of xs (λ x. inside s x)) || p s) ≡ all_of xs p
  all_parts p down =
      same_answer _ (all_of xs p)
      (λ e. all_of_from xs p (λ k lk. let s = get_or xs k 0 in
      implies (any_of xs (λ x. inside s x)) (p s) ((all_is (2 ^ n) (λ s. not (any_of xs (λ x. inside s x)) || p s)).0 e s (listed_lt k lk)) (any_of_from xs (λ x. inside s x) k lk (inside_self s))))
      (λ e. (all_is (2 ^ n) (λ s. not (any_of xs (λ x. inside s x)) || p s)).1 (λ s l. implies_from (any_of xs (λ x. inside s x)) (p s) (λ part.
      let (k, lk, within) = any_of_at xs (λ x. inside s x) part in
      down s (get_or xs k 0) l (listed_lt k lk) within (all_of_at xs p e k lk))))

-- the ends of a loop that searches a list
module _ (xs : List ℕ) (p : ℕ → Bool) (i : ℕ) where
  pub found : i < length xs → true ≡ p (get_or xs i 0) → true ≡ any_of xs p
  found l e = sym (any_of_from xs p i l (sym e))

  pub broken : i < length xs → false ≡ p (get_or xs i 0) → false ≡ all_of xs p
  broken l e = sym (not_all_of xs p i l (sym e))

  pub found_none : length xs ≤ i → ((k : ℕ) → k < i → p (get_or xs k 0) ≡ false) → false ≡ any_of xs p
  found_none le h = sym (none_of xs p (λ k l. h k (omega arith)))

  pub held : length xs ≤ i → ((k : ℕ) → k < i → p (get_or xs k 0) ≡ true) → true ≡ all_of xs p
  held le h = sym (all_of_from xs p (λ k l. h k (omega arith)))
