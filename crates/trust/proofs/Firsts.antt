-- The first node and the first pair that fail, in words: there is one answer alone. Assumes nothing.
use Rattle.std.proofs.Common.{◌≡◌, ℕ, zero, suc, ◌+◌, ◌<◌, ◌≤◌, Bool, true, false, cond, List, length, get_or, sym, refl, ap, ◌∙◌, inl, inr, ⊎_elim, ap₂, add-one, arith}
use Rattle.std.proofs.lemmas.Bool.{cases_eq, cases_order, both_ways}
use Rattle.std.specs.Prelude.{Some, None, Option}
use Rattle.std.specs.Option.{option_or, option_map, MatchOption}
use Rattle.std.specs.List.{AllWithin, HoldsAt}
use Rattle.sets.specs.declared.Node.{Node}
use Rattle.trust.specs.Judging.{failing_node, with_first, first_node, first_pair, FirstNode, Before, FirstPair}

-- in words

node_step : (n : ℕ) (p : ℕ → Bool) (v : Option Node) (b : Bool) → p (suc n) ≡ b → FirstNode n p v → FirstNode (suc n) p (option_or v (cond b None (failing_node (suc n))))
node_step n p (Some i) b e (low, high, fails, before) = (low, omega arith, fails, before)
node_step n p None true e all = λ k low high. ⊎_elim (λ same. ap p same ∙ e) (λ ne. all k low (omega arith)) (cases_eq k (suc n))
node_step n p None false e all = (omega arith, omega arith, e, λ k low l. all k low (omega arith))

pub node_says : (n : ℕ) (p : ℕ → Bool) → FirstNode n p (first_node n p)
unfolding first_node
node_says zero p = λ k low high. absurd (omega arith)
node_says (suc n) p = node_step n p (first_node n p) (p (suc n)) refl (node_says n p)

pair_step : (m n : ℕ) (p : ℕ → ℕ → Bool) (v : Option (Node × Node)) (r : Option Node) → FirstNode n (p (suc m)) r → FirstPair m n p v → FirstPair (suc m) n p (option_or v (with_first (suc m) r))
pair_step m n p (Some (i, j)) r row (low, high, low_j, high_j, fails, before) = (low, omega arith, low_j, high_j, fails, before)
pair_step m n p None None row all = λ a b la ha lb hb. ⊎_elim (λ same. ap (λ i. p i b) same ∙ row b lb hb) (λ ne. all a b la (omega arith) lb hb) (cases_eq a (suc m))
pair_step m n p None (Some j) (low, high, fails, before) all = (
  omega arith,
  omega arith,
  low,
  high,
  fails,
  λ a b la lb hb. ⊎_elim (λ l. all a b la (omega arith) lb hb) (λ (same, l). ap (λ i. p i b) same ∙ before b lb l),
)

pub pair_says : (m n : ℕ) (p : ℕ → ℕ → Bool) → FirstPair m n p (first_pair m n p)
unfolding first_pair
pair_says zero n p = λ a b la ha lb hb. absurd (omega arith)
pair_says (suc m) n p = pair_step m n p (first_pair m n p) (first_node n (p (suc m))) (node_says n (p (suc m))) (pair_says m n p)

-- what the words say of is one answer alone

same_node : (n : ℕ) (p : ℕ → Bool) (v w : Option Node) → FirstNode n p v → FirstNode n p w → v ≡ w
same_node n p None None v w = refl
same_node n p None (Some j) v (low, high, fails, before) = absurd (both_ways (p j.0) fails (v j.0 low high))
same_node n p (Some i) None (low, high, fails, before) w = absurd (both_ways (p i.0) fails (w i.0 low high))
same_node n p (Some i) (Some j) (low, high, fails, before) (low_j, high_j, fails_j, before_j) =
    ⊎_elim (λ e. ap (λ k. Some (record { 0 = k })) e)
    (⊎_elim (λ l. absurd (both_ways (p i.0) fails (before_j i.0 low l))) (λ l. absurd (both_ways (p j.0) fails_j (before j.0 low_j l)))) (cases_order i.0 j.0)

pub only_node : (n : ℕ) (p : ℕ → Bool) (v : Option Node) → FirstNode n p v → v ≡ first_node n p
only_node n p v says = same_node n p v (first_node n p) says (node_says n p)

same_pair : (m n : ℕ) (p : ℕ → ℕ → Bool) (v w : Option (Node × Node)) → FirstPair m n p v → FirstPair m n p w → v ≡ w
same_pair m n p None None v w = refl
same_pair m n p None (Some (a, b)) v (la, ha, lb, hb, g, before_w) = absurd (both_ways (p a.0 b.0) g (v a.0 b.0 la ha lb hb))
same_pair m n p (Some (i, j)) None (li, hi, lj, hj, f, before) w = absurd (both_ways (p i.0 j.0) f (w i.0 j.0 li hi lj hj))
same_pair m n p (Some (i, j)) (Some (a, b)) (li, hi, lj, hj, f, before) (la, ha, lb, hb, g, before_w) =
    ⊎_elim
    (λ e. ⊎_elim (λ e_j. ap₂ (λ k l. Some (record { 0 = k }, record { 0 = l })) e e_j)
    (⊎_elim (λ l. absurd (both_ways (p i.0 j.0) f (before_w i.0 j.0 li lj hj (inr (e, l))))) (λ l. absurd (both_ways (p a.0 b.0) g (before a.0 b.0 la lb hb (inr (sym e, l)))))) (cases_order j.0 b.0))
    (⊎_elim (λ l. absurd (both_ways (p i.0 j.0) f (before_w i.0 j.0 li lj hj (inl l)))) (λ l. absurd (both_ways (p a.0 b.0) g (before a.0 b.0 la lb hb (inl l))))) (cases_order i.0 a.0)

pub only_pair : (m n : ℕ) (p : ℕ → ℕ → Bool) (v : Option (Node × Node)) → FirstPair m n p v → v ≡ first_pair m n p
only_pair m n p v says = same_pair m n p v (first_pair m n p) says (pair_says m n p)

-- the same test by other words
by : (m n : ℕ) (p q : ℕ → ℕ → Bool) → ((k j : ℕ) → k < m → j < n → p (suc k) (suc j) ≡ q (suc k) (suc j)) → (a b : ℕ) → 1 ≤ a → a ≤ m → 1 ≤ b → b ≤ n → q a b ≡ p a b
by m n p q same zero b la ha lb hb = absurd (omega arith)
by m n p q same (suc k) zero la ha lb hb = absurd (omega arith)
by m n p q same (suc k) (suc j) la ha lb hb = sym (same k j (omega arith) (omega arith))

before_le : (m a b i j : ℕ) → i ≤ m → Before a b i j → a ≤ m
before_le m a b i j le = ⊎_elim (λ l. omega arith) (λ (e, l). omega arith)

pair_by : (m n : ℕ) (p q : ℕ → ℕ → Bool) → ((k j : ℕ) → k < m → j < n → p (suc k) (suc j) ≡ q (suc k) (suc j)) → (v : Option (Node × Node)) → FirstPair m n p v → FirstPair m n q v
pair_by m n p q same None all = λ a b la ha lb hb. by m n p q same a b la ha lb hb ∙ all a b la ha lb hb
pair_by m n p q same (Some (i, j)) (li, hi, lj, hj, fails, before) =
    (li, hi, lj, hj, by m n p q same i.0 j.0 li hi lj hj ∙ fails, λ a b la lb hb earlier. by m n p q same a b la (before_le m a b i.0 j.0 hi earlier) lb hb ∙ before a b la lb hb earlier)

pub same_pairs : (m n : ℕ) (p q : ℕ → ℕ → Bool) → ((k j : ℕ) → k < m → j < n → p (suc k) (suc j) ≡ q (suc k) (suc j)) → first_pair m n p ≡ first_pair m n q
same_pairs m n p q same = only_pair m n q (first_pair m n p) (pair_by m n p q same (first_pair m n p) (pair_says m n p))

-- node k + 1 is the k-th of a list
abbrev pub node_after : ℕ → Node
node_after k = record { 0 = k + 1 }

-- a search of a list, in words of nodes
module _ {X : Type 0} (ts : List X) (d : X) (q : X → Bool) (n : ℕ) (p : ℕ → Bool) (len : length ts ≡ n) (same : (k : ℕ) → k < n → p (suc k) ≡ q (get_or ts k d)) where
  before : (i : ℕ) → i ≤ n → AllWithin (λ t. q t ≡ true) ts 0 i → (k : ℕ) → 1 ≤ k → k ≤ i → p k ≡ true
  before i le all zero low high = absurd (omega arith)
  before i le all (suc k) low high = same k (omega arith) ∙ all k d (omega arith) (omega arith)

  pub place_says :
      (r : Option ℕ)
      → MatchOption r (AllWithin (λ t. q t ≡ true) ts 0 (length ts)) (λ i. (i < length ts) × HoldsAt (λ t. q t ≡ false) ts i × AllWithin (λ t. q t ≡ true) ts 0 i)
      → FirstNode n p (option_map node_after r)
  place_says None all = λ k low high. before (length ts) (omega arith) all k low (omega arith)
  place_says (Some i) (l, fails, passed) =
      (omega arith, omega arith, ap p (add-one i) ∙ same i (omega arith) ∙ fails d, λ k low high. before i (omega arith) passed k low (omega arith))

-- a node after nodes that passed
pub next_node : (n : ℕ) (p : ℕ → Bool) (k : ℕ) → k < n → FirstNode k p None → p (suc k) ≡ false → Some (node_after k) ≡ first_node n p
next_node n p k l passed fails =
    only_node n p (Some (node_after k)) (omega arith, omega arith, ap p (add-one k) ∙ fails, λ i low high. passed i low (omega arith))

pub passed_node : (p : ℕ → Bool) (k : ℕ) → FirstNode k p None → p (suc k) ≡ true → FirstNode (k + 1) p None
passed_node p k passed here = λ i low high. ⊎_elim (λ same. ap p same ∙ here) (λ ne. passed i low (omega arith)) (cases_eq i (suc k))

-- a row after rows that passed
pub next_row : (m n : ℕ) (p : ℕ → ℕ → Bool) (k : ℕ) (j : Node) → k < m → FirstPair k n p None → FirstNode n (p (suc k)) (Some j) → Some (node_after k, j) ≡ first_pair m n p
next_row m n p k j l passed (low, high, fails, before) =
    only_pair m n p (Some (node_after k, j)) (
      omega arith,
      omega arith,
      low,
      high,
      ap (λ i. p i j.0) (add-one k) ∙ fails,
      λ a b la lb hb. ⊎_elim (λ less. passed a b la (omega arith) lb hb) (λ (same, less). ap (λ i. p i b) (same ∙ add-one k) ∙ before b lb less),
    )

pub passed_row : (n : ℕ) (p : ℕ → ℕ → Bool) (k : ℕ) → FirstPair k n p None → FirstNode n (p (suc k)) None → FirstPair (k + 1) n p None
passed_row n p k passed row = λ a b la ha lb hb. ⊎_elim (λ same. ap (λ i. p i b) same ∙ row b lb hb) (λ ne. passed a b la (omega arith) lb hb) (cases_eq a (suc k))
