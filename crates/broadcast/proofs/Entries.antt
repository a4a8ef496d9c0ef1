-- The list of what is recorded from each node, and the set of those recorded with a value. Assumes nothing.
use Rattle.std.proofs.Common.{◌≡◌, ℕ, ◌-◌, ◌^◌, ◌<◌, ◌≤◌, true, leb, ◌⊎◌, List, length, get_or, set, Some, None, Option, sym, ap, ◌∙◌, inl, inr, ⊎_elim, arith, length-set, get_or-set_other, get_or-set_same}
use Rattle.std.proofs.lemmas.Bool.{cases_lt, cases_eq, leb-true, le-leb, ltb-true, and_parts, and_from}
use Rattle.sets.specs.Sets.{node?, has, nodes_with}
use Rattle.sets.proofs.Sets.{in_nodes_with, nodes_with_lt}
use Rattle.sets.proofs.Members.{set_is}
use Rattle.protocol.specs.Hearing.{is, entry, recorded_with}
use Rattle.protocol.specs.declared.message.Place.{Place}
use Rattle.broadcast.proofs.Places.{Kept, none_not_some, some_same, is_some, some_is}

pub node_bounds : (n i : ℕ) → node? n i ≡ true → (1 ≤ i) × (i ≤ n)
node_bounds n i e = let (a, b) = and_parts (leb 1 i) (leb i n) e in (leb-true 1 i a, leb-true i n b)

pub node_from : (n i : ℕ) → 1 ≤ i → i ≤ n → node? n i ≡ true
node_from n i low high = and_from (leb 1 i) (leb i n) (le-leb 1 i low) (le-leb i n high)

pub node_up : (m n i : ℕ) → m ≤ n → node? m i ≡ true → node? n i ≡ true
node_up m n i le e = let (low, high) = node_bounds m i e in node_from n i low (omega arith)

-- the nodes of which f has v
pub in_set : (f : ℕ → Option Place) (v : Place) (i : ℕ) → has (nodes_with 16 (λ j. is v (f j))) i ≡ true → (node? 16 i ≡ true) × (f i ≡ Some v)
in_set f v i e =
    let (in_range, there) = and_parts (node? 16 i) (is v (f i)) (sym (in_nodes_with 16 (λ j. is v (f j)) i) ∙ e) in
    (in_range, is_some v (f i) there)

pub set_has : (f : ℕ → Option Place) (v : Place) (i : ℕ) → node? 16 i ≡ true → f i ≡ Some v → has (nodes_with 16 (λ j. is v (f j))) i ≡ true
set_has f v i in_range e = in_nodes_with 16 (λ j. is v (f j)) i ∙ and_from (node? 16 i) (is v (f i)) in_range (some_is v (f i) e)

-- a list with an entry for each of the nodes 1 to n, and nothing from others
abbrev pub Fit : ℕ → List (Option Place) → Type 0
Fit n xs = (n ≤ length xs) × ((k : ℕ) → n ≤ k → get_or xs k None ≡ None)

-- those recorded with a value are among the nodes 1 to n
pub recorded_lt : (n : ℕ) (xs : List (Option Place)) (v : Place) → Fit n xs → recorded_with xs v < 2 ^ n
recorded_lt n xs v (long, out) =
    ltb-true (recorded_with xs v) (2 ^ n) ((set_is 16 n (recorded_with xs v) (nodes_with_lt 16 (λ i. is v (entry xs i)))).1 low)
  where
    low : (k : ℕ) → has (recorded_with xs v) k ≡ true → k ≤ n
    low k h =
        let (in_range, e) = in_set (entry xs) v k h in
        let (from_one, _) = node_bounds 16 k in_range in
        ⊎_elim (λ past. absurd (none_not_some (sym (out (k - 1) (omega arith)) ∙ e))) (λ le. le) (cases_lt n k)

-- v is recorded from j, one of the nodes 1 to n
module _ (n : ℕ) (xs : List (Option Place)) (j : ℕ) (v : Place) (fit : Fit n xs) (in_range : node? n j ≡ true) where
  abbrev ys : List (Option Place)
  ys = set xs (j - 1) (Some v)

  pub entry_here : entry ys j ≡ Some v
  entry_here = let (low, high) = node_bounds n j in_range in get_or-set_same xs (j - 1) (Some v) None (omega (arith, fit.0))

  pub entry_other : (i : ℕ) → 1 ≤ i → (i ≡ j → ⊥) → entry ys i ≡ entry xs i
  entry_other i low ne = let (j_low, _) = node_bounds n j in_range in get_or-set_other xs (j - 1) (i - 1) (Some v) None (λ e. ne (omega arith))

  pub fit_set : Fit n ys
  fit_set =
      let (low, high) = node_bounds n j in_range in
      (omega (arith, fit.0, length-set xs (j - 1) (Some v)), λ k le. get_or-set_other xs (j - 1) k (Some v) None (λ e. omega arith) ∙ fit.1 k le)

  module _ (free : entry xs j ≡ None) where
    pub entry_kept : (i : ℕ) → Kept (entry xs i) (entry ys i)
    entry_kept i u e =
        ⊎_elim (λ same. absurd (none_not_some (sym free ∙ ap (λ k. get_or xs k None) (sym same) ∙ e)))
        (λ ne. get_or-set_other xs (j - 1) (i - 1) (Some v) None ne ∙ e) (cases_eq (i - 1) (j - 1))

    pub entry_new : (i : ℕ) (u : Place) → 1 ≤ i → entry ys i ≡ Some u → (entry xs i ≡ Some u) ⊎ ((i ≡ j) × (v ≡ u))
    entry_new i u low e =
        ⊎_elim (λ same. inr (same, some_same entry_here (ap (entry ys) (sym same) ∙ e)))
        (λ ne. inl (sym (entry_other i low ne) ∙ e)) (cases_eq i j)
