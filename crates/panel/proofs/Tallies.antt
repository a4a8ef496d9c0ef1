-- A loop over the slots that counts a node's deliveries of an account, those that count and those that are left out.
use Rattle.std.proofs.Common.{◌≡◌, ℕ, zero, suc, ◌+◌, ◌≤◌, List, [], ◌∷◌, length, get_or, take, Bool, true, false, cond, not, ◌&&◌, sym, refl, ap, ◌∙◌, ap₂, add-one, arith}
use Rattle.std.specs.List.{list_all}
use Rattle.std.proofs.lemmas.List.Folds.{list_all-append}
use Rattle.std.proofs.Math.Seq.{take-suc}
use Rattle.sets.specs.Sets.{all_below}
use Rattle.runs.specs.Values.{Values}
use Rattle.runs.specs.Calls.{State}
use Rattle.runs.specs.Readings.{held, counts?, of_account, count_below, tally_of}
use Rattle.panel.specs.Boards.{of_slots}

count_more : (p : ℕ → Bool) (i m n : ℕ) (b : Bool) → m ≡ count_below i p → p i ≡ b → n ≡ m + cond b 1 0 → n ≡ count_below (i + 1) p
unfolding count_below
count_more p i m n b so_far is adds =
    let e : cond {A = ℕ} (p i) 1 0 ≡ cond b 1 0 = ap (λ t. cond t 1 0) is in
    rw add-one (omega arith)

and_turned : (a b : Bool) → (a && (b && true)) ≡ (b && a)
and_turned true true = refl
and_turned true false = refl
and_turned false true = refl
and_turned false false = refl

-- each of the first elements of a list passes
pub all_lower : {X : Type 0} (p : X → Bool) (xs : List X) (d : X) (n : ℕ) → n ≤ length xs → list_all p (take n xs) ≡ all_below n (λ k. p (get_or xs k d))
unfolding all_below
all_lower p xs d zero le = refl
all_lower p xs d (suc n) le =
    ap (list_all p) (take-suc xs n d le) ∙ list_all-append p (take n xs) (get_or xs n d ∷ [])
    ∙ ap (λ a. a && (p (get_or xs n d) && true)) (all_lower p xs d n (omega arith)) ∙ and_turned (all_below n (λ k. p (get_or xs k d))) (p (get_or xs n d))

module _ {V : Type 0} (values : Values V) (x : State V) (node account : ℕ) where
  abbrev pub tally_below : ℕ → ℕ × ℕ
  tally_below i = tally_of values (of_slots i) x node account

  pub tally_none : (0, 0) ≡ tally_below 0
  unfolding count_below
  tally_none = refl

  pub tally_all : (y : ℕ × ℕ) (i n : ℕ) → y ≡ tally_below i → i ≤ n → n ≤ i → y ≡ tally_below n
  tally_all y i n so_far le ge = let e : n ≡ i = omega arith in rw e so_far

  abbrev of? : ℕ → Bool
  of? s = of_account values account (held values x node s)

  abbrev first? : ℕ → Bool
  first? s = counts? values x node s

  -- the turn at slot i, from m and n to k and l
  module _ (i m n k l : ℕ) (so_far : (m, n) ≡ tally_below i) (a : Bool) (of : a ≡ of? i) where
    turn : (d e : Bool) → (of? i && first? i) ≡ d → (of? i && not (first? i)) ≡ e → k ≡ m + cond d 1 0 → l ≡ n + cond e 1 0 → (k, l) ≡ tally_below (i + 1)
    turn d e at_d at_e more_k more_l =
        let pair : ℕ → ℕ → ℕ × ℕ = λ y z. (y, z) in
        ap₂ pair (count_more (λ s. of? s && first? s) i m k d (ap (λ y. y.0) so_far) at_d more_k)
        (count_more (λ s. of? s && not (first? s)) i n l e (ap (λ y. y.1) so_far) at_e more_l)

    pub tally_other : a ≡ false → k ≡ m → l ≡ n → (k, l) ≡ tally_below (i + 1)
    tally_other t same_k same_l =
        let none = sym of ∙ t in
        turn false false (ap (λ y. y && first? i) none) (ap (λ y. y && not (first? i)) none) (omega arith) (omega arith)

    module _ (b : Bool) (first : b ≡ first? i) where
      pub tally_counted : a ≡ true → b ≡ true → k ≡ m + 1 → l ≡ n → (k, l) ≡ tally_below (i + 1)
      tally_counted t u more_k same_l =
          let y = sym of ∙ t in
          let z = sym first ∙ u in
          turn true false (ap₂ (λ y z. y && z) y z) (ap₂ (λ y z. y && not z) y z) more_k (omega arith)

      pub tally_left_out : a ≡ true → b ≡ false → k ≡ m → l ≡ n + 1 → (k, l) ≡ tally_below (i + 1)
      tally_left_out t u same_k more_l =
          let y = sym of ∙ t in
          let z = sym first ∙ u in
          turn false true (ap₂ (λ y z. y && z) y z) (ap₂ (λ y z. y && not z) y z) (omega arith) more_l
