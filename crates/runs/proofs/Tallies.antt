-- Tallies and counting slots go by what a node holds alone, and a held claim counts in the lowest slot that has it. Assumes nothing.
use Rattle.std.proofs.Common.{◌≡◌, ℕ, zero, suc, ◌+◌, ◌<◌, Bool, true, false, cond, not, ◌&&◌, eqb, ◌⊎◌, Some, None, Option, sym, refl, ap, ◌∙◌, ap₂, inl, inr, ⊎_elim, arith}
use Rattle.std.proofs.lemmas.Bool.{and_parts, and_from, eq-eqb, eqb-true, cases_Bool, cases_eq, cases_order, both_ways, not-true, not_from_false, false≢true}
use Rattle.sets.specs.Sets.{all_below}
use Rattle.sets.proofs.Tests.{same_answer, all_is}
use Rattle.runs.specs.Values.{Values}
use Rattle.runs.specs.Calls.{World, State}
use Rattle.runs.specs.Readings.{held, claims, first_claim, counts_as, counts?, of_account, count_below, tally_of}

count_same : (n : ℕ) (p q : ℕ → Bool) → ((k : ℕ) → p k ≡ q k) → count_below n p ≡ count_below n q
unfolding count_below
count_same zero p q h = refl
count_same (suc n) p q h = ap₂ (λ a b. a + cond b 1 0) (count_same n p q h) (h n)

all_same : (n : ℕ) (p q : ℕ → Bool) → ((k : ℕ) → p k ≡ q k) → all_below n p ≡ all_below n q
unfolding all_below
all_same zero p q h = refl
all_same (suc n) p q h = ap₂ ◌&&◌ (h n) (all_same n p q h)

-- the lowest number below n that passes, if any does
lowest_below : (n : ℕ) (p : ℕ → Bool) → ((q : ℕ) → q < n → p q ≡ false) ⊎ ((r : ℕ) × (p r ≡ true) × ((q : ℕ) → q < r → p q ≡ false))
lowest_below zero p = inl (λ q l. absurd (omega arith))
lowest_below (suc n) p =
    ⊎_elim
    (λ none. ⊎_elim (λ e. inr (n, e, none)) (λ e. inl (λ q l. ⊎_elim (λ is. ap p is ∙ e) (λ ne. none q (omega arith)) (cases_eq q n))) (cases_Bool (p n)))
    inr (lowest_below n p)

lowest : (p : ℕ → Bool) (s : ℕ) → p s ≡ true → (r : ℕ) × (p r ≡ true) × ((q : ℕ) → q < r → p q ≡ false)
lowest p s e = ⊎_elim (λ none. absurd (both_ways (p s) (none s (omega arith)) e)) (λ r. r) (lowest_below (suc s) p)

module _ {V : Type 0} (values : Values V) where
  -- two nodes that hold the same in every slot
  module _ (x : State V) (i j : ℕ) (same : (s : ℕ) → held values x i s ≡ held values x j s) where
    counts_same : (s : ℕ) → counts? values x i s ≡ counts? values x j s
    counts_same s = go (held values x i s) ∙ ap (counts_as values x j s) (same s)
      where
        go : (o : Option values.Meaning) → counts_as values x i s o ≡ counts_as values x j s o
        go None = refl
        go (Some m) = all_same s _ _ (λ r. ap (λ o. not (claims values (values.claim m) o)) (same r))

    pub tally_same : (w : World) (account : ℕ) → tally_of values w x i account ≡ tally_of values w x j account
    tally_same w account =
        ap₂ (λ (a b : ℕ). (a, b))
        (count_same w.slots _ _ (λ s. ap₂ (λ o b. of_account values account o && b) (same s) (counts_same s)))
        (count_same w.slots _ _ (λ s. ap₂ (λ o b. of_account values account o && not b) (same s) (counts_same s)))

    -- a claim counts in the same slots with both
    pub counting_same : (s : ℕ) (c : values.Claim) → (counts? values x i s && claims values c (held values x i s)) ≡ (counts? values x j s && claims values c (held values x j s))
    counting_same s c = ap₂ (λ b o. b && claims values c o) (counts_same s) (same s)

  module _ (x : State V) (k : ℕ) where
    claim_held : (c : values.Claim) (o : Option values.Meaning) → claims values c o ≡ true → (m : values.Meaning) × (o ≡ Some m) × (values.claim m ≡ c)
    claim_held c None e = absurd (false≢true e)
    claim_held c (Some m) e = (m, refl, (values.same_claim_is (values.claim m) c).0 e)

    held_claims : (s : ℕ) (m : values.Meaning) → held values x k s ≡ Some m → claims values (values.claim m) (held values x k s) ≡ true
    held_claims s m e = ap (claims values (values.claim m)) e ∙ (values.same_claim_is (values.claim m) (values.claim m)).1 refl

    -- where the slot has the claim, it counts when no lower one has it
    counts_first : (s : ℕ) (c : values.Claim) → claims values c (held values x k s) ≡ true → counts? values x k s ≡ first_claim values x k s c
    counts_first s c e = let (m, is, claim) = claim_held c (held values x k s) e in ap (counts_as values x k s) is ∙ ap (first_claim values x k s) claim

    abbrev has : values.Claim → ℕ → Bool
    has c s = claims values c (held values x k s)

    -- the lowest slot that has a claim, and no other, counts for it
    counts_lowest : (c : values.Claim) (r : ℕ) → has c r ≡ true → ((q : ℕ) → q < r → has c q ≡ false) → (q : ℕ) → (counts? values x k q && has c q) ≡ eqb q r
    counts_lowest c r here lower q = same_answer (counts? values x k q && has c q) (eqb q r) only there
      where
        only : (counts? values x k q && has c q) ≡ true → eqb q r ≡ true
        only f =
            let (counted, claimed) = and_parts (counts? values x k q) (has c q) f in
            let first : first_claim values x k q c ≡ true = sym (counts_first q c claimed) ∙ counted in
            eq-eqb q r
            (⊎_elim (λ e. e)
            (⊎_elim (λ l. absurd (both_ways (has c q) (lower q l) claimed))
            (λ l. absurd (both_ways (has c r) (not-true (has c r) ((all_is q (λ z. not (has c z))).0 first r l)) here))) (cases_order q r))

        at_r : (counts? values x k r && has c r) ≡ true
        at_r =
            and_from (counts? values x k r) (has c r)
            (counts_first r c here ∙ (all_is r (λ z. not (has c z))).1 (λ z l. not_from_false (has c z) (lower z l))) here

        there : eqb q r ≡ true → (counts? values x k q && has c q) ≡ true
        there f = ap (λ z. counts? values x k z && has c z) (eqb-true q r f) ∙ at_r

    pub counts_once : (s : ℕ) (m : values.Meaning) → held values x k s ≡ Some m → (r : ℕ) × ((q : ℕ) → (counts? values x k q && has (values.claim m) q) ≡ eqb q r)
    counts_once s m e =
        let (r, here, lower) = lowest (has (values.claim m)) s (held_claims s m e) in
        (r, counts_lowest (values.claim m) r here lower)
