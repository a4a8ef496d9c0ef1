-- At the end of a text the lists of a draft fit or lack a fail-prone set, as its records say.
use Rattle.std.proofs.Common.{◌≡◌, ℕ, suc, ◌^◌, ◌<◌, ◌≤◌, Bool, true, false, cond, not, ◌&&◌, eqb, ltb, leb, List, [], ◌∷◌, map, length, get_or, take, Some, None, Ok, Err, Result, sym, refl, ap, ◌∙◌, subst, ap₂, ⊎_elim, arith}
use Rattle.std.specs.Option.{unwrap_or}
use Rattle.std.proofs.lemmas.Bool.{and_from, cases_Bool, cases_lt, eq-eqb, eqb-true, le-leb, leb-true, lt-ltb, ltb-true, not-true, not_from_false, both_ways, cond-true, cond-false, cond_both}
use Rattle.sets.specs.Sets.{node?, rest, any_below, all_below}
use Rattle.sets.specs.Lists.{of_nodes?}
use Rattle.std.specs.List.{list_all}
use Rattle.std.proofs.lemmas.List.{get_or-map, length-map}
use Rattle.sets.proofs.Lists.{all_below_same}
use Rattle.sets.proofs.Tests.{same_answer, any_is, all_is}
use Rattle.sets.proofs.Rests.{rest_lt}
use Rattle.trust.specs.declared.node_trust.NodeTrust.{NodeTrust}
use Rattle.trust.specs.declared.refusal.Refusal.{Refusal}
use Rattle.trust.specs.declared.refusal.Refusal.TheVariants.{Range, NoFailProneSet}
use Rattle.trust.specs.declared.statement.Statement.{Statement}
use Rattle.trust.specs.NodeTrusts.{nothing, fits?}
use Rattle.trust.specs.Fitting.{in_range?, some_each?, unfit}
use Rattle.trust.proofs.Stated.{stated_all}
use Rattle.text.specs.declared.draft.Draft.{Draft}
use Rattle.text.specs.declared.record.Role.TheVariants.{FailProne, Quorum}
use Rattle.text.specs.declared.record.Record.{Record}
use Rattle.text.specs.Reading.{begun?, count_said, said}
use Rattle.text.specs.Drafts.{counted, sets_at, complete, Kept}
use Rattle.text.specs.Outcomes.{none?, lacking?, end_refusal, quorums_said, Finished}

-- rests are sets of the nodes
rests_fit : (n : ℕ) (xs : List ℕ) → of_nodes? n (map (rest n) xs) ≡ true
rests_fit n [] = refl
rests_fit n (x ∷ xs) = and_from (ltb (rest n x) (2 ^ n)) (of_nodes? n (map (rest n) xs)) (lt-ltb (rest n x) (2 ^ n) (rest_lt n x)) (rests_fit n xs)

turned : {A : Type 0} (b : Bool) (x y : A) → cond (not b) x y ≡ cond b y x
turned true x y = refl
turned false x y = refl

-- what making a statement of lists owes
abbrev Made : ℕ → List NodeTrust → Result Statement Refusal → Type 0
Made n ts r = elim r as (λ _. Type 0) [ Ok x ↦ (unfit n ts ≡ None) × (x.nodes ≡ n) × (x.trust ≡ ts) | Err e ↦ unfit n ts ≡ Some e ]

-- no count, no record
pub nothing_said : (d : Draft) (before : List Record) → Kept d before → d.nodes ≡ None → none? before ≡ true
nothing_said d [] kept z = refl
nothing_said d (r ∷ before) kept z =
    let zero : counted d ≡ 0 = ap (λ o. unwrap_or o 0) z in
    let some = leb-true 1 (counted d) (ap (begun? (counted d)) (sym kept.newest) ∙ d.begun) in absurd (omega arith)

something_said : (d : Draft) (before : List Record) → Kept d before → (counted d ≡ 0 → ⊥) → none? before ≡ false
something_said d [] kept nz = absurd (nz kept.nodes)
something_said d (r ∷ before) kept nz = refl

module _ (d : Draft) (before : List Record) (kept : Kept d before) (nz : (counted d) ≡ 0 → ⊥) where
  abbrev n : ℕ
  n = counted d

  abbrev ts : List NodeTrust
  ts = map (complete n) d.trust

  few : (k : ℕ) → k < n → k < 16
  few k l = let h = d.few in omega arith

  -- what node k + 1 trusts in the end
  completed_at : (k : ℕ) → k < n → get_or ts k nothing ≡ complete n (get_or d.trust k nothing)
  completed_at k l = get_or-map (complete n) d.trust k nothing nothing (omega (arith, d.places, d.few))

  all_is_below : (p : NodeTrust → Bool) → list_all p (take n ts) ≡ all_below n (λ k. p (complete n (get_or d.trust k nothing)))
  all_is_below p = stated_all p nothing n ts (omega (arith, length-map d.trust (complete n), d.places, d.few)) ∙ all_below_same n _ _ (λ k l. ap p (completed_at k l))

  lists_fit : in_range? n ts ≡ true
  lists_fit = all_is_below (fits? n) ∙ (all_is n _).1 (λ k l. and_from _ _
      (ap (of_nodes? n) (kept.sets FailProne k (few k l)) ∙ kept.fit FailProne k)
      (cond_both
      (eqb (length (sets_at d Quorum k)) 0) (map (rest n) (sets_at d FailProne k)) (sets_at d Quorum k) (λ xs. of_nodes? n xs ≡ true)
      (λ _. rests_fit n (sets_at d FailProne k)) (λ _. ap (of_nodes? n) (kept.sets Quorum k (few k l)) ∙ kept.fit Quorum k)))

  -- each node has a set where none lacks one
  each_is : some_each? n ts ≡ not (lacking? before)
  each_is =
      let lacks : ℕ → Bool = λ k. eqb (length (said FailProne (suc k) before)) 0 in
      let said_is : (k : ℕ) → k < n → length (sets_at d FailProne k) ≡ length (said FailProne (suc k) before) = λ k l. ap length (kept.sets FailProne k (few k l)) in
      all_is_below (λ t. ltb 0 (length t.fails)) ∙ same_answer (all_below n (λ k. ltb 0 (length (sets_at d FailProne k)))) (not (any_below (count_said before) lacks))
      (λ each. ⊎_elim
      (λ some. let (k, l, none) = (any_is (count_said before) lacks).0 some in
      let l' : k < n = omega (arith, kept.nodes) in
      let more = ltb-true 0 (length (sets_at d FailProne k)) ((all_is n (λ k. ltb 0 (length (sets_at d FailProne k)))).0 each k l') in
      absurd (omega (arith, said_is k l', eqb-true (length (said FailProne (suc k) before)) 0 none)))
      (not_from_false (any_below (count_said before) lacks))
      (cases_Bool (any_below (count_said before) lacks)))
      (λ all. (all_is n (λ k. ltb 0 (length (sets_at d FailProne k)))).1 (λ k l. ⊎_elim
      (lt-ltb 0 (length (sets_at d FailProne k)))
      (λ none. absurd (both_ways (any_below (count_said before) lacks) (not-true (any_below (count_said before) lacks) all)
      ((any_is (count_said before) lacks).1 (k, omega (arith, kept.nodes), eq-eqb (length (said FailProne (suc k) before)) 0 (omega (arith, said_is k l))))))
      (cases_lt 0 (length (sets_at d FailProne k)))))

  unfit_is : unfit n ts ≡ end_refusal before
  unfit_is =
      let some : 1 ≤ n = ⊎_elim (λ h. h) (λ h. absurd (nz (omega arith))) (cases_lt 0 n) in
      let range : (node? 16 n && in_range? n ts) ≡ true = and_from _ _ (and_from (leb 1 n) (leb n 16) (le-leb 1 n some) (le-leb n 16 d.few)) lists_fit in
      cond-true _ (cond (some_each? n ts) None (Some NoFailProneSet)) (Some Range) range
      ∙ ap (λ b. cond b None (Some NoFailProneSet)) each_is ∙ turned (lacking? before) None (Some NoFailProneSet)
      ∙ sym (cond-false (none? before) _ (cond (lacking? before) (Some NoFailProneSet) None) (something_said d before kept nz))

  quorums_are : (k : ℕ) → k < n → (get_or ts k nothing).quorums ≡ quorums_said before (suc k)
  quorums_are k l =
      ap (λ (t : NodeTrust). t.quorums) (completed_at k l)
      ∙ ap₂ (λ xs ys. cond (eqb (length xs) 0) (map (rest n) ys) xs) (kept.sets Quorum k (few k l)) (kept.sets FailProne k (few k l))
      ∙ ap (λ m. cond (eqb (length (said Quorum (suc k) before)) 0) (map (rest m) (said FailProne (suc k) before)) (said Quorum (suc k) before)) kept.nodes

  finished : (r : Result Statement Refusal) → Made n ts r → Finished before r
  finished (Ok x) (free, nodes_are, trust_is) = (
    sym unfit_is ∙ free,
    record {
      nodes = nodes_are ∙ kept.nodes;
      fails = λ k l. let l' : k < n = omega (arith, kept.nodes) in ap (λ ts. (get_or ts k nothing).fails) trust_is ∙ ap (λ (t : NodeTrust). t.fails) (completed_at k l') ∙ kept.sets FailProne k (few k l');
      quorums = λ k l. let l' : k < n = omega (arith, kept.nodes) in ap (λ ts. (get_or ts k nothing).quorums) trust_is ∙ quorums_are k l';
    },
  )
  finished (Err e) is = sym unfit_is ∙ is

pub finished_by : (d : Draft) (before : List Record) → Kept d before → (n : ℕ) → d.nodes ≡ Some n → (all : List NodeTrust) (r : Result Statement Refusal)
    → all ≡ map (complete n) d.trust → Made n all r → Finished before r
finished_by d before kept n is all r e made =
    let same : n ≡ counted d = sym (ap (λ o. unwrap_or o 0) is) in
    let some : 1 ≤ n = d.no_zero n is in
    finished d before kept (λ z. absurd (omega arith)) r (subst (λ k. Made k (map (complete k) d.trust) r) same (subst (λ xs. Made n xs r) e made))
