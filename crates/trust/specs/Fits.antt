-- A statement's lists fit. Assumes nothing.
use Rattle.std.specs.Prelude.{◌≡◌, ℕ, suc, ◌<◌, ◌≤◌, ◌&&◌, Bool, true, List, length, take, nat_lt, slice_index_or}
use Rattle.std.specs.List.{list_all}
use Rattle.std.proofs.Common.{sym, ap, ◌∙◌, ⊎_elim, arith, length-take}
use Rattle.std.proofs.lemmas.List.{get_or-take}
use Rattle.std.proofs.lemmas.List.Folds.{list_all_at}
use Rattle.std.proofs.lemmas.Bool.{cases_Bool, ltb-true, leb-true, and_parts, both_ways}
use Rattle.sets.specs.Lists.{of_nodes?}
use Rattle.trust.specs.declared.node_trust.NodeTrust.{NodeTrust}
use Rattle.trust.specs.declared.statement.Statement.{Statement}
use Rattle.trust.specs.NodeTrusts.{nothing, fits?, few?}
use Rattle.trust.specs.Statements.{fail_sets, quorum_sets}

-- each of a list passes
each : {X : Type 0} (p : X → Bool) (xs : List X) (k : ℕ) (d : X) → list_all p xs ≡ true → k < length xs → p (slice_index_or xs k d) ≡ true
each p xs k d e l = ⊎_elim (λ t. t) (λ f. absurd (both_ways (list_all p xs) (list_all_at p xs k d l f) e)) (cases_Bool (p (slice_index_or xs k d)))

module _ (x : Statement) (k : ℕ) (l : k < x.nodes) where
  -- each of the first n
  stated : (p : NodeTrust → Bool) → list_all p (take x.nodes x.trust) ≡ true → p (slice_index_or x.trust k nothing) ≡ true
  stated p e = ap p (sym (get_or-take x.nodes x.trust k nothing l)) ∙ each p (take x.nodes x.trust) k nothing e (omega (arith, length-take x.nodes x.trust, x.places, x.few))

  pub lists_fit : (of_nodes? x.nodes (fail_sets x (suc k)) ≡ true) × (of_nodes? x.nodes (quorum_sets x (suc k)) ≡ true)
  lists_fit = and_parts _ _ (stated (fits? x.nodes) x.in_range)

  pub fails_fit : of_nodes? x.nodes (fail_sets x (suc k)) ≡ true
  fails_fit = lists_fit.0

  pub quorums_fit : of_nodes? x.nodes (quorum_sets x (suc k)) ≡ true
  quorums_fit = lists_fit.1

  pub some_fail : 0 < length (fail_sets x (suc k))
  some_fail = ltb-true 0 _ (stated (λ t. nat_lt 0 (length t.fails)) x.each_fails)

  few_lists : (length (fail_sets x (suc k)) ≤ 16) × (length (quorum_sets x (suc k)) ≤ 16)
  few_lists =
      let few = and_parts _ _ (and_parts _ _ (stated (λ t. fits? x.nodes t && few? t) x.bounded)).1 in
      (leb-true _ 16 few.0, leb-true _ 16 few.1)

  pub few_fails : length (fail_sets x (suc k)) ≤ 16
  few_fails = few_lists.0

  pub few_quorums : length (quorum_sets x (suc k)) ≤ 16
  few_quorums = few_lists.1
