-- What a statement means, by its lists. Assumes nothing.
use Rattle.std.proofs.Common.{◌≡◌, ℕ, suc, ◌<◌, ◌&&◌}
use Rattle.sets.specs.Sets.{inside, meets}
use Rattle.sets.specs.Lists.{any_of, all_of}
use Rattle.trust.specs.declared.statement.Statement.{Statement}
use Rattle.trust.specs.Trust.{asked?, holds_quorum, holds_kernel, tolerates, consistent, available}
use Rattle.trust.specs.Judging.{b3, first_pair}
use Rattle.trust.specs.NodeTrusts.{trust_at, b3_with?, consistent_with?}
use Rattle.trust.proofs.Firsts.{same_pairs}
use Rattle.trust.specs.ByLists.{part?, misses?, b3_pair?, pair?}
use Rattle.trust.specs.Statements.{fail_sets, quorum_sets, meant}
use Rattle.trust.specs.Fits.{lists_fit}
use Rattle.trust.specs.Soundness as by_lists

module _ (x : Statement) where
  pub quorum_is : (i s : ℕ) → holds_quorum (meant x) i s ≡ (asked? (meant x) i s && any_of (quorum_sets x i) (λ q. inside q s))
  quorum_is = by_lists.holds_quorum_is x.nodes (fail_sets x) (quorum_sets x) (lists_fit x)

  pub kernel_is : (i s : ℕ) → holds_kernel (meant x) i s ≡ (asked? (meant x) i s && all_of (quorum_sets x i) (λ q. meets q s))
  kernel_is = by_lists.holds_kernel_is x.nodes (fail_sets x) (quorum_sets x) (lists_fit x)

  pub tolerates_is : (i s : ℕ) → tolerates (meant x) i s ≡ (asked? (meant x) i s && part? (fail_sets x i) s)
  tolerates_is = by_lists.tolerates_is x.nodes (fail_sets x) (quorum_sets x) (lists_fit x)

  pub available_is : (k : ℕ) → k < x.nodes → available (meant x) (suc k) ≡ misses? (fail_sets x (suc k)) (quorum_sets x (suc k))
  available_is = by_lists.available_is x.nodes (fail_sets x) (quorum_sets x) (lists_fit x)

  pub consistent_is : (k j : ℕ) → k < x.nodes → j < x.nodes
      → consistent (meant x) (suc k) (suc j) ≡ pair? (fail_sets x (suc k)) (fail_sets x (suc j)) (quorum_sets x (suc k)) (quorum_sets x (suc j))
  consistent_is = by_lists.consistent_is x.nodes (fail_sets x) (quorum_sets x) (lists_fit x)

  pub b3_is : (k j : ℕ) → k < x.nodes → j < x.nodes → b3 (meant x) (suc k) (suc j) ≡ b3_pair? x.nodes (fail_sets x (suc k)) (fail_sets x (suc j))
  b3_is = by_lists.b3_is x.nodes (fail_sets x) (quorum_sets x) (lists_fit x)

  abbrev n : ℕ
  n = x.nodes

  -- the tests of pairs by what their nodes trust
  pub b3_pairs : first_pair n n (b3 (meant x)) ≡ first_pair n n (λ i j. b3_with? n (trust_at x.trust i) (trust_at x.trust j))
  b3_pairs = same_pairs n n (b3 (meant x)) _ b3_is

  pub consistent_pairs : first_pair n n (consistent (meant x)) ≡ first_pair n n (λ i j. consistent_with? (trust_at x.trust i) (trust_at x.trust j))
  consistent_pairs = same_pairs n n (consistent (meant x)) _ consistent_is
