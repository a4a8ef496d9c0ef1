-- Which lists make a statement, and why others do not. Assumes nothing.
use Rattle.std.specs.Prelude.{ℕ, Bool, cond, ◌&&◌, List, take, length, Some, None, Option, nat_lt}
use Rattle.std.specs.List.{list_all}
use Rattle.sets.specs.Sets.{node?}
use Rattle.trust.specs.declared.node_trust.NodeTrust.{NodeTrust}
use Rattle.trust.specs.declared.refusal.Refusal.{Refusal}
use Rattle.trust.specs.declared.refusal.Refusal.TheVariants.{Range, NoFailProneSet}
use Rattle.trust.specs.NodeTrusts.{fits?, few?}

-- no set of a node 1 to n has a bit above n
abbrev pub in_range? : ℕ → List NodeTrust → Bool
in_range? n ts = list_all (fits? n) (take n ts)

-- and each node 1 to n has at most 16 sets of each sort
abbrev pub bounded? : ℕ → List NodeTrust → Bool
bounded? n ts = list_all (λ t. fits? n t && few? t) (take n ts)

-- each node 1 to n has a fail-prone set
abbrev pub some_each? : ℕ → List NodeTrust → Bool
some_each? n ts = list_all (λ t. nat_lt 0 (length t.fails)) (take n ts)

-- the smallest refusal that holds of a node count and what the nodes trust
abbrev pub unfit : ℕ → List NodeTrust → Option Refusal
unfit n ts = cond (node? 16 n && in_range? n ts) (cond (some_each? n ts) None (Some NoFailProneSet)) (Some Range)
