-- What each node trusts, in an array. Assumes nothing.
use Rattle.std.specs.Prelude.{◌≡◌, ℕ, zero, suc, Bool, ◌&&◌, List, [], ◌∷◌, length, slice_index_or, nat_le}
use Rattle.std.specs.Borrow.{Bor}
use Rattle.std.specs.Fn.{Shared, FnReturnsAtPair}
use Rattle.sets.specs.Lists.{of_nodes?}
use Rattle.trust.specs.ByLists.{b3_pair?, pair?}
use Rattle.trust.specs.declared.node_trust.NodeTrust.{NodeTrust}

abbrev pub nothing : NodeTrust
nothing = record { fails = []; quorums = [] }

-- what node i trusts, which stands at i - 1
abbrev pub trust_at : List NodeTrust → ℕ → NodeTrust
trust_at ts zero = nothing
trust_at ts (suc k) = slice_index_or ts k nothing

-- what each node trusts, by the list of its fail-prone sets and the list of its quorums
unfoldable pub of_each : List (List ℕ) → List (List ℕ) → List NodeTrust
of_each [] qs = []
of_each (f ∷ fs) [] = []
of_each (f ∷ fs) (q ∷ qs) = record { fails = f; quorums = q } ∷ of_each fs qs

-- no set has a bit above n
abbrev pub fits? : ℕ → NodeTrust → Bool
fits? n t = of_nodes? n t.fails && of_nodes? n t.quorums

-- at most 16 sets of each sort
abbrev pub few? : NodeTrust → Bool
few? t = nat_le (length t.fails) 16 && nat_le (length t.quorums) 16

-- the tests of a pair of nodes by what they trust
abbrev pub b3_with? : ℕ → NodeTrust → NodeTrust → Bool
b3_with? n ours theirs = b3_pair? n ours.fails theirs.fails

abbrev pub consistent_with? : NodeTrust → NodeTrust → Bool
consistent_with? ours theirs = pair? ours.fails theirs.fails ours.quorums theirs.quorums

-- a test of what two nodes trust answers as p does
abbrev pub AnswersAs : {F : Type 0} → Shared F (Bor NodeTrust × (Bor NodeTrust × Unit {0})) Bool → F → (NodeTrust → NodeTrust → Bool) → Type 0
AnswersAs g f p = (a b : NodeTrust) (r : Bool) → FnReturnsAtPair g f a b r → r ≡ p a b
