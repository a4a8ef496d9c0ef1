-- A trust rule by each node's list of fail-prone sets and list of quorums. Assumes nothing.
use Rattle.std.specs.Prelude.{ℕ, Bool, not, ◌&&◌, List, bit_and, bit_or}
use Rattle.sets.specs.Sets.{inside, meets, rest}
use Rattle.sets.specs.Lists.{any_of, all_of, listed?}
use Rattle.trust.specs.Trust.{Trust}

-- s is part of a fail-prone set
abbrev pub part? : List ℕ → ℕ → Bool
part? fs s = any_of fs (λ x. inside s x)

-- quorums are the listed sets; what is part of a fail-prone set is tolerated
abbrev pub by_lists : ℕ → (ℕ → List ℕ) → (ℕ → List ℕ) → Trust
by_lists n fails quorums = record { size = n; quorum = λ i q. listed? (quorums i) q; tolerated = λ i s. part? (fails i) s }

-- the tests of soundness and of B3 over the listed sets alone

-- each fail-prone set misses one of the quorums
abbrev pub misses? : List ℕ → List ℕ → Bool
misses? fs qs = all_of fs (λ x. not (all_of qs (λ q. meets q x)))

-- s is part of fail-prone sets on both sides
abbrev pub both_part? : List ℕ → List ℕ → ℕ → Bool
both_part? fs gs s = part? fs s && part? gs s

-- what u leaves of the n nodes is not part of fail-prone sets on both sides
abbrev pub leaves_open? : ℕ → List ℕ → List ℕ → ℕ → Bool
leaves_open? n fs gs u = not (both_part? fs gs (rest n u))

-- no fail-prone set of the other node covers with a all but such a part
abbrev pub b3_row? : ℕ → List ℕ → List ℕ → ℕ → Bool
b3_row? n fs gs a = all_of gs (λ b. leaves_open? n fs gs (bit_or a b))

-- no fail-prone set of each node covers, with such a part, all n nodes
abbrev pub b3_pair? : ℕ → List ℕ → List ℕ → Bool
b3_pair? n fs gs = all_of fs (b3_row? n fs gs)

-- q has no common part with a quorum of the other node that both tolerate
abbrev pub keeps_with? : List ℕ → List ℕ → List ℕ → ℕ → Bool
keeps_with? fs gs rs q = all_of rs (λ r. not (both_part? fs gs (bit_and q r)))

abbrev pub pair? : List ℕ → List ℕ → List ℕ → List ℕ → Bool
pair? fs gs qs rs = all_of qs (keeps_with? fs gs rs)
