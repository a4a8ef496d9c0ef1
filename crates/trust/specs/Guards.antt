-- Questions with a guard. Assumes nothing.
use Rattle.std.specs.Prelude.{◌≡◌, ℕ, zero, suc, ◌-◌, ◌^◌, ◌<◌, Bool, true, false, ◌&&◌, refl}
use Rattle.std.proofs.Common.{sym, ◌∙◌, arith}
use Rattle.std.proofs.lemmas.Bool.{ltb-true, and_parts, both_ways}
use Rattle.sets.specs.Sets.{node?, set?}
use Rattle.sets.proofs.Sets.{no_node}

-- where the guard passes the two agree
pub guarded : (a x y : Bool) → (a ≡ true → x ≡ y) → (a && x) ≡ (a && y)
guarded true x y h = h refl
guarded false x y h = refl

-- the two ways of `a && x` in code, where the guard answered r
pub then_guard : (r a x y : Bool) → r ≡ a → r ≡ true → y ≡ (a && x) → x ≡ y
then_guard r true x y e t h = sym h
then_guard r false x y e t h = absurd (both_ways r e t)

pub else_guard : (r a x y : Bool) → r ≡ a → r ≡ false → y ≡ (a && x) → r ≡ y
else_guard r true x y e t h = absurd (both_ways r t e)
else_guard r false x y e t h = e ∙ sym h

-- what the guard of a question tells of the set
pub asked_set : (n i s : ℕ) → (node? n i && set? n s) ≡ true → s < 2 ^ n
asked_set n i s e = ltb-true s (2 ^ n) (and_parts (node? n i) (set? n s) e).1

-- a node's place, from 0
pub place : (n i s : ℕ) → (node? n i && set? n s) ≡ true → suc (i - 1) ≡ i
place n zero s e = absurd (no_node n (and_parts (node? n 0) (set? n s) e).0)
place n (suc k) s e = omega arith
