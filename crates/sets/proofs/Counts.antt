-- How many members a set has. Assumes nothing.
use Rattle.std.proofs.Common.{◌≡◌, ℕ, zero, suc, ◌+◌, ◌*◌, ◌/◌, ◌%◌, ◌^◌, ◌<◌, ◌≤◌, min, max, Bool, true, false, cond, sym, refl, ap, ◌∙◌, ap₂, ⊎_elim, pow-suc, arith}
use lib.Arith.{bin_ind}
use lib.Bits.{bit_and, bit_or, and_step, or_step, and_zero_l, or_zero_l}
use lib.Count.{ones, ones_in, ones_step, ones_cat}
use Rattle.std.proofs.lemmas.Nat.{pow_pos}
use Rattle.std.proofs.lemmas.Bool.{cases_eq, eqb-true, eq-eqb}
use Rattle.sets.specs.Sets.{has, inside, nodes_with, how_many, rest}
use Rattle.sets.proofs.Sets.{same_members, nodes_with_lt, has_nodes_with, inside_self}
use Rattle.sets.proofs.Rests.{rest_minus}

ones_cons : (h d : ℕ) → d < 2 → ones (h * 2 + d) ≡ d + ones h
ones_cons h d lt =
    let up : (h * 2 + d) / 2 ≡ h = omega arith in
    let low : (h * 2 + d) % 2 ≡ d = omega arith in
    ones_step (h * 2 + d) ∙ ap₂ (λ x y. x + ones y) low up

pub ones_none : ones 0 ≡ 0
unfolding ones
ones_none = refl

-- the bits are the members
bit_count : (b : Bool) → ones (cond b 1 0) ≡ cond b 1 0
unfolding ones ones_in
bit_count true = refl
bit_count false = refl

count_with : (n : ℕ) (p : ℕ → Bool) → ones (nodes_with n p) ≡ how_many n p
unfolding nodes_with how_many
count_with zero p = ones_none
count_with (suc n) p =
    let d : ℕ = cond (p (suc n)) 1 0 in
    let e : nodes_with n p + d * 2 ^ n ≡ d * 2 ^ n + nodes_with n p = omega arith in
    omega (arith, ap ones e, ones_cat n d (nodes_with n p) (nodes_with_lt n p), bit_count (p (suc n)), count_with n p)

pub ones_members : (n s : ℕ) → s < 2 ^ n → ones s ≡ how_many n (has s)
ones_members n s lt =
    ap ones (same_members n s (nodes_with n (has s)) lt (nodes_with_lt n (has s)) (λ k l. sym (has_nodes_with n (has s) k l))) ∙ count_with n (has s)

-- the counts of union and common part
pub ones_or_and : (a b : ℕ) → ones (bit_or a b) + ones (bit_and a b) ≡ ones a + ones b
ones_or_and a b =
    bin_ind (λ n. (b : ℕ) → ones (bit_or n b) + ones (bit_and n b) ≡ ones n + ones b)
    (λ b. ap₂ (λ x y. ones x + ones y) (or_zero_l b) (and_zero_l b) ∙ omega arith)
    (λ n ih b. omega (
      arith,
      ih (b / 2),
      ones_step n,
      ones_step b,
      ap ones (or_step n b),
      ap ones (and_step n b),
      ones_cons (bit_or (n / 2) (b / 2)) (max (n % 2) (b % 2)) (omega arith),
      ones_cons (bit_and (n / 2) (b / 2)) (min (n % 2) (b % 2)) (omega arith),
    ))
    a b

pub ones_apart : (a b : ℕ) → bit_and a b ≡ 0 → ones (bit_or a b) ≡ ones a + ones b
ones_apart a b e = omega (arith, ones_or_and a b, ap ones e, ones_none)

-- a smaller set has no more members
pub ones_and : (a b : ℕ) → ones (bit_and a b) ≤ ones b
ones_and a b =
    bin_ind (λ n. (b : ℕ) → ones (bit_and n b) ≤ ones b) (λ b. omega (arith, ap ones (and_zero_l b), ones_none))
    (λ n ih b. omega (
      arith,
      ones_step b,
      ih (b / 2),
      ap ones (and_step n b),
      ones_cons (bit_and (n / 2) (b / 2)) (min (n % 2) (b % 2)) (omega arith),
    ))
    a b

pub ones_inside : (a b : ℕ) → inside a b ≡ true → ones a ≤ ones b
ones_inside a b e = omega (arith, ones_and a b, ap ones (eqb-true (bit_and a b) a e))

pub ones_rest : (n a : ℕ) → a < 2 ^ n → ones (rest n a) + ones a ≡ n
ones_rest zero a lt = let z : a ≡ 0 = omega arith in let r : rest zero a ≡ 0 = omega (arith, rest_minus zero a lt) in omega (arith, ap ones z, ap ones r, ones_none)
ones_rest (suc n) a lt =
    let p = pow-suc 2 n in
    let all = rest_minus (suc n) a lt in
    let up = rest_minus n (a / 2) (omega arith) in
    let half : rest (suc n) a / 2 ≡ rest n (a / 2) = omega arith in
    let odd : rest (suc n) a % 2 + a % 2 ≡ 1 = omega arith in
    omega (arith, ones_step a, ones_step (rest (suc n) a), ap ones half, ones_rest n (a / 2) (omega arith))

-- a set has a part of each smaller count
pub part_of : (n a k : ℕ) → a < 2 ^ n → k ≤ ones a → (m : ℕ) × (m < 2 ^ n) × (inside m a ≡ true) × (ones m ≡ k)
part_of zero a k lt le = (a, lt, inside_self a, (let z : a ≡ 0 = omega arith in omega (arith, ap ones z, ones_none)))
part_of (suc n) a k lt le =
    let p = pow-suc 2 n in
    ⊎_elim
    (λ e. (a, lt, inside_self a, sym e))
    (λ ne. let (m, l, in_a, c) = part_of n (a / 2) k (omega arith) (omega (arith, ones_step a)) in
    let two : bit_and (m * 2) a ≡ m * 2 =
    and_step (m * 2) a ∙ ap₂ (λ x y. bit_and x (a / 2) * 2 + y) (omega arith) (omega arith) ∙ ap (λ x. x * 2 + 0) (eqb-true (bit_and m (a / 2)) m in_a) ∙ omega arith in
    (m * 2, omega arith, eq-eqb (bit_and (m * 2) a) (m * 2) two, ap ones (omega arith) ∙ ones_cons m 0 (omega arith) ∙ omega arith))
    (cases_eq k (ones a))

pub all_ones : (n : ℕ) → ones (rest n 0) ≡ n
all_ones n = omega (arith, ones_rest n 0 (pow_pos n), ones_none)
