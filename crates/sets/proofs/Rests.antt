-- Sets with no common node, and the nodes outside a set. Assumes nothing.
use Rattle.std.proofs.Common.{◌≡◌, ℕ, zero, suc, ◌-◌, ◌*◌, ◌/◌, ◌%◌, ◌^◌, ◌<◌, ◌≤◌, Bool, true, false, not, ◌&&◌, eqb, sym, refl, ap, ◌∙◌, ⊎_elim, pow-suc, arith}
use lib.Bits.{bit_and, bit_or, and_le_l, and_le_r, or_lt}
use Rattle.std.proofs.lemmas.Nat.{one_shl, pow_pos}
use Rattle.std.proofs.lemmas.Bool.{cases_Bool, or_cases, or_left, or_right, eqb-true, eq-eqb, not-true, not_from_false, and_parts, and_from, both_ways}
use Rattle.std.proofs.lemmas.Bool.Decides.{nat_tests}
use Rattle.sets.specs.Sets.{node?, digit, has, inside, meets, rest}
use Rattle.sets.proofs.Tests.{same_answer}
use Rattle.sets.proofs.Digits.{digit_lt, digit_suc}
use Rattle.sets.proofs.Sets.{same_members, has_and, has_or, has_high, has_nodes_with, in_nodes_with, nodes_with_lt, inside_at, inside_from}

-- disjoint sets

pub has_none : (k : ℕ) → has 0 k ≡ false
has_none zero = refl
has_none (suc k) = has_high 0 0 (suc k) (omega arith) (omega arith)

pub apart_at : (a b k : ℕ) → bit_and a b ≡ 0 → has a k ≡ true → has b k ≡ true → ⊥
apart_at a b k e p q =
    both_ways (has 0 k) (has_none k) (ap (λ x. has x k) (sym e) ∙ has_and a b k ∙ and_from (has a k) (has b k) p q)

pub apart_from : (n a b : ℕ) → a < 2 ^ n → ((k : ℕ) → k < n → has a (suc k) ≡ true → has b (suc k) ≡ true → ⊥) → bit_and a b ≡ 0
apart_from n a b lt h =
    same_members n (bit_and a b) 0 (omega (arith, and_le_l a b)) (pow_pos n) (λ k l.
    same_answer (has (bit_and a b) (suc k)) (has 0 (suc k))
    (λ e. let (p, q) = and_parts (has a (suc k)) (has b (suc k)) (sym (has_and a b (suc k)) ∙ e) in absurd (h k l p q))
    (λ e. absurd (both_ways (has 0 (suc k)) (has_none (suc k)) e)))

pub not_meets : (a b : ℕ) → not (meets a b) ≡ true → bit_and a b ≡ 0
not_meets a b e = grind (arith, nat_tests)

pub meets_not : (a b : ℕ) → bit_and a b ≡ 0 → not (meets a b) ≡ true
meets_not a b e = grind (arith, nat_tests)

-- the nodes outside a set

pub rest_lt : (n a : ℕ) → rest n a < 2 ^ n
rest_lt n a = nodes_with_lt n (λ k. not (has a k))

pub has_rest : (n a k : ℕ) → k < n → has (rest n a) (suc k) ≡ not (has a (suc k))
has_rest n a = has_nodes_with n (λ k. not (has a k))

pub in_rest : (n a k : ℕ) → has (rest n a) k ≡ (node? n k && not (has a k))
in_rest n a = in_nodes_with n (λ k. not (has a k))

digit_minus : (w b k : ℕ) → b < 2 ^ w → k < w → digit ((2 ^ w - 1) - b) k ≡ 1 - digit b k
digit_minus zero b k hb hk = absurd (omega arith)
digit_minus (suc w) b zero hb hk = let p = pow-suc 2 w in omega arith
digit_minus (suc w) b (suc k) hb hk =
    let p = pow-suc 2 w in
    let half : ((2 ^ suc w - 1) - b) / 2 ≡ (2 ^ w - 1) - b / 2 = omega arith in
    digit_suc ((2 ^ suc w - 1) - b) k ∙ ap (λ x. digit x k) half ∙ digit_minus w (b / 2) k (omega arith) (omega arith) ∙ ap (λ x. 1 - x) (sym (digit_suc b k))

has_minus : (n a k : ℕ) → a < 2 ^ n → k < n → has ((2 ^ n - 1) - a) (suc k) ≡ not (has a (suc k))
has_minus n a k lt l = grind (arith, nat_tests, digit_minus n a k lt l, digit_lt a k)

-- of a set of the nodes 1 to n
pub rest_minus : (n a : ℕ) → a < 2 ^ n → rest n a ≡ (2 ^ n - 1) - a
rest_minus n a lt =
    same_members n (rest n a) ((2 ^ n - 1) - a) (rest_lt n a) (omega (arith, pow_pos n)) (λ k l. has_rest n a k l ∙ sym (has_minus n a k lt l))

has_all : (n k : ℕ) → k < n → has (rest n 0) (suc k) ≡ true
has_all n k l = has_rest n 0 k l ∙ ap not (has_none (suc k))

pub rest_none : (n : ℕ) → rest n 0 ≡ 2 ^ n - 1
rest_none n = rest_minus n 0 (pow_pos n) ∙ omega arith

and_true : (b : Bool) → (b && true) ≡ b
and_true true = refl
and_true false = refl

-- bits above n do not count
pub rest_low : (n a : ℕ) → rest n (bit_and a (2 ^ n - 1)) ≡ rest n a
rest_low n a =
    same_members n (rest n (bit_and a (2 ^ n - 1))) (rest n a) (rest_lt n (bit_and a (2 ^ n - 1))) (rest_lt n a) (λ k l.
    has_rest n (bit_and a (2 ^ n - 1)) k l ∙ ap not (has_and a (2 ^ n - 1) (suc k)
    ∙ ap (λ b. has a (suc k) && b) (ap (λ x. has x (suc k)) (sym (rest_none n)) ∙ has_all n k l) ∙ and_true (has a (suc k)))
    ∙ sym (has_rest n a k l))

pub rest_apart : (n a b : ℕ) → b < 2 ^ n → inside b (rest n a) ≡ true → bit_and b a ≡ 0
rest_apart n a b lb e =
    apart_from n b a lb (λ k l p q. both_ways (has a (suc k)) (not-true (has a (suc k)) (sym (has_rest n a k l) ∙ inside_at b (rest n a) (suc k) e p)) q)

-- a larger set leaves less
pub rest_down : (n a b : ℕ) → inside a b ≡ true → inside (rest n b) (rest n a) ≡ true
rest_down n a b within =
    inside_from n (rest n b) (rest n a) (rest_lt n b) (λ k l h.
    has_rest n a k l ∙ ⊎_elim
    (λ in_a. absurd (both_ways (has b (suc k)) (not-true (has b (suc k)) (sym (has_rest n b k l) ∙ h)) (inside_at a b (suc k) within in_a)))
    (not_from_false (has a (suc k))) (cases_Bool (has a (suc k))))

-- u and x are all n nodes together where x has the rest of u
pub cover_is : (n u x : ℕ) → u < 2 ^ n → x < 2 ^ n → eqb (bit_or u x) (rest n 0) ≡ inside (rest n u) x
cover_is n u x lu lx =
    same_answer (eqb (bit_or u x) (rest n 0)) (inside (rest n u) x)
    (λ e. inside_from n (rest n u) x (rest_lt n u) (λ k l h.
    let out = not-true (has u (suc k)) (sym (has_rest n u k l) ∙ h) in
    ⊎_elim (λ in_u. absurd (both_ways (has u (suc k)) out in_u)) (λ in_x. in_x)
    (or_cases (has u (suc k)) (has x (suc k)) (sym (has_or u x (suc k)) ∙ ap (λ s. has s (suc k)) (eqb-true (bit_or u x) (rest n 0) e) ∙ has_all n k l))))
    (λ e. eq-eqb (bit_or u x) (rest n 0) (same_members n (bit_or u x) (rest n 0) (or_lt n u x lu lx) (rest_lt n 0) (λ k l.
    has_or u x (suc k) ∙ ⊎_elim
    (λ in_u. or_left (has u (suc k)) (has x (suc k)) in_u)
    (λ out. or_right (has u (suc k)) (has x (suc k)) (inside_at (rest n u) x (suc k) e (has_rest n u k l ∙ not_from_false (has u (suc k)) out)))
    (cases_Bool (has u (suc k))) ∙ sym (has_all n k l))))

-- `all - (a & all)`, where `all` is `(1 << n) - 1`
pub code_rest : (n a : ℕ) → n ≤ 16 → ((1 * 2 ^ n) % 4294967296 - 1) - bit_and a ((1 * 2 ^ n) % 4294967296 - 1) ≡ rest n a
code_rest n a le =
    let low = bit_and a (2 ^ n - 1) in
    ap (λ x. (x - 1) - bit_and a (x - 1)) (one_shl n 32 (omega arith))
    ∙ sym (rest_minus n low (omega (arith, and_le_r a (2 ^ n - 1), pow_pos n))) ∙ rest_low n a
