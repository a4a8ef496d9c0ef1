-- Members of sets, and sets made by a test. Assumes nothing.
use Rattle.std.proofs.Common.{◌≡◌, ℕ, zero, suc, ◌+◌, ◌*◌, ◌^◌, ◌<◌, ◌≤◌, Bool, true, false, cond, ◌&&◌, ◌||◌, eqb, leb, sym, refl, ap, ◌∙◌, ap₂, ⊎_elim, pow-suc, add-one, arith}
use lib.Bits.{bit_and, bit_or, and_le_l, and_le_r, and_self, or_lt, or_comm}
use Rattle.std.proofs.lemmas.Bool.{cases_lt, cases_eq, eqb-true, eq-eqb, ne_eqb, le-leb, lt-leb, leb-true, and_parts, and_from, and_right, or_cases, or_left, or_right}
use Rattle.std.proofs.lemmas.Bool.Decides.{nat_tests}
use Rattle.sets.specs.Sets.{node?, digit, has, inside, nodes_with}
use Rattle.sets.proofs.Tests.{same_answer}
use Rattle.sets.proofs.Digits.{digit_lt, digit_and, digit_or, same_digits, digit_high, digit_top, digit_below}

-- the nodes 1 to n

pub node_at : (n k : ℕ) → k < n → node? n (suc k) ≡ true
node_at n k l = and_from (leb 1 (suc k)) (leb (suc k) n) (le-leb 1 (suc k) (omega arith)) (le-leb (suc k) n (omega arith))

pub node_past : (n k : ℕ) → n ≤ k → node? n (suc k) ≡ false
node_past n k l = and_right (leb 1 (suc k)) (leb (suc k) n) (lt-leb (suc k) n (omega arith))

pub node_low : (n k : ℕ) → node? n (suc k) ≡ true → k < n
node_low n k e = omega (arith, leb-true (suc k) n (and_parts (leb 1 (suc k)) (leb (suc k) n) e).1)

pub no_node : (n : ℕ) → node? n 0 ≡ true → ⊥
no_node n e = omega (arith, leb-true 1 0 (and_parts (leb 1 0) (leb 0 n) e).0)

-- members

pub has_and : (a b k : ℕ) → has (bit_and a b) k ≡ (has a k && has b k)
has_and a b zero = refl
has_and a b (suc j) = grind (arith, nat_tests, digit_and a b j, digit_lt a j, digit_lt b j)

pub has_or : (a b k : ℕ) → has (bit_or a b) k ≡ (has a k || has b k)
has_or a b zero = refl
has_or a b (suc j) = grind (arith, nat_tests, digit_or a b j, digit_lt a j, digit_lt b j)

pub has_high : (n a k : ℕ) → a < 2 ^ n → n < k → has a k ≡ false
has_high n a zero lt l = refl
has_high n a (suc j) lt l = ne_eqb (digit a j) 1 (λ e. omega (arith, digit_high n a j lt (omega arith)))

same_digit : (x y : ℕ) → x < 2 → y < 2 → eqb x 1 ≡ eqb y 1 → x ≡ y
same_digit x y lx ly e = grind (arith, nat_tests)

-- two sets with the same members are one
pub same_members : (n a b : ℕ) → a < 2 ^ n → b < 2 ^ n → ((k : ℕ) → k < n → has a (suc k) ≡ has b (suc k)) → a ≡ b
same_members n a b la lb h = same_digits n a b la lb (λ k l. same_digit (digit a k) (digit b k) (digit_lt a k) (digit_lt b k) (h k l))

pub inside_at : (a b k : ℕ) → inside a b ≡ true → has a k ≡ true → has b k ≡ true
inside_at a b k e h =
    let s : has (bit_and a b) k ≡ has a k = ap (λ x. has x k) (eqb-true (bit_and a b) a e) in
    (and_parts (has a k) (has b k) (sym (has_and a b k) ∙ s ∙ h)).1

pub inside_from : (n a b : ℕ) → a < 2 ^ n → ((k : ℕ) → k < n → has a (suc k) ≡ true → has b (suc k) ≡ true) → inside a b ≡ true
inside_from n a b lt h =
    eq-eqb (bit_and a b) a (same_members n (bit_and a b) a (omega (arith, and_le_l a b)) lt (λ k l.
    has_and a b (suc k) ∙ same_answer (has a (suc k) && has b (suc k)) (has a (suc k)) (λ e. (and_parts (has a (suc k)) (has b (suc k)) e).0) (λ e. and_from (has a (suc k)) (has b (suc k)) e (h k l e))))

pub inside_self : (a : ℕ) → inside a a ≡ true
inside_self a = eq-eqb (bit_and a a) a (and_self a)

pub inside_trans : (n a b c : ℕ) → a < 2 ^ n → inside a b ≡ true → inside b c ≡ true → inside a c ≡ true
inside_trans n a b c lt p q = inside_from n a c lt (λ k l h. inside_at b c (suc k) q (inside_at a b (suc k) p h))

pub inside_both : (n a b : ℕ) → a < 2 ^ n → b < 2 ^ n → inside a b ≡ true → inside b a ≡ true → a ≡ b
inside_both n a b la lb p q = same_members n a b la lb (λ k l. same_answer (has a (suc k)) (has b (suc k)) (inside_at a b (suc k) p) (inside_at b a (suc k) q))

pub or_inside : (n a b c : ℕ) → a < 2 ^ n → b < 2 ^ n → inside a c ≡ true → inside b c ≡ true → inside (bit_or a b) c ≡ true
or_inside n a b c la lb p q =
    inside_from n (bit_or a b) c (or_lt n a b la lb)
    (λ k l h. ⊎_elim (inside_at a c (suc k) p) (inside_at b c (suc k) q) (or_cases (has a (suc k)) (has b (suc k)) (sym (has_or a b (suc k)) ∙ h)))

pub or_grows : (n a b c : ℕ) → a < 2 ^ n → c < 2 ^ n → inside a b ≡ true → inside (bit_or a c) (bit_or b c) ≡ true
or_grows n a b c la lc within =
    inside_from n (bit_or a c) (bit_or b c) (or_lt n a c la lc) (λ k l h.
    has_or b c (suc k) ∙ ⊎_elim
    (λ in_a. or_left (has b (suc k)) (has c (suc k)) (inside_at a b (suc k) within in_a))
    (or_right (has b (suc k)) (has c (suc k)))
    (or_cases (has a (suc k)) (has c (suc k)) (sym (has_or a c (suc k)) ∙ h)))

pub or_grows_r : (n c a b : ℕ) → c < 2 ^ n → a < 2 ^ n → inside a b ≡ true → inside (bit_or c a) (bit_or c b) ≡ true
or_grows_r n c a b lc la within = ap₂ inside (or_comm c a) (or_comm c b) ∙ or_grows n a b c la lc within

-- the smaller set is the smaller number
pub inside_le : (a b : ℕ) → inside a b ≡ true → a ≤ b
inside_le a b e = omega (arith, eqb-true (bit_and a b) a e, and_le_r a b)

-- sets by a test

bit_lt : (b : Bool) → cond b 1 0 < 2
bit_lt true = omega arith
bit_lt false = omega arith

bit_times : (b : Bool) (x : ℕ) → cond b 1 0 * x ≤ x
bit_times true x = omega arith
bit_times false x = omega arith

pub nodes_with_lt : (n : ℕ) (p : ℕ → Bool) → nodes_with n p < 2 ^ n
unfolding nodes_with
nodes_with_lt zero p = omega arith
nodes_with_lt (suc n) p = omega (arith, nodes_with_lt n p, pow-suc 2 n, bit_times (p (suc n)) (2 ^ n))

bit_is : (b : Bool) → eqb (cond b 1 0) 1 ≡ b
bit_is true = refl
bit_is false = refl

pub has_nodes_with : (n : ℕ) (p : ℕ → Bool) (k : ℕ) → k < n → has (nodes_with n p) (suc k) ≡ p (suc k)
unfolding nodes_with
has_nodes_with zero p k l = absurd (omega arith)
has_nodes_with (suc n) p k l =
    let d : ℕ = cond (p (suc n)) 1 0 in
    ⊎_elim
    (λ e. rw e (ap (λ x. eqb x 1) (digit_top n (nodes_with n p) d (nodes_with_lt n p) (bit_lt (p (suc n)))) ∙ bit_is (p (suc n))))
    (λ ne. ap (λ x. eqb x 1) (digit_below n (nodes_with n p) d k (omega arith)) ∙ has_nodes_with n p k (omega arith))
    (cases_eq k n)

pub in_nodes_with : (n : ℕ) (p : ℕ → Bool) (k : ℕ) → has (nodes_with n p) k ≡ (node? n k && p k)
in_nodes_with n p zero = refl
in_nodes_with n p (suc k) =
    ⊎_elim
    (λ l. has_nodes_with n p k l ∙ ap (λ b. b && p (suc k)) (sym (node_at n k l)))
    (λ g. has_high n (nodes_with n p) (suc k) (nodes_with_lt n p) (omega arith) ∙ ap (λ b. b && p (suc k)) (sym (node_past n k g)))
    (cases_lt k n)

-- one node more
pub one_more : (n m : ℕ) (p : ℕ → Bool) (b : Bool) (r : ℕ) → m ≡ nodes_with n p → b ≡ p (n + 1) → r ≡ m + cond b 1 0 * 2 ^ n → r ≡ nodes_with (n + 1) p
unfolding nodes_with
one_more n m p b r e t is =
    is ∙ ap₂ (λ x y. x + cond y 1 0 * 2 ^ n) e (t ∙ ap p (add-one n)) ∙ ap (λ k. nodes_with k p) (sym (add-one n))

-- the last node was looked at
pub all_looked_at : (n k m : ℕ) (p : ℕ → Bool) → m ≡ nodes_with k p → k ≡ n → m ≡ nodes_with n p
all_looked_at n k m p e last = e ∙ ap (λ i. nodes_with i p) last
