-- What the operations on sets say of members, and the code's single bits. Assumes nothing.
use Rattle.std.proofs.Common.{◌≡◌, ℕ, zero, suc, ◌+◌, ◌-◌, ◌*◌, ◌%◌, ◌^◌, ◌<◌, ◌≤◌, Bool, true, false, cond, not, ◌&&◌, ◌||◌, eqb, Decides, sym, refl, ap, ◌∙◌, subst, ⊎_elim, pow-suc, add-one, arith, pow_mono}
use Rattle.std.specs.Prelude.{nat_le}
use lib.Bits.{bit_and, bit_or, and_le_l, or_shifted_r}
use Rattle.std.proofs.lemmas.Nat.{one_shl, pow_pos}
use Rattle.std.proofs.lemmas.Bool.{cases_lt, cases_Bool, cases_order, eqb-true, eq-eqb, ne_eqb, lt-ltb, ltb-true, leb-true, and_parts, not-true, not_from_false, both_ways}
use Rattle.sets.specs.Sets.{node?, set?, digit, has, inside, meets, with_node, any_below, nodes_with}
use Rattle.sets.proofs.Tests.{any_is, same_answer}
use Rattle.sets.proofs.Digits.{digit_lt, digit_top, digit_below, and_one}
use Rattle.sets.proofs.Sets.{node_at, node_past, has_and, has_or, has_high, same_members, has_nodes_with, nodes_with_lt, inside_at, inside_from}
use Rattle.sets.proofs.Rests.{has_none, apart_at}

-- a set with no member is empty
pub some_member : (n a : ℕ) → a < 2 ^ n → (a ≡ 0 → ⊥) → (k : ℕ) × (has a k ≡ true)
some_member n a lt ne =
    ⊎_elim
    (λ e. let (k, l, h) = (any_is n (λ k. has a (suc k))).0 e in (suc k, h))
    (λ e. absurd (ne (same_members n a 0 lt (pow_pos n) (λ k l. same_answer (has a (suc k)) (has 0 (suc k))
    (λ h. absurd (both_ways (any_below n (λ k. has a (suc k))) e ((any_is n (λ k. has a (suc k))).1 (k, l, h))))
    (λ h. absurd (both_ways (has 0 (suc k)) (has_none (suc k)) h))))))
    (cases_Bool (any_below n (λ k. has a (suc k))))

pub inside_is : (n a b : ℕ) → a < 2 ^ n → Decides (inside a b) ((k : ℕ) → has a k ≡ true → has b k ≡ true)
inside_is n a b lt = ((λ e k. inside_at a b k e), (λ h. inside_from n a b lt (λ k _. h (suc k))))

pub meets_is : (n a b : ℕ) → a < 2 ^ n → Decides (meets a b) ((k : ℕ) × (has a k ≡ true) × (has b k ≡ true))
meets_is n a b lt = (
  (λ e. let (k, h) = some_member n (bit_and a b) (omega (arith, and_le_l a b)) (λ z. both_ways (eqb (bit_and a b) 0) (not-true (eqb (bit_and a b) 0) e) (eq-eqb (bit_and a b) 0 z)) in
      let (in_a, in_b) = and_parts (has a k) (has b k) (sym (has_and a b k) ∙ h) in (k, in_a, in_b)),
  (λ h. not_from_false (eqb (bit_and a b) 0) (ne_eqb (bit_and a b) 0 (λ z. apart_at a b h.0 z h.1 h.2))),
)

-- no member past n: a number below 2 ^ n
low_members : (w n s : ℕ) → s < 2 ^ w → n ≤ w → ((k : ℕ) → has s k ≡ true → k ≤ n) → s < 2 ^ n
low_members w n s lt le h =
    let low = nodes_with n (has s) in
    let same : s ≡ low = same_members w s low lt (omega (arith, nodes_with_lt n (has s), pow_mono le)) (λ k l.
    ⊎_elim
    (λ in_n. sym (has_nodes_with n (has s) k in_n))
    (λ past. ⊎_elim (λ e. absurd (let b = h (suc k) e in omega arith)) (λ e. e) (cases_Bool (has s (suc k))) ∙ sym (has_high n low (suc k) (nodes_with_lt n (has s)) (omega arith)))
    (cases_lt k n)) in
    subst (λ x. x < 2 ^ n) (sym same) (nodes_with_lt n (has s))

pub set_is : (w n s : ℕ) → s < 2 ^ w → Decides (set? n s) ((k : ℕ) → has s k ≡ true → k ≤ n)
set_is w n s lt = (
  (λ e k h. ⊎_elim (λ past. absurd (both_ways (has s k) (has_high n s k (ltb-true s (2 ^ n) e) past) h)) (λ le. le) (cases_lt n k)),
  (λ h. lt-ltb s (2 ^ n) (⊎_elim (λ l. low_members w n s lt (omega arith) h) (λ le. omega (arith, pow_mono le)) (cases_lt n w))),
)

-- the bit of one node
has_one : (j k : ℕ) → has (2 ^ j) k ≡ eqb k (suc j)
has_one j zero = sym (ne_eqb 0 (suc j) (λ e. omega arith))
has_one j (suc k) =
    let one : 0 + 1 * 2 ^ j ≡ 2 ^ j = omega arith in
    ⊎_elim
    (λ e. rw e (ap (λ x. has x (suc j)) (sym one) ∙ eq-eqb (digit (0 + 1 * 2 ^ j) j) 1 (digit_top j 0 1 (pow_pos j) (omega arith)) ∙ sym (eq-eqb (suc j) (suc j) refl)))
    (⊎_elim
    (λ l. ap (λ x. has x (suc k)) (sym one) ∙ ap (λ d. eqb d 1) (digit_below j 0 1 k l) ∙ has_none (suc k) ∙ sym (ne_eqb (suc k) (suc j) (λ e. omega arith)))
    (λ g. has_high (suc j) (2 ^ j) (suc k) (omega (arith, pow-suc 2 j, pow_pos j)) (omega arith) ∙ sym (ne_eqb (suc k) (suc j) (λ e. omega arith))))
    (cases_order k j)

-- one node added
pub has_added : (s j k : ℕ) → has (bit_or s (2 ^ j)) k ≡ (has s k || eqb k (suc j))
has_added s j k = has_or s (2 ^ j) k ∙ ap (λ b. has s k || b) (has_one j k)

-- a node above those of s, as a sum
pub or_next : (n s : ℕ) → s < 2 ^ n → bit_or s (2 ^ n) ≡ s + 1 * 2 ^ n
or_next n s lt = let e : 2 ^ n ≡ 1 * 2 ^ n = omega arith in ap (bit_or s) e ∙ or_shifted_r 1 n s lt ∙ omega arith

one_if : (d p : ℕ) → d < 2 → 0 < p → (d * p ≡ 0 → ⊥) → d ≡ 1
one_if zero p l q h = absurd (h (omega arith))
one_if (suc zero) p l q h = refl
one_if (suc (suc d)) p l q h = absurd (omega arith)

-- `s & (1 << k) != 0`
pub test_is : (s k : ℕ) → k < 16 → not (eqb (bit_and s ((1 * 2 ^ k) % 65536)) 0) ≡ has s (suc k)
test_is s k h =
    let x = bit_and s ((1 * 2 ^ k) % 65536) in
    let e : x ≡ digit s k * 2 ^ k = ap (bit_and s) (one_shl k 16 h) ∙ and_one s k in
    same_answer (not (eqb x 0)) (has s (suc k))
    (λ t. eq-eqb (digit s k) 1 (one_if (digit s k) (2 ^ k) (digit_lt s k) (pow_pos k) (λ z. both_ways (eqb x 0) (not-true (eqb x 0) t) (eq-eqb x 0 (e ∙ z)))))
    (λ t. not_from_false (eqb x 0) (ne_eqb x 0 (λ z. omega (arith, pow_pos k, ap (λ d. d * 2 ^ k) (eqb-true (digit s k) 1 t)))))

-- a number that is no node's
pub has_out : (s k : ℕ) → s < 2 ^ 16 → node? 16 k ≡ false → has s k ≡ false
has_out s zero lt out = refl
has_out s (suc k) lt out =
    ⊎_elim (λ l. absurd (both_ways (node? 16 (suc k)) out (node_at 16 k l))) (λ g. has_high 16 s (suc k) lt (omega arith)) (cases_lt k 16)

-- the bounds of a node
pub node_bounds : (n k : ℕ) → node? n k ≡ true → (1 ≤ k) × (k ≤ n)
node_bounds n k e = let parts = and_parts (nat_le 1 k) (nat_le k n) e in (leb-true 1 k parts.0, leb-true k n parts.1)

-- the node after k joins a set of the nodes 1 to k
pub with_next : (s k : ℕ) → k < 16 → s < 2 ^ k → with_node s (k + 1) ≡ s + 1 * 2 ^ k
with_next s k l lt =
    ap (λ b. cond b (bit_or s (2 ^ ((k + 1) - 1))) s) (ap (node? 16) (add-one k) ∙ node_at 16 k l) ∙ ap (λ e. bit_or s (2 ^ e)) (omega arith) ∙ or_next k s lt

or_false : (b : Bool) → (b || false) ≡ b
or_false true = refl
or_false false = refl

-- by members
pub has_with : (s n k : ℕ) → has (with_node s n) k ≡ (has s k || (node? 16 n && eqb k n))
has_with s zero k = sym (or_false (has s k))
has_with s (suc n) k =
    ⊎_elim
    (λ l. rw (node_at 16 n l) (ap (λ e. has (bit_or s (2 ^ e)) k) (omega arith) ∙ has_added s n k))
    (λ g. rw (node_past 16 n g) (sym (or_false (has s k))))
    (cases_lt n 16)
