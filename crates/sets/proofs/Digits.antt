-- The digits of a mask. Assumes nothing.
use Rattle.std.proofs.Common.{◌≡◌, ℕ, zero, suc, ◌+◌, ◌-◌, ◌*◌, ◌/◌, ◌%◌, ◌^◌, ◌<◌, ◌≤◌, min, max, sym, ap, ◌∙◌, lt_of_lt_of_le, pow-suc, arith, pow_mono, pow-add}
use native.Mathlib.Nat.{div-eq_of_lt}
use lib.Bits.{bit_and, bit_or, and_step, or_step, and_shr, or_shr, and_high, block_half, block_odd}
use lib.Pow.{high}
use Rattle.std.proofs.lemmas.Nat.{shr-shr}
use Rattle.sets.specs.Sets.{digit}

pub digit_lt : (s k : ℕ) → digit s k < 2
digit_lt s k = omega arith

pub digit_and : (a b k : ℕ) → digit (bit_and a b) k ≡ min (digit a k) (digit b k)
digit_and a b k =
    ap (λ x. x % 2) (and_shr a b k ∙ and_step (a / 2 ^ k) (b / 2 ^ k)) ∙ omega arith

pub digit_or : (a b k : ℕ) → digit (bit_or a b) k ≡ max (digit a k) (digit b k)
digit_or a b k =
    ap (λ x. x % 2) (or_shr a b k ∙ or_step (a / 2 ^ k) (b / 2 ^ k)) ∙ omega arith

-- the digit above the lowest
pub digit_suc : (s k : ℕ) → digit s (suc k) ≡ digit (s / 2) k
digit_suc s k = ap (λ x. x % 2) (ap (λ e. s / 2 ^ e) (omega arith) ∙ sym (shr-shr s 1 k))

-- two masks with the same digits are one
pub same_digits : (w a b : ℕ) → a < 2 ^ w → b < 2 ^ w → ((k : ℕ) → k < w → digit a k ≡ digit b k) → a ≡ b
same_digits zero a b ha hb h = omega arith
same_digits (suc w) a b ha hb h =
    let p = pow-suc 2 w in
    let low = h 0 (omega arith) in
    let up : a / 2 ≡ b / 2 = same_digits w (a / 2) (b / 2) (omega arith) (omega arith) (λ k l. sym (digit_suc a k) ∙ h (suc k) (omega arith) ∙ digit_suc b k) in
    omega arith

-- nothing stands past the width
pub digit_high : (w a k : ℕ) → a < 2 ^ w → w ≤ k → digit a k ≡ 0
digit_high w a k lt le = ap (λ x. x % 2) (div-eq_of_lt (lt_of_lt_of_le lt (pow_mono le)))

-- a digit d put in front of w digits r
pub digit_top : (w r d : ℕ) → r < 2 ^ w → d < 2 → digit (r + d * 2 ^ w) w ≡ d
digit_top w r d lr ld = let e : r + d * 2 ^ w ≡ d * 2 ^ w + r = omega arith in ap (λ x. digit x w) e ∙ ap (λ x. x % 2) (high d w lr) ∙ omega arith

pub digit_below : (w r d k : ℕ) → k < w → digit (r + d * 2 ^ w) k ≡ digit r k
digit_below zero r d k l = absurd (omega arith)
digit_below (suc w) r d zero l = omega (arith, block_odd d w r)
digit_below (suc w) r d (suc k) l =
    let e : r + d * 2 ^ suc w ≡ d * 2 ^ suc w + r = omega arith in
    let f : d * 2 ^ w + r / 2 ≡ r / 2 + d * 2 ^ w = omega arith in
    digit_suc (r + d * 2 ^ suc w) k ∙ ap (λ x. digit x k) (ap (λ x. x / 2) e ∙ block_half d w r ∙ f) ∙ digit_below w (r / 2) d k (omega arith) ∙ sym (digit_suc r k)

-- the code's test of one node
pub and_one : (s k : ℕ) → bit_and s (2 ^ k) ≡ digit s k * 2 ^ k
and_one s k =
    let p = pow-suc 2 k in
    let e : 2 ^ (1 + k) - 2 ^ k ≡ 2 ^ k = omega (arith, pow-add 2 1 k) in
    ap (bit_and s) (sym e) ∙ and_high s 1 k
