-- What `{:04x}` writes of a mask.
use Rattle.std.proofs.Common.{◌≡◌, ℕ, suc, ◌/◌, ◌%◌, ◌^◌, ◌-◌, ◌<◌, ◌≤◌, false, List, [], ◌∷◌, ap, ◌∙◌, ⊎_elim, eqb, arith}
use Rattle.std.proofs.lemmas.Bool.{cond-true, cond-false, cases_lt, eq-eqb}
use Rattle.std.proofs.lemmas.Bool.Decides.{nat_tests}
use Rattle.std.proofs.lemmas.Fmt.{hex_one_digit, hex_two_digits}
use Rattle.std.specs.Fmt.{digits, digits_onto, digit_glyph, padded_integral, char_count, format_spec}

abbrev glyph : ℕ → ℕ
glyph d = digit_glyph false d

step : (k n : ℕ) (acc : List ℕ) → 16 ≤ n → digits_onto (suc k) 16 false n acc ≡ digits_onto k 16 false (n / 16) (glyph (n % 16) ∷ acc)
step k n acc large =
    let more : 1 ≤ n / 16 = omega arith in
    cond-false (eqb (n / 16) 0) _ _ (grind (arith, nat_tests, more))

last : (k n : ℕ) (acc : List ℕ) → n < 16 → digits_onto (suc k) 16 false n acc ≡ glyph n ∷ acc
last k n acc small =
    let same : n % 16 ≡ n = omega arith in
    cond-true (eqb (n / 16) 0) _ _ (eq-eqb (n / 16) 0 (omega arith)) ∙ ap (λ d. glyph d ∷ acc) same

three : (n : ℕ) → 256 ≤ n → n < 4096 → digits 16 false n ≡ glyph (n / 256) ∷ glyph (n / 16 % 16) ∷ glyph (n % 16) ∷ []
unfolding digits
three n large small =
    let front : n / 16 / 16 ≡ n / 256 = omega arith in
    step 63 n [] (omega arith) ∙ step 62 (n / 16) _ (omega arith) ∙ last 61 (n / 16 / 16) _ (omega arith)
    ∙ ap (λ d. glyph d ∷ glyph (n / 16 % 16) ∷ glyph (n % 16) ∷ []) front

four : (n : ℕ) → 4096 ≤ n → n < 65536 → digits 16 false n ≡ glyph (n / 4096) ∷ glyph (n / 256 % 16) ∷ glyph (n / 16 % 16) ∷ glyph (n % 16) ∷ []
unfolding digits
four n large small =
    let front : n / 16 / 16 / 16 ≡ n / 4096 = omega arith in
    let next : n / 16 / 16 % 16 ≡ n / 256 % 16 = omega arith in
    step 63 n [] (omega arith) ∙ step 62 (n / 16) _ (omega arith) ∙ step 61 (n / 16 / 16) _ (omega arith) ∙ last 60 (n / 16 / 16 / 16) _ (omega arith)
    ∙ ap (λ d. glyph d ∷ glyph (n / 16 / 16 % 16) ∷ glyph (n / 16 % 16) ∷ glyph (n % 16) ∷ []) front
    ∙ ap (λ d. glyph (n / 4096) ∷ glyph d ∷ glyph (n / 16 % 16) ∷ glyph (n % 16) ∷ []) next

pub hex_mask : (n : ℕ) → n < 65536
    → padded_integral (format_spec 32 0 4 4 (2 ^ 64 - 1)) false [] (digits 16 false n) ≡ glyph (n / 4096) ∷ glyph (n / 256 % 16) ∷ glyph (n / 16 % 16) ∷ glyph (n % 16) ∷ []
unfolding padded_integral char_count
hex_mask n small = ⊎_elim
    (λ one. let a : n / 4096 ≡ 0 = omega arith in let b : n / 256 % 16 ≡ 0 = omega arith in let c : n / 16 % 16 ≡ 0 = omega arith in let d : n % 16 ≡ n = omega arith in
    rw (hex_one_digit false n one, a, b, c, d))
    (λ l1. ⊎_elim
    (λ two. let a : n / 4096 ≡ 0 = omega arith in let b : n / 256 % 16 ≡ 0 = omega arith in let c : n / 16 % 16 ≡ n / 16 = omega arith in
    rw (hex_two_digits false n l1 two, a, b, c))
    (λ l2. ⊎_elim
    (λ th. let a : n / 4096 ≡ 0 = omega arith in let b : n / 256 % 16 ≡ n / 256 = omega arith in rw (three n l2 th, a, b))
    (λ l3. rw (four n l3 small))
    (cases_lt n 4096))
    (cases_lt n 256))
    (cases_lt n 16)
