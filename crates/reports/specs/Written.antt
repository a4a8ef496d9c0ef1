-- How masks are written: four hexadecimal digits with small letters.
use Rattle.std.specs.Prelude.{ℕ, ◌+◌, ◌/◌, ◌%◌, cond, List, [], ◌∷◌, ◌++◌, codes, decimal, nat_lt}

abbrev pub hex_byte : ℕ → ℕ
hex_byte d = cond (nat_lt d 10) (48 + d) (87 + d)

abbrev pub mask_bytes : ℕ → List ℕ
mask_bytes m = hex_byte (m / 4096) ∷ (hex_byte (m / 256 % 16) ∷ (hex_byte (m / 16 % 16) ∷ (hex_byte (m % 16) ∷ [])))

-- fields parted by one space, and a line end
unfoldable pub row_bytes : ℕ → ℕ → ℕ → ℕ → List ℕ
row_bytes faulty wise naive guild =
    mask_bytes faulty ++ (32 ∷ (mask_bytes wise ++ (32 ∷ (mask_bytes naive ++ (32 ∷ (mask_bytes guild ++ (10 ∷ [])))))))

-- a refusal is one line: its number and the line that it names
abbrev pub refused_bytes : ℕ → ℕ → List ℕ
refused_bytes number line = codes "refused " ++ (decimal number ++ (32 ∷ (decimal line ++ (10 ∷ []))))
