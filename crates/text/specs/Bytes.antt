-- How a text is cut at a byte, and the two forms of numbers in it.
use Rattle.std.specs.Prelude.{ℕ, ◌+◌, ◌-◌, ◌*◌, Bool, cond, not, ◌&&◌, List, [], ◌∷◌, length, take, drop, Some, None, Option, ◌==◌, nat_le, nat_lt}
use Rattle.std.specs.List.{prefix_len}

-- how many bytes stand before the first `stop`
abbrev pub run_before : ℕ → List ℕ → ℕ
run_before stop bs = prefix_len (λ b. not (b == stop)) bs

-- the bytes before the first tab, and those after it, if there is one
abbrev pub first_field : List ℕ → List ℕ
first_field bs = take (run_before 9 bs) bs

abbrev pub after_field : List ℕ → Option (List ℕ)
after_field bs = cond (nat_lt (run_before 9 bs) (length bs)) (Some (drop (run_before 9 bs + 1) bs)) None

abbrev pub digit? : ℕ → Bool
digit? b = nat_le 48 b && nat_le b 57

-- 0, or one or two digits that do not begin with 0
abbrev pub decimal_of : List ℕ → Option ℕ
decimal_of [] = None
decimal_of (a ∷ []) = cond (digit? a) (Some (a - 48)) None
decimal_of (a ∷ (b ∷ [])) = cond (nat_le 49 a && nat_le a 57 && digit? b) (Some ((a - 48) * 10 + (b - 48))) None
decimal_of (a ∷ (b ∷ (c ∷ bs))) = None

-- a hexadecimal digit with a small letter
abbrev pub hex_value : ℕ → Option ℕ
hex_value b = cond (digit? b) (Some (b - 48)) (cond (nat_le 97 b && nat_le b 102) (Some (b - 87)) None)

abbrev pub shifted_by : Option ℕ → Option ℕ → Option ℕ
shifted_by (Some high) (Some low) = Some (high * 16 + low)
shifted_by (Some high) None = None
shifted_by None o = None

-- four hexadecimal digits
abbrev pub mask_of : List ℕ → Option ℕ
mask_of [] = None
mask_of (a ∷ []) = None
mask_of (a ∷ (b ∷ [])) = None
mask_of (a ∷ (b ∷ (c ∷ []))) = None
mask_of (a ∷ (b ∷ (c ∷ (d ∷ [])))) = shifted_by (shifted_by (shifted_by (hex_value a) (hex_value b)) (hex_value c)) (hex_value d)
mask_of (a ∷ (b ∷ (c ∷ (d ∷ (e ∷ bs))))) = None
