-- Four ASCII characters are four bytes.
use Rattle.std.proofs.Common.{◌≡◌, ℕ, ◌<◌, [], ◌∷◌, ◌++◌, ap, ◌∙◌, ap₂}
use lib.Utf8.{encode}
use Rattle.std.proofs.lemmas.Str.{encode_ascii}

pub four_bytes : (a b c d p q r s : ℕ) → (a ≡ p) × (a < 128) → (b ≡ q) × (b < 128) → (c ≡ r) × (c < 128) → (d ≡ s) × (d < 128)
    → encode a ++ (encode b ++ (encode c ++ encode d)) ≡ p ∷ (q ∷ (r ∷ (s ∷ [])))
four_bytes a b c d p q r s (ap', al) (bq, bl) (cr, cl) (ds, dl) =
    (ap₂ ◌++◌ (encode_ascii a al) (ap₂ ◌++◌ (encode_ascii b bl) (ap₂ ◌++◌ (encode_ascii c cl) (encode_ascii d dl))))
    ∙ (ap₂ ◌∷◌ ap' (ap₂ ◌∷◌ bq (ap₂ ◌∷◌ cr (ap (λ x. x ∷ []) ds))))
