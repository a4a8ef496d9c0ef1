-- The one number that a host in C gets for a statement text and a faulty mask.
use Rattle.std.specs.Prelude.{◌≡◌, cond, List, ℕ, ◌+◌, ◌*◌, ◌^◌}
use Rattle.sets.specs.Sets.{set?}
use Rattle.trust.specs.declared.refusal.Refusal.{Refusal}
use Rattle.trust.specs.declared.refusal.Refusal.TheVariants.{FaultyMask, Unsound}
use Rattle.trust.specs.Refusals.{refusal_number}
use Rattle.trust.specs.Statements.{meant}
use Rattle.trust.specs.Trust.{Trust, sound}
use Rattle.trust.specs.Sorting.{wise_mask, max_guild}
use Rattle.text.specs.Outcomes.{ByText}

-- wise in bits 0 to 15, guild in 16 to 31
abbrev pub packed_masks : ℕ → ℕ → ℕ
packed_masks wise guild = wise + guild * 2 ^ 16

-- the refusal in bits 32 to 39, with no masks
abbrev pub packed_refusal : Refusal → ℕ
packed_refusal e = refusal_number e * 2 ^ 32

-- 8 comes before 9
abbrev pub packed : Trust → ℕ → ℕ
packed t faulty =
    cond (set? t.size faulty) (cond (sound t) (packed_masks (wise_mask t faulty) (max_guild t faulty)) (packed_refusal Unsound)) (packed_refusal FaultyMask)

-- the answer for the statement that the text gives, or for the refusal of its first bad line
abbrev pub Packs : List ℕ → ℕ → ℕ → Type 0
Packs text faulty r = ByText text (λ s. r ≡ packed (meant s) faulty) (λ e _. r ≡ packed_refusal e)
