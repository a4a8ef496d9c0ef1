-- The table of worked samples. Assumes nothing.
use Rattle.std.specs.Prelude.{◌≡◌, ℕ, zero, suc, ◌+◌, true, false, List, [], ◌∷◌, map, Some, None, Option}
use Rattle.sets.specs.Sets.{node?, rest}
use Rattle.trust.specs.Trust.{Trust, holds_kernel, sound}
use Rattle.trust.specs.Sorting.{wise_mask, naive_mask, max_guild}
use Rattle.trust.specs.Judging.{b3, first_pair}
use Rattle.trust.specs.Threshold.{threshold}
use Rattle.trust.specs.ByLists.{by_lists}
use Rattle.protocol.specs.declared.message.Place.{Place}
use Rattle.protocol.specs.declared.slot.Slot.{Slot}
use Rattle.runs.specs.Calls.{State}
use Rattle.runs.specs.Readings.{tally_of}
use Rattle.kinds.specs.declared.issue.Issue.{Issue}
use Rattle.kinds.specs.Issues.{fit_issue, issues}

-- the list of node i
abbrev pub of_node : List (List ℕ) → ℕ → List ℕ
of_node [] i = []
of_node (f ∷ fs) zero = []
of_node (f ∷ fs) (suc zero) = f
of_node (f ∷ fs) (suc (suc k)) = of_node fs (suc k)

-- the fail-prone sets of the nodes 1 to n; the quorums are their rests
abbrev pub by_fails : ℕ → List (List ℕ) → Trust
by_fails n fs = by_lists n (of_node fs) (λ i. map (rest n) (of_node fs i))

abbrev pub five : Trust
five = by_fails 5 ((0x18 ∷ []) ∷ (0x18 ∷ []) ∷ (0x18 ∷ []) ∷ (0x01 ∷ 0x10 ∷ []) ∷ (0x02 ∷ 0x08 ∷ []) ∷ [])

abbrev pub four : Trust
four = by_fails 4 ((0x2 ∷ 0xc ∷ []) ∷ (0x1 ∷ 0xc ∷ []) ∷ (0x3 ∷ []) ∷ (0x6 ∷ []) ∷ [])

-- the five nodes sorted for a faulty set
pub record Sorts (faulty wise naive guild : ℕ) : Type 0 where
  pub wise_is : wise_mask five faulty ≡ wise
  pub naive_is : naive_mask five faulty ≡ naive
  pub guild_is : max_guild five faulty ≡ guild

-- an issue of account 7 by one request, which a lifetime and a key tell apart
abbrev pub renewed : ℕ → ℕ → Issue
renewed key life = record { account = 7; device = 1; request = 1; key_print = key; start = 100; end = 100 + life }

-- node 1 delivered the value at place p
abbrev pub delivered_at : Option Place → Slot
delivered_at p = record {
  proposal = None;
  records = record { echoed = None; readied = None; delivered = p; echoes = []; readies = [] } ∷ [];
}

-- slots 2 and 5 have one claim, under two keys
abbrev pub twice_claimed : State Issue
twice_claimed =
    let none : Slot = delivered_at None in record {
      used = 2;
      row = renewed 1 60 ∷ renewed 2 60 ∷ [];
      board = none ∷ none ∷ delivered_at (Some (record { 0 = 0 })) ∷ none ∷ none ∷ delivered_at (Some (record { 0 = 1 })) ∷ [];
    }

pub record Samples : Type 0 where
  pub s1 : Sorts 0x00 0x1f 0x00 0x1f
  pub s2 : Sorts 0x01 0x08 0x16 0x00
  pub s3 : Sorts 0x02 0x10 0x0d 0x00
  pub s4 : Sorts 0x04 0x00 0x1b 0x00
  pub s5 : Sorts 0x08 0x17 0x00 0x17
  pub s6 : Sorts 0x10 0x0f 0x00 0x0f
  pub s7 : Sorts 0x18 0x07 0x00 0x07
  pub s8 : (sound (threshold 4 1 3) ≡ true) × (sound (threshold 3 1 2) ≡ false)
  pub s9 : (i : ℕ) → node? 4 i ≡ true → (holds_kernel (threshold 4 1 3) i 0x3 ≡ true) × (holds_kernel (threshold 4 1 3) i 0x1 ≡ false)
  pub s10 : first_pair 4 4 (b3 four) ≡ Some (record { 0 = 1 }, record { 0 = 2 })
  pub s11 : (fit_issue (renewed 1 7776000) ≡ true) × (fit_issue (renewed 1 7776001) ≡ false) × (fit_issue (renewed 1 0) ≡ false)
  pub s12 : tally_of issues (record { trust = five; slots = 6; faulty = 0 }) twice_claimed 1 7 ≡ (1, 1)

abbrev pub sample_total : ℕ
sample_total = 12
