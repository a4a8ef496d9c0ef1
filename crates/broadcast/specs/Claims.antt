-- What every run of a slot keeps, for safe nodes and live nodes of which little is assumed. Assumes nothing.
use Rattle.std.specs.Prelude.{◌≡◌, ℕ, ◌+◌, ◌*◌, ◌≤◌, true, ◌⊎◌, List, Some, None}
use Rattle.sets.specs.Sets.{has}
use Rattle.trust.specs.Trust.{holds_quorum}
use Rattle.protocol.specs.Hearing.{recorded_with}
use Rattle.protocol.specs.Fresh.{fresh_slot}
use Rattle.protocol.specs.declared.message.Place.{Place}
use Rattle.protocol.specs.declared.message.Kind.{Kind}
use Rattle.protocol.specs.declared.slot.Slot.{Slot}
use Rattle.broadcast.specs.Slots.{Setting, correct?, record_at, waiting}
use Rattle.broadcast.specs.Events.{Event, run}
use Rattle.broadcast.specs.Counts.{correct_count, proposed_count, echoed_count, readied_count, heard_count, waiting_count, handed}

-- the safe nodes are correct, and quorums held by two of them share a correct node; the live nodes are safe and hold a quorum of each of them
pub record Assumed (w : Setting) (safe live : ℕ) : Type 0 where
  pub safe_correct : (i : ℕ) → has safe i ≡ true → correct? w i ≡ true
  pub shared : (i j a b : ℕ) → has safe i ≡ true → has safe j ≡ true → holds_quorum w.trust i a ≡ true → holds_quorum w.trust j b ≡ true
      → (c : ℕ) × (correct? w c ≡ true) × (has a c ≡ true) × (has b c ≡ true)
  pub live_safe : (i : ℕ) → has live i ≡ true → has safe i ≡ true
  pub live_quorum : (i : ℕ) → has live i ≡ true → holds_quorum w.trust i live ≡ true

abbrev pub Delivered : Slot → ℕ → Place → Type 0
Delivered s k v = (record_at s k).delivered ≡ Some v

-- nothing waits
abbrev pub Quiet : Setting → Slot → Type 0
Quiet w s = (m : Kind) (i k : ℕ) → waiting w s m i k ≡ None

-- a correct sender proposed v
abbrev pub Proposed : Setting → Slot → Place → Type 0
Proposed w s v = (correct? w w.sender ≡ true) × (s.proposal ≡ Some v)

-- node k readied v by its ECHOs, which hold a quorum of it
abbrev pub ReadiedByEchoes : Setting → Slot → ℕ → Place → Type 0
ReadiedByEchoes w s k v = ((record_at s k).readied ≡ Some v) × (holds_quorum w.trust k (recorded_with (record_at s k).echoes v) ≡ true)

pub record Reliable (w : Setting) (safe live : ℕ) (s : Slot) : Type 0 where
  -- no two safe nodes deliver different values
  pub agreement : (i j : ℕ) (u v : Place) → has safe i ≡ true → has safe j ≡ true → Delivered s i u → Delivered s j v → u ≡ v
  -- of a correct sender only what it proposed is delivered, if there is a live node
  pub integrity : (g i : ℕ) (v : Place) → has live g ≡ true → has safe i ≡ true → correct? w w.sender ≡ true → Delivered s i v → s.proposal ≡ Some v
  -- where nothing waits, what one safe node delivered, or a correct sender proposed, each live node delivered
  pub totality : (g : ℕ) (v : Place) → Quiet w s → ((i : ℕ) × (has safe i ≡ true) × Delivered s i v) ⊎ Proposed w s v → has live g ≡ true → Delivered s g v
  -- where a live node readied v, some live node readied v by its ECHOs
  pub origin : (g : ℕ) (v : Place) → has live g ≡ true → (record_at s g).readied ≡ Some v → (p : ℕ) × (has live p ≡ true) × ReadiedByEchoes w s p v

-- each message between correct nodes was heard or waits
pub record Balanced (w : Setting) (s : Slot) : Type 0 where
  pub balance : heard_count w s + waiting_count w s ≡ correct_count w * (proposed_count s + echoed_count w s + readied_count w s)
  pub bound : heard_count w s + waiting_count w s ≤ correct_count w + 2 * correct_count w * correct_count w

abbrev pub SlotIsReliable : Type 0
SlotIsReliable =
    (w : Setting) (safe live : ℕ) → w.trust.size ≤ 16 → Assumed w safe live → (es : List Event) → Reliable w safe live (run w fresh_slot es)

-- and what the records tell of heard is the accepted hands
abbrev pub SlotIsBalanced : Type 0
SlotIsBalanced =
    (w : Setting) → w.trust.size ≤ 16 → (es : List Event)
    → Balanced w (run w fresh_slot es) × (heard_count w (run w fresh_slot es) ≡ handed w fresh_slot es)
