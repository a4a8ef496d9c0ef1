-- The theorems of one slot, in a table. Assumes nothing.
use Rattle.std.specs.Prelude.{◌≡◌, ℕ, ◌^◌, ◌<◌, ◌≤◌, true, List, [], ◌∷◌, Some}
use Rattle.sets.specs.Sets.{has}
use Rattle.trust.specs.Trust.{sound}
use Rattle.trust.specs.Sorting.{wise_mask, max_guild}
use Rattle.protocol.specs.Hearing.{entry}
use Rattle.protocol.specs.Fresh.{fresh_slot}
use Rattle.protocol.specs.declared.message.Place.{Place}
use Rattle.broadcast.specs.Slots.{Setting, record_at}
use Rattle.broadcast.specs.Events.{Event, run}
use Rattle.broadcast.specs.Claims.{Delivered, Quiet, Reliable, SlotIsReliable, SlotIsBalanced}

-- under a sound trust the wise nodes are safe and the maximal guild is live
abbrev pub GuildIsServed : Type 0
GuildIsServed =
    (w : Setting) → w.trust.size ≤ 16 → sound w.trust ≡ true → w.faulty < 2 ^ w.trust.size → (es : List Event)
    → Reliable w (wise_mask w.trust w.faulty) (max_guild w.trust w.faulty) (run w fresh_slot es)

-- a sound trust and a run in which node 4 is faulty and tells node 1 another value, after which nothing waits and a node of the maximal guild delivered
pub record Delivery : Type 0 where
  pub setting : Setting
  pub few : setting.trust.size ≤ 16
  pub is_sound : sound setting.trust ≡ true
  pub in_range : setting.faulty < 2 ^ setting.trust.size
  pub is_faulty : has setting.faulty 4 ≡ true
  pub events : List Event
  pub value : Place
  pub other : Place
  pub apart : value ≡ other → ⊥
  pub lied : entry (record_at (run setting fresh_slot events) 1).echoes 4 ≡ Some other
  pub quiet : Quiet setting (run setting fresh_slot events)
  pub node : ℕ
  pub in_guild : has (max_guild setting.trust setting.faulty) node ≡ true
  pub delivered : Delivered (run setting fresh_slot events) node value

abbrev pub theorems : List (Type 0)
theorems = SlotIsReliable ∷ GuildIsServed ∷ SlotIsBalanced ∷ Delivery ∷ []

abbrev pub AllHold : List (Type 0) → Type 0
AllHold [] = Unit {0}
AllHold (T ∷ Ts) = T × AllHold Ts
