-- The counts that a broadcast tells are those of its setting and slot.
use Rattle.std.proofs.Common.{◌≡◌, ℕ, List, refl}
use Rattle.protocol.specs.declared.slot.Slot.{Slot}
use Rattle.runs.specs.Calls.{World, setting, slot_at}
use Rattle.panel.specs.Broadcasts.{setting_of, counts_in, IsBroadcastOf}
use Rattle.panel.specs.declared.board.parties.Broadcast.{Broadcast}

module _ (w : World) (slots : List Slot) (s : ℕ) (b : Broadcast) (h : IsBroadcastOf w slots s b) where
  pub counts_same : counts_in (setting_of b) b.slot.now ≡ counts_in (setting w s) (slot_at slots s)
  counts_same = rw (h.same_size, h.same_faulty, h.same_sender, h.same_slot) refl
