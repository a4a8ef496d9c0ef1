-- A broadcast's setting as far as its parties tell it, and what is counted in its slot.
use Rattle.std.specs.Prelude.{◌≡◌, ℕ, Bool, false, ◌&&◌, List}
use Rattle.protocol.specs.declared.message.Kind.{Kind}
use Rattle.protocol.specs.declared.slot.Slot.{Slot}
use Rattle.broadcast.specs.Slots.{Setting, correct?, said}
use Rattle.broadcast.specs.Counts.{any, proposed_count, echoed_count, readied_count, heard_count, waiting_count}
use Rattle.runs.specs.declared.call.Counts.{Counts}
use Rattle.runs.specs.Calls.{World, sender, slot_at, kind}
use Rattle.panel.specs.declared.board.index.Member.{Member}
use Rattle.panel.specs.declared.board.index.Route.{Route}
use Rattle.panel.specs.declared.board.index.SlotIndex.{SlotIndex}
use Rattle.panel.specs.declared.board.parties.Broadcast.{Broadcast}

-- a slot among n nodes. Whom they trust is left out: no count asks it
abbrev pub among : ℕ → ℕ → ℕ → Setting
among n faulty sender = record { trust = record { size = n; quorum = λ _ _. false; tolerated = λ _ _. false }; faulty = faulty; sender = sender }

abbrev pub setting_of : Broadcast → Setting
setting_of b = among b.parties.size b.parties.faulty.0 b.sender.0

-- a correct node has said something of a kind
abbrev pub says : Setting → Slot → Kind → ℕ → Bool
says w s m k = correct? w k && any (said w s m k)

-- what is answered of a node is what a test says of its number; and of a route, what one says of its kind and its two numbers
abbrev pub Tests : (Member → Bool → Type 0) → (ℕ → Bool) → Type 0
Tests answers p = (k : Member) (b : Bool) → answers k b → b ≡ p k.node.0

abbrev pub TestsRoutes : (Route → Bool → Type 0) → (Kind → ℕ → ℕ → Bool) → Type 0
TestsRoutes answers p = (r : Route) (b : Bool) → answers r b → b ≡ p r.kind r.from.node.0 r.to.node.0

-- a slot's five counts
abbrev pub counts_in : Setting → Slot → Counts
counts_in w s = record {
  proposed = proposed_count s;
  echoed = echoed_count w s;
  readied = readied_count w s;
  heard = heard_count w s;
  waiting = waiting_count w s;
}

-- a broadcast is that of a slot of a board
pub record IsBroadcastOf (w : World) (slots : List Slot) (s : ℕ) (b : Broadcast) : Type 0 where
  pub same_size : b.parties.size ≡ w.trust.size
  pub same_faulty : b.parties.faulty.0 ≡ w.faulty
  pub same_sender : b.sender.0 ≡ sender w s
  pub same_slot : b.slot.now ≡ slot_at slots s

-- a slot and a route are those that four numbers name
pub record IsRouteOf (n s i k : ℕ) (slot : SlotIndex) (route : Route) : Type 0 where
  pub same_kind : route.kind ≡ kind n
  pub same_slot : slot.number ≡ s
  pub same_from : route.from.node.0 ≡ i
  pub same_to : route.to.node.0 ≡ k
