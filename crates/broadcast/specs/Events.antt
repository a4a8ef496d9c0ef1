-- What happens in a slot: a proposal, a faulty node's message, a correct node's message handed over. Assumes nothing.
use Rattle.std.specs.Prelude.{ℕ, cond, ◌&&◌, List, [], ◌∷◌, Some, None, Option}
use Rattle.protocol.specs.Hearing.{once, hear}
use Rattle.protocol.specs.declared.message.Place.{Place}
use Rattle.protocol.specs.declared.message.Kind.{Kind}
use Rattle.protocol.specs.declared.slot.Slot.{Slot}
use Rattle.broadcast.specs.Slots.{Setting, correct?, faulty?, record_at, with_record, waiting}

-- `forge` and `hand` bring a message from i to k
pub data Event : Type 0 where
  propose : Place → Event
  forge : Kind → ℕ → ℕ → Place → Event
  hand : Kind → ℕ → ℕ → Event

-- node k hears v from i
abbrev pub hears : Setting → Kind → ℕ → ℕ → Place → Slot → Slot
hears w m i k v s = with_record s k (hear w.trust k w.sender (record_at s k) m i v).0

-- only a correct sender's first proposal has effect
abbrev pub proposes : Setting → Place → Slot → Slot
proposes w v s = record { proposal = once (correct? w w.sender) v s.proposal; records = s.records }

abbrev pub hears_waiting : Setting → Kind → ℕ → ℕ → Slot → Option Place → Slot
hears_waiting w m i k s None = s
hears_waiting w m i k s (Some v) = hears w m i k v s

abbrev pub step : Setting → Slot → Event → Slot
step w s (propose v) = proposes w v s
step w s (forge m i k v) = cond (faulty? w i && correct? w k) (hears w m i k v s) s
step w s (hand m i k) = hears_waiting w m i k s (waiting w s m i k)

abbrev pub run : Setting → Slot → List Event → Slot
run w s [] = s
run w s (e ∷ es) = run w (step w s e) es
