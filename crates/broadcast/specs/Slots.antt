-- One slot of a broadcast: who is correct, what each node has said, and which messages wait. Assumes nothing.
use Rattle.std.specs.Prelude.{ℕ, ◌-◌, Bool, cond, not, ◌&&◌, [], None, Option, ◌==◌, slice_index_or, slice_set}
use Rattle.sets.specs.Sets.{node?, has}
use Rattle.trust.specs.Trust.{Trust}
use Rattle.protocol.specs.Hearing.{absent, taken}
use Rattle.protocol.specs.declared.message.Place.{Place}
use Rattle.protocol.specs.declared.message.Kind.{Kind}
use Rattle.protocol.specs.declared.message.Kind.TheVariants.{Send, Echo, Ready}
use Rattle.protocol.specs.declared.record.Record.{Record}
use Rattle.protocol.specs.declared.slot.Slot.{Slot}

-- whom each node trusts, the set of the faulty nodes, and whose slot it is
pub record Setting : Type 0 where
  pub trust : Trust
  pub faulty : ℕ
  pub sender : ℕ

-- one of the nodes 1 to n, and not faulty, or faulty
abbrev pub correct? : Setting → ℕ → Bool
correct? w i = node? w.trust.size i && not (has w.faulty i)

abbrev pub faulty? : Setting → ℕ → Bool
faulty? w i = node? w.trust.size i && has w.faulty i

-- past the end of a list of records
abbrev pub no_record : Record
no_record = record { echoed = None; readied = None; delivered = None; echoes = []; readies = [] }

-- the record of node k, k from 1
abbrev pub record_at : Slot → ℕ → Record
record_at s k = slice_index_or s.records (k - 1) no_record

abbrev pub with_record : Slot → ℕ → Record → Slot
with_record s k r = record { proposal = s.proposal; records = slice_set s.records (k - 1) r }

-- what node i has said to all, by kind
abbrev pub said : Setting → Slot → Kind → ℕ → Option Place
said w s Send i = cond (i == w.sender) s.proposal None
said w s Echo i = (record_at s i).echoed
said w s Ready i = (record_at s i).readied

-- the message that waits from i to k: both are correct, i has said it, and k has taken nothing of that kind from i
abbrev pub waiting : Setting → Slot → Kind → ℕ → ℕ → Option Place
waiting w s m i k = cond (correct? w i && correct? w k && absent (taken w.sender (record_at s k) m i)) (said w s m i) None
