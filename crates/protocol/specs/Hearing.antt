-- What a node does with a message, from its record and the message together. Assumes nothing.
use Rattle.std.specs.Prelude.{ℕ, ◌-◌, Bool, true, false, cond, ◌&&◌, List, Some, None, Option, ◌==◌, slice_index_or, slice_set}
use Rattle.sets.specs.Sets.{node?, nodes_with}
use Rattle.trust.specs.Trust.{Trust, holds_quorum, holds_kernel}
use Rattle.protocol.specs.declared.message.Place.{Place}
use Rattle.protocol.specs.declared.message.Kind.{Kind}
use Rattle.protocol.specs.declared.message.Kind.TheVariants.{Send, Echo, Ready}
use Rattle.protocol.specs.declared.record.Heard.{Heard}
use Rattle.protocol.specs.declared.record.Heard.TheVariants.{Ignored, Recorded, Echoed, Readied, Delivered, ReadiedDelivered}
use Rattle.protocol.specs.declared.record.Record.{Record}

abbrev pub absent : Option Place → Bool
absent None = true
absent (Some _) = false

-- the place v stands there
abbrev pub is : Place → Option Place → Bool
is v None = false
is v (Some u) = u.0 == v.0

-- what is recorded from node i, i from 1
abbrev pub entry : List (Option Place) → ℕ → Option Place
entry xs i = slice_index_or xs (i - 1) None

-- the set of the nodes recorded with v
abbrev pub recorded_with : List (Option Place) → Place → ℕ
recorded_with xs v = nodes_with 16 (λ i. is v (entry xs i))

-- v where the test passes and nothing stands there yet, and whether that is so
abbrev pub once : Bool → Place → Option Place → Option Place
once b v (Some u) = Some u
once b v None = cond b (Some v) None

abbrev pub now_set : Bool → Option Place → Bool
now_set b (Some u) = false
now_set b None = b

-- what a record has of node i's messages of a kind, i from 1: it echoed what it took from the slot's sender
abbrev pub taken : ℕ → Record → Kind → ℕ → Option Place
taken sender r Send i = cond (i == sender) r.echoed None
taken sender r Echo i = entry r.echoes i
taken sender r Ready i = entry r.readies i

-- only the slot's sender has a SEND to say
abbrev pub may_say : ℕ → Kind → ℕ → Bool
may_say sender Send i = i == sender
may_say sender Echo i = true
may_say sender Ready i = true

-- a message that a node does not ignore, of n nodes: the first of its kind from node i
abbrev pub heeds : ℕ → ℕ → Record → Kind → ℕ → Bool
heeds n sender r m i = node? n i && may_say sender m i && absent (taken sender r m i)

abbrev pub told : Bool → Bool → Heard
told true true = ReadiedDelivered
told true false = Readied
told false true = Delivered
told false false = Recorded

-- what node `me` does with a message that it heeds
abbrev pub takes : Trust → ℕ → Record → Kind → ℕ → Place → Record × Heard
takes t me r Send i v =
    (record { echoed = Some v; readied = r.readied; delivered = r.delivered; echoes = r.echoes; readies = r.readies }, Echoed)
takes t me r Echo i v =
    let es : List (Option Place) = slice_set r.echoes (i - 1) (Some v) in
    let q : Bool = holds_quorum t me (recorded_with es v) in (
      record { echoed = r.echoed; readied = once q v r.readied; delivered = r.delivered; echoes = es; readies = r.readies },
      told (now_set q r.readied) false,
    )
takes t me r Ready i v =
    let rs : List (Option Place) = slice_set r.readies (i - 1) (Some v) in
    let k : Bool = holds_kernel t me (recorded_with rs v) in
    let q : Bool = holds_quorum t me (recorded_with rs v) in (
      record { echoed = r.echoed; readied = once k v r.readied; delivered = once q v r.delivered; echoes = r.echoes; readies = rs },
      told (now_set k r.readied) (now_set q r.delivered),
    )

abbrev pub hear : Trust → ℕ → ℕ → Record → Kind → ℕ → Place → Record × Heard
hear t me sender r m i v = cond (heeds t.size sender r m i) (takes t me r m i v) (r, Ignored)
