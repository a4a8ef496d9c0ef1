-- A slot's counts: what was said, what was heard and what waits between correct nodes. Assumes nothing.
use Rattle.std.specs.Prelude.{ℕ, zero, suc, ◌+◌, Bool, cond, not, ◌&&◌, List, [], ◌∷◌, Option}
use Rattle.protocol.specs.Hearing.{absent, taken}
use Rattle.protocol.specs.declared.message.Place.{Place}
use Rattle.protocol.specs.declared.message.Kind.{Kind}
use Rattle.protocol.specs.declared.message.Kind.TheVariants.{Send, Echo, Ready}
use Rattle.protocol.specs.declared.slot.Slot.{Slot}
use Rattle.broadcast.specs.Slots.{Setting, correct?, record_at, waiting}
use Rattle.broadcast.specs.Events.{Event, propose, forge, hand, step}

abbrev pub any : Option Place → Bool
any o = not (absent o)

abbrev pub one : Bool → ℕ
one b = cond b 1 0

-- the sum of f over the nodes 1 to n
unfoldable pub sum : ℕ → (ℕ → ℕ) → ℕ
sum zero f = 0
sum (suc n) f = f (suc n) + sum n f

-- how many of the nodes 1 to n pass
abbrev pub count : ℕ → (ℕ → Bool) → ℕ
count n p = sum n (λ i. one (p i))

-- how many messages of a kind from a correct node i to a correct node k pass
abbrev pub between : Setting → (ℕ → ℕ → Bool) → ℕ
between w p = sum w.trust.size (λ i. count w.trust.size (λ k. correct? w i && correct? w k && p i k))

abbrev pub each_kind : (Kind → ℕ) → ℕ
each_kind f = f Send + f Echo + f Ready

abbrev pub correct_count : Setting → ℕ
correct_count w = count w.trust.size (correct? w)

abbrev pub proposed_count : Slot → ℕ
proposed_count s = one (any s.proposal)

abbrev pub echoed_count : Setting → Slot → ℕ
echoed_count w s = count w.trust.size (λ k. correct? w k && any (record_at s k).echoed)

abbrev pub readied_count : Setting → Slot → ℕ
readied_count w s = count w.trust.size (λ k. correct? w k && any (record_at s k).readied)

-- as the records tell it
abbrev pub heard_count : Setting → Slot → ℕ
heard_count w s = each_kind (λ m. between w (λ i k. any (taken w.sender (record_at s k) m i)))

abbrev pub waiting_count : Setting → Slot → ℕ
waiting_count w s = each_kind (λ m. between w (λ i k. any (waiting w s m i k)))

-- a hand is accepted where its message waits
abbrev pub accepted : Setting → Slot → Event → ℕ
accepted w s (propose v) = 0
accepted w s (forge m i k v) = 0
accepted w s (hand m i k) = one (any (waiting w s m i k))

-- how many hands of a run are accepted
abbrev pub handed : Setting → Slot → List Event → ℕ
handed w s [] = 0
handed w s (e ∷ es) = accepted w s e + handed w (step w s e) es
