-- What an open panel's readings answer: receipts, a slot's counts, tallies. They change nothing.
use Rattle.std.specs.Prelude.{ℕ, zero, suc, ◌+◌, Bool, false, cond, not, ◌&&◌, List, [], ◌∷◌, Some, None, Ok, Err, Option, Result, ◌==◌}
use Rattle.std.specs.Option.{option_map_or}
use Rattle.sets.specs.Sets.{node?, all_below}
use Rattle.trust.specs.declared.refusal.Refusal.{Refusal}
use Rattle.trust.specs.declared.refusal.Refusal.TheVariants.{RollSize, NoSuch, WrongParty}
use Rattle.trust.specs.Refusals.{first_of}
use Rattle.protocol.specs.declared.message.Place.{Place}
use Rattle.protocol.specs.declared.slot.Slot.{Slot}
use Rattle.broadcast.specs.Slots.{record_at}
use Rattle.broadcast.specs.Counts.{proposed_count, echoed_count, readied_count, heard_count, waiting_count}
use Rattle.runs.specs.declared.call.Counts.{Counts}
use Rattle.runs.specs.Values.{Values}
use Rattle.runs.specs.Calls.{World, State, setting, correct, slot_at, slot?, roll_size, at}

abbrev pub receipt_refusals : World → ℕ → ℕ → List (Bool × Refusal)
receipt_refusals w s k = (not (slot? w s && node? w.trust.size k), NoSuch) ∷ ((not (correct w k), WrongParty) ∷ [])

-- the place that node k delivered in a slot
abbrev pub receipt : World → List Slot → ℕ → ℕ → Result (Option Place) Refusal
receipt w b s k = option_map_or Err (first_of (receipt_refusals w s k)) (Ok (record_at (slot_at b s) k).delivered)

-- a slot's five counts
abbrev pub counted : World → List Slot → ℕ → Counts
counted w b s = record {
  proposed = proposed_count (slot_at b s);
  echoed = echoed_count (setting w s) (slot_at b s);
  readied = readied_count (setting w s) (slot_at b s);
  heard = heard_count (setting w s) (slot_at b s);
  waiting = waiting_count (setting w s) (slot_at b s);
}

abbrev pub counts : World → List Slot → ℕ → Result Counts Refusal
counts w b s = option_map_or Err (first_of ((not (slot? w s), NoSuch) ∷ [])) (Ok (counted w b s))

-- what the value at a place of the row means
abbrev pub meant_by : {V : Type 0} (values : Values V) → Option V → Option values.Meaning
meant_by values None = None
meant_by values (Some v) = Some (values.meaning v)

abbrev pub meant_at : {V : Type 0} (values : Values V) → List V → Option Place → Option values.Meaning
meant_at values row None = None
meant_at values row (Some p) = meant_by values (at row p.0)

-- what node k, from 1, holds in slot s: the meaning of the value that it delivered
abbrev pub held : {V : Type 0} (values : Values V) → State V → ℕ → ℕ → Option values.Meaning
held values x k s = meant_at values x.row (record_at (slot_at x.board s) k).delivered

abbrev pub claims : {V : Type 0} (values : Values V) → values.Claim → Option values.Meaning → Bool
claims values c None = false
claims values c (Some m) = values.same_claim (values.claim m) c

-- no slot below s that node k delivered carries the claim
abbrev pub first_claim : {V : Type 0} (values : Values V) → State V → ℕ → ℕ → values.Claim → Bool
first_claim values x k s c = all_below s (λ r. not (claims values c (held values x k r)))

-- a delivered slot counts when no lower slot that the node delivered carries the same claim
abbrev pub counts_as : {V : Type 0} (values : Values V) → State V → ℕ → ℕ → Option values.Meaning → Bool
counts_as values x k s None = false
counts_as values x k s (Some m) = first_claim values x k s (values.claim m)

abbrev pub counts? : {V : Type 0} (values : Values V) → State V → ℕ → ℕ → Bool
counts? values x k s = counts_as values x k s (held values x k s)

abbrev pub of_account : {V : Type 0} (values : Values V) → ℕ → Option values.Meaning → Bool
of_account values account None = false
of_account values account (Some m) = values.account m == account

-- how many numbers below n pass
unfoldable pub count_below : ℕ → (ℕ → Bool) → ℕ
count_below zero p = 0
count_below (suc n) p = count_below n p + cond (p n) 1 0

-- node k's tally of an account: of the slots in which it holds a value of that account, how many count, and how many do not
abbrev pub tally_of : {V : Type 0} → Values V → World → State V → ℕ → ℕ → ℕ × ℕ
tally_of values w x k account = (
  count_below w.slots (λ s. of_account values account (held values x k s) && counts? values x k s),
  count_below w.slots (λ s. of_account values account (held values x k s) && not (counts? values x k s)),
)

abbrev pub tally_refusals : World → ℕ → ℕ → ℕ → List (Bool × Refusal)
tally_refusals w used places k =
    (roll_size used places, RollSize) ∷ ((not (node? w.trust.size k), NoSuch) ∷ ((not (correct w k), WrongParty) ∷ []))

abbrev pub tally : {V : Type 0} → Values V → World → ℕ → State V → ℕ → ℕ → Result (ℕ × ℕ) Refusal
tally values w places x k account = option_map_or Err (first_of (tally_refusals w x.used places k)) (Ok (tally_of values w x k account))
