-- What each call does, one case for each way. Assumes nothing.
use Rattle.std.proofs.Common.{◌≡◌, ℕ, Bool, true, false, cond, not, ◌&&◌, List, is_some as option_is_some, Some, None, Option, sym, refl, Ok, Err}
use Rattle.std.proofs.lemmas.Bool.{and_parts, or_parts, not-false, both_ways}
use Rattle.sets.specs.Sets.{node?, has}
use Rattle.trust.specs.declared.refusal.Refusal.{Refusal}
use Rattle.protocol.specs.Hearing.{absent}
use Rattle.protocol.specs.Kinds.{kind_of}
use Rattle.protocol.specs.declared.message.Place.{Place}
use Rattle.protocol.specs.declared.record.Heard.{Heard}
use Rattle.protocol.specs.declared.record.Heard.TheVariants.{Ignored}
use Rattle.protocol.specs.declared.slot.Slot.{Slot}
use Rattle.broadcast.proofs.Places.{is_some}
use Rattle.runs.specs.declared.call.Call.{Call}
use Rattle.runs.specs.declared.call.Call.TheVariants.{Propose, Forge, Hand}
use Rattle.runs.specs.declared.call.Outcome.TheVariants.{Proposed, Already, Stepped}
use Rattle.runs.specs.Values.{Values}
use Rattle.runs.specs.Calls.{World, State, sender, correct, slot_at, known_in, place_of, entered, slot?, kind, message?, other_proposal, heeds_in, hears_in, waiting_in, with_proposal, propose_refusals, forge_refusals, hand_refusals, stepped, brought, answer, Answer}
use Rattle.runs.proofs.Refusing.{refuse_ways}

-- a slot below the slot count, and with it a kind's number in range
abbrev pub InSlots : World → ℕ → Type 0
InSlots w s = slot? w s ≡ true

abbrev pub Named : World → ℕ → ℕ → Type 0
Named w n s = (option_is_some (kind_of n) ≡ true) × InSlots w s

-- i is faulty and k is correct
abbrev pub FaultyToCorrect : World → ℕ → ℕ → Type 0
FaultyToCorrect w i k = ((node? w.trust.size i && has w.faulty i) ≡ true) × (correct w k ≡ true)

abbrev pub Fit : {V : Type 0} → Values V → V → Type 0
Fit values v = values.fit (values.meaning v) ≡ true

abbrev pub known : {V : Type 0} → Values V → State V → V → Option Place
known values x v = known_in values x.row v

-- the place that a value has or gets
abbrev pub placed : {V : Type 0} → Values V → State V → V → Place
placed values x v = place_of x.used (known values x v)

abbrev pub hearing : {V : Type 0} → World → State V → ℕ → ℕ → ℕ → ℕ → Place → Heard × List Slot
hearing w x n s i k p = hears_in w x.board s (kind n) i k p

-- with another board
abbrev pub on_board : {V : Type 0} → State V → List Slot → State V
on_board x b = record { used = x.used; row = x.row; board = b }

faulty_from : (w : World) (i : ℕ) → node? w.trust.size i ≡ true → correct w i ≡ false → (node? w.trust.size i && has w.faulty i) ≡ true
faulty_from w i node out = go (node? w.trust.size i) (has w.faulty i) node out
  where
    go : (a b : Bool) → a ≡ true → (a && not b) ≡ false → (a && b) ≡ true
    go true true e f = refl
    go true false e f = sym f
    go false b e f = e

message_parts : (w : World) (n s i k : ℕ) → not (message? w n s i k) ≡ false → Named w n s × (node? w.trust.size i ≡ true) × (node? w.trust.size k ≡ true)
message_parts w n s i k e =
    let (abc, to) = and_parts (option_is_some (kind_of n) && slot? w s && node? w.trust.size i) (node? w.trust.size k) (not-false _ e) in
    let (ab, from) = and_parts (option_is_some (kind_of n) && slot? w s) (node? w.trust.size i) abc in
    (and_parts (option_is_some (kind_of n)) (slot? w s) ab, from, to)

module _ {V : Type 0} (values : Values V) (w : World) (x : State V) where
  pub data Moves : Call V → Answer → State V → Type 0 where
    refuses : (c : Call V) (n : Refusal) → Moves c (Err n) x
    -- the proposal has the value already
    repeats : (s : ℕ) (v : V) (p : Place) → InSlots w s → correct w (sender w s) ≡ true → Fit values v
        → (slot_at x.board s).proposal ≡ Some p → known values x v ≡ Some p → Moves (Propose s v) (Ok Already) x
    offers : (s : ℕ) (v : V) → InSlots w s → correct w (sender w s) ≡ true → Fit values v → (slot_at x.board s).proposal ≡ None
        → Moves (Propose s v) (Ok Proposed) (entered x v (known values x v) (with_proposal x.board s (placed values x v)))
    ignores : (n s i k : ℕ) (v : V) → Named w n s → FaultyToCorrect w i k → Fit values v → heeds_in w x.board s (kind n) i k ≡ false → Moves (Forge n s i k v) (Ok (Stepped Ignored)) x
    forges : (n s i k : ℕ) (v : V) → Named w n s → FaultyToCorrect w i k → Fit values v → heeds_in w x.board s (kind n) i k ≡ true
        → Moves (Forge n s i k v) (Ok (Stepped (hearing w x n s i k (placed values x v)).0)) (entered x v (known values x v) (hearing w x n s i k (placed values x v)).1)
    hands : (n s i k : ℕ) (p : Place) → Named w n s → waiting_in w x.board s (kind n) i k ≡ Some p
        → Moves (Hand n s i k) (Ok (Stepped (hearing w x n s i k p).0)) (on_board x (hearing w x n s i k p).1)

  -- as a pair
  abbrev MovesTo : Call V → Answer × State V → Type 0
  MovesTo c r = Moves c r.0 r.1

  pub answered : (places : ℕ) (c : Call V) → Moves c (answer values w places x c).0 (answer values w places x c).1
  answered places (Propose s v) =
      refuse_ways (MovesTo (Propose s v)) (propose_refusals w x places s (values.fit (values.meaning v)) (known values x v)) x _ (refuses (Propose s v))
      (λ (_, (out, (party, (unfit, (other, _))))). go (slot_at x.board s).proposal refl (not-false _ out) (not-false _ party) (not-false _ unfit) other)
    where
      go : (o : Option Place) → (slot_at x.board s).proposal ≡ o → InSlots w s → correct w (sender w s) ≡ true → Fit values v → other_proposal o (known values x v) ≡ false
          → MovesTo (Propose s v) (cond (absent o) (Ok Proposed, entered x v (known values x v) (with_proposal x.board s (placed values x v))) (Ok Already, x))
      go None e a b c other = offers s v a b c e
      go (Some p) e a b c other = repeats s v p a b c e (is_some p (known values x v) (not-false _ other))
  answered places (Forge n s i k v) =
      refuse_ways (MovesTo (Forge n s i k v)) (forge_refusals w x places n s i k (values.fit (values.meaning v)) (known values x v)) x _ (refuses (Forge n s i k v))
      (λ (_, (out, (party, (unfit, _)))).
      let (named, from, to) = message_parts w n s i k out in
      let (i_out, k_in) = or_parts (correct w i) (not (correct w k)) party in
      go (heeds_in w x.board s (kind n) i k) refl named (faulty_from w i from i_out, not-false _ k_in) (not-false _ unfit))
    where
      go : (b : Bool) → heeds_in w x.board s (kind n) i k ≡ b → Named w n s → FaultyToCorrect w i k → Fit values v
          → MovesTo (Forge n s i k v) (cond b (stepped x v (known values x v) (hears_in w x.board s (kind n) i k (placed values x v))) (Ok (Stepped Ignored), x))
      go true e a l f = forges n s i k v a l f e
      go false e a l f = ignores n s i k v a l f e
  answered places (Hand n s i k) =
      refuse_ways (λ r. Moves (Hand n s i k) r.0 (on_board x r.1)) (hand_refusals w x.board n s i k) x.board _ (refuses (Hand n s i k))
      (λ (out, (_, (free, _))). go (waiting_in w x.board s (kind n) i k) refl (message_parts w n s i k out).0 free)
    where
      go : (o : Option Place) → waiting_in w x.board s (kind n) i k ≡ o → Named w n s → absent o ≡ false
          → (let r = brought w x.board s (kind n) i k o in Moves (Hand n s i k) r.0 (on_board x r.1))
      go None e a free = absurd (both_ways true free refl)
      go (Some p) e a free = hands n s i k p a e
