-- What holds after every list of calls, over every trust rule and value kind.
use Rattle.std.specs.Prelude.{◌≡◌, ℕ, ◌+◌, ◌*◌, ◌≤◌, Bool, true, false, cond, ◌&&◌, ◌⊎◌, List, [], ◌∷◌, Some, None, Option, ◌==◌, is_ok}
use Rattle.sets.specs.Sets.{has}
use Rattle.trust.specs.declared.refusal.Refusal.{Refusal}
use Rattle.trust.specs.Sorting.{wise_mask, max_guild}
use Rattle.broadcast.specs.Claims.{Quiet}
use Rattle.broadcast.specs.Counts.{correct_count}
use Rattle.runs.specs.declared.call.Call.{Call}
use Rattle.runs.specs.declared.call.Call.TheVariants.{Propose, Forge, Hand}
use Rattle.runs.specs.Values.{Values}
use Rattle.runs.specs.Calls.{World, State, setting, correct, sender, slot_at, slot?, opening, fresh, answer, Answer}
use Rattle.runs.specs.Readings.{counted, meant_at, held, claims, counts?, tally_of}

abbrev pub Wise : World → ℕ → Type 0
Wise w i = has (wise_mask w.trust w.faulty) i ≡ true

abbrev pub InGuild : World → ℕ → Type 0
InGuild w i = has (max_guild w.trust w.faulty) i ≡ true

-- a call that was made, the length of the roll that it was passed (of no account for a hand), and its answer
pub record Made (V : Type 0) : Type 0 where
  pub places : ℕ
  pub call : Call V
  pub answer : Answer

-- the calls made since the opening, the refused ones too, the latest first
abbrev pub History : Type 0 → Type 0
History V = List (Made V)

-- a state that calls brought about, from an opening that was not refused
pub data CameAbout {V : Type 0} (values : Values V) (w : World) : History V → State V → Type 0 where
  opened : (places : ℕ) → w.trust.size ≤ 16 → ◌≡◌ {A = Option Refusal} (opening w places) None → CameAbout values w [] fresh
  called :
      {h : History V} {x : State V} (places : ℕ) (c : Call V) → CameAbout values w h x
      → CameAbout values w (record { places = places; call = c; answer = (answer values w places x c).0 } ∷ h) (answer values w places x c).1

-- the accepted hands in slot s
abbrev pub hand_in : {V : Type 0} → ℕ → Call V → Bool
hand_in s (Propose t v) = false
hand_in s (Forge n t i k v) = false
hand_in s (Hand n t i k) = t == s

unfoldable pub handed : {V : Type 0} → ℕ → History V → ℕ
handed s [] = 0
handed s (e ∷ h) = cond (hand_in s e.call) (cond (is_ok e.answer) 1 0) 0 + handed s h

-- what the sender of slot s proposed: the meaning of its value
abbrev pub offered : {V : Type 0} (values : Values V) → State V → ℕ → Option values.Meaning
offered values x s = meant_at values x.row (slot_at x.board s).proposal

-- no message waits in slot s, and in any slot
abbrev pub QuietIn : {V : Type 0} → World → State V → ℕ → Type 0
QuietIn w x s = Quiet (setting w s) (slot_at x.board s)

abbrev pub AllQuiet : {V : Type 0} → World → State V → Type 0
AllQuiet w x = (s : ℕ) → slot? w s ≡ true → QuietIn w x s

pub record Assured {V : Type 0} (values : Values V) (w : World) (h : History V) (x : State V) : Type 0 where
  -- no two wise nodes hold different values in one slot
  pub agreement : (s i j : ℕ) (m n : values.Meaning) → Wise w i → Wise w j → held values x i s ≡ Some m → held values x j s ≡ Some n → m ≡ n
  -- where there is a guild, a wise node holds of a correct sender only what it proposed
  pub integrity :
      (s g i : ℕ) (m : values.Meaning) → InGuild w g → correct w (sender w s) ≡ true → Wise w i
      → held values x i s ≡ Some m → offered values x s ≡ Some m
  -- where nothing waits in a slot, what one wise node holds, or a correct sender proposed, the whole maximal guild holds
  pub totality :
      (s g : ℕ) (m : values.Meaning) → slot? w s ≡ true → QuietIn w x s
      → ((i : ℕ) × Wise w i × (held values x i s ≡ Some m)) ⊎ ((correct w (sender w s) ≡ true) × (offered values x s ≡ Some m))
      → InGuild w g → held values x g s ≡ Some m
  -- where nothing waits in any slot, the guild's nodes answer one tally for every account
  pub one_tally :
      AllQuiet w x → (i j account : ℕ) → InGuild w i → InGuild w j → tally_of values w x i account ≡ tally_of values w x j account
  -- and each claim that one of them holds counts, with all of them, in exactly one slot
  pub one_count :
      AllQuiet w x → (s i : ℕ) (m : values.Meaning) → InGuild w i → held values x i s ≡ Some m
      → (r : ℕ) × ((q j : ℕ) → InGuild w j → (counts? values x j q && claims values (values.claim m) (held values x j q)) ≡ (q == r))
  -- what a slot's counts say of heard is the accepted hands
  pub heard : (s : ℕ) → slot? w s ≡ true → (counted w x.board s).heard ≡ handed s h
  -- each message between correct nodes is handed over once or waits
  pub balance : (s : ℕ) → slot? w s ≡ true → (let n = counted w x.board s in
      n.heard + n.waiting ≡ correct_count (setting w s) * (n.proposed + n.echoed + n.readied))
  pub bound : (s : ℕ) → slot? w s ≡ true → (let n = counted w x.board s in let c : ℕ = correct_count (setting w s) in
      n.heard + n.waiting ≤ c + 2 * c * c)

-- the promise, of every kind of value
abbrev pub Kept : {V : Type 0} → Values V → Type 0
Kept {V} values = (w : World) (h : History V) (x : State V) → CameAbout values w h x → Assured values w h x
