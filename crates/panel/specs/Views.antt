-- A panel and its roll as the statements see them, and what each public call owes.
use Rattle.std.specs.Prelude.{◌≡◌, ℕ, ◌≤◌, List, [], ◌∷◌, length, take, drop, Some, None, Ok, Err, Option, Result}
use Rattle.trust.specs.declared.refusal.Refusal.{Refusal}
use Rattle.trust.specs.Trust.{Trust}
use Rattle.runs.specs.declared.call.Call.{Call}
use Rattle.runs.specs.Values.{Values}
use Rattle.runs.specs.Calls.{World, State, opening, fresh, hand, answer, Answer}
use Rattle.runs.specs.Promise.{History, CameAbout}
use Rattle.panel.specs.declared.panel.Panel.{Panel}

abbrev pub world_of : {R : Type 0} → (R → Trust) → Panel R → World
world_of meaning p = record { trust = meaning p.rule.now; slots = p.count; faulty = p.faulty.0 }

abbrev pub state_of : {R V : Type 0} → Panel R → List V → State V
state_of p row = record { used = p.board.used; row = row; board = p.board.slots }

-- a roll has these values at its used places, as far as it reaches
pub record Carries {V : Type 0} (used : ℕ) (row roll : List V) : Type 0 where
  pub all : length row ≡ used
  pub front : take used roll ≡ take (length roll) row

-- what opening a panel owes: the smallest refusal, or a panel over the rule by which no call was made yet
abbrev pub Opens : {R V : Type 0} → Values V → (R → Trust) → R → ℕ → ℕ → ℕ → Result (Panel R) Refusal → Type 0
Opens {R} {V} values meaning rule slots faulty places r =
    let w : World = record { trust = meaning rule; slots = slots; faulty = faulty } in
    elim r [
      | Ok p ↦ ◌≡◌ {A = Option Refusal} (opening w places) None × (p.rule.now ≡ rule) × (world_of meaning p ≡ w) × (state_of {V = V} p [] ≡ fresh) × CameAbout values w [] (state_of p [])
      | Err n ↦ opening w places ≡ Some n
    ]

-- what a call owes that is passed the roll
pub record Does {R V : Type 0} (values : Values V) (meaning : R → Trust) (p : Panel R) (roll : List V) (c : Call V) (a : Answer) (q : Panel R) (after : List V) : Type 0 where
  -- rule, slot count and faulty mask stay, the roll keeps its length, and used places are only added
  pub same_world : world_of meaning q ≡ world_of meaning p
  pub same_length : length after ≡ length roll
  pub grows : p.board.used ≤ q.board.used
  pub beyond : drop q.board.used after ≡ drop q.board.used roll
  -- whatever row the roll carries: the answer and the state are those stated for the call
  pub answers :
      (row : List V) → Carries p.board.used row roll
      → (new : List V) × Carries q.board.used new after × (answer values (world_of meaning p) (length roll) (state_of p row) c ≡ (a, state_of q new))
  -- and the call extends every history by which the state came about
  pub history :
      (row : List V) (h : History V) → Carries p.board.used row roll → CameAbout values (world_of meaning p) h (state_of p row)
      → (new : List V) × Carries q.board.used new after × CameAbout values (world_of meaning q) (record { places = length roll; call = c; answer = a } ∷ h) (state_of q new)

-- what a hand owes, which is passed no roll
pub record Hands {R : Type 0} (meaning : R → Trust) (p : Panel R) (n s i k : ℕ) (a : Answer) (q : Panel R) : Type 0 where
  pub same_world : world_of meaning q ≡ world_of meaning p
  pub same_used : q.board.used ≡ p.board.used
  pub answers : hand (world_of meaning p) p.board.slots n s i k ≡ (a, q.board.slots)
