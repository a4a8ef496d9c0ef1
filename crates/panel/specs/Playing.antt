-- What playing a list of calls owes.
use Rattle.std.specs.Prelude.{◌≡◌, ℕ, ◌≤◌, List, [], ◌∷◌, map, length, drop}
use Rattle.trust.specs.Trust.{Trust}
use Rattle.runs.specs.declared.call.Call.{Call}
use Rattle.runs.specs.declared.call.Entry.{Entry}
use Rattle.runs.specs.Values.{Values}
use Rattle.runs.specs.Calls.{World, State, answer, Answer}
use Rattle.runs.specs.Promise.{History, CameAbout, Assured}
use Rattle.panel.specs.declared.panel.Panel.{Panel}
use Rattle.panel.specs.Views.{world_of, state_of, Carries}

-- the answers to a list of calls, each passed a roll of that many places, and the state after them
abbrev pub played : {V : Type 0} → Values V → World → ℕ → State V → List (Call V) → List Answer × State V
played values w places x [] = ([], x)
played values w places x (c ∷ cs) =
    ((answer values w places x c).0 ∷ (played values w places (answer values w places x c).1 cs).0, (played values w places (answer values w places x c).1 cs).1)

abbrev pub call_of : {V : Type 0} → Entry V → Call V
call_of e = e.call

abbrev pub answer_of : {V : Type 0} → Entry V → Answer
answer_of e = e.answer

-- each call of a list is made, in order, and its answer written beside it
pub record Plays {R V : Type 0} (values : Values V) (meaning : R → Trust) (p : Panel R) (roll : List V) (list : List (Entry V)) (q : Panel R) (after : List V) (log : List (Entry V)) : Type 0 where
  pub same_world : world_of meaning q ≡ world_of meaning p
  pub same_length : length after ≡ length roll
  pub grows : p.board.used ≤ q.board.used
  pub beyond : drop q.board.used after ≡ drop q.board.used roll
  pub same_calls : map call_of log ≡ map call_of list
  -- whatever row the roll carries: answers and state are those stated for the list
  pub answers :
      (row : List V) → Carries p.board.used row roll
      → (new : List V) × Carries q.board.used new after × (played values (world_of meaning p) (length roll) (state_of p row) (map call_of list) ≡ (map answer_of log, state_of q new))

-- a history with the calls of a list made after it, each with its answer and passed a roll of that many places
abbrev pub logged : {V : Type 0} → ℕ → List (Entry V) → History V → History V
logged places [] h = h
logged places (e ∷ es) h = logged places es (record { places = places; call = e.call; answer = e.answer } ∷ h)

-- and where the state came about by calls, so did the one reached, and the promise holds in it
abbrev pub Promises : {R V : Type 0} → Values V → (R → Trust) → Panel R → List V → Panel R → List V → List (Entry V) → Type 0
Promises {R} {V} values meaning p roll q after log =
    (row : List V) (h : History V) → Carries p.board.used row roll → CameAbout values (world_of meaning p) h (state_of p row)
    → (new : List V) × Carries q.board.used new after
    × CameAbout values (world_of meaning q) (logged (length roll) log h) (state_of q new)
    × Assured values (world_of meaning q) (logged (length roll) log h) (state_of q new)
