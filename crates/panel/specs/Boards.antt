-- A board beside its row, as the readings see them.
use Rattle.std.specs.Prelude.{ℕ, false, List, Some, None, Option}
use Rattle.std.specs.Borrow.{Bor}
use Rattle.runs.specs.Values.{Values}
use Rattle.runs.specs.Calls.{World, State}
use Rattle.panel.specs.declared.board.Board.{Board}

abbrev pub state_on : {V : Type 0} → Board → List V → State V
state_on b row = record { used = b.used; row = row; board = b.slots }

-- what a value that is lent means
abbrev pub lent : {V : Type 0} (values : Values V) → Option (Bor V) → Option values.Meaning
lent values None = None
lent values (Some v) = Some (values.meaning v.now)

-- a panel of which only the number of its slots is asked
abbrev pub of_slots : ℕ → World
of_slots n = record { trust = record { size = 0; quorum = λ _ _. false; tolerated = λ _ _. false }; slots = n; faulty = 0 }
