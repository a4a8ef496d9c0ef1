-- The theorems of whole runs, in a table. Assumes nothing.
use Rattle.std.specs.Prelude.{List, [], ◌∷◌}
use Rattle.runs.specs.Values.{Values}
use Rattle.runs.specs.Promise.{Kept}
use Rattle.runs.specs.Laws.{OneOutcome, WaitingLaw, RecordLaw, ProposalLaw, PlaceLaw}

abbrev pub theorems : {V : Type 0} → Values V → List (Type 0)
theorems values = Kept values ∷ OneOutcome values ∷ WaitingLaw values ∷ RecordLaw values ∷ []

-- two laws more, of what a slot's calls proposed and of the used places
abbrev pub further_theorems : {V : Type 0} → Values V → List (Type 0)
further_theorems values = ProposalLaw values ∷ PlaceLaw values ∷ []
