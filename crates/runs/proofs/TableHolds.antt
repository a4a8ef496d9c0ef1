-- All theorems of whole runs hold, of every kind of value. Assumes nothing.
use Rattle.broadcast.specs.Theorems.{AllHold}
use Rattle.runs.specs.Values.{Values}
use Rattle.runs.specs.Theorems.{theorems, further_theorems}
use Rattle.runs.proofs.Promised.{kept}
use Rattle.runs.proofs.LawsOutcome.{one_outcome}
use Rattle.runs.proofs.LawsWaiting.{waiting_law}
use Rattle.runs.proofs.LawsRecord.{record_law}
use Rattle.runs.proofs.LawsProposal.{proposal_law, place_law}

pub all_hold : {V : Type 0} (values : Values V) → AllHold (theorems values)
all_hold values = (kept values, (one_outcome values, (waiting_law values, (record_law values, tt))))

pub further_hold : {V : Type 0} (values : Values V) → AllHold (further_theorems values)
further_hold values = (proposal_law values, (place_law values, tt))
