use Rattle.std.proofs.Common.{refl}
use Rattle.runs.proofs.Promised.{kept}
use Rattle.runs.proofs.LawsOutcome.{one_outcome}
use Rattle.runs.proofs.LawsWaiting.{waiting_law}
use Rattle.runs.proofs.LawsRecord.{record_law}
use Rattle.runs.proofs.theorems.run_theorems.Goals as goal

pub returns : goal.returns
returns g c = let values = g.V.ValueKind.values in record { number = refl; hold = (kept values, (one_outcome values, (waiting_law values, (record_law values, tt)))) }
