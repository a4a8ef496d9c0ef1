use Rattle.trust.proofs.Serving.{sound_serves}
use Rattle.trust.proofs.sorting.sort.Goals as goal

pub returns-then-not-fits-clause-serves : goal.returns-then-not-fits-clause-serves
returns-then-not-fits-clause-serves g c = sound_serves

pub returns-clause-serves : goal.returns-clause-serves
returns-clause-serves g c = sound_serves
