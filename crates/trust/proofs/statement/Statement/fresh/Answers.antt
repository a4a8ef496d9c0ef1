use Rattle.trust.proofs.Fresh.{lone_sound}
use Rattle.trust.proofs.Witnessed.{witnessed}
use Rattle.trust.proofs.statement.Statement.fresh.Goals as goal

pub returns-clause-sound : goal.returns-clause-sound
returns-clause-sound c = lone_sound _ _ c.only.ensures c.only-2.ensures

pub returns-clause-witnesses : goal.returns-clause-witnesses
returns-clause-witnesses c = witnessed
