use Rattle.std.proofs.Common.{rules}
use Rattle.reports.specs.Written.{row_bytes}
use Rattle.reports.proofs.written.RowDisplay.fmt.Goals as goal

pub returns-clause-writes : goal.returns-clause-writes
unfolding row_bytes
returns-clause-writes g c = search rules
