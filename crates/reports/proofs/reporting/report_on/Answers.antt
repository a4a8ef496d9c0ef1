use Rattle.std.proofs.Common.{inl}
use Rattle.std.proofs.lemmas.Result.{IfOk-weaker}
use Rattle.reports.proofs.reporting.report_on.Goals as goal

pub returns-in-Ok : goal.returns-in-Ok
returns-in-Ok g c = IfOk-weaker c.of_statement.result _ _ (λ out is. inl (c.in-Ok.statement, c.in-Ok.ensures, is)) c.of_statement.ensures
