use Rattle.std.proofs.Common.{◌≡◌, string_bytes}
use Rattle.reports.specs.Guilds.{rows_to}
use Rattle.reports.proofs.guilds.table.Given as goal

abbrev pub invariant-loop-k : goal.invariant-loop-k
invariant-loop-k g l = string_bytes l.out ≡ rows_to (g.R.TrustRule.meaning l.rule) l.k
