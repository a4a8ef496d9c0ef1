use Rattle.std.proofs.Common.{◌≡◌, take, drop}
use Rattle.panel.specs.Playing.{Plays}
use Rattle.panel.proofs.panel.Panel.run.Given as goal

abbrev pub invariant-loop-entry : goal.invariant-loop-entry
invariant-loop-entry g l =
    Plays g.V.ValueKind.values g.R.TrustRule.meaning l.initial.self l.initial.roll (take l.entry-index l.initial.log) l.self l.roll (take l.entry-index l.log)
    × (drop l.entry-index l.log ≡ drop l.entry-index l.initial.log)
