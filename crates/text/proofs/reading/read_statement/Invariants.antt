use Rattle.std.proofs.Common.{◌≡◌, ◌-◌, ◌≤◌, List, length, drop}
use Rattle.text.specs.declared.record.Record.{Record}
use Rattle.text.specs.Lines.{lines}
use Rattle.text.specs.Outcomes.{outcome, outcome_of}
use Rattle.text.specs.Drafts.{Kept}
use Rattle.text.proofs.reading.read_statement.Given as goal

abbrev pub invariant-loop-line : goal.invariant-loop-line
invariant-loop-line l =
    (l.reader.text.now ≡ l.text)
    × (l.reader.at ≤ length l.text)
    × (l.reader.line ≤ l.reader.at)
    × ((before : List Record) × Kept l.draft before × (l.reader.line ≡ length before)
    × (outcome_of l.text ≡ outcome before l.reader.at (lines (drop l.reader.at l.text))))

abbrev pub decreases-loop-line : goal.decreases-loop-line
decreases-loop-line l = length l.text - l.reader.at
