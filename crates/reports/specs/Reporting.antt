-- What is written for a statement text.
use Rattle.std.specs.Prelude.{◌≡◌, ℕ, List}
use Rattle.trust.specs.declared.statement.Statement.{Statement}
use Rattle.trust.specs.Refusals.{refusal_number}
use Rattle.text.specs.Outcomes.{ByText}
use Rattle.reports.specs.Written.{refused_bytes}

-- what may be written of the statement that the text gives, or the refusal of its first bad line
abbrev pub ReportsOn : (Statement → List ℕ → Type 0) → List ℕ → List ℕ → Type 0
ReportsOn says text out = ByText text (λ s. says s out) (λ e line. out ≡ refused_bytes (refusal_number e) line)
