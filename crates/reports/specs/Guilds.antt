-- What program `guilds` prints for a statement text.
use Rattle.std.specs.Prelude.{◌≡◌, ℕ, zero, suc, ◌^◌, cond, List, [], ◌∷◌, ◌++◌, codes}
use Rattle.trust.specs.Statements.{meant}
use Rattle.trust.specs.Trust.{Trust, sound}
use Rattle.trust.specs.Sorting.{wise_mask, naive_mask, max_guild}
use Rattle.trust.specs.declared.statement.Statement.{Statement}
use Rattle.reports.specs.Written.{row_bytes, refused_bytes}
use Rattle.reports.specs.Reporting.{ReportsOn}

-- the nodes sorted for a faulty set
abbrev pub row_of : Trust → ℕ → List ℕ
row_of t faulty = row_bytes faulty (wise_mask t faulty) (naive_mask t faulty) (max_guild t faulty)

abbrev pub header : List ℕ
header = codes "faulty wise naive guild" ++ (10 ∷ [])

-- the header, the row of the empty set and those of the single nodes 1 to k
abbrev pub rows_to : Trust → ℕ → List ℕ
rows_to t zero = header ++ row_of t 0
rows_to t (suc k) = rows_to t k ++ row_of t (2 ^ k)

-- a rule that is not sound is refused with 9, at line 0
abbrev pub table_of : Trust → List ℕ
table_of t = cond (sound t) (rows_to t t.size) (refused_bytes 9 0)

-- what is written of a statement: its table
abbrev pub SaysTable : Statement → List ℕ → Type 0
SaysTable s out = out ≡ table_of (meant s)

-- the table of the statement that the text gives, or the refusal of its first bad line
abbrev pub Reports : List ℕ → List ℕ → Type 0
Reports text out = ReportsOn SaysTable text out
