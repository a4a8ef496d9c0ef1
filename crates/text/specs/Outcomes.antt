-- What a whole text comes to: the statement that it gives, or its first bad line.
use Rattle.std.specs.Prelude.{◌≡◌, ℕ, suc, ◌+◌, ◌<◌, Bool, true, false, cond, ◌⊎◌, List, [], ◌∷◌, map, length, take, drop, Some, None, Ok, Err, Option, Result, ◌==◌, nat_eq}
use Rattle.sets.specs.Sets.{rest, any_below}
use Rattle.trust.specs.declared.refusal.Refusal.{Refusal}
use Rattle.trust.specs.declared.refusal.Refusal.TheVariants.{Order, NoFailProneSet}
use Rattle.trust.specs.Refusals.{first_of}
use Rattle.trust.specs.declared.statement.Statement.{Statement}
use Rattle.trust.specs.Statements.{fail_sets, quorum_sets}
use Rattle.text.specs.declared.record.Role.TheVariants.{FailProne, Quorum}
use Rattle.text.specs.declared.record.Record.{Record}
use Rattle.text.specs.Lines.{LineOf, lines}
use Rattle.text.specs.Reading.{count_said, said, line_says}

-- there is no line at all
abbrev pub none? : List Record → Bool
none? [] = true
none? (r ∷ before) = false

-- a node has no F line
abbrev pub lacking? : List Record → Bool
lacking? before = any_below (count_said before) (λ k. nat_eq (length (said FailProne (suc k) before)) 0)

-- the refusal at the end of the text
abbrev pub end_refusal : List Record → Option Refusal
end_refusal before = first_of ((none? before, Order) ∷ ((lacking? before, NoFailProneSet) ∷ []))

-- a fault has its refusal, its line from 1, the place of the line in the text, and its bytes
pub data Outcome : Type 0 where
  accepted : List Record → Outcome
  refused : Refusal → (line at : ℕ) (part : List ℕ) → Outcome

abbrev pub at_end : List Record → ℕ → Option Refusal → Outcome
at_end before at None = accepted before
at_end before at (Some e) = refused e (suc (length before)) at []

-- the lines from a place on, after the records before, newest first: the first bad line decides
unfoldable pub outcome : List Record → ℕ → List LineOf → Outcome
outcome before at [] = at_end before at (end_refusal before)
outcome before at (l ∷ ls) = elim (line_says before l) [
  | Ok r ↦ outcome (r ∷ before) (at + length l.bytes + 1) ls
  | Err e ↦ refused e (suc (length before)) at l.bytes
]

abbrev pub outcome_of : List ℕ → Outcome
outcome_of text = outcome [] 0 (lines text)

-- the quorums of node i: those of its Q lines, or the rests of its fail-prone sets where it has none
abbrev pub quorums_said : List Record → ℕ → List ℕ
quorums_said before i =
    cond (length (said Quorum i before) == 0) (map (rest (count_said before)) (said FailProne i before)) (said Quorum i before)

-- a statement is what the records say
pub record Says (before : List Record) (s : Statement) : Type 0 where
  pub nodes : s.nodes ≡ count_said before
  pub fails : (k : ℕ) → k < count_said before → fail_sets s (suc k) ≡ said FailProne (suc k) before
  pub quorums : (k : ℕ) → k < count_said before → quorum_sets s (suc k) ≡ quorums_said before (suc k)

-- what the end of a text gives
abbrev pub Finished : List Record → Result Statement Refusal → Type 0
Finished before (Ok s) = (end_refusal before ≡ None) × Says before s
Finished before (Err e) = end_refusal before ≡ Some e

-- a text gives a statement
abbrev pub Accepts : List ℕ → Statement → Type 0
Accepts text s = (before : List Record) × (outcome_of text ≡ accepted before) × Says before s

-- a text is refused at a line, which is a part of it
abbrev pub Refuses : List ℕ → Refusal → ℕ → ℕ → List ℕ → Type 0
Refuses text e line at part = (outcome_of text ≡ refused e line at part) × (part ≡ take (length part) (drop at text))

-- what is answered for a text: P of the statement that it gives, or Q of its refusal and line
abbrev pub ByText : List ℕ → (Statement → Type 0) → (Refusal → ℕ → Type 0) → Type 0
ByText text P Q =
    ((s : Statement) × Accepts text s × P s)
    ⊎ ((e : Refusal) × (line : ℕ) × (at : ℕ) × (part : List ℕ) × Refuses text e line at part × Q e line)
