-- What program `judge` prints for a statement text.
use Rattle.std.specs.Prelude.{◌≡◌, ℕ, Bool, cond, List, [], ◌∷◌, ◌++◌, codes, decimal, Some, None, Option}
use Rattle.std.specs.Option.{option_map}
use Rattle.sets.specs.declared.Node.{Node}
use Rattle.trust.specs.declared.judging.Judgement.{Judgement}
use Rattle.trust.specs.Judging.{Judged}
use Rattle.trust.specs.Statements.{meant}
use Rattle.trust.specs.Trust.{Trust, sound}
use Rattle.trust.specs.declared.statement.Statement.{Statement}
use Rattle.reports.specs.Reporting.{ReportsOn}

-- a verdict as it is written: all pass, or the first that does not
abbrev pub verdict_words : {T : Type 0} → (T → Option (List ℕ)) → Option T → Option (List ℕ)
verdict_words words None = Some (codes "all")
verdict_words words (Some x) = option_map (λ bs. codes "fails first at " ++ bs) (words x)

-- a verdict on pairs
abbrev pub pair_bytes : Option (Node × Node) → List ℕ
pair_bytes None = codes "all"
pair_bytes (Some (i, j)) = codes "fails first at " ++ (decimal i.0 ++ (32 ∷ decimal j.0))

-- a verdict on nodes
abbrev pub node_bytes : Option Node → List ℕ
node_bytes None = codes "all"
node_bytes (Some i) = codes "fails first at " ++ decimal i.0

abbrev pub yes_bytes : Bool → List ℕ
yes_bytes b = cond b (codes "yes") (codes "no")

-- four lines: the three verdicts, and whether the statement is sound
unfoldable pub judgement_bytes : Trust → Judgement → List ℕ
judgement_bytes t j =
    codes "B3: " ++ (pair_bytes j.b3 ++ ((10 ∷ codes "consistency: ") ++ (pair_bytes j.consistency
    ++ ((10 ∷ codes "availability: ") ++ (node_bytes j.availability ++ ((10 ∷ codes "sound: ") ++ (yes_bytes (sound t) ++ (10 ∷ []))))))))

-- what is written of a statement: its judgement
abbrev pub SaysJudgement : Statement → List ℕ → Type 0
SaysJudgement s out = (j : Judgement) × Judged (meant s) j × (out ≡ judgement_bytes (meant s) j)

-- the judgement of the statement that the text gives, or the refusal of its first bad line
abbrev pub Judges : List ℕ → List ℕ → Type 0
Judges text out = ReportsOn SaysJudgement text out
