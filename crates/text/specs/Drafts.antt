-- What a draft holds, as an inner function's contract says it.
use Rattle.std.specs.Prelude.{◌≡◌, ℕ, suc, ◌-◌, ◌<◌, true, cond, List, ◌∷◌, ◌++◌, map, length, Some, Ok, Err, Option, Result, ◌==◌, slice_index_or}
use Rattle.std.specs.Option.{unwrap_or}
use Rattle.sets.specs.Sets.{rest}
use Rattle.sets.specs.Lists.{of_nodes?}
use Rattle.trust.specs.declared.refusal.Refusal.{Refusal}
use Rattle.text.specs.Lines.{LineOf}
use Rattle.text.specs.Reading.{in_range?, in_order?, newest_of, count_said, own, said, line_says}
use Rattle.trust.specs.declared.node_trust.NodeTrust.{NodeTrust}
use Rattle.trust.specs.declared.refusal.Refusal.TheVariants.{Range, Order}
use Rattle.trust.specs.NodeTrusts.{nothing}
use Rattle.text.specs.declared.draft.Draft.{Draft}
use Rattle.text.specs.declared.record.Role.{Role}
use Rattle.text.specs.declared.record.Role.TheVariants.{FailProne, Quorum}
use Rattle.text.specs.declared.record.Record.{Record}
use Rattle.text.specs.declared.record.Record.TheVariants.{Count, Listed}

-- how many nodes the N line gave, 0 before it
abbrev pub counted : Draft → ℕ
counted d = unwrap_or d.nodes 0

abbrev pub of_role : Role → NodeTrust → List ℕ
of_role FailProne t = t.fails
of_role Quorum t = t.quorums

-- the sets of a role of node k + 1
abbrev pub sets_at : Draft → Role → ℕ → List ℕ
sets_at d role k = of_role role (slice_index_or d.trust k nothing)

-- the quorums of a node: those listed, or the rests of its fail-prone sets where there are none
abbrev pub complete : ℕ → NodeTrust → NodeTrust
complete n t = record { fails = t.fails; quorums = cond (length t.quorums == 0) (map (rest n) t.fails) t.quorums }

-- how many sets of its role the node of a record has
abbrev pub held : Draft → Record → ℕ
held d (Count n) = 0
held d (Listed e) = length (sets_at d e.role (e.node.0 - 1))

abbrev pub count_after : ℕ → Record → ℕ
count_after n (Count c) = c
count_after n (Listed e) = n

-- the refusal of a record that is out of range, or out of order
abbrev pub placed : ℕ → Option Record → Record → Result (Unit {0}) Refusal
placed n newest r = cond (in_range? n r) (cond (in_order? newest r) (Ok tt) (Err Order)) (Err Range)

-- a draft with one record more
pub record Noted (d : Draft) (r : Record) (d' : Draft) : Type 0 where
  pub nodes : counted d' ≡ count_after (counted d) r
  pub newest : d'.newest ≡ Some r
  pub sets : (role : Role) (k : ℕ) → k < 16 → sets_at d' role k ≡ sets_at d role k ++ own role (suc k) r

-- a draft holds what the records before say, and all sets fit the nodes
pub record Kept (d : Draft) (before : List Record) : Type 0 where
  pub nodes : counted d ≡ count_said before
  pub newest : d.newest ≡ newest_of before
  pub sets : (role : Role) (k : ℕ) → k < 16 → sets_at d role k ≡ said role (suc k) before
  pub fit : (role : Role) (k : ℕ) → of_nodes? (counted d) (said role (suc k) before) ≡ true

-- what a line did to a draft
abbrev pub Taken : List Record → LineOf → Result (Unit {0}) Refusal → Draft → Type 0
Taken before l (Ok _) d = (r : Record) × (line_says before l ≡ Ok r) × Kept d (r ∷ before)
Taken before l (Err e) d = (line_says before l ≡ Err e) × Kept d before
