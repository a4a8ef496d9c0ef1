-- What is known of a record that is in range and in order.
use Rattle.std.proofs.Common.{◌≡◌, ℕ, ◌≤◌, true, ◌&&◌, eqb, leb, Some, None, Option, ⊎_elim, arith}
use Rattle.std.proofs.lemmas.Bool.{and_parts, leb-true, or_cases, eqb-true, false≢true}
use Rattle.sets.specs.Sets.{node?, set?}
use Rattle.text.specs.declared.record.Entry.{Entry}
use Rattle.text.specs.declared.record.Record.{Record}
use Rattle.text.specs.declared.record.Record.TheVariants.{Listed}
use Rattle.text.specs.Reading.{in_range?, in_order?, begun?}

-- an entry names a node and a set of the counted ones
pub entry_fits : (n : ℕ) (newest : Option Record) (e : Entry) → n ≤ 16 → begun? n newest ≡ true → in_range? n (Listed e) ≡ true → in_order? newest (Listed e) ≡ true
    → (1 ≤ e.node.0) × (e.node.0 ≤ 16) × (set? n e.set.0 ≡ true)
entry_fits n None e few begun range order = absurd (false≢true order)
entry_fits n (Some p) e few begun range order =
    let some = leb-true 1 n begun in
    ⊎_elim (λ none. let z = eqb-true n 0 none in absurd (omega arith))
    (λ both. let (node, fits) = and_parts (node? n e.node.0) (set? n e.set.0) both in
    let (low, high) = and_parts (leb 1 e.node.0) (leb e.node.0 n) node in
    (leb-true 1 e.node.0 low, (let h = leb-true e.node.0 n high in omega arith), fits))
    (or_cases (eqb n 0) (node? n e.node.0 && set? n e.set.0) range)
