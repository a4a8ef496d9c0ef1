use Rattle.std.proofs.Common.{◌≡◌, ℕ, List, map, Some, None, Ok, Err, Result, sym, ap, ◌∙◌, subst, rules}
use Rattle.std.specs.Result.{result_ok}
use Rattle.std.proofs.lemmas.Bool.{cond-true}
use Rattle.trust.specs.Fitting.{unfit}
use Rattle.trust.specs.declared.node_trust.NodeTrust.{NodeTrust}
use Rattle.trust.specs.declared.refusal.Refusal.{Refusal}
use Rattle.trust.specs.declared.refusal.Refusal.TheVariants.{Order}
use Rattle.trust.specs.declared.statement.Statement.{Statement}
use Rattle.text.specs.declared.draft.Draft.{Draft}
use Rattle.text.specs.declared.record.Record.{Record}
use Rattle.text.specs.Drafts.{complete, Kept}
use Rattle.text.specs.Outcomes.{Finished}
use Rattle.text.proofs.Finishing.{nothing_said, finished_by}
use Rattle.text.proofs.draft.Draft.finish.Goals as goal

-- what the clause says of a result, with the statement that stands in the end
abbrev Ends : List Record → Statement → Result (Unit {0}) Refusal → Type 0
Ends before s r = elim r as (λ _. Type 0) [ Ok _ ↦ Finished before (Ok s) | Err e ↦ Finished before (Err e) ]

abbrev Assigned : ℕ → List NodeTrust → Statement → Statement → Result (Unit {0}) Refusal → Type 0
Assigned n ts s old r = elim r as (λ _. Type 0) [ Ok _ ↦ (unfit n ts ≡ None) × (s.nodes ≡ n) × (s.trust ≡ ts) | Err e ↦ (unfit n ts ≡ Some e) × (s ≡ old) ]

assigned : (d : Draft) (before : List Record) → Kept d before → (n : ℕ) → d.nodes ≡ Some n → (ts : List NodeTrust) → ts ≡ map (complete n) d.trust
    → (s old : Statement) (r : Result (Unit {0}) Refusal) → Assigned n ts s old r → Ends before s r
assigned d before kept n is ts all s old (Ok _) made = finished_by d before kept n is ts (Ok s) all made
assigned d before kept n is ts all s old (Err e) made = finished_by d before kept n is ts (Err e) all made.0

pub returns-in_err-nodes-clause-finished : goal.returns-in_err-nodes-clause-finished
returns-in_err-nodes-clause-finished c = λ before kept.
    let exit : c.from_residual.result ≡ Err Order = search rules in
    let none = c.ok_or.ensures.ok_part ∙ ap result_ok c.in_err-nodes.was in
    subst (Ends before _) (sym exit) (cond-true _ _ _ (nothing_said c.args.self before kept none))

pub returns-clause-finished : goal.returns-clause-finished
returns-clause-finished c = λ before kept.
    assigned c.args.self before kept c.in_ok-nodes.nodes (c.ok_or.ensures.ok_part ∙ ap result_ok c.in_ok-nodes.was)
    c.completed.result c.completed.ensures _ _ c.assign.result c.assign.ensures
