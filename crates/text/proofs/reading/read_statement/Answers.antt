use Rattle.std.proofs.Common.{◌≡◌, ℕ, ◌+◌, ◌∷◌, List, Ok, Err, Result, ◌-◌, length, take, drop, sym, refl, ap, ◌∙◌, subst, arith, rules}
use Rattle.std.specs.Prelude.{MatchResult, IsErrAnd, OnErr}
use Rattle.std.proofs.lemmas.List.{drop_all, take_rest}
use Rattle.text.specs.Lines.{LineOf, NextLine}
use borrow.Author.Tests.{tests}
use Rattle.trust.specs.declared.refusal.Refusal.{Refusal}
use Rattle.trust.specs.declared.statement.Statement.{Statement}
use Rattle.text.specs.declared.reading.Fault.{Fault}
use Rattle.text.specs.declared.record.Record.{Record}
use Rattle.text.specs.Outcomes.{Finished, Accepts, Refuses}
use Rattle.text.specs.Drafts.{Taken}
use Rattle.text.proofs.Faults.{err_of, ok_of}
use Rattle.text.proofs.Walking.{walked_on, stopped, ended_well, ended_badly}
use Rattle.text.proofs.reading.read_statement.Goals as goal

pub loop-line-preserved : goal.loop-line-preserved
loop-line-preserved c =
    let i = c.loop-line.invariant in
    let (before, kept, line_is, so_far) = i.3 in
    let text_is = c.in-Some.ensures.text in
    let found = c.in-Some.ensures.found in
    let text = c.args.text.now in
    let at = c.loop-line.reader.at in
    let line : LineOf = record { bytes = c.in-Some.line.bytes.now; ended = c.in-Some.line.ended } in
    let next : NextLine text at line c.next_line.new.self.at = subst (λ t. NextLine t at line c.next_line.new.self.at) i.0 found.0 in
    let took = ok_of c.map_err.result _ c.take.result c.in_ok-map_err.field-0 c.map_err.ensures.cases c.in_ok-map_err.was in
    let (r, says, kept') = subst (λ o. Taken before line o c.take.new.self) took (c.take.ensures before kept) in (
      ap (λ t. t.now) text_is ∙ i.0,
      next.within,
      omega (arith, found.2, next.on, i.2),
      (r ∷ before, kept', omega (arith, found.2, line_is), walked_on text before at so_far line c.next_line.new.self.at r next says),
    )

pub returns-in_err-map_err : goal.returns-in_err-map_err
returns-in_err-map_err c =
    let i = c.loop-line.invariant in
    let (before, kept, line_is, so_far) = i.3 in
    let found = c.in-Some.ensures.found in
    let text = c.args.text.now in
    let at = c.loop-line.reader.at in
    let line : LineOf = record { bytes = c.in-Some.line.bytes.now; ended = c.in-Some.line.ended } in
    let next : NextLine text at line c.next_line.new.self.at = subst (λ t. NextLine t at line c.next_line.new.self.at) i.0 found.0 in
    let f : Fault = c.in_err-map_err.field-0.0 in
    let (e, took, made) = err_of c.map_err.result _ c.take.result f c.map_err.ensures.cases c.in_err-map_err.was in
    let says = subst (λ o. Taken before line o c.take.new.self) took (c.take.ensures before kept) in
    let fault : f ≡ record { refusal = e; line = c.next_line.new.self.line; part = c.in-Some.line.bytes; at = c.in-Some.line.at } = search (rules, tests, made) in
    let exit : c.from_residual.result ≡ Err f = search rules in
    subst (λ (r : Result (Unit {0}) Fault). elim r as (λ _. Type 0) [ Ok _ ↦ Accepts text c.args.statement.now | Err f ↦ Refuses text f.refusal f.line f.at f.part.now × (c.args.statement.now ≡ c.args.statement.now) ])
    (sym (exit ∙ ap Err fault)) (
      (subst (λ k. Refuses text e c.next_line.new.self.line k line.bytes) (sym found.1)
          (stopped text before at so_far line c.next_line.new.self.at e c.next_line.new.self.line next says.0 (omega (arith, found.2, line_is)))),
      refl,
    )

-- what `map_err` made of how the draft ended, with the statement that stands in the end
last : (text : List ℕ) (before : List Record) (s old : Statement) (r : Result (Unit {0}) Refusal) (m : Result (Unit {0}) Fault) (P : Refusal → Fault → Type 0)
    → MatchResult r (λ x. m ≡ Ok x) (λ e. IsErrAnd m (P e))
    → elim r as (λ _. Type 0) [ Ok _ ↦ Finished before (Ok s) | Err e ↦ Finished before (Err e) ]
    → OnErr r (s ≡ old)
    → (Finished before (Ok s) → Accepts text s)
    → ((e : Refusal) (f : Fault) → Finished before (Err e) → P e f → Refuses text f.refusal f.line f.at f.part.now)
    → elim m as (λ _. Type 0) [ Ok _ ↦ Accepts text s | Err f ↦ Refuses text f.refusal f.line f.at f.part.now × (s ≡ old) ]
last text before s old (Ok x) m P cases ended same ok err = subst (λ (r : Result (Unit {0}) Fault). elim r as (λ _. Type 0) [ Ok _ ↦ Accepts text s | Err f ↦ Refuses text f.refusal f.line f.at f.part.now × (s ≡ old) ]) (sym cases) (ok ended)
last text before s old (Err e) (Ok x) P cases ended same ok err = absurd cases
last text before s old (Err e) (Err f) P cases ended same ok err = (err e f ended cases, same)

pub returns : goal.returns
returns c =
    let i = c.loop-line.invariant in
    let (before, kept, line_is, so_far) = i.3 in
    let found = c.in_default.ensures.found in
    let text = c.args.text.now in
    last text before _ _ c.finish.result c.map_err-2.result _ c.map_err-2.ensures.cases (c.finish.ensures.finished before kept) c.finish.ensures.same
    (λ done. ended_well text before c.loop-line.reader.at so_far (omega (arith, found.1, ap length i.0)) _ done)
    (λ e f says made.
    let refusal : f.refusal ≡ e = search (rules, tests, made) in
    let line : f.line ≡ c.next_line.new.self.line + 1 = search (rules, tests, made) in
    let place : f.at ≡ length text = search (rules, tests, made) in
    let part : f.part.now ≡ take (length text - length text) (drop (length text) text) = search (rules, tests, made) in
    let none = part ∙ take_rest text (length text) ∙ drop_all (length text) text (omega arith) in
    subst (λ k. Refuses text f.refusal f.line k f.part.now) (sym place)
    (subst (λ x. Refuses text x f.line (length text) f.part.now) (sym refusal)
    (ended_badly text before c.loop-line.reader.at so_far e f.line f.part.now (found.1 ∙ ap length i.0) says (omega (arith, ap (λ r. r.line) found.0, line_is, line)) none)))
