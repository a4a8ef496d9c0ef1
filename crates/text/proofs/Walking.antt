-- A text's outcome, one line further.
use Rattle.std.proofs.Common.{◌≡◌, ℕ, suc, ◌+◌, ◌≤◌, true, cond, List, [], ◌∷◌, length, drop, None, Ok, Err, Result, sym, refl, ap, ◌∙◌, subst, ⊎_elim, arith}
use Rattle.std.proofs.lemmas.List.{drop_all}
use Rattle.std.proofs.lemmas.Bool.{cases_Bool}
use Rattle.trust.specs.declared.refusal.Refusal.{Refusal}
use Rattle.trust.specs.declared.statement.Statement.{Statement}
use Rattle.text.specs.declared.record.Record.{Record}
use Rattle.text.specs.Lines.{LineOf, lines, NextLine}
use Rattle.text.specs.Records.{record_of}
use Rattle.text.specs.Reading.{judged, line_says}
use Rattle.text.specs.Outcomes.{Outcome, refused, at_end, end_refusal, outcome, outcome_of, Finished, Accepts, Refuses}

-- what the first line decides
abbrev Ahead : List Record → ℕ → LineOf → List LineOf → Result Record Refusal → Outcome → Type 0
Ahead before at l ls x o = (elim x as (λ _. Outcome) [ Ok r ↦ outcome (r ∷ before) (at + length l.bytes + 1) ls | Err e ↦ refused e (suc (length before)) at l.bytes ]) ≡ o

-- only an ended line adds a record
ended_line : (before : List Record) (l : LineOf) (r : Record) → line_says before l ≡ Ok r → l.ended ≡ true
ended_line before l r e =
    ⊎_elim (λ t. t) (λ f. let bad : judged before None ≡ Ok r = ap (λ b. judged before (cond b (record_of l.bytes) None)) (sym f) ∙ e in absurd (let z : ◌≡◌ {A = ℕ} 0 1 = cc in omega arith)) (cases_Bool l.ended)

-- a walk that has come to a place, after the records before
module _ (text : List ℕ) (before : List Record) (at : ℕ) (so_far : outcome_of text ≡ outcome before at (lines (drop at text))) where
  pub walked_on : (l : LineOf) (at' : ℕ) (r : Record) → NextLine text at l at' → line_says before l ≡ Ok r → outcome_of text ≡ outcome (r ∷ before) at' (lines (drop at' text))
  unfolding outcome
  walked_on l at' r next says =
      so_far ∙ ap (outcome before at) next.first
      ∙ subst (λ x. Ahead before at l (lines (drop at' text)) x (outcome (r ∷ before) (at + length l.bytes + 1) (lines (drop at' text)))) (sym says) refl
      ∙ ap (λ k. outcome (r ∷ before) k (lines (drop at' text))) (sym (next.place (ended_line before l r says)))

  pub stopped : (l : LineOf) (at' : ℕ) (e : Refusal) (line : ℕ) → NextLine text at l at' → line_says before l ≡ Err e → line ≡ length before + 1 → Refuses text e line at l.bytes
  unfolding outcome
  stopped l at' e line next says line_is = (
    so_far ∙ ap (outcome before at) next.first
        ∙ subst (λ x. Ahead before at l (lines (drop at' text)) x (refused e (suc (length before)) at l.bytes)) (sym says) refl
        ∙ ap (λ k. refused e k at l.bytes) (omega arith),
    next.part,
  )

  -- the end of the text
  at_the_end : length text ≤ at → outcome_of text ≡ at_end before at (end_refusal before)
  unfolding outcome lines
  at_the_end h = so_far ∙ ap (λ xs. outcome before at (lines xs)) (drop_all at text h)

  pub ended_well : length text ≤ at → (s : Statement) → Finished before (Ok s) → Accepts text s
  ended_well h s (free, says) = (before, at_the_end h ∙ ap (at_end before at) free, says)

  pub ended_badly : (e : Refusal) (line : ℕ) (part : List ℕ) → at ≡ length text → Finished before (Err e) → line ≡ length before + 1 → part ≡ [] → Refuses text e line (length text) part
  ended_badly e line part h is line_is none = (
    at_the_end (omega arith) ∙ ap (at_end before at) is ∙ ap (λ k. refused e k at []) (omega arith) ∙ ap (λ k. refused e line k []) h ∙ ap (refused e line (length text)) (sym none),
    rw none refl,
  )
