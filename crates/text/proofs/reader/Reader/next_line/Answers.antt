use Rattle.std.proofs.Common.{◌≡◌, ℕ, ◌-◌, Bool, true, false, ltb, List, length, take, drop, sym, refl, ap, ◌∙◌, subst, ap₂, arith}
use Rattle.std.proofs.lemmas.List.{take_rest}
use Rattle.std.proofs.lemmas.Bool.{lt-ltb, le-ltb}
use Rattle.text.specs.Bytes.{run_before}
use Rattle.text.specs.Lines.{LineOf, NextLine}
use Rattle.text.proofs.Cutting.{next_ended, next_unended}
use Rattle.text.proofs.reader.Reader.next_line.Goals as goal
use Rattle.text.proofs.reader.Reader.next_line.Goals.{then-ended, else-ended}

pub returns : goal.returns
returns c =
    let xs = c.args.self.now.text.now in
    let at = c.args.self.now.at in
    let n = c.run_before-n.result in
    let rest : List ℕ = take (length xs - at) (drop at xs) in
    let e : rest ≡ drop at xs = take_rest xs at in
    let n_is : n ≡ run_before 10 (drop at xs) = c.run_before-n.ensures.0 ∙ ap (run_before 10) e in
    let bytes : take n (drop at xs) ≡ take n rest = ap (take n) (sym e) in
    let as_cut : (b : Bool) → b ≡ ltb n (length rest) → NextLine xs at (record { bytes = take n (drop at xs); ended = b }) c.if-ended.self → NextLine xs at (record { bytes = take n rest; ended = ltb n (length rest) }) c.if-ended.self =
    λ b t. subst (λ (l : LineOf). NextLine xs at l c.if-ended.self) (ap₂ (λ x y. record { bytes = x; ended = y }) bytes t) in
    record {
      text = refl;
      found = (
        elim c.if-ended.branch [
          | then-ended w ↦ as_cut true (sym (lt-ltb n (length rest) w.if-ended.true)) (next_ended xs at n n_is c.if-self.false c.if-ended.self (omega (arith, w.if-ended.true, ap length e)) w.self-is)
          | else-ended w ↦ as_cut false (sym (le-ltb n (length rest) w.if-ended.false)) (next_unended xs at n n_is c.if-self.false c.if-ended.self (omega (arith, w.if-ended.false, ap length e)) w.self-is)
        ],
        refl,
        refl,
      );
    }
