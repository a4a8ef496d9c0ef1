-- The first line of a text, found by its first byte 10.
use Rattle.std.proofs.Common.{◌≡◌, ℕ, suc, ◌+◌, ◌<◌, ◌≤◌, true, false, not, eqb, List, [], ◌∷◌, length, take, drop, sym, refl, ap, ◌∙◌, ⊎_elim, add-one, one-add, arith, length-drop}
use Rattle.std.proofs.lemmas.List.{length-take-le, take_all, drop_all, drop-drop}
use Rattle.std.proofs.lemmas.List.Sums.{prefix_len-le-length}
use Rattle.std.proofs.lemmas.Bool.{cases_Bool, false≢true}
use Rattle.text.specs.Bytes.{run_before}
use Rattle.text.specs.Lines.{LineOf, onto, lines, NextLine}

abbrev ended_at : List ℕ → ℕ → List LineOf
ended_at xs k = record { bytes = take k xs; ended = true } ∷ lines (drop (k + 1) xs)

-- a byte that is no line end comes before the first line
front : (b : ℕ) (bs : List ℕ) → eqb b 10 ≡ false → (run_before 10 (b ∷ bs) ≡ suc (run_before 10 bs)) × (lines (b ∷ bs) ≡ onto b (lines bs))
unfolding lines
front b bs e = (rw e (one-add (run_before 10 bs)), rw e refl)

pub ended_line : (xs : List ℕ) → run_before 10 xs < length xs → lines xs ≡ ended_at xs (run_before 10 xs)
unfolding lines
ended_line [] h = absurd (omega arith)
ended_line (b ∷ bs) h =
    ⊎_elim
    (λ e. rw e refl)
    (λ e. let (k_is, l_is) = front b bs e in
    let k = run_before 10 bs in
    l_is ∙ ap (onto b) (ended_line bs (omega (arith, k_is)))
    ∙ ap (λ j. record { bytes = b ∷ take k bs; ended = true } ∷ lines (drop j bs)) (add-one k)
    ∙ sym (ap (ended_at (b ∷ bs)) k_is ∙ ap (λ j. record { bytes = b ∷ take k bs; ended = true } ∷ lines (drop j (b ∷ bs))) (add-one (suc k))))
    (cases_Bool (eqb b 10))

pub last_line : (xs : List ℕ) → 0 < length xs → length xs ≤ run_before 10 xs → lines xs ≡ record { bytes = xs; ended = false } ∷ []
unfolding lines
last_line [] some h = absurd (omega arith)
last_line (b ∷ []) some h = ⊎_elim (λ e. let z : run_before 10 (b ∷ []) ≡ 0 = rw e refl in absurd (omega arith)) (λ e. rw e refl) (cases_Bool (eqb b 10))
last_line (b ∷ (c ∷ bs)) some h =
    ⊎_elim
    (λ e. let z : run_before 10 (b ∷ (c ∷ bs)) ≡ 0 = rw e refl in absurd (omega arith))
    (λ e. let (k_is, l_is) = front b (c ∷ bs) e in l_is ∙ ap (onto b) (last_line (c ∷ bs) (omega arith) (omega (arith, k_is))))
    (cases_Bool (eqb b 10))

-- the next line of a text from a place on, by the length n of its run of bytes
module _ (text : List ℕ) (at n : ℕ) (n_is : n ≡ run_before 10 (drop at text)) (some : at < length text) where
  abbrev rest : List ℕ
  rest = drop at text

  run_short : n ≤ length rest
  run_short = omega (arith, n_is, prefix_len-le-length (λ b. not (eqb b 10)) rest)

  part_is : take n rest ≡ take (length (take n rest)) rest
  part_is = ap (λ k. take k rest) (sym (length-take-le n rest run_short))

  pub next_ended : (at' : ℕ) → n < length rest → at' ≡ at + n + 1 → NextLine text at (record { bytes = take n rest; ended = true }) at'
  next_ended at' h e =
      let first : lines rest ≡ ended_at rest n = ended_line rest (omega (arith, n_is)) ∙ ap (ended_at rest) (sym n_is) in
      let after : drop (n + 1) rest ≡ drop at' text = drop-drop (n + 1) at text ∙ ap (λ k. drop k text) (omega arith) in
      record {
        first = first ∙ ap (λ ls. record { bytes = take n rest; ended = true } ∷ lines ls) after;
        part = part_is;
        place = λ _. omega (arith, length-take-le n rest run_short);
        on = omega arith;
        within = omega (arith, length-drop at text);
      }

  pub next_unended : (at' : ℕ) → length rest ≤ n → at' ≡ length text → NextLine text at (record { bytes = take n rest; ended = false }) at'
  unfolding lines
  next_unended at' h e =
      let none : drop at' text ≡ [] = drop_all at' text (omega arith) in
      let whole : take n rest ≡ rest = take_all n rest h in
      let first : lines rest ≡ record { bytes = rest; ended = false } ∷ [] = last_line rest (omega (arith, length-drop at text)) (omega (arith, n_is)) in
      record {
        first = first ∙ ap (λ bs. record { bytes = bs; ended = false } ∷ []) (sym whole) ∙ ap (λ xs. record { bytes = take n rest; ended = false } ∷ lines xs) (sym none);
        part = part_is;
        place = λ t. absurd (false≢true t);
        on = omega arith;
        within = omega arith;
      }
