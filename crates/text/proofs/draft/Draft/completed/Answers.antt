use Rattle.std.proofs.Common.{◌≡◌, ℕ, zero, suc, ◌<◌, List, [], ◌∷◌, ◌++◌, map, length, take, drop, get_or, sym, refl, ap, ◌∙◌, ap₂, add-one, arith}
use Rattle.std.specs.Prelude.{slice_set}
use Rattle.text.specs.Drafts.{complete}
use Rattle.text.proofs.draft.Draft.completed.Goals as goal

-- the i-th of a list of which the first i are mapped, and the list with that one mapped too
item : {X : Type 0} (f : X → X) (xs : List X) (i : ℕ) (d : X) → get_or (map f (take i xs) ++ drop i xs) i d ≡ get_or xs i d
item f [] zero d = refl
item f [] (suc i) d = refl
item f (x ∷ xs) zero d = refl
item f (x ∷ xs) (suc i) d = item f xs i d

one_more : {X : Type 0} (f : X → X) (xs : List X) (i : ℕ) (d : X) → i < length xs → slice_set (map f (take i xs) ++ drop i xs) i (f (get_or xs i d)) ≡ map f (take (suc i) xs) ++ drop (suc i) xs
one_more f [] i d l = absurd (omega arith)
one_more f (x ∷ xs) zero d l = refl
one_more f (x ∷ xs) (suc i) d l = ap (λ ys. f x ∷ ys) (one_more f xs i d (omega arith))

pub loop-node-preserved : goal.loop-node-preserved
loop-node-preserved c =
    let d = c.args.self in
    let n = c.args.nodes in
    let i = c.loop-node.node-index in
    let x = c.node-item.result in
    ap₂ (λ ys v. slice_set ys i v) c.loop-node.invariant
    (c.complete.ensures ∙ ap (λ ys. complete n (get_or ys i x)) c.loop-node.invariant ∙ ap (complete n) (item (complete n) d.trust i x))
    ∙ one_more (complete n) d.trust i x (omega (arith, d.places)) ∙ ap (λ k. map (complete n) (take k d.trust) ++ drop k d.trust) (sym (add-one i))
