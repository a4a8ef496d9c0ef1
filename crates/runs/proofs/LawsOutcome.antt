-- The same calls have the same answers and leave the same state. Assumes nothing.
use Rattle.std.proofs.Common.{◌≡◌, ℕ, List, [], ◌∷◌, sym, refl, ap, arith}
use Rattle.runs.specs.declared.call.Call.{Call}
use Rattle.runs.specs.Values.{Values}
use Rattle.runs.specs.Calls.{World, State, answer}
use Rattle.runs.specs.Promise.{Made, History, CameAbout, opened, called}
use Rattle.runs.specs.Laws.{asked, OneOutcome}

nothing_asked : {A : Type 0} {a : A} {l : List A} → [] ≡ a ∷ l → ⊥
nothing_asked e = let z : ◌≡◌ {A = ℕ} 0 1 = cc in omega arith

cons_parts : {A : Type 0} {a b : A} {l m : List A} → a ∷ l ≡ b ∷ m → (a ≡ b) × (l ≡ m)
cons_parts e = (cc, cc)

module _ {V : Type 0} (values : Values V) (w : World) where
  -- one more call
  module _ (p q : ℕ) (c d : Call V) (g h : History V) (x y : State V) (places : p ≡ q) (same : c ≡ d) (before : g ≡ h) (from : x ≡ y) where
    abbrev made : ℕ → Call V → State V → Made V
    made n b z = record { places = n; call = b; answer = (answer values w n z b).0 }

    history_same : made p c x ∷ g ≡ made q d y ∷ h
    history_same = cc

    state_same : (answer values w p x c).1 ≡ (answer values w q y d).1
    state_same = cc

  outcome : {g h : History V} {x y : State V} → CameAbout values w g x → CameAbout values w h y → asked g ≡ asked h → (g ≡ h) × (x ≡ y)
  unfolding asked
  outcome (opened _ _ _) (opened _ _ _) e = (refl, refl)
  outcome (opened _ _ _) (called _ _ _) e = absurd (nothing_asked e)
  outcome (called _ _ _) (opened _ _ _) e = absurd (nothing_asked (sym e))
  outcome (called {h = g} {x} p c before) (called {h} {x = y} q d before') e =
      let (first, rest) = cons_parts e in
      let (histories, states) = outcome before before' rest in
      let places : p ≡ q = ap (λ t. t.0) first in
      let same : c ≡ d = ap (λ t. t.1) first in
      (history_same p q c d g h x y places same histories states, state_same p q c d g h x y places same histories states)

pub one_outcome : {V : Type 0} (values : Values V) → OneOutcome values
one_outcome values w g h x y = outcome values w
