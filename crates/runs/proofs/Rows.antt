-- The row of the used places: it grows at its end only, and no two places have the same value. Assumes nothing.
use Rattle.std.proofs.Common.{◌≡◌, ℕ, zero, suc, ◌+◌, ◌<◌, Bool, true, false, cond, ◌⊎◌, List, [], ◌∷◌, ◌++◌, length, Some, None, Option, sym, refl, ap, ◌∙◌, subst, inl, inr, ⊎_elim, arith}
use Rattle.std.proofs.lemmas.List.{length_push}
use Rattle.std.proofs.lemmas.Bool.{both_ways}
use Rattle.protocol.specs.declared.message.Place.{Place}
use Rattle.protocol.specs.declared.slot.Slot.{Slot}
use Rattle.broadcast.proofs.Places.{same_place}
use Rattle.runs.specs.declared.call.Call.{Call}
use Rattle.runs.specs.Values.{Values}
use Rattle.runs.specs.Calls.{World, State, at, known_from, known_in, place_of, entered, Answer}
use Rattle.runs.specs.Readings.{meant_by, meant_at}
use Rattle.runs.proofs.Refusing.{some_not_none}
use Rattle.runs.proofs.Moves.{Moves, refuses, repeats, offers, ignores, forges, hands}

module _ {V : Type 0} where
  pub at_bound : (row : List V) (p : ℕ) (u : V) → at row p ≡ Some u → p < length row
  at_bound [] p u e = absurd (some_not_none (sym e))
  at_bound (v ∷ row) zero u e = omega arith
  at_bound (v ∷ row) (suc p) u e = omega (arith, at_bound row p u e)

  pub at_kept : (row more : List V) (p : ℕ) (u : V) → at row p ≡ Some u → at (row ++ more) p ≡ Some u
  at_kept [] more p u e = absurd (some_not_none (sym e))
  at_kept (v ∷ row) more zero u e = e
  at_kept (v ∷ row) more (suc p) u e = at_kept row more p u e

  pub at_end : (row : List V) (v : V) → at (row ++ (v ∷ [])) (length row) ≡ Some v
  at_end [] v = refl
  at_end (u ∷ row) v = at_end row v

  pub at_new : (row : List V) (v : V) (p : ℕ) (u : V) → at (row ++ (v ∷ [])) p ≡ Some u → (at row p ≡ Some u) ⊎ ((p ≡ length row) × (v ≡ u))
  at_new [] v zero u e = inr (refl, cc)
  at_new [] v (suc p) u e = absurd (some_not_none (sym e))
  at_new (x ∷ row) v zero u e = inl e
  at_new (x ∷ row) v (suc p) u e = ⊎_elim inl (λ h. inr (ap suc h.0, h.1)) (at_new row v p u e)

module _ {V : Type 0} (values : Values V) where
  -- a known value's place has its meaning, and a new value's meaning is at no place
  known_place : (n : ℕ) (row : List V) (v : V) (p : Place) → known_from values n row v ≡ Some p
      → (q : ℕ) × (u : V) × (p.0 ≡ n + q) × (at row q ≡ Some u) × (values.meaning u ≡ values.meaning v)
  known_place n [] v p e = absurd (some_not_none (sym e))
  known_place n (x ∷ row) v p e = go (known_place (suc n) row v p) (values.same (values.meaning x) (values.meaning v)) refl e
    where
      go : (known_from values (suc n) row v ≡ Some p → (q : ℕ) × (u : V) × (p.0 ≡ suc n + q) × (at row q ≡ Some u) × (values.meaning u ≡ values.meaning v))
          → (b : Bool) → values.same (values.meaning x) (values.meaning v) ≡ b → cond b (Some (record { 0 = n })) (known_from values (suc n) row v) ≡ Some p
          → (q : ℕ) × (u : V) × (p.0 ≡ n + q) × (at (x ∷ row) q ≡ Some u) × (values.meaning u ≡ values.meaning v)
      go later true s f = let z : ◌≡◌ {A = ℕ} n p.0 = cc in (0, x, omega arith, refl, (values.same_is (values.meaning x) (values.meaning v)).0 s)
      go later false s f = let (q, u, is, there, means) = later f in (suc q, u, omega arith, there, means)

  new_nowhere : (n : ℕ) (row : List V) (v : V) → known_from values n row v ≡ None → (q : ℕ) (u : V) → at row q ≡ Some u → values.meaning u ≡ values.meaning v → ⊥
  new_nowhere n [] v e q u there means = some_not_none (sym there)
  new_nowhere n (x ∷ row) v e q u there means = go (new_nowhere (suc n) row v) (values.same (values.meaning x) (values.meaning v)) refl e q there
    where
      go : (known_from values (suc n) row v ≡ None → (r : ℕ) (z : V) → at row r ≡ Some z → values.meaning z ≡ values.meaning v → ⊥)
          → (b : Bool) → values.same (values.meaning x) (values.meaning v) ≡ b → cond b (Some (record { 0 = n })) (known_from values (suc n) row v) ≡ None
          → (r : ℕ) → at (x ∷ row) r ≡ Some u → ⊥
      go later true s f r h = some_not_none f
      go later false s f zero h =
          both_ways (values.same (values.meaning x) (values.meaning v)) s
          ((values.same_is (values.meaning x) (values.meaning v)).1 (let z : x ≡ u = cc in ap values.meaning z ∙ means))
      go later false s f (suc r) h = later f r u h means

  -- the value at place p has the meaning m
  abbrev pub Means : List V → Place → values.Meaning → Type 0
  Means row p m = meant_at values row (Some p) ≡ Some m

  pub means_at : (row : List V) (p : Place) (u : V) → at row p.0 ≡ Some u → Means row p (values.meaning u)
  means_at row p u e = ap (meant_by values) e

  pub means_value : (row : List V) (p : Place) (m : values.Meaning) → Means row p m → (u : V) × (at row p.0 ≡ Some u) × (values.meaning u ≡ m)
  means_value row p m e = go (at row p.0) refl e
    where
      go : (o : Option V) → at row p.0 ≡ o → meant_by values o ≡ Some m → (u : V) × (at row p.0 ≡ Some u) × (values.meaning u ≡ m)
      go None h f = absurd (some_not_none (sym f))
      go (Some u) h f = (u, h, cc)

  pub means_kept : (row more : List V) (p : Place) (m : values.Meaning) → Means row p m → Means (row ++ more) p m
  means_kept row more p m e = let (u, there, means) = means_value row p m e in means_at (row ++ more) p u (at_kept row more p.0 u there) ∙ ap Some means

  pub record Rowed (x : State V) : Type 0 where
    pub full : length x.row ≡ x.used
    -- no two used places have the same value
    pub apart : (p q : ℕ) (u v : V) → at x.row p ≡ Some u → at x.row q ≡ Some v → values.meaning u ≡ values.meaning v → p ≡ q

  pub one_place : (x : State V) → Rowed x → (p q : Place) (m : values.Meaning) → Means x.row p m → Means x.row q m → p ≡ q
  one_place x rowed p q m e f =
      let (u, u_there, u_means) = means_value x.row p m e in
      let (v, v_there, v_means) = means_value x.row q m f in
      same_place p q (rowed.apart p.0 q.0 u v u_there v_there (u_means ∙ sym v_means))

  pub means_used : (x : State V) → Rowed x → (p : Place) (m : values.Meaning) → Means x.row p m → p.0 < x.used
  means_used x rowed p m e = let (u, there, _) = means_value x.row p m e in omega (arith, at_bound x.row p.0 u there, rowed.full)

  pub known_means : (row : List V) (v : V) (p : Place) → known_in values row v ≡ Some p → Means row p (values.meaning v)
  known_means row v p e =
      let (q, u, is, there, means) = known_place 0 row v p e in
      let q_is : q ≡ p.0 = omega arith in
      means_at row p u (subst (λ n. at row n ≡ Some u) q_is there) ∙ ap Some means

  -- the row after a call: as it was, or with a new value at its end
  pub data Grows (x : State V) : ℕ → List V → Type 0 where
    kept : Grows x x.used x.row
    more : (v : V) → known_in values x.row v ≡ None → Grows x (x.used + 1) (x.row ++ (v ∷ []))

  entered_grows : (x : State V) (v : V) (b : List Slot) (o : Option Place) → known_in values x.row v ≡ o → Grows x (entered x v o b).used (entered x v o b).row
  entered_grows x v b None e = more v e
  entered_grows x v b (Some p) e = kept

  pub grows : (w : World) (x : State V) {c : Call V} {a : Answer} {y : State V} → Moves values w x c a y → Grows x y.used y.row
  grows w x (refuses c n) = kept
  grows w x (repeats s v p _ _ _ _ _) = kept
  grows w x (offers s v _ _ _ _) = entered_grows x v _ (known_in values x.row v) refl
  grows w x (ignores n s i k v _ _ _ _) = kept
  grows w x (forges n s i k v _ _ _ _) = entered_grows x v _ (known_in values x.row v) refl
  grows w x (hands n s i k p _ _) = kept

  pub grows_keeps : {x : State V} {n : ℕ} {row : List V} → Grows x n row → (p : Place) (m : values.Meaning) → Means x.row p m → Means row p m
  grows_keeps kept p m e = e
  grows_keeps {x} (more v new) p m e = means_kept x.row (v ∷ []) p m e

  pub rowed_still : {x y : State V} → Rowed x → Grows x y.used y.row → Rowed y
  rowed_still {x} {y} rowed g = go y.used y.row g
    where
      more_apart : (v : V) → known_in values x.row v ≡ None → (p q : ℕ) (a b : V) → at (x.row ++ (v ∷ [])) p ≡ Some a → at (x.row ++ (v ∷ [])) q ≡ Some b
          → values.meaning a ≡ values.meaning b → p ≡ q
      more_apart v new p q a b e f same =
          ⊎_elim
          (λ was. ⊎_elim (λ was'. rowed.apart p q a b was was' same) (λ h. absurd (new_nowhere 0 x.row v new p a was (same ∙ ap values.meaning (sym h.1)))) (at_new x.row v q b f))
          (λ h. ⊎_elim (λ was'. absurd (new_nowhere 0 x.row v new q b was' (sym same ∙ ap values.meaning (sym h.1)))) (λ h'. h.0 ∙ sym h'.0) (at_new x.row v q b f))
          (at_new x.row v p a e)

      go : (n : ℕ) (row : List V) → Grows x n row → Rowed (record { used = n; row = row; board = y.board })
      go n row kept = record { full = rowed.full; apart = rowed.apart }
      go n row (more v new) = record { full = length_push x.row v ∙ ap (λ k. k + 1) rowed.full; apart = more_apart v new }

  -- an entered value is at its place
  pub entered_means : (x : State V) (v : V) (b : List Slot) → Rowed x → Means (entered x v (known_in values x.row v) b).row (place_of x.used (known_in values x.row v)) (values.meaning v)
  entered_means x v b rowed = go (known_in values x.row v) refl
    where
      go : (o : Option Place) → known_in values x.row v ≡ o → Means (entered x v o b).row (place_of x.used o) (values.meaning v)
      go None e = means_at (x.row ++ (v ∷ [])) (record { 0 = x.used }) v (subst (λ n. at (x.row ++ (v ∷ [])) n ≡ Some v) rowed.full (at_end x.row v))
      go (Some p) e = known_means x.row v p e
