-- Entries that hold a place or nothing. Assumes nothing.
use Rattle.std.proofs.Common.{◌≡◌, ℕ, Bool, true, false, ◌⊎◌, Some, None, Option, sym, refl, ap, ◌∙◌, inl, inr, ⊎_elim, arith}
use Rattle.std.proofs.lemmas.Bool.{eqb-true, eq-eqb, cases_eq, false≢true}
use Rattle.protocol.specs.Hearing.{absent, is, once}
use Rattle.protocol.specs.declared.message.Place.{Place}

abbrev pub IsSome : Option Place → Type 0
IsSome o = (u : Place) × (o ≡ Some u)

-- what stood there stands there still
abbrev pub Kept : Option Place → Option Place → Type 0
Kept o p = (u : Place) → o ≡ Some u → p ≡ Some u

pub some_kept : {o p : Option Place} → Kept o p → IsSome o → IsSome p
some_kept h s = (s.0, h s.0 s.1)

pub none_not_some : {u : Place} → None ≡ Some u → ⊥
none_not_some e = let z : ◌≡◌ {A = ℕ} 0 1 = cc in omega arith

pub some_same : {o : Option Place} {u v : Place} → o ≡ Some u → o ≡ Some v → u ≡ v
some_same p q = cc

pub same_place : (u v : Place) → u.0 ≡ v.0 → u ≡ v
same_place u v e = let place : ℕ → Place = λ n. record { 0 = n } in ap place e

pub cases_place : (u v : Place) → (u ≡ v) ⊎ (u ≡ v → ⊥)
cases_place u v = ⊎_elim (λ e. inl (same_place u v e)) (λ ne. inr (λ e. ne (ap (λ p. p.0) e))) (cases_eq u.0 v.0)

pub absent_none : (o : Option Place) → absent o ≡ true → o ≡ None
absent_none None e = refl
absent_none (Some u) e = absurd (false≢true e)

-- either nothing or something
pub cases_none : (o : Option Place) → (o ≡ None) ⊎ IsSome o
cases_none None = inl refl
cases_none (Some u) = inr (u, refl)

pub is_some : (v : Place) (o : Option Place) → is v o ≡ true → o ≡ Some v
is_some v None e = absurd (false≢true e)
is_some v (Some u) e = ap Some (same_place u v (eqb-true u.0 v.0 e))

pub some_is : (v : Place) (o : Option Place) → o ≡ Some v → is v o ≡ true
some_is v o e = ap (is v) e ∙ eq-eqb v.0 v.0 refl

pub once_kept : (b : Bool) (v : Place) (o : Option Place) → Kept o (once b v o)
once_kept b v None u e = absurd (none_not_some e)
once_kept b v (Some x) u e = e

pub once_new : (b : Bool) (v : Place) (o : Option Place) (u : Place) → once b v o ≡ Some u → (o ≡ Some u) ⊎ ((b ≡ true) × (v ≡ u))
once_new b v (Some x) u e = inl e
once_new true v None u e = inr (refl, cc)
once_new false v None u e = absurd (none_not_some e)

pub once_true : (b : Bool) (v : Place) (o : Option Place) → b ≡ true → IsSome (once b v o)
once_true b v (Some x) t = (x, refl)
once_true true v None t = (v, refl)
once_true false v None t = absurd (false≢true t)

-- what each passed test settles is settled still, where v's test alone may be new
pub settled : (old new : Place → Bool) (v : Place) (o : Option Place) → ((u : Place) → new u ≡ true → (u ≡ v) ⊎ (old u ≡ true))
    → ((u : Place) → old u ≡ true → IsSome o) → (u : Place) → new u ≡ true → IsSome (once (new v) v o)
settled old new v o only was u t =
    ⊎_elim (λ e. once_true (new v) v o (ap new (sym e) ∙ t)) (λ t'. some_kept (once_kept (new v) v o) (was u t')) (only u t)
