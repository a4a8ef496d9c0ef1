-- What `map_err` made of a result.
use Rattle.std.proofs.Common.{◌≡◌, Ok, Err, Result, sym, refl, ap, ◌∙◌, subst}
use Rattle.std.specs.Prelude.{MatchResult, IsErrAnd}
use Rattle.std.specs.Result.{result_ok}
use Rattle.std.proofs.lemmas.Option.{none-some}

module _ {T E D : Type 0} (m : Result T D) (P : E → D → Type 0) where
  pub err_of : (r : Result T E) (f : D) → MatchResult r (λ x. m ≡ Ok x) (λ e. IsErrAnd m (P e)) → m ≡ Err f → (e : E) × (r ≡ Err e) × P e f
  err_of (Ok x) f cases is = absurd (none-some x (ap result_ok (sym is ∙ cases)))
  err_of (Err e) f cases is = (e, refl, subst (λ r. IsErrAnd r (P e)) is cases)

  same_ok : (x y : T) → ◌≡◌ {A = Result T D} (Ok x) (Ok y) → ◌≡◌ {A = Result T E} (Ok x) (Ok y)
  same_ok x y e = ap (λ (r : Result T D). elim r as (λ _. Result T E) [ Ok z ↦ Ok z | Err f ↦ Ok x ]) e

  pub ok_of : (r : Result T E) (x : T) → MatchResult r (λ x. m ≡ Ok x) (λ e. IsErrAnd m (P e)) → m ≡ Ok x → r ≡ Ok x
  ok_of (Ok y) x cases is = same_ok y x (sym cases ∙ is)
  ok_of (Err e) x cases is = absurd (subst (λ r. IsErrAnd r (P e)) is cases)
