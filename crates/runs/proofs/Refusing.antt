-- Either a call is refused, or none of its refusals' conditions holds. Assumes nothing.
use Rattle.std.proofs.Common.{◌≡◌, Bool, true, false, cond, List, [], ◌∷◌, Some, None, Option, refl, Err}
use Rattle.std.specs.Option.{option_map_or}
use Rattle.std.proofs.lemmas.Bool.{false≢true}
use Rattle.trust.specs.declared.refusal.Refusal.{Refusal}
use Rattle.trust.specs.Refusals.{first_of}
use Rattle.runs.specs.Calls.{Answer, refused}

abbrev pub NoneHold : List (Bool × Refusal) → Type 0
NoneHold [] = Unit {0}
NoneHold (c ∷ cs) = (c.0 ≡ false) × NoneHold cs

pub some_not_none : {A : Type 0} {a : A} → ◌≡◌ {A = Option A} (Some a) None → ⊥
some_not_none {A} {a} e = false≢true (let z : ◌≡◌ {A = Bool} false true = cc in z)

pub none_hold : (cs : List (Bool × Refusal)) → ◌≡◌ {A = Option Refusal} (first_of cs) None → NoneHold cs
none_hold [] e = tt
none_hold (c ∷ cs) e = go (none_hold cs) c.0 refl e
  where
    go : (first_of cs ≡ None → NoneHold cs) → (b : Bool) → c.0 ≡ b → cond b (Some c.1) (first_of cs) ≡ None → NoneHold (c ∷ cs)
    go rest true h e' = absurd (some_not_none e')
    go rest false h e' = (h, rest e')

pub refuse_ways : {A : Type 0} (P : Answer × A → Type 0) (cs : List (Bool × Refusal)) (x : A) (y : Answer × A)
    → ((n : Refusal) → P (Err n, x)) → (NoneHold cs → P y) → P (option_map_or (refused x) (first_of cs) y)
refuse_ways {A} P cs x y is_refused made = go (first_of cs) refl
  where
    go : (o : Option Refusal) → first_of cs ≡ o → P (option_map_or (refused x) o y)
    go None e = made (none_hold cs e)
    go (Some n) e = is_refused n
