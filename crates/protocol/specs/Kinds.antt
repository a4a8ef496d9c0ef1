-- The number of each kind of message. Assumes nothing.
use Rattle.std.specs.Prelude.{◌≡◌, ◌≢◌, ℕ, cond, Some, None, Option, Result, ◌==◌, MatchResult}
use Rattle.std.specs.Result.{result_ok}
use Rattle.protocol.specs.declared.message.Kind.{Kind}
use Rattle.protocol.specs.declared.message.Kind.TheVariants.{Send, Echo, Ready}
use Rattle.protocol.specs.declared.message.NoSuchKind.{NoSuchKind}

abbrev pub kind_number : Kind → ℕ
kind_number Send = 1
kind_number Echo = 2
kind_number Ready = 3

-- the kind with that number
abbrev pub kind_of : ℕ → Option Kind
kind_of n = cond (n == 1) (Some Send) (cond (n == 2) (Some Echo) (cond (n == 3) (Some Ready) None))

-- the result is the kind with that number, or an error with a number that no kind has
pub record IsKindNumbered (n : ℕ) (r : Result Kind NoSuchKind) : Type 0 where
  pub value : result_ok r ≡ kind_of n
  pub exact : MatchResult r (λ kind. kind_number kind ≡ n) (λ e. (e.0 ≡ n) × ((kind : Kind) → kind_number kind ≢ n))
