-- The word for what a call came to. Assumes nothing.
use Rattle.std.specs.Prelude.{ℕ, List, codes}
use Rattle.protocol.specs.Words.{heard_word}
use Rattle.runs.specs.declared.call.Outcome.{Outcome}
use Rattle.runs.specs.declared.call.Outcome.TheVariants.{Proposed, Already, Stepped}

abbrev pub outcome_word : Outcome → List ℕ
outcome_word Proposed = codes "proposed"
outcome_word Already = codes "already"
outcome_word (Stepped heard) = heard_word heard
