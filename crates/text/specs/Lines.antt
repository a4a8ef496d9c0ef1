-- A text as its lines: each ends at a byte 10; bytes after the last one are a line without end.
use Rattle.std.specs.Prelude.{◌≡◌, ℕ, ◌+◌, ◌<◌, ◌≤◌, Bool, true, false, cond, List, [], ◌∷◌, length, drop, ◌==◌}

-- the bytes of a line without its byte 10, and whether there is one
pub record LineOf : Type 0 where
  pub bytes : List ℕ
  pub ended : Bool

abbrev pub onto : ℕ → List LineOf → List LineOf
onto b [] = record { bytes = b ∷ []; ended = false } ∷ []
onto b (l ∷ ls) = record { bytes = b ∷ l.bytes; ended = l.ended } ∷ ls

unfoldable pub lines : List ℕ → List LineOf
lines [] = []
lines (b ∷ bs) = cond (b == 10) (record { bytes = []; ended = true } ∷ lines bs) (onto b (lines bs))

-- the next line of a text, read from one place on to another
pub record NextLine (text : List ℕ) (at : ℕ) (line : LineOf) (at' : ℕ) : Type 0 where
  pub first : lines (drop at text) ≡ line ∷ lines (drop at' text)
  pub part : line.bytes ≡ lib.ListN.take (length line.bytes) (drop at text)
  pub place : line.ended ≡ true → at' ≡ at + length line.bytes + 1
  pub on : at < at'
  pub within : at' ≤ length text
