-- The number of each refusal, and the smallest whose condition holds. Assumes nothing.
use Rattle.std.specs.Prelude.{ℕ, Bool, cond, List, [], ◌∷◌, ◌++◌, codes, decimal, Some, None, Option}
use Rattle.trust.specs.declared.refusal.Refusal.{Refusal}
use Rattle.trust.specs.declared.refusal.Refusal.TheVariants.{Form, Range, Order, TooMany, NoFailProneSet, SlotCount, RollSize, FaultyMask, Unsound, NoSuch, WrongParty, Unfit, OtherProposal, NotWaiting, RollFull}

abbrev pub refusal_number : Refusal → ℕ
refusal_number Form = 1
refusal_number Range = 2
refusal_number Order = 3
refusal_number TooMany = 4
refusal_number NoFailProneSet = 5
refusal_number SlotCount = 6
refusal_number RollSize = 7
refusal_number FaultyMask = 8
refusal_number Unsound = 9
refusal_number NoSuch = 10
refusal_number WrongParty = 11
refusal_number Unfit = 12
refusal_number OtherProposal = 13
refusal_number NotWaiting = 14
refusal_number RollFull = 15

-- a refusal as it is written
abbrev pub refused_words : Refusal → List ℕ
refused_words e = codes "refused " ++ decimal (refusal_number e)

-- of a list of conditions in rising number, the refusal of the first that holds
abbrev pub first_of : List (Bool × Refusal) → Option Refusal
first_of [] = None
first_of (c ∷ cs) = cond c.0 (Some c.1) (first_of cs)
