-- What one line of a statement text says, by its fields.
use Rattle.std.specs.Prelude.{ℕ, cond, List, [], ◌∷◌, Some, None, Option, ◌==◌}
use Rattle.text.specs.declared.record.Role.{Role}
use Rattle.text.specs.declared.record.Role.TheVariants.{FailProne, Quorum}
use Rattle.text.specs.declared.record.Entry.{Entry}
use Rattle.text.specs.declared.record.Record.{Record}
use Rattle.text.specs.declared.record.Record.TheVariants.{Count, Listed}
use Rattle.text.specs.declared.record.Letter.{Letter}
use Rattle.text.specs.declared.record.Letter.TheVariants.{N, F, Q}
use Rattle.text.specs.Bytes.{first_field, after_field, decimal_of, mask_of}

-- the letters are N, F and Q
abbrev pub letter_of : List ℕ → Option Letter
letter_of [] = None
letter_of (b ∷ []) = cond (b == 78) (Some N) (cond (b == 70) (Some F) (cond (b == 81) (Some Q) None))
letter_of (b ∷ (c ∷ bs)) = None

abbrev pub entry_with : Role → Option ℕ → Option ℕ → Option Entry
entry_with role (Some i) (Some s) = Some (record { role = role; node = record { 0 = i }; set = record { 0 = s } })
entry_with role (Some i) None = None
entry_with role None o = None

abbrev pub mask_in : Option (List ℕ) → Option ℕ
mask_in (Some bs) = mask_of bs
mask_in None = None

-- a node number and a mask
abbrev pub entry_of : Role → List ℕ → Option Entry
entry_of role bs = entry_with role (decimal_of (first_field bs)) (mask_in (after_field bs))

abbrev pub counted : Option ℕ → Option Record
counted (Some n) = Some (Count n)
counted None = None

abbrev pub listed : Option Entry → Option Record
listed (Some e) = Some (Listed e)
listed None = None

abbrev pub record_with : Option Letter → Option (List ℕ) → Option Record
record_with None o = None
record_with (Some l) None = None
record_with (Some N) (Some bs) = counted (decimal_of bs)
record_with (Some F) (Some bs) = listed (entry_of FailProne bs)
record_with (Some Q) (Some bs) = listed (entry_of Quorum bs)

-- a letter and what follows the tab behind it
abbrev pub record_of : List ℕ → Option Record
record_of line = record_with (letter_of (first_field line)) (after_field line)
