-- Which records a text may have, by those before each, newest first.
use Rattle.std.specs.Prelude.{ℕ, Bool, true, false, cond, not, ◌&&◌, ◌||◌, List, [], ◌∷◌, ◌++◌, length, Some, None, Ok, Err, Option, Result, ◌==◌, nat_le, nat_lt}
use Rattle.sets.specs.Sets.{node?, set?}
use Rattle.trust.specs.declared.refusal.Refusal.{Refusal}
use Rattle.trust.specs.declared.refusal.Refusal.TheVariants.{Form, Range, Order, TooMany}
use Rattle.trust.specs.Refusals.{first_of}
use Rattle.text.specs.declared.record.Role.{Role}
use Rattle.text.specs.declared.record.Role.TheVariants.{FailProne, Quorum}
use Rattle.text.specs.declared.record.Entry.{Entry}
use Rattle.text.specs.declared.record.Record.{Record}
use Rattle.text.specs.declared.record.Record.TheVariants.{Count, Listed}
use Rattle.text.specs.Lines.{LineOf}
use Rattle.text.specs.Records.{record_of}

-- a node's F lines come before its Q lines
abbrev pub rank : Role → ℕ
rank FailProne = 0
rank Quorum = 1

-- entry e may follow entry p: nodes never fall, F lines precede Q lines, masks rise strictly
abbrev pub follows? : Entry → Entry → Bool
follows? p e =
    nat_lt p.node.0 e.node.0 || (p.node.0 == e.node.0 && (nat_lt (rank p.role) (rank e.role)
    || (rank p.role == rank e.role && nat_lt p.set.0 e.set.0)))

-- a count from 1 to 16; a node from 1 to n and a set of such nodes (before the N line, n is 0 and no range is known)
abbrev pub in_range? : ℕ → Record → Bool
in_range? n (Count c) = node? 16 c
in_range? n (Listed e) = n == 0 || (node? n e.node.0 && set? n e.set.0)

abbrev pub after_record? : Record → Entry → Bool
after_record? (Count c) e = true
after_record? (Listed p) e = follows? p e

-- the N line is first and only first; each other line may follow the one before it
abbrev pub in_order? : Option Record → Record → Bool
in_order? None (Count c) = true
in_order? None (Listed e) = false
in_order? (Some p) (Count c) = false
in_order? (Some p) (Listed e) = after_record? p e

-- the refusal of a record after n nodes were counted, the newest record before it, and how many sets of its role its node has
abbrev pub refusal_of : ℕ → Option Record → ℕ → Record → Option Refusal
refusal_of n newest listed r =
    first_of ((not (in_range? n r), Range) ∷ ((not (in_order? newest r), Order) ∷ ((nat_le 16 listed, TooMany) ∷ [])))

-- where there is a record, the nodes were counted
abbrev pub begun? : ℕ → Option Record → Bool
begun? n None = true
begun? n (Some r) = nat_le 1 n

-- the records before a line, newest first: the newest, what the first says, and the sets of a role of node i in order
abbrev pub newest_of : List Record → Option Record
newest_of [] = None
newest_of (r ∷ before) = Some r

abbrev pub counted_by : Record → ℕ
counted_by (Count n) = n
counted_by (Listed e) = 0

abbrev pub count_said : List Record → ℕ
count_said [] = 0
count_said (r ∷ []) = counted_by r
count_said (r ∷ (p ∷ before)) = count_said (p ∷ before)

abbrev pub own : Role → ℕ → Record → List ℕ
own role i (Count n) = []
own role i (Listed e) = cond (rank role == rank e.role && i == e.node.0) (e.set.0 ∷ []) []

abbrev pub said : Role → ℕ → List Record → List ℕ
said role i [] = []
said role i (r ∷ before) = said role i before ++ own role i r

-- how many sets of its role the node of a record has
abbrev pub listed_before : Record → List Record → ℕ
listed_before (Count n) before = 0
listed_before (Listed e) before = length (said e.role e.node.0 before)

abbrev pub admitted : Record → Option Refusal → Result Record Refusal
admitted r None = Ok r
admitted r (Some e) = Err e

abbrev pub judged : List Record → Option Record → Result Record Refusal
judged before None = Err Form
judged before (Some r) = admitted r (refusal_of (count_said before) (newest_of before) (listed_before r before) r)

-- what a line comes to after the records before it: the record that it adds, or its refusal
abbrev pub line_says : List Record → LineOf → Result Record Refusal
line_says before l = judged before (cond l.ended (record_of l.bytes) None)
