-- A draft that holds what the records before say judges the next one as they do, and holds one more after it.
use Rattle.std.proofs.Common.{◌≡◌, ℕ, suc, ◌-◌, ◌^◌, Bool, true, false, cond, not, ◌&&◌, eqb, ltb, leb, List, [], ◌∷◌, ◌++◌, length, get_or, replicate, Some, None, Ok, Err, Option, Result, sym, refl, ap, ◌∙◌, subst, ap₂, arith}
use Rattle.std.specs.Option.{unwrap_or}
use Rattle.std.proofs.lemmas.List.{get_or-replicate}
use Rattle.std.specs.Prelude.{is_ok, OnOk, IfErr}
use Rattle.std.proofs.lemmas.Option.{none-some}
use Rattle.std.proofs.lemmas.Bool.Decides.{nat_tests}
use Rattle.std.proofs.lemmas.Bool.{and_from, false≢true, true≢false, cond_both}
use Rattle.sets.specs.Sets.{set?}
use Rattle.sets.specs.Lists.{all_of, of_nodes?}
use Rattle.trust.specs.NodeTrusts.{nothing}
use Rattle.trust.specs.declared.refusal.Refusal.{Refusal}
use Rattle.trust.specs.declared.refusal.Refusal.TheVariants.{Range, Order, TooMany}
use Rattle.trust.specs.Refusals.{first_of}
use Rattle.text.specs.declared.draft.Draft.{Draft}
use Rattle.text.specs.declared.record.Role.{Role}
use Rattle.text.specs.declared.record.Role.TheVariants.{FailProne, Quorum}
use Rattle.text.specs.declared.record.Entry.{Entry}
use Rattle.text.specs.declared.record.Record.{Record}
use Rattle.text.specs.declared.record.Record.TheVariants.{Count, Listed}
use Rattle.text.specs.Reading.{rank, in_range?, in_order?, refusal_of, newest_of, count_said, own, said, listed_before, admitted, judged, line_says}
use Rattle.text.specs.Lines.{LineOf}
use Rattle.text.specs.Records.{record_of}
use Rattle.text.specs.Drafts.{counted, of_role, held, count_after, placed, Noted, Kept, Taken}
use Rattle.text.proofs.Records.{entry_fits}

-- the three conditions of a record's refusal
abbrev three : Bool → Bool → Bool → Option Refusal
three x y z = first_of ((not x, Range) ∷ ((not y, Order) ∷ ((z, TooMany) ∷ [])))

-- the last one counts only where the others do not hold
last_counts : (x y z v : Bool) → (x ≡ true → y ≡ true → z ≡ v) → three x y z ≡ three x y v
last_counts true true z v h = ap (three true true) (h refl refl)
last_counts true false z v h = refl
last_counts false y z v h = refl

three_of : (o : Bool) → three true true o ≡ cond o (Some TooMany) None
three_of true = refl
three_of false = refl

-- where a record stands by the first two
abbrev refusal_in : Result (Unit {0}) Refusal → Option Refusal
refusal_in (Ok _) = None
refusal_in (Err e) = Some e

abbrev two : Bool → Bool → Result (Unit {0}) Refusal
two x y = cond x (cond y (Ok tt) (Err Order)) (Err Range)

misplaced : (x y z : Bool) (e : Refusal) → two x y ≡ Err e → three x y z ≡ Some e
misplaced true true z e is = absurd (none-some e (ap refusal_in is))
misplaced true false z e is = ap refusal_in is
misplaced false y z e is = ap refusal_in is

both_hold : (x y : Bool) → two x y ≡ Ok tt → (x ≡ true) × (y ≡ true)
both_hold true true is = (refl, refl)
both_hold true false is = absurd (none-some Order (sym (ap refusal_in is)))
both_hold false y is = absurd (none-some Range (sym (ap refusal_in is)))

pub placed_fits : (n : ℕ) (newest : Option Record) (r : Record) → placed n newest r ≡ Ok tt → (in_range? n r ≡ true) × (in_order? newest r ≡ true)
placed_fits n newest r e = both_hold (in_range? n r) (in_order? newest r) e

module _ (d : Draft) (before : List Record) (kept : Kept d before) where
  -- as many sets of its role
  held_is : (r : Record) → in_range? (counted d) r ≡ true → in_order? d.newest r ≡ true → held d r ≡ listed_before r before
  held_is (Count n) range order = refl
  held_is (Listed e) range order =
      let i = e.node.0 in
      let (low, high, _) = entry_fits (counted d) d.newest e d.few d.begun range order in
      ap length (kept.sets e.role (i - 1) (omega arith) ∙ ap (λ j. said e.role j before) (omega arith))

  same_refusal : (r : Record) → refusal_of (counted d) d.newest (held d r) r ≡ refusal_of (count_said before) (newest_of before) (listed_before r before) r
  same_refusal r =
      last_counts (in_range? (counted d) r) (in_order? d.newest r) (leb 16 (held d r)) (leb 16 (listed_before r before)) (λ range order. ap (leb 16) (held_is r range order))
      ∙ ap₂ (λ n newest. refusal_of n newest (listed_before r before) r) kept.nodes kept.newest

  -- the refusal of a record that is misplaced, that has no room, and that is taken
  pub misplaced_is : (r : Record) (e : Refusal) → placed (counted d) d.newest r ≡ Err e → refusal_of (count_said before) (newest_of before) (listed_before r before) r ≡ Some e
  misplaced_is r e is = sym (same_refusal r) ∙ misplaced (in_range? (counted d) r) (in_order? d.newest r) (leb 16 (held d r)) e is

  room_is : (r : Record) (o : Bool) → placed (counted d) d.newest r ≡ Ok tt → leb 16 (held d r) ≡ o → refusal_of (count_said before) (newest_of before) (listed_before r before) r ≡ cond o (Some TooMany) None
  room_is r o is full =
      let (range, order) = placed_fits (counted d) d.newest r is in
      sym (same_refusal r) ∙ ap₂ (λ x y. three x y (leb 16 (held d r))) range order ∙ ap (three true true) full ∙ three_of o

  pub full_is : (r : Record) → placed (counted d) d.newest r ≡ Ok tt → false ≡ ltb (held d r) 16 → refusal_of (count_said before) (newest_of before) (listed_before r before) r ≡ Some TooMany
  full_is r is no_room = room_is r true is (grind (arith, nat_tests, no_room))

  pub free_is : (r : Record) → placed (counted d) d.newest r ≡ Ok tt → true ≡ ltb (held d r) 16 → refusal_of (count_said before) (newest_of before) (listed_before r before) r ≡ None
  free_is r is room = room_is r false is (grind (arith, nat_tests, room))

-- the count is the first record's
count_is : (n : ℕ) (before : List Record) (r : Record) → n ≡ count_said before → in_order? (newest_of before) r ≡ true → count_after n r ≡ count_said (r ∷ before)
count_is n [] (Count c) e order = refl
count_is n [] (Listed x) e order = absurd (false≢true order)
count_is n (p ∷ before) (Count c) e order = absurd (false≢true order)
count_is n (p ∷ before) (Listed x) e order = e

all_of_both : (p : ℕ → Bool) (xs ys : List ℕ) → all_of xs p ≡ true → all_of ys p ≡ true → all_of (xs ++ ys) p ≡ true
all_of_both p [] ys e h = h
all_of_both p (x ∷ xs) ys e h =
    let (here, rest) = Rattle.std.proofs.lemmas.Bool.and_parts (p x) (all_of xs p) e in
    and_from (p x) (all_of (xs ++ ys) p) here (all_of_both p xs ys rest h)

-- its set fits the nodes
own_fits : (n : ℕ) (role : Role) (i : ℕ) (e : Entry) → set? n e.set.0 ≡ true → of_nodes? n (own role i (Listed e)) ≡ true
own_fits n role i e fits =
    cond_both (eqb (rank role) (rank e.role) && eqb i e.node.0) (e.set.0 ∷ []) [] (λ xs. of_nodes? n xs ≡ true) (λ _. and_from (set? n e.set.0) true fits refl) (λ _. refl)

fit_more : (d : Draft) (before : List Record) → Kept d before → (r : Record) → in_range? (counted d) r ≡ true → in_order? d.newest r ≡ true
    → (role : Role) (k : ℕ) → of_nodes? (count_after (counted d) r) (said role (suc k) (r ∷ before)) ≡ true
fit_more d [] kept (Count c) range order role k = refl
fit_more d (p ∷ before) kept (Count c) range order role k = absurd (false≢true (ap (λ o. in_order? o (Count c)) (sym kept.newest) ∙ order))
fit_more d before kept (Listed e) range order role k =
    let (_, _, fits) = entry_fits (counted d) d.newest e d.few d.begun range order in
    all_of_both (λ x. ltb x (2 ^ counted d)) (said role (suc k) before) (own role (suc k) (Listed e)) (kept.fit role k) (own_fits (counted d) role (suc k) e fits)

pub kept_more : (d d' : Draft) (before : List Record) (r : Record) → Kept d before → placed (counted d) d.newest r ≡ Ok tt → Noted d r d' → Kept d' (r ∷ before)
kept_more d d' before r kept is noted =
    let (range, order) = placed_fits (counted d) d.newest r is in
    record {
      nodes = noted.nodes ∙ count_is (counted d) before r kept.nodes (ap (λ o. in_order? o r) (sym kept.newest) ∙ order);
      newest = noted.newest;
      sets = λ role k l. noted.sets role k l ∙ ap (λ xs. xs ++ own role (suc k) r) (kept.sets role k l);
      fit = λ role k. subst (λ n. of_nodes? n (said role (suc k) (r ∷ before)) ≡ true) (sym noted.nodes) (fit_more d before kept r range order role k);
    }

-- a line that is ended and has a record
pub line_comes_to : (before : List Record) (bytes : List ℕ) (ended : Bool) (r : Record) (o : Option Refusal) → ended ≡ true → Some r ≡ record_of bytes
    → refusal_of (count_said before) (newest_of before) (listed_before r before) r ≡ o → line_says before (record { bytes = bytes; ended = ended }) ≡ admitted r o
line_comes_to before bytes ended r o t is e =
    ap (λ b. judged before (cond b (record_of bytes) None)) t ∙ ap (judged before) (sym is) ∙ ap (admitted r) e

-- a draft with no record
empty : (role : Role) → of_role role nothing ≡ []
empty FailProne = refl
empty Quorum = refl

pub kept_none : (d : Draft) → d.nodes ≡ None → d.newest ≡ None → d.trust ≡ replicate 16 nothing → Kept d []
kept_none d n o ts = record { nodes = ap (λ o. unwrap_or o 0) n; newest = o; sets = λ role k l. ap (λ ts. of_role role (get_or ts k nothing)) ts ∙ ap (of_role role) (get_or-replicate 16 k nothing nothing l) ∙ empty role; fit = λ role k. refl }

-- what came of a line, by what came of its record
pub taken_err : (before : List Record) (l : LineOf) (d : Draft) (res : Result (Unit {0}) Refusal) (e : Refusal) → res ≡ Err e → line_says before l ≡ Err e → Kept d before → Taken before l res d
taken_err before l d res e is says kept = subst (λ r. Taken before l r d) (sym is) (says, kept)

pub taken_by : (d d' : Draft) (before : List Record) (r : Record) (bytes : List ℕ) (ended : Bool) → Kept d before → ended ≡ true → Some r ≡ record_of bytes → placed (counted d) d.newest r ≡ Ok tt
    → (res : Result (Unit {0}) Refusal) → is_ok res ≡ ltb (held d r) 16 → OnOk res (Noted d r d') → IfErr res (λ x. (x ≡ TooMany) × (d' ≡ d)) → Taken before (record { bytes = bytes; ended = ended }) res d'
taken_by d d' before r bytes ended kept t is at (Ok u) room noted full =
    (r, line_comes_to before bytes ended r None t is (free_is d before kept r at room), kept_more d d' before r kept at noted)
taken_by d d' before r bytes ended kept t is at (Err e) room noted (many, same) = (
  line_comes_to before bytes ended r (Some TooMany) t is (full_is d before kept r at room) ∙ ap Err (sym many),
  subst (λ x. Kept x before) (sym same) kept,
)
