-- What later calls keep: where a value is known, and what a correct node said. Assumes nothing.
use Rattle.std.proofs.Common.{◌≡◌, ℕ, suc, ◌+◌, Bool, true, false, cond, ◌&&◌, List, [], ◌∷◌, ◌++◌, length, Some, None, Option, sym, refl, ap, ◌∙◌, arith}
use Rattle.std.proofs.lemmas.Bool.{and_parts}
use Rattle.protocol.specs.declared.message.Place.{Place}
use Rattle.protocol.specs.declared.message.Kind.{Kind}
use Rattle.protocol.specs.declared.slot.Slot.{Slot}
use Rattle.broadcast.specs.Slots.{Setting, correct?, faulty?, record_at, said, waiting}
use Rattle.broadcast.specs.Events.{Event, propose, forge, hand, hears, hears_waiting, step}
use Rattle.broadcast.proofs.Places.{Kept, once_kept, same_place}
use Rattle.broadcast.proofs.Waiting.{correct_bounds, waiting_parts}
use Rattle.broadcast.proofs.Hearing.{Grew, stays, grew, heard}
use Rattle.broadcast.proofs.Invariant.{Inv, record_each, said_kept}
use Rattle.runs.specs.declared.call.Call.{Call}
use Rattle.runs.specs.Values.{Values}
use Rattle.runs.specs.Calls.{World, State, setting, correct, slot_at, slot?, known_from, known_in, place_of, entered, Answer}
use Rattle.runs.specs.Promise.{History}
use Rattle.runs.proofs.Refusing.{some_not_none}
use Rattle.runs.proofs.Moves.{Moves, known, placed}
use Rattle.runs.proofs.Boards.{event_of, board_after, SlotAfter, slot_same, slot_event, slot_after}
use Rattle.runs.proofs.Rows.{Rowed, Grows, kept, more, grows}
use Rattle.runs.proofs.Invariants.{Opens, Reached, guild, within}

-- the words of correct nodes stay as something happens in a slot
module _ (w : Setting) (live : ℕ) (z : Slot) (inv : Inv w live z) (m : Kind) (i : ℕ) (i_correct : correct? w i ≡ true) where
  hears_words : (n : Kind) (j k : ℕ) (v : Place) → correct? w k ≡ true → Kept (said w z m i) (said w (hears w n j k v z) m i)
  hears_words n j k v k_correct = said_kept w z (hears w n j k v z) (λ _ e. e) grown m i i_correct
    where
      grown : (a : ℕ) → correct? w a ≡ true → Grew (record_at z a) (record_at (hears w n j k v z) a)
      grown a c =
          let (low, high) = correct_bounds w k k_correct in
          record_each (λ b y. Grew (record_at z b) y) z k _ low (omega (arith, inv.long))
          (grew (inv.shaped k k_correct) (heard w.trust w.sender k j v (record_at z k) n)) a (correct_bounds w a c).0 (stays (record_at z a))

  step_words : (e : Event) → Kept (said w z m i) (said w (step w z e) m i)
  step_words (propose v) = said_kept w z (step w z (propose v)) (once_kept _ v z.proposal) (λ a _. stays (record_at z a)) m i i_correct
  step_words (forge n j k v) = go (faulty? w j && correct? w k) refl
    where
      go : (b : Bool) → (faulty? w j && correct? w k) ≡ b → Kept (said w z m i) (said w (cond b (hears w n j k v z) z) m i)
      go true e = hears_words n j k v (and_parts (faulty? w j) (correct? w k) e).1
      go false e = λ _ h. h
  step_words (hand n j k) = go (waiting w z n j k) refl
    where
      go : (o : Option Place) → waiting w z n j k ≡ o → Kept (said w z m i) (said w (hears_waiting w n j k z o) m i)
      go None e = λ _ h. h
      go (Some v) e = hears_words n j k v (waiting_parts w z n j k v e).1

module _ {V : Type 0} (values : Values V) where
  known_kept : (n : ℕ) (row : List V) (v u : V) (p : Place) → known_from values n row u ≡ Some p → known_from values n (row ++ (v ∷ [])) u ≡ Some p
  known_kept n [] v u p e = absurd (some_not_none (sym e))
  known_kept n (a ∷ row) v u p e = go (known_kept (suc n) row v u p) (values.same (values.meaning a) (values.meaning u)) e
    where
      go : (known_from values (suc n) row u ≡ Some p → known_from values (suc n) (row ++ (v ∷ [])) u ≡ Some p) → (b : Bool)
          → cond b (Some (record { 0 = n })) (known_from values (suc n) row u) ≡ Some p → cond b (Some (record { 0 = n })) (known_from values (suc n) (row ++ (v ∷ [])) u) ≡ Some p
      go later true f = f
      go later false f = later f

  known_end : (n : ℕ) (row : List V) (v : V) → known_from values n row v ≡ None → known_from values n (row ++ (v ∷ [])) v ≡ Some (record { 0 = n + length row })
  known_end n [] v e =
      ap (λ b. cond b (Some (record { 0 = n })) None) ((values.same_is (values.meaning v) (values.meaning v)).1 refl)
      ∙ ap Some (same_place (record { 0 = n }) (record { 0 = n + 0 }) (omega arith))
  known_end n (a ∷ row) v e = go (known_end (suc n) row v) (values.same (values.meaning a) (values.meaning v)) e
    where
      go : (known_from values (suc n) row v ≡ None → known_from values (suc n) (row ++ (v ∷ [])) v ≡ Some (record { 0 = suc n + length row })) → (b : Bool)
          → cond b (Some (record { 0 = n })) (known_from values (suc n) row v) ≡ None
          → cond b (Some (record { 0 = n })) (known_from values (suc n) (row ++ (v ∷ [])) v) ≡ Some (record { 0 = n + length (a ∷ row) })
      go later true f = absurd (some_not_none f)
      go later false f = later f ∙ ap Some (same_place (record { 0 = suc n + length row }) (record { 0 = n + length (a ∷ row) }) (omega arith))

  -- an entered value is known at its place
  pub entered_known : (x : State V) (v : V) (b : List Slot) → Rowed values x → known_in values (entered x v (known values x v) b).row v ≡ Some (placed values x v)
  entered_known x v b rowed = go (known values x v) refl
    where
      go : (o : Option Place) → known values x v ≡ o → known_in values (entered x v o b).row v ≡ Some (place_of x.used o)
      go None e = known_end 0 x.row v e ∙ ap Some (same_place (record { 0 = 0 + length x.row }) (record { 0 = x.used }) (omega (arith, rowed.full)))
      go (Some p) e = e

  module _ (w : World) where
    -- z is x or came after it
    pub record Later (x z : State V) : Type 0 where
      pub rows : (v : V) (p : Place) → known_in values x.row v ≡ Some p → known_in values z.row v ≡ Some p
      pub words : (s : ℕ) → slot? w s ≡ true → (m : Kind) (i : ℕ) → correct w i ≡ true
          → Kept (said (setting w s) (slot_at x.board s) m i) (said (setting w s) (slot_at z.board s) m i)

    pub later_self : (x : State V) → Later x x
    later_self x = record { rows = λ v p e. e; words = λ s in_slots m i c u e. e }

    pub later_then : {x y z : State V} → Later x y → Later y z → Later x z
    later_then f g = record {
      rows = λ v p e. g.rows v p (f.rows v p e);
      words = λ s in_slots m i c u e. g.words s in_slots m i c u (f.words s in_slots m i c u e);
    }

    module _ (o : Opens w) (h : History V) (x : State V) (r : Reached values w h x) where
      rows_after : {n : ℕ} {row : List V} → Grows values x n row → (v : V) (p : Place) → known_in values x.row v ≡ Some p → known_in values row v ≡ Some p
      rows_after kept v p e = e
      rows_after (more u fresh) v p e = known_kept 0 x.row u v p e

      words_after : (s : ℕ) → slot? w s ≡ true → (m : Kind) (i : ℕ) → correct w i ≡ true → {c : Call V} {a : Answer} {y : Slot} → SlotAfter values w x c s a y
          → Kept (said (setting w s) (slot_at x.board s) m i) (said (setting w s) y m i)
      words_after s in_slots m i c (slot_same a ne) = λ _ e. e
      words_after s in_slots m i c {c = b} (slot_event a ok is _ p) = step_words (setting w s) (guild w) (slot_at x.board s) (r.kept s in_slots) m i c (event_of values x b)

      pub later_move : {c : Call V} {a : Answer} {y : State V} → Moves values w x c a y → Later x y
      later_move move = record {
        rows = rows_after (grows values w x move);
        words = λ s in_slots m i c. words_after s in_slots m i c (slot_after values w x (within values w o h x r) (board_after values w x move) s);
      }
