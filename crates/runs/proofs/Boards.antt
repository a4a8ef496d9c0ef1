-- What each call does to the board: a refused call nothing, any other its event in its slot. Assumes nothing.
use Rattle.std.proofs.Common.{is_ok, ◌≡◌, ℕ, ◌-◌, ◌<◌, true, false, cond, List, length, set, Some, None, Option, sym, refl, ap, ◌∙◌, subst, ⊎_elim, length-set, get_or-set_other, get_or-set_same, Ok, Err}
use lib.Seq.{set-get_or}
use Rattle.std.proofs.lemmas.Bool.{and_from, cases_eq, both_ways}
use Rattle.trust.specs.declared.refusal.Refusal.{Refusal}
use Rattle.protocol.specs.Hearing.{once, heeds, takes}
use Rattle.protocol.specs.declared.message.Place.{Place}
use Rattle.protocol.specs.declared.message.Kind.{Kind}
use Rattle.protocol.specs.declared.record.Heard.TheVariants.{Ignored}
use Rattle.protocol.specs.declared.slot.Slot.{Slot}
use Rattle.broadcast.specs.Slots.{Setting, correct?, faulty?, no_record, record_at, with_record, waiting}
use Rattle.broadcast.specs.Events.{Event, propose, forge, hand, hears, proposes, hears_waiting, step}
use Rattle.runs.specs.declared.call.Call.{Call}
use Rattle.runs.specs.declared.call.Call.TheVariants.{Propose, Forge, Hand}
use Rattle.runs.specs.declared.call.Outcome.TheVariants.{Proposed, Already, Stepped}
use Rattle.runs.specs.Values.{Values}
use Rattle.runs.specs.Calls.{World, State, setting, no_slot, slot_at, entered, kind, Answer}
use Rattle.runs.proofs.Moves.{known, placed, InSlots, Moves, refuses, repeats, offers, ignores, forges, hands}

-- what lets an event happen
abbrev pub Happens : Setting → Slot → Event → Type 0
Happens w s (propose p) = correct? w w.sender ≡ true
Happens w s (forge m i k p) = (faulty? w i ≡ true) × (correct? w k ≡ true)
Happens w s (hand m i k) = (p : Place) × (waiting w s m i k ≡ Some p)

-- a proposal where there is one already, and an ignored message
pub proposes_same : (w : Setting) (s : Slot) (p q : Place) → s.proposal ≡ Some p → proposes w q s ≡ s
proposes_same w s p q e =
    ap (λ o. record { proposal = once (correct? w w.sender) q o; records = s.records }) e ∙ ap (λ o. record { proposal = o; records = s.records }) (sym e)

pub proposes_new : (w : Setting) (s : Slot) (p : Place) → correct? w w.sender ≡ true → s.proposal ≡ None → proposes w p s ≡ record { proposal = Some p; records = s.records }
proposes_new w s p c e =
    ap (λ o. record { proposal = once (correct? w w.sender) p o; records = s.records }) e
    ∙ ap (λ b. record { proposal = cond b (Some p) None; records = s.records }) c

pub hears_ignored : (w : Setting) (m : Kind) (i k : ℕ) (p : Place) (s : Slot) → heeds w.trust.size w.sender (record_at s k) m i ≡ false → hears w m i k p s ≡ s
hears_ignored w m i k p s e =
    ap (λ b. with_record s k (cond b (takes w.trust k (record_at s k) m i p) (record_at s k, Ignored)).0) e
    ∙ ap (λ l. record { proposal = s.proposal; records = l }) (set-get_or s.records (k - 1) no_record)

forge_is : (w : Setting) (s : Slot) (m : Kind) (i k : ℕ) (p : Place) → faulty? w i ≡ true → correct? w k ≡ true → step w s (forge m i k p) ≡ hears w m i k p s
forge_is w s m i k p from to = ap (λ b. cond b (hears w m i k p s) s) (and_from (faulty? w i) (correct? w k) from to)

hand_is : (w : Setting) (s : Slot) (m : Kind) (i k : ℕ) (p : Place) → waiting w s m i k ≡ Some p → step w s (hand m i k) ≡ hears w m i k p s
hand_is w s m i k p e = ap (hears_waiting w m i k s) e

pub entered_board : {V : Type 0} (x : State V) (v : V) (o : Option Place) (b : List Slot) → (entered x v o b).board ≡ b
entered_board x v None b = refl
entered_board x v (Some p) b = refl

abbrev pub slot_of : {V : Type 0} → Call V → ℕ
slot_of (Propose s v) = s
slot_of (Forge n s i k v) = s
slot_of (Hand n s i k) = s

abbrev pub event_of : {V : Type 0} → Values V → State V → Call V → Event
event_of values x (Propose s v) = propose (placed values x v)
event_of values x (Forge n s i k v) = forge (kind n) i k (placed values x v)
event_of values x (Hand n s i k) = hand (kind n) i k

module _ {V : Type 0} (values : Values V) (w : World) (x : State V) where
  -- slot t after the event of a call
  abbrev pub event_slot : ℕ → Call V → Slot
  event_slot t c = step (setting w t) (slot_at x.board t) (event_of values x c)

  -- and what lets it happen
  abbrev pub Occurs : ℕ → Call V → Type 0
  Occurs t c = Happens (setting w t) (slot_at x.board t) (event_of values x c)

  pub data BoardAfter (c : Call V) : Answer → List Slot → Type 0 where
    board_same : (n : Refusal) → BoardAfter c (Err n) x.board
    board_event : (a : Answer) → is_ok a ≡ true → InSlots w (slot_of c)
        → Occurs (slot_of c) c → BoardAfter c a (set x.board (slot_of c) (event_slot (slot_of c) c))

  -- where the event leaves the slot, or makes it y
  event_none : (c : Call V) (a : Answer) → is_ok a ≡ true → InSlots w (slot_of c) → Occurs (slot_of c) c
      → event_slot (slot_of c) c ≡ slot_at x.board (slot_of c) → BoardAfter c a x.board
  event_none c a ok s h e = subst (BoardAfter c a) (ap (set x.board (slot_of c)) e ∙ set-get_or x.board (slot_of c) no_slot) (board_event a ok s h)

  event_some : (c : Call V) (a : Answer) (y : Slot) → is_ok a ≡ true → InSlots w (slot_of c) → Occurs (slot_of c) c
      → event_slot (slot_of c) c ≡ y → BoardAfter c a (set x.board (slot_of c) y)
  event_some c a y ok s h e = subst (λ z. BoardAfter c a (set x.board (slot_of c) z)) e (board_event a ok s h)

  pub board_after : {c : Call V} {a : Answer} {y : State V} → Moves values w x c a y → BoardAfter c a y.board
  board_after (refuses c n) = board_same n
  board_after (repeats s v p in_slots ok fit e _) = event_none (Propose s v) (Ok Already) refl in_slots ok (proposes_same (setting w s) _ p _ e)
  board_after (offers s v in_slots ok fit e) =
      subst (BoardAfter (Propose s v) (Ok Proposed)) (sym (entered_board x v (known values x v) _))
      (event_some (Propose s v) (Ok Proposed) _ refl in_slots ok (proposes_new (setting w s) (slot_at x.board s) (placed values x v) ok e))
  board_after (ignores n s i k v (_, in_slots) (from, to) fit e) =
      event_none (Forge n s i k v) (Ok (Stepped Ignored)) refl in_slots (from, to)
      (forge_is (setting w s) (slot_at x.board s) (kind n) i k (placed values x v) from to
      ∙ hears_ignored (setting w s) (kind n) i k (placed values x v) (slot_at x.board s) e)
  board_after (forges n s i k v (_, in_slots) (from, to) fit e) =
      subst (BoardAfter (Forge n s i k v) _) (sym (entered_board x v (known values x v) _))
      (event_some (Forge n s i k v) _ _ refl in_slots (from, to) (forge_is (setting w s) (slot_at x.board s) (kind n) i k (placed values x v) from to))
  board_after (hands n s i k p (_, in_slots) e) =
      event_some (Hand n s i k) _ _ refl in_slots (p, e) (hand_is (setting w s) (slot_at x.board s) (kind n) i k p e)

  -- one slot: nothing happens in it, or the call's event does
  pub data SlotAfter (c : Call V) (t : ℕ) : Answer → Slot → Type 0 where
    slot_same : (a : Answer) → (is_ok a ≡ true → slot_of c ≡ t → ⊥) → SlotAfter c t a (slot_at x.board t)
    slot_event : (a : Answer) → is_ok a ≡ true → slot_of c ≡ t → InSlots w t → Occurs t c → SlotAfter c t a (event_slot t c)

  pub slot_after : ((s : ℕ) → InSlots w s → s < length x.board) → {c : Call V} {a : Answer} {b : List Slot} → BoardAfter c a b → (t : ℕ) → SlotAfter c t a (slot_at b t)
  slot_after long (board_same n) t = slot_same (Err n) (λ e _. both_ways false refl e)
  slot_after long {c} (board_event a ok in_slots h) t =
      ⊎_elim
      (λ e. subst (λ n. SlotAfter c n a (slot_at (set x.board (slot_of c) (event_slot (slot_of c) c)) n)) e
      (subst (SlotAfter c (slot_of c) a) (sym (get_or-set_same x.board (slot_of c) (event_slot (slot_of c) c) no_slot (long (slot_of c) in_slots))) (slot_event a ok refl in_slots h)))
      (λ ne. subst (SlotAfter c t a) (sym (get_or-set_other x.board (slot_of c) t (event_slot (slot_of c) c) no_slot (λ e. ne (sym e)))) (slot_same a (λ _ e. ne e)))
      (cases_eq (slot_of c) t)

  pub board_length : {c : Call V} {a : Answer} {b : List Slot} → BoardAfter c a b → length b ≡ length x.board
  board_length (board_same n) = refl
  board_length {c} (board_event a ok in_slots h) = length-set x.board (slot_of c) (event_slot (slot_of c) c)
