-- What holds of every state that calls brought about. Assumes nothing.
use Rattle.std.proofs.Common.{is_ok, ◌≡◌, ℕ, ◌+◌, ◌^◌, ◌<◌, ◌≤◌, Bool, true, false, cond, eqb, List, [], ◌∷◌, length, set, replicate, None, sym, refl, ap, ◌∙◌, subst, ⊎_elim, arith}
use Rattle.std.proofs.lemmas.List.{get_or-replicate}
use Rattle.std.proofs.lemmas.Bool.{ltb-true, not-false, eq-eqb, ne_eqb, cases_Bool, both_ways}
use Rattle.trust.specs.Trust.{sound}
use Rattle.trust.specs.Sorting.{wise_mask, max_guild}
use Rattle.protocol.specs.Fresh.{fresh_slot}
use Rattle.protocol.specs.declared.message.Place.{Place}
use Rattle.protocol.specs.declared.slot.Slot.{Slot}
use Rattle.broadcast.specs.Counts.{any, one, heard_count, accepted as accepted_in}
use Rattle.broadcast.specs.Claims.{Assumed}
use Rattle.broadcast.proofs.Entries.{node_bounds}
use Rattle.broadcast.proofs.Invariant.{Inv, inv_fresh, step_keeps}
use Rattle.broadcast.proofs.Counting.{heard_step, heard_fresh}
use Rattle.broadcast.proofs.Serving.{sound_assumed}
use Rattle.runs.specs.declared.call.Call.{Call}
use Rattle.runs.specs.declared.call.Call.TheVariants.{Propose, Forge, Hand}
use Rattle.runs.specs.Values.{Values}
use Rattle.runs.specs.Calls.{World, State, setting, no_slot, slot_at, slot?, open_refusals, opening, fresh, kind, known_in, place_of, entered, answer, Answer}
use Rattle.runs.specs.Promise.{History, CameAbout, opened, called, hand_in, handed}
use Rattle.runs.proofs.Refusing.{none_hold, some_not_none}
use Rattle.runs.proofs.Moves.{Moves, refuses, repeats, offers, ignores, forges, hands, answered}
use Rattle.runs.proofs.Boards.{Happens, entered_board, slot_of, event_of, board_after, SlotAfter, slot_same, slot_event, slot_after, board_length}
use Rattle.runs.proofs.Rows.{Means, Rowed, Grows, grows, grows_keeps, rowed_still, entered_means}
use Rattle.runs.proofs.Standing.{OfSlot, OfBoard, set_each, replicate_each, slot_more, fresh_slot_each, no_slot_each, hears_each, offer_each, waiting_each}

-- what an opening that was not refused says of the world
pub record Opens (w : World) : Type 0 where
  pub few : w.trust.size ≤ 16
  pub slots : w.slots ≤ 16
  pub is_sound : sound w.trust ≡ true
  pub in_range : w.faulty < 2 ^ w.trust.size

opening_says : (w : World) (places : ℕ) → w.trust.size ≤ 16 → opening w places ≡ None → Opens w
opening_says w places few e =
    let (slots, (_, (mask, (unsound, _)))) = none_hold (open_refusals w places) e in
    record {
      few = few;
      slots = (node_bounds 16 w.slots (not-false _ slots)).1;
      is_sound = not-false _ unsound;
      in_range = ltb-true w.faulty (2 ^ w.trust.size) (not-false _ mask);
    }

pub opens : {V : Type 0} (values : Values V) (w : World) {h : History V} {x : State V} → CameAbout values w h x → Opens w
opens values w (opened places few e) = opening_says w places few e
opens values w (called places c before) = opens values w before

abbrev pub guild : World → ℕ
guild w = max_guild w.trust w.faulty

pub assumed : (w : World) → Opens w → (s : ℕ) → Assumed (setting w s) (wise_mask w.trust w.faulty) (guild w)
assumed w o s = sound_assumed (setting w s) o.is_sound o.in_range

-- a fit value stands at place p of the row
abbrev pub Stored : {V : Type 0} (values : Values V) → List V → Place → Type 0
Stored values row p = (m : values.Meaning) × Means values row p m × (values.fit m ≡ true)

-- the board at the opening
abbrev pub fresh_board : List Slot
fresh_board = replicate 16 fresh_slot

pub record Reached {V : Type 0} (values : Values V) (w : World) (h : History V) (x : State V) : Type 0 where
  pub long : length x.board ≡ 16
  pub kept : (s : ℕ) → slot? w s ≡ true → Inv (setting w s) (guild w) (slot_at x.board s)
  -- the slots past the slot count are as at the opening
  pub idle : (s : ℕ) → slot? w s ≡ false → slot_at x.board s ≡ slot_at fresh_board s
  pub heard : (s : ℕ) → slot? w s ≡ true → heard_count (setting w s) (slot_at x.board s) ≡ handed s h
  pub rowed : Rowed values x
  -- every place in a proposal or a record has a value
  pub stored : OfBoard (Stored values x.row) x.board

module _ {V : Type 0} (values : Values V) (w : World) (o : Opens w) where
  in_board : (s : ℕ) → slot? w s ≡ true → s < 16
  in_board s e = omega (arith, ltb-true s w.slots e, o.slots)

  reached_fresh : Reached values w [] fresh
  unfolding handed
  reached_fresh = record {
    long = refl;
    kept = λ s e. subst (Inv (setting w s) (guild w)) (sym (at_fresh s e)) (inv_fresh (setting w s) _ _ (assumed w o s) o.few);
    idle = λ s e. refl;
    heard = λ s e. ap (heard_count (setting w s)) (at_fresh s e) ∙ heard_fresh (setting w s) o.few;
    rowed = record { full = refl; apart = λ p q u v e. absurd (some_not_none (sym e)) };
    stored = λ t. replicate_each (OfSlot (Stored values [])) 16 fresh_slot t no_slot (fresh_slot_each _) (no_slot_each _);
  }
    where
      at_fresh : (s : ℕ) → slot? w s ≡ true → slot_at fresh_board s ≡ fresh_slot
      at_fresh s e = get_or-replicate 16 s fresh_slot no_slot (in_board s e)

  -- a call's part in `handed`
  abbrev share : ℕ → Call V → Answer → ℕ
  share s c a = cond (hand_in s c) (cond (is_ok a) 1 0) 0

  share_none : (s : ℕ) (c : Call V) (a : Answer) → (is_ok a ≡ true → slot_of c ≡ s → ⊥) → share s c a ≡ 0
  share_none s (Propose t v) a ne = refl
  share_none s (Forge n t i k v) a ne = refl
  share_none s (Hand n t i k) a ne = ⊎_elim
      (λ ok. ap (λ b. cond b (cond (is_ok a) 1 0) 0) (ne_eqb t s (ne ok)))
      (λ out. ap (λ b. cond (eqb t s) (cond b 1 0) 0) out ∙ zeroes (eqb t s)) (cases_Bool (is_ok a))
    where
      zeroes : (b : Bool) → ◌≡◌ {A = ℕ} (cond b 0 0) 0
      zeroes true = refl
      zeroes false = refl

  share_one : (x : State V) (s : ℕ) (c : Call V) (a : Answer) (y : Slot) → is_ok a ≡ true → slot_of c ≡ s → Happens (setting w s) y (event_of values x c)
      → share s c a ≡ accepted_in (setting w s) y (event_of values x c)
  share_one x s (Propose t v) a y ok is h = refl
  share_one x s (Forge n t i k v) a y ok is h = refl
  share_one x s (Hand n t i k) a y ok is h =
      ap (λ b. cond b (cond (is_ok a) 1 0) 0) (eq-eqb t s is) ∙ ap (λ b. cond b 1 0) ok ∙ sym (ap (λ p. one (any p)) h.1)

  -- after one call
  module _ (h : History V) (x : State V) (r : Reached values w h x) where
    pub within : (s : ℕ) → slot? w s ≡ true → s < length x.board
    within s e = omega (arith, in_board s e, r.long)

    kept_after : (s : ℕ) {c : Call V} {a : Answer} {y : Slot} → slot? w s ≡ true → SlotAfter values w x c s a y → Inv (setting w s) (guild w) y
    kept_after s e (slot_same a ne) = r.kept s e
    kept_after s {c} e (slot_event a ok is in-slots p) = step_keeps (setting w s) _ (guild w) (assumed w o s) (slot_at x.board s) (event_of values x c) (r.kept s e)

    idle_after : (s : ℕ) {c : Call V} {a : Answer} {y : Slot} → slot? w s ≡ false → SlotAfter values w x c s a y → y ≡ slot_at x.board s
    idle_after s e (slot_same a ne) = refl
    idle_after s e (slot_event a ok is in-slots p) = absurd (both_ways (slot? w s) e in-slots)

    heard_after : (s : ℕ) {c : Call V} {a : Answer} {y : Slot} → slot? w s ≡ true → SlotAfter values w x c s a y → heard_count (setting w s) y ≡ share s c a + handed s h
    heard_after s {c} e (slot_same a ne) = omega (arith, r.heard s e, share_none s c a ne)
    heard_after s {c} e (slot_event a ok is in-slots p) = omega (
      arith,
      r.heard s e,
      share_one x s c a (slot_at x.board s) ok is p,
      heard_step (setting w s) (slot_at x.board s) (r.kept s e) (event_of values x c),
    )

    -- the places of the old board in the new row
    carried : {n : ℕ} {row : List V} → Grows values x n row → OfBoard (Stored values row) x.board
    carried g t = slot_more _ _ (λ p s. (s.0, grows_keeps values g p s.0 s.1, s.2)) (r.stored t)

    -- a slot written anew
    written : {n : ℕ} {row : List V} → Grows values x n row → (s : ℕ) (new : Slot) → OfSlot (Stored values row) new → OfBoard (Stored values row) (set x.board s new)
    written {n} {row} g s new ok t = set_each (OfSlot (Stored values row)) x.board s new t no_slot ok (carried g t)

    entering : (v : V) → values.fit (values.meaning v) ≡ true → (b : List Slot) → Stored values (entered x v (known_in values x.row v) b).row (place_of x.used (known_in values x.row v))
    entering v fit b = (values.meaning v, entered_means values x v b r.rowed, fit)

    moves_stored : {c : Call V} {a : Answer} {y : State V} → Moves values w x c a y → OfBoard (Stored values y.row) y.board
    moves_stored (refuses c n) = r.stored
    moves_stored (repeats s v p _ _ _ _ _) = r.stored
    moves_stored (ignores n s i k v _ _ _ _) = r.stored
    moves_stored (offers s v a b fit e) =
        subst (OfBoard _) (sym (entered_board x v (known_in values x.row v) _))
        (written (grows values w x (offers s v a b fit e)) s _ (offer_each _ _ (entering v fit _) (slot_at x.board s) (carried (grows values w x (offers s v a b fit e)) s)))
    moves_stored (forges n s i k v a l fit e) =
        subst (OfBoard _) (sym (entered_board x v (known_in values x.row v) _))
        (written (grows values w x (forges n s i k v a l fit e)) s _
        (hears_each _ _ (entering v fit _) (setting w s) (kind n) i k (slot_at x.board s) (carried (grows values w x (forges n s i k v a l fit e)) s)))
    moves_stored (hands n s i k p a e) =
        written (grows values w x (hands n s i k p a e)) s _
        (hears_each _ p (waiting_each _ (setting w s) (slot_at x.board s) (kind n) i k p (r.stored s) e) (setting w s) (kind n) i k (slot_at x.board s) (r.stored s))

    reached_call : (places : ℕ) (c : Call V) → Reached values w (record { places = places; call = c; answer = (answer values w places x c).0 } ∷ h) (answer values w places x c).1
    unfolding handed
    reached_call places c =
        let move = answered values w x places c in
        let act = board_after values w x move in
        let slot = slot_after values w x within act in
        record {
          long = board_length values w x act ∙ r.long;
          kept = λ s e. kept_after s e (slot s);
          idle = λ s e. idle_after s e (slot s) ∙ r.idle s e;
          heard = λ s e. heard_after s e (slot s);
          rowed = rowed_still values r.rowed (grows values w x move);
          stored = moves_stored move;
        }

pub reached : {V : Type 0} (values : Values V) (w : World) {h : History V} {x : State V} → CameAbout values w h x → Reached values w h x
reached values w (opened places few e) = reached_fresh values w (opening_says w places few e)
reached values w (called {h} {x} places c before) = reached_call values w (opens values w before) h x (reached values w before) places c
