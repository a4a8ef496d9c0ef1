-- A message waits exactly when the history says so. Assumes nothing.
use Rattle.std.proofs.Common.{◌≡◌, ℕ, ◌-◌, ◌<◌, ◌≤◌, Bool, true, false, cond, not, ◌&&◌, ◌||◌, eqb, length, Some, None, Option, sym, refl, ap, ◌∙◌, Err}
use Rattle.std.proofs.lemmas.Bool.{and_left, and_right, eq-eqb, ne_eqb}
use Rattle.trust.specs.declared.refusal.Refusal.{Refusal}
use Rattle.protocol.specs.Fresh.{fresh_record, fresh_slot}
use Rattle.protocol.specs.Hearing.{absent, taken}
use Rattle.protocol.specs.declared.message.Place.{Place}
use Rattle.protocol.specs.declared.message.Kind.{Kind}
use Rattle.protocol.specs.declared.message.Kind.TheVariants.{Send, Echo, Ready}
use Rattle.protocol.specs.declared.slot.Slot.{Slot}
use Rattle.broadcast.specs.Slots.{no_record, record_at, said}
use Rattle.broadcast.specs.Counts.{any}
use Rattle.broadcast.proofs.Invariant.{fresh_taken}
use Rattle.broadcast.proofs.Waiting.{correct_bounds, faulty_not_correct, waiting_parts, waiting_heeded}
use Rattle.runs.specs.declared.call.Call.{Call}
use Rattle.runs.specs.declared.call.Call.TheVariants.{Propose, Forge, Hand}
use Rattle.runs.specs.Values.{Values}
use Rattle.runs.specs.Calls.{World, State, sender, setting, correct, no_slot, slot_at, slot?, kind, heeds_in, answer, Answer}
use Rattle.runs.specs.Promise.{History, CameAbout, opened, called}
use Rattle.runs.specs.Laws.{same_kind, some, step_says, sends, hands_over, WaitingLaw}
use Rattle.runs.proofs.Moves.{Moves, refuses, repeats, offers, ignores, forges, hands, answered, known, placed, hearing}
use Rattle.runs.proofs.Boards.{entered_board}
use Rattle.runs.proofs.Standing.{replicate_each}
use Rattle.runs.proofs.Invariants.{Opens, opens, fresh_board, Reached, reached, guild, within}
use Rattle.runs.proofs.LawsSteps.{on_slot, said_hears, taken_hears}

and_true : (b : Bool) → (b && true) ≡ b
and_true true = refl
and_true false = refl

-- what a slot says and has, as a slot of the board
abbrev says_at : World → ℕ → Slot → Kind → ℕ → Bool
says_at w s z m i = any (said (setting w s) z m i)

abbrev has_at : World → ℕ → Slot → ℕ → Kind → ℕ → Bool
has_at w s z k m i = any (taken (sender w s) (record_at z k) m i)

refused_sends : {V : Type 0} (w : World) (s : ℕ) (m : Kind) (i : ℕ) (c : Call V) (n : Refusal) → sends w s m i c (Err n) ≡ false
refused_sends w s m i (Propose t v) n = and_right (eqb t s && eqb i (sender w t)) false refl
refused_sends w s m i (Forge a t j k v) n = and_right (eqb t s && eqb k i) false refl
refused_sends w s m i (Hand a t j k) n = and_right (eqb t s && eqb k i) false refl

refused_hands : {V : Type 0} (s : ℕ) (m : Kind) (i k : ℕ) (c : Call V) (n : Refusal) → hands_over s m i k c (Err n) ≡ false
refused_hands s m i k (Propose t v) n = refl
refused_hands s m i k (Forge a t j l v) n = refl
refused_hands s m i k (Hand a t j l) n = refl

module _ {V : Type 0} (values : Values V) (w : World) (o : Opens w) (h : History V) (x : State V) (r : Reached values w h x) where
  abbrev old_slot : ℕ → Slot
  old_slot s = slot_at x.board s

  in_range : (s : ℕ) → slot? w s ≡ true → s < length x.board
  in_range = within values w o h x r

  -- marks a call of slot t in slot q
  here_marked : (t : ℕ) (a b old : Bool) → ((a && b) || old) ≡ ((eqb t t && a && b) || old)
  here_marked t a b old = sym (ap (λ e. (e && a && b) || old) (eq-eqb t t refl))

  other_marked : (t s : ℕ) (a b old : Bool) → (t ≡ s → ⊥) → old ≡ ((eqb t s && a && b) || old)
  other_marked t s a b old ne = sym (ap (λ e. (e && a && b) || old) (ne_eqb t s ne))

  -- a proposal is what its slot's sender says
  offer_says : (t : ℕ) (p : Place) (m : Kind) (i : ℕ)
      → says_at w t (record { proposal = Some p; records = (old_slot t).records }) m i ≡ ((eqb i (sender w t) && same_kind m Send) || says_at w t (old_slot t) m i)
  offer_says t p Send i = go (eqb i (sender w t))
    where
      go : (b : Bool) → any (cond b (Some p) None) ≡ ((b && true) || any (cond b (old_slot t).proposal None))
      go true = refl
      go false = refl
  offer_says t p Echo i = sym (ap (λ b. b || says_at w t (old_slot t) Echo i) (and_right (eqb i (sender w t)) false refl))
  offer_says t p Ready i = sym (ap (λ b. b || says_at w t (old_slot t) Ready i) (and_right (eqb i (sender w t)) false refl))

  module _ (s : ℕ) (m : Kind) (i : ℕ) (i_correct : correct w i ≡ true) where
    low : 1 ≤ i
    low = (correct_bounds (setting w s) i i_correct).0

    -- node k hears from j
    heard_says : (n t j k : ℕ) (p : Place) → slot? w t ≡ true → correct w k ≡ true → heeds_in w x.board t (kind n) j k ≡ true
        → says_at w s (slot_at (hearing w x n t j k p).1 s) m i ≡ ((eqb t s && eqb k i && step_says m (hearing w x n t j k p).0) || says_at w s (old_slot s) m i)
    heard_says n t j k p t_in to heeded =
        let d = (hearing w x n t j k p).0 in
        on_slot (λ q z. says_at w q z m i ≡ ((eqb t q && eqb k i && step_says m d) || says_at w q (old_slot q) m i)) x.board t s _ (in_range t t_in)
        (said_hears (setting w t) (guild w) (old_slot t) (r.kept t t_in) (kind n) j k p to heeded m i low ∙ here_marked t (eqb k i) (step_says m d) (says_at w t (old_slot t) m i))
        (other_marked t s (eqb k i) (step_says m d) (says_at w s (old_slot s) m i))

    said_step : {c : Call V} {a : Answer} {y : State V} → Moves values w x c a y → says_at w s (slot_at y.board s) m i ≡ (sends w s m i c a || says_at w s (old_slot s) m i)
    said_step (refuses c n) = sym (ap (λ b. b || says_at w s (old_slot s) m i) (refused_sends w s m i c n))
    said_step (repeats t v p _ _ _ _ _) = sym (ap (λ b. b || says_at w s (old_slot s) m i) (and_right (eqb t s && eqb i (sender w t)) false refl))
    said_step (ignores n t j k v _ _ _ _) = sym (ap (λ b. b || says_at w s (old_slot s) m i) (and_right (eqb t s && eqb k i) false refl))
    said_step (offers t v in_slots ok fit free) =
        ap (λ b. says_at w s (slot_at b s) m i) (entered_board x v (known values x v) _)
        ∙ on_slot (λ q z. says_at w q z m i ≡ ((eqb t q && eqb i (sender w t) && same_kind m Send) || says_at w q (old_slot q) m i)) x.board t s _ (in_range t in_slots)
        (offer_says t (placed values x v) m i ∙ here_marked t (eqb i (sender w t)) (same_kind m Send) (says_at w t (old_slot t) m i))
        (other_marked t s (eqb i (sender w t)) (same_kind m Send) (says_at w s (old_slot s) m i))
    said_step (forges n t j k v (_, t_in) (from, to) fit heeded) =
        ap (λ b. says_at w s (slot_at b s) m i) (entered_board x v (known values x v) _) ∙ heard_says n t j k (placed values x v) t_in to heeded
    said_step (hands n t j k p (_, t_in) e) =
        heard_says n t j k p t_in (waiting_parts (setting w t) (old_slot t) (kind n) j k p e).1 (waiting_heeded (setting w t) (old_slot t) (kind n) j k p e)

    module _ (k : ℕ) (k_correct : correct w k ≡ true) where
      k_low : 1 ≤ k
      k_low = (correct_bounds (setting w s) k k_correct).0

      -- a faulty node's message is none of node i's
      forged_taken : (t n j l : ℕ) → (j ≡ i → ⊥) → has_at w t (old_slot t) k m i ≡ ((same_kind (kind n) m && eqb j i && eqb l k) || has_at w t (old_slot t) k m i)
      forged_taken t n j l ne =
          sym (ap (λ b. b || has_at w t (old_slot t) k m i) (and_left (same_kind (kind n) m && eqb j i) (eqb l k) (and_right (same_kind (kind n) m) (eqb j i) (ne_eqb j i ne))))

      taken_step : {c : Call V} {a : Answer} {y : State V} → Moves values w x c a y → has_at w s (slot_at y.board s) k m i ≡ (hands_over s m i k c a || has_at w s (old_slot s) k m i)
      taken_step (refuses c n) = sym (ap (λ b. b || has_at w s (old_slot s) k m i) (refused_hands s m i k c n))
      taken_step (repeats t v p _ _ _ _ _) = refl
      taken_step (ignores n t j l v _ _ _ _) = refl
      taken_step (offers t v in_slots ok fit free) =
          ap (λ b. has_at w s (slot_at b s) k m i) (entered_board x v (known values x v) _)
          ∙ on_slot (λ q z. has_at w q z k m i ≡ has_at w q (old_slot q) k m i) x.board t s _ (in_range t in_slots) refl (λ _. refl)
      taken_step (forges n t j l v (_, in_slots) (from, to) fit heeded) =
          ap (λ b. has_at w s (slot_at b s) k m i) (entered_board x v (known values x v) _)
          ∙ on_slot (λ q z. has_at w q z k m i ≡ has_at w q (old_slot q) k m i) x.board t s _ (in_range t in_slots)
          (taken_hears (setting w t) (guild w) (old_slot t) (r.kept t in_slots) (kind n) j l (placed values x v) to heeded m i k low k_low
          ∙ sym (forged_taken t n j l (λ e. faulty_not_correct (setting w t) j from (ap (correct w) e ∙ i_correct)))) (λ _. refl)
      taken_step (hands n t j l p (_, in_slots) e) =
          let (_, to, _, _) = waiting_parts (setting w t) (old_slot t) (kind n) j l p e in
          on_slot (λ q z. has_at w q z k m i ≡ ((eqb t q && same_kind (kind n) m && eqb j i && eqb l k) || has_at w q (old_slot q) k m i)) x.board t s _ (in_range t in_slots)
          (taken_hears (setting w t) (guild w) (old_slot t) (r.kept t in_slots) (kind n) j l p to (waiting_heeded (setting w t) (old_slot t) (kind n) j l p e) m i k low k_low
          ∙ sym (ap (λ b. (b && same_kind (kind n) m && eqb j i && eqb l k) || has_at w t (old_slot t) k m i) (eq-eqb t t refl)))
          (λ ne. sym (ap (λ b. (b && same_kind (kind n) m && eqb j i && eqb l k) || has_at w s (old_slot s) k m i) (ne_eqb t s ne)))

-- nothing is said and nothing taken at the opening
no_word : (b : Bool) → any (cond b None None) ≡ false
no_word true = refl
no_word false = refl

fresh_says : (w : World) (s : ℕ) (m : Kind) (i : ℕ) → says_at w s (slot_at fresh_board s) m i ≡ false
fresh_says w s m i = replicate_each (λ z. says_at w s z m i ≡ false) 16 fresh_slot s no_slot (in_fresh m) (in_none m)
  where
    in_fresh : (n : Kind) → says_at w s fresh_slot n i ≡ false
    in_fresh Send = no_word (eqb i (sender w s))
    in_fresh Echo = replicate_each (λ a. any a.echoed ≡ false) 16 fresh_record (i - 1) no_record refl refl
    in_fresh Ready = replicate_each (λ a. any a.readied ≡ false) 16 fresh_record (i - 1) no_record refl refl

    in_none : (n : Kind) → says_at w s no_slot n i ≡ false
    in_none Send = no_word (eqb i (sender w s))
    in_none Echo = refl
    in_none Ready = refl

fresh_has : (w : World) (s k : ℕ) (m : Kind) (i : ℕ) → has_at w s (slot_at fresh_board s) k m i ≡ false
fresh_has w s k m i =
    replicate_each (λ z. has_at w s z k m i ≡ false) 16 fresh_slot s no_slot
    (replicate_each (λ a. any (taken (sender w s) a m i) ≡ false) 16 fresh_record (k - 1) no_record (ap any (fresh_taken (sender w s) m i)) (in_none m)) (in_none m)
  where
    in_none : (n : Kind) → any (taken (sender w s) no_record n i) ≡ false
    in_none Send = no_word (eqb i (sender w s))
    in_none Echo = refl
    in_none Ready = refl

module _ {V : Type 0} (values : Values V) (w : World) (s : ℕ) (m : Kind) (i : ℕ) (i_correct : correct w i ≡ true) where
  said_by : {h : History V} {x : State V} → CameAbout values w h x → says_at w s (slot_at x.board s) m i ≡ some (sends w s m i) h
  unfolding some
  said_by (opened places few e) = fresh_says w s m i
  said_by (called {h} {x} places c before) =
      said_step values w (opens values w before) h x (reached values w before) s m i i_correct (answered values w x places c)
      ∙ ap (λ b. sends w s m i c (answer values w places x c).0 || b) (said_by before)

  handed_to : (k : ℕ) → correct w k ≡ true → {h : History V} {x : State V} → CameAbout values w h x → has_at w s (slot_at x.board s) k m i ≡ some (hands_over s m i k) h
  unfolding some
  handed_to k k_correct (opened places few e) = fresh_has w s k m i
  handed_to k k_correct (called {h} {x} places c before) =
      taken_step values w (opens values w before) h x (reached values w before) s m i i_correct k k_correct (answered values w x places c)
      ∙ ap (λ b. hands_over s m i k c (answer values w places x c).0 || b) (handed_to k k_correct before)

-- from what was said and what was taken
waits_from : (a b : Bool) (has says : Option Place) (sent handed : Bool) → (a ≡ true → any says ≡ sent) → (a ≡ true → b ≡ true → any has ≡ handed)
    → any (cond (a && b && absent has) says None) ≡ (a && b && sent && not handed)
waits_from false b has says sent handed e f = refl
waits_from true false has says sent handed e f = refl
waits_from true true None says sent handed e f = e refl ∙ sym (ap (λ c. sent && not c) (sym (f refl refl)) ∙ and_true sent)
waits_from true true (Some u) says sent handed e f = sym (and_right sent (not handed) (ap not (sym (f refl refl))))

pub waiting_law : {V : Type 0} (values : Values V) → WaitingLaw values
waiting_law values w h x came s i k m =
    waits_from (correct w i) (correct w k) (taken (sender w s) (record_at (slot_at x.board s) k) m i) (said (setting w s) (slot_at x.board s) m i)
    (some (sends w s m i) h) (some (hands_over s m i k) h) (λ c. said_by values w s m i c came) (λ c d. handed_to values w s m i c k d came)
