-- A correct node's record is what the messages brought to it say. Assumes nothing.
use Rattle.std.proofs.Common.{is_ok, ◌≡◌, ℕ, ◌-◌, true, false, cond, ◌&&◌, eqb, List, [], ◌∷◌, ◌++◌, set, Some, Option, sym, refl, subst, ⊎_elim}
use Rattle.std.proofs.lemmas.Bool.{and_parts, and_from, and_left, and_right, eq-eqb, ne_eqb, cases_eq}
use Rattle.sets.specs.Sets.{node?, has}
use Rattle.protocol.specs.Fresh.{fresh_record, fresh_slot}
use Rattle.protocol.specs.declared.message.Place.{Place}
use Rattle.protocol.specs.declared.message.Kind.TheVariants.{Echo, Ready}
use Rattle.protocol.specs.declared.record.Record.{Record}
use Rattle.protocol.specs.declared.slot.Slot.{Slot}
use Rattle.broadcast.specs.Slots.{no_record, record_at, said}
use Rattle.broadcast.specs.Events.{hears}
use Rattle.broadcast.proofs.Invariant.{fresh_taken}
use Rattle.broadcast.proofs.Waiting.{correct_bounds, waiting_parts, waiting_heeded}
use Rattle.runs.specs.declared.call.Call.{Call}
use Rattle.runs.specs.Values.{Values}
use Rattle.runs.specs.Calls.{World, State, sender, setting, correct, no_slot, slot_at, slot?, kind, known_in, heeds_in, Answer}
use Rattle.runs.specs.Promise.{History, CameAbout, opened, called}
use Rattle.runs.specs.Laws.{Arrival, brings, arrivals_at, first, RecordedBy, RecordLaw}
use Rattle.runs.proofs.Moves.{Moves, refuses, repeats, offers, ignores, forges, hands, answered, known, placed}
use Rattle.runs.proofs.Boards.{entered_board}
use Rattle.runs.proofs.Standing.{replicate_each}
use Rattle.runs.proofs.Invariants.{Opens, opens, Reached, reached, guild, within}
use Rattle.runs.proofs.LawsSteps.{on_slot, after, takes_it, at_node}
use Rattle.runs.proofs.LawsArrivals.{heeded_step, ignored_step}
use Rattle.runs.proofs.LawsLater.{entered_known, Later, later_self, later_then, later_move}

abbrev arrival : ℕ → ℕ → Option Place → Arrival
arrival n j o = record { kind = kind n; from = j; value = o }

-- node k's record of slot s, by its arrivals
abbrev By : World → ℕ → ℕ → List Arrival → Record → Type 0
By w s k ls r = RecordedBy w.trust k (sender w s) ls r

-- one call more; the arrivals are as a later state z tells it
module _ {V : Type 0} (values : Values V) (w : World) (o : Opens w) (h : History V) (x : State V) (r : Reached values w h x) (z : State V)
    (old : (s k : ℕ) → correct w k ≡ true → By w s k (arrivals_at values w z s k h) (record_at (slot_at x.board s) k)) where
  abbrev old_slot : ℕ → Slot
  old_slot s = slot_at x.board s

  -- with a arrival to node l in slot t
  abbrev posted : ℕ → ℕ → ℕ → ℕ → Arrival → List Arrival
  posted t l s k a = cond (eqb t s && eqb l k) (a ∷ []) [] ++ arrivals_at values w z s k h

  arrivals_at_other : (t l s k : ℕ) (a : Arrival) (y : Record) → (eqb t s && eqb l k) ≡ false → By w s k (arrivals_at values w z s k h) y → By w s k (posted t l s k a) y
  arrivals_at_other t l s k a y e b = subst (λ c. By w s k (cond c (a ∷ []) [] ++ arrivals_at values w z s k h) y) (sym e) b

  arrivals_at_here : (t l : ℕ) (a : Arrival) (y : Record) → By w t l (a ∷ arrivals_at values w z t l h) y → By w t l (posted t l t l a) y
  arrivals_at_here t l a y b =
      subst (λ c. By w t l (cond c (a ∷ []) [] ++ arrivals_at values w z t l h) y) (sym (and_from (eqb t t) (eqb l l) (eq-eqb t t refl) (eq-eqb l l refl))) b

  ignored_at : (n t j l : ℕ) (v : Option Place) → node? w.trust.size j ≡ true → correct w l ≡ true → heeds_in w x.board t (kind n) j l ≡ false
      → (s k : ℕ) → correct w k ≡ true → By w s k (posted t l s k (arrival n j v)) (record_at (old_slot s) k)
  ignored_at n t j l v node to out s k k_correct =
      ⊎_elim
      (λ e. ⊎_elim
      (λ f. subst (λ q. By w q k (posted t l q k (arrival n j v)) (record_at (old_slot q) k)) e
      (subst (λ q. By w t q (posted t l t q (arrival n j v)) (record_at (old_slot t) q)) f
      (arrivals_at_here t l (arrival n j v) (record_at (old_slot t) l) (ignored_step w.trust l (sender w t) (record_at (old_slot t) l) (arrivals_at values w z t l h) (old t l to) j v node (kind n) out))))
      (λ ne. arrivals_at_other t l s k (arrival n j v) (record_at (old_slot s) k) (and_right (eqb t s) (eqb l k) (ne_eqb l k ne)) (old s k k_correct)) (cases_eq l k))
      (λ ne. arrivals_at_other t l s k (arrival n j v) (record_at (old_slot s) k) (and_left (eqb t s) (eqb l k) (ne_eqb t s ne)) (old s k k_correct)) (cases_eq t s)

  module _ (n t j l : ℕ) (p : Place) (value : ℕ → Option Place) (t_in : slot? w t ≡ true) (to : correct w l ≡ true)
      (heeded : heeds_in w x.board t (kind n) j l ≡ true) (is_p : value t ≡ Some p) where
    abbrev next : Slot
    next = hears (setting w t) (kind n) j l p (old_slot t)

    abbrev heard_by : Record
    heard_by = (after (setting w t) (guild w) (old_slot t) (r.kept t t_in) (kind n) j l p to heeded).0

    by_l : By w t l (posted t l t l (arrival n j (value t))) heard_by
    by_l =
        arrivals_at_here t l (arrival n j (value t)) heard_by
        (subst (λ q. By w t l (arrival n j q ∷ arrivals_at values w z t l h) heard_by) (sym is_p)
        (subst (λ q. By w t l (arrival n j (Some p) ∷ arrivals_at values w z t l h) q.0) (sym (takes_it (setting w t) (guild w) (old_slot t) (r.kept t t_in) (kind n) j l p to heeded))
        (heeded_step w.trust l (sender w t) (record_at (old_slot t) l) (arrivals_at values w z t l h) (old t l to) j (kind n) p ((r.kept t t_in).shaped l to) heeded)))

    here : (k : ℕ) → correct w k ≡ true → By w t k (posted t l t k (arrival n j (value t))) (record_at next k)
    here k k_correct =
        ⊎_elim
        (λ (e, is). subst (By w t k (posted t l t k (arrival n j (value t)))) (sym is) (subst (λ q. By w t q (posted t l t q (arrival n j (value t))) heard_by) e by_l))
        (λ (ne, is). subst (By w t k (posted t l t k (arrival n j (value t)))) (sym is)
        (arrivals_at_other t l t k (arrival n j (value t)) (record_at (old_slot t) k) (and_right (eqb t t) (eqb l k) (ne_eqb l k ne)) (old t k k_correct)))
        (at_node (setting w t) (guild w) (old_slot t) (r.kept t t_in) (kind n) j l p to heeded k (correct_bounds (setting w t) k k_correct).0)

    heeded_at : (s k : ℕ) → correct w k ≡ true → By w s k (posted t l s k (arrival n j (value s))) (record_at (slot_at (set x.board t next) s) k)
    heeded_at s k k_correct =
        on_slot (λ q y. By w q k (posted t l q k (arrival n j (value q))) (record_at y k)) x.board t s next (within values w o h x r t t_in) (here k k_correct)
        (λ ne. arrivals_at_other t l s k (arrival n j (value s)) (record_at (old_slot s) k) (and_left (eqb t s) (eqb l k) (ne_eqb t s ne)) (old s k k_correct))

  record_move : {c : Call V} {a : Answer} {y : State V} → Moves values w x c a y → Later values w x z → Later values w y z
      → (s k : ℕ) → correct w k ≡ true → By w s k (cond (is_ok a) (brings values w z s k c) [] ++ arrivals_at values w z s k h) (record_at (slot_at y.board s) k)
  record_move (refuses c n) f g s k k_correct = old s k k_correct
  record_move (repeats t v p _ _ _ _ _) f g s k k_correct = old s k k_correct
  record_move (offers t v t_in _ _ _) f g s k k_correct =
      subst (λ b. By w s k (arrivals_at values w z s k h) (record_at (slot_at b s) k)) (sym (entered_board x v (known values x v) _))
      (on_slot (λ q y. By w q k (arrivals_at values w z q k h) (record_at y k)) x.board t s _ (within values w o h x r t t_in) (old t k k_correct) (λ _. old s k k_correct))
  record_move (ignores n t j l v (_, t_in) (from, to) _ out) f g s k k_correct =
      ignored_at n t j l (known_in values z.row v) (and_parts (node? w.trust.size j) (has w.faulty j) from).0 to out s k k_correct
  record_move (forges n t j l v (_, t_in) (from, to) _ heeded) f g s k k_correct =
      subst (λ b. By w s k (posted t l s k (arrival n j (known_in values z.row v))) (record_at (slot_at b s) k)) (sym (entered_board x v (known values x v) _))
      (heeded_at n t j l (placed values x v) (λ _. known_in values z.row v) t_in to heeded (g.rows v (placed values x v) (entered_known values x v _ r.rowed)) s k k_correct)
  record_move (hands n t j l p (_, t_in) e) f g s k k_correct =
      let (j_correct, to, _, says) = waiting_parts (setting w t) (old_slot t) (kind n) j l p e in
      heeded_at n t j l p (λ q. said (setting w q) (slot_at z.board q) (kind n) j) t_in to (waiting_heeded (setting w t) (old_slot t) (kind n) j l p e)
      (f.words t t_in (kind n) j j_correct p says) s k k_correct

-- nothing was brought at the opening
by_none : (w : World) (s k : ℕ) → By w s k [] no_record
unfolding first
by_none w s k = record { echoed = refl; echoes = λ i low. refl; readies = λ i low. refl; readied = refl; delivered = refl }

by_fresh : (w : World) (s k : ℕ) → By w s k [] fresh_record
unfolding first
by_fresh w s k = record {
  echoed = refl;
  echoes = λ i low. fresh_taken (sender w s) Echo i;
  readies = λ i low. fresh_taken (sender w s) Ready i;
  readied = refl;
  delivered = refl;
}

module _ {V : Type 0} (values : Values V) (w : World) where
  record_later : {h : History V} {x : State V} → CameAbout values w h x → (z : State V) → Later values w x z
      → (s k : ℕ) → correct w k ≡ true → By w s k (arrivals_at values w z s k h) (record_at (slot_at x.board s) k)
  unfolding arrivals_at
  record_later (opened places few e) z later s k k_correct =
      replicate_each (λ y. By w s k [] (record_at y k)) 16 fresh_slot s no_slot
      (replicate_each (By w s k []) 16 fresh_record (k - 1) no_record (by_fresh w s k) (by_none w s k)) (by_none w s k)
  record_later (called {h} {x} places c before) z later s k k_correct =
      let o = opens values w before in
      let r = reached values w before in
      let move = answered values w x places c in
      let since = later_then values w (later_move values w o h x r move) later in
      record_move values w o h x r z (record_later before z since) move since later s k k_correct

pub record_law : {V : Type 0} (values : Values V) → RecordLaw values
record_law values w h x came = record_later values w came x (later_self values w x)
