-- What every event of a slot keeps. Assumes nothing.
use Rattle.std.proofs.Common.{◌≡◌, ℕ, ◌-◌, ◌≤◌, Bool, true, false, cond, ◌&&◌, eqb, List, [], ◌∷◌, length, get_or, replicate, Some, None, Option, sym, refl, ap, ◌∙◌, subst, ⊎_elim, arith, length-set, get_or-set_other, get_or-set_same}
use Rattle.std.proofs.lemmas.List.{get_or-replicate, get_or_past, length-replicate}
use Rattle.std.proofs.lemmas.Bool.{cases_eq, cases_lt, and_parts}
use Rattle.sets.specs.Sets.{has}
use Rattle.trust.specs.Trust.{holds_quorum, holds_kernel}
use Rattle.protocol.specs.Hearing.{entry, recorded_with, taken, hear}
use Rattle.protocol.specs.Fresh.{fresh_record, fresh_slot}
use Rattle.protocol.specs.declared.message.Place.{Place}
use Rattle.protocol.specs.declared.message.Kind.{Kind}
use Rattle.protocol.specs.declared.message.Kind.TheVariants.{Send, Echo, Ready}
use Rattle.protocol.specs.declared.record.Record.{Record}
use Rattle.protocol.specs.declared.slot.Slot.{Slot}
use Rattle.broadcast.specs.Slots.{Setting, correct?, faulty?, no_record, record_at, with_record, said, waiting}
use Rattle.broadcast.specs.Events.{Event, propose, forge, hand, hears, proposes, hears_waiting, step, run}
use Rattle.broadcast.specs.Claims.{Assumed}
use Rattle.broadcast.proofs.Places.{Kept, none_not_some, once_kept, once_new}
use Rattle.broadcast.proofs.Entries.{in_set, set_has, recorded_lt}
use Rattle.broadcast.proofs.Holding.{quorum_grows, kernel_meets}
use Rattle.broadcast.proofs.Waiting.{correct_bounds, faulty_not_correct, waiting_parts}
use Rattle.broadcast.proofs.Hearing.{Grew, Shaped, Delivers, Settles, stays, grew, heard, shaped_still, delivers_still, settles_still, taken_new, readied_new}

-- the ECHOs of u hold a quorum at some live node
abbrev pub EchoedFor : Setting → ℕ → Slot → Place → Type 0
EchoedFor w live s u = (p : ℕ) × (has live p ≡ true) × (holds_quorum w.trust p (recorded_with (record_at s p).echoes u) ≡ true)

pub record Inv (w : Setting) (live : ℕ) (s : Slot) : Type 0 where
  pub few : w.trust.size ≤ 16
  -- there is a record for each node, with an entry for each node
  pub long : w.trust.size ≤ length s.records
  pub shaped : (k : ℕ) → correct? w k ≡ true → Shaped w.trust.size (record_at s k)
  -- only a correct sender proposes
  pub proposer : (u : Place) → s.proposal ≡ Some u → correct? w w.sender ≡ true
  -- what is taken from a correct node, that node said
  pub told : (m : Kind) (i k : ℕ) (u : Place) → correct? w i ≡ true → correct? w k ≡ true → taken w.sender (record_at s k) m i ≡ Some u → said w s m i ≡ Some u
  pub delivers : (k : ℕ) → correct? w k ≡ true → Delivers w.trust k (record_at s k)
  pub settles : (k : ℕ) → has live k ≡ true → Settles w.trust k (record_at s k)
  -- what a live node readied was echoed for
  pub origin : (g : ℕ) (u : Place) → has live g ≡ true → (record_at s g).readied ≡ Some u → EchoedFor w live s u

-- what holds of node k's new record, and of node i's as it was
pub record_each : (Q : ℕ → Record → Type 0) (s : Slot) (k : ℕ) (y : Record) → 1 ≤ k → k ≤ length s.records → Q k y
    → (i : ℕ) → 1 ≤ i → Q i (record_at s i) → Q i (record_at (with_record s k y) i)
record_each Q s k y low high here i i_low there =
    ⊎_elim (λ e. subst (λ a. Q a (record_at (with_record s k y) a)) (sym e) (subst (Q k) (sym (get_or-set_same s.records (k - 1) y no_record (omega arith))) here))
    (λ ne. subst (Q i) (sym (get_or-set_other s.records (k - 1) (i - 1) y no_record (λ e. ne (omega arith)))) there) (cases_eq i k)

-- the sender's word and each correct node's grow
module _ (w : Setting) (s t : Slot) (sent : Kept s.proposal t.proposal) (grown : (i : ℕ) → correct? w i ≡ true → Grew (record_at s i) (record_at t i)) where
  pub said_kept : (m : Kind) (i : ℕ) → correct? w i ≡ true → Kept (said w s m i) (said w t m i)
  said_kept Send i c u = go (eqb i w.sender)
    where
      go : (b : Bool) → cond b s.proposal None ≡ Some u → cond b t.proposal None ≡ Some u
      go true e = sent u e
      go false e = e
  said_kept Echo i c u = (grown i c).echoed u
  said_kept Ready i c u = (grown i c).readied u

  echoed_for_kept : (live : ℕ) → ((p : ℕ) → has live p ≡ true → correct? w p ≡ true) → ((p : ℕ) → correct? w p ≡ true → Shaped w.trust.size (record_at t p))
      → (u : Place) → EchoedFor w live s u → EchoedFor w live t u
  echoed_for_kept live live_correct shaped u (p, is_live, q) =
      let c = live_correct p is_live in
      let old = (record_at s p).echoes in
      let new = (record_at t p).echoes in (
        p,
        is_live,
        quorum_grows w.trust p (recorded_with old u) (recorded_with new u) (recorded_lt w.trust.size new u (shaped p c).echoes)
            (λ i e. let (r, was) = in_set (entry old) u i e in set_has (entry new) u i r ((grown p c).echoes i u was)) q,
      )

-- nothing is recorded in a fresh record
fresh_entries : (k : ℕ) → get_or (replicate {A = Option Place} 16 None) k None ≡ None
fresh_entries k =
    ⊎_elim (λ l. get_or-replicate 16 k None None l) (λ g. get_or_past (replicate 16 None) k None (omega (arith, length-replicate {A = Option Place} 16 None))) (cases_lt k 16)

pub fresh_taken : (sender : ℕ) (m : Kind) (i : ℕ) → taken sender fresh_record m i ≡ None
fresh_taken sender Send i = go (eqb i sender)
  where
    go : (b : Bool) → ◌≡◌ {A = Option Place} (cond b None None) None
    go true = refl
    go false = refl
fresh_taken sender Echo i = fresh_entries (i - 1)
fresh_taken sender Ready i = fresh_entries (i - 1)

pub fresh_at : (k : ℕ) → 1 ≤ k → k ≤ 16 → record_at fresh_slot k ≡ fresh_record
fresh_at k low high = get_or-replicate 16 (k - 1) fresh_record no_record (omega arith)

module _ (w : Setting) (safe live : ℕ) (sides : Assumed w safe live) where
  pub live_correct : (i : ℕ) → has live i ≡ true → correct? w i ≡ true
  live_correct i is_live = sides.safe_correct i (sides.live_safe i is_live)

  pub inv_fresh : w.trust.size ≤ 16 → Inv w live fresh_slot
  inv_fresh few = record {
    few = few;
    long = few;
    shaped = λ k c. subst (Shaped w.trust.size) (sym (at k c)) fits;
    proposer = λ u e. absurd (none_not_some e);
    told = λ m i k u ci ck e. absurd (none_not_some (sym (fresh_taken w.sender m i) ∙ sym (ap (λ x. taken w.sender x m i) (at k ck)) ∙ e));
    delivers = λ k c u e. absurd (none_not_some (sym (ap (λ x. x.delivered) (at k c)) ∙ e));
    settles = λ k is_live. subst (Settles w.trust k) (sym (at k (live_correct k is_live))) (unsettled k is_live);
    origin = λ g u is_live e. absurd (none_not_some (sym (ap (λ x. x.readied) (at g (live_correct g is_live))) ∙ e));
  }
    where
      at : (k : ℕ) → correct? w k ≡ true → record_at fresh_slot k ≡ fresh_record
      at k c = let (low, high) = correct_bounds w k c in fresh_at k low (omega arith)

      fits : Shaped w.trust.size fresh_record
      fits = record { echoes = (few, λ k _. fresh_entries k); readies = (few, λ k _. fresh_entries k) }

      nobody : (u : Place) (i : ℕ) → has (recorded_with (replicate 16 None) u) i ≡ true → ⊥
      nobody u i e = none_not_some (sym (fresh_entries (i - 1)) ∙ (in_set (entry (replicate 16 None)) u i e).1)

      no_quorum : (k : ℕ) (u : Place) → has live k ≡ true → holds_quorum w.trust k (recorded_with (replicate 16 None) u) ≡ true → ⊥
      no_quorum k u is_live q =
          let is_safe = sides.live_safe k is_live in
          let (c, _, in_it, _) = sides.shared k k _ _ is_safe is_safe q q in
          nobody u c in_it

      unsettled : (k : ℕ) → has live k ≡ true → Settles w.trust k fresh_record
      unsettled k is_live = record {
        by_echoes = λ u q. absurd (no_quorum k u is_live q);
        by_kernel = λ u q. absurd (let (c, in_it, _) = kernel_meets w.trust k _ live q (sides.live_quorum k is_live) in nobody u c in_it);
        by_quorum = λ u q. absurd (no_quorum k u is_live q);
      }

  -- a correct node k hears v from j, and a correct j only what j said
  module _ (s : Slot) (inv : Inv w live s) (m : Kind) (j k : ℕ) (v : Place) (k_correct : correct? w k ≡ true) (honest : correct? w j ≡ true → said w s m j ≡ Some v) where
    abbrev x : Record
    x = record_at s k

    abbrev y : Record
    y = (hear w.trust k w.sender x m j v).0

    abbrev next : Slot
    next = hears w m j k v s

    at_each : (Q : ℕ → Record → Type 0) → (correct? w k ≡ true → Q k y) → ((i : ℕ) → correct? w i ≡ true → Q i (record_at s i)) → (i : ℕ) → correct? w i ≡ true → Q i (record_at next i)
    at_each Q here there i c =
        let (low, high) = correct_bounds w k k_correct in
        record_each Q s k y low (omega (arith, inv.long)) (here k_correct) i (correct_bounds w i c).0 (there i c)

    all_grew : (i : ℕ) → correct? w i ≡ true → Grew (record_at s i) (record_at next i)
    all_grew = at_each (λ i z. Grew (record_at s i) z) (λ _. grew (inv.shaped k k_correct) (heard w.trust w.sender k j v x m)) (λ i _. stays (record_at s i))

    all_shaped : (i : ℕ) → correct? w i ≡ true → Shaped w.trust.size (record_at next i)
    all_shaped = at_each (λ _ z. Shaped w.trust.size z) (λ _. shaped_still (inv.shaped k k_correct) (heard w.trust w.sender k j v x m)) inv.shaped

    -- what is taken now from a correct node, that node said before
    told_here : (n : Kind) (i : ℕ) (u : Place) → correct? w i ≡ true → taken w.sender y n i ≡ Some u → said w s n i ≡ Some u
    told_here n i u c e =
        ⊎_elim (inv.told n i k u c k_correct)
        (λ h. ap (λ a. said w s a i) h.0 ∙ ap (said w s m) h.1 ∙ honest (ap (correct? w) (sym h.1) ∙ c) ∙ ap Some h.2)
        (taken_new (inv.shaped k k_correct) (heard w.trust w.sender k j v x m) n i u (correct_bounds w i c).0 e)

    later : (u : Place) → EchoedFor w live s u → EchoedFor w live next u
    later = echoed_for_kept w s next (λ _ h. h) all_grew live live_correct all_shaped

    origin_here : (u : Place) → has live k ≡ true → y.readied ≡ Some u → EchoedFor w live next u
    origin_here u is_live e =
        ⊎_elim (λ old. later u (inv.origin k u is_live old))
        (⊎_elim (λ q. (k, is_live, subst (λ z. holds_quorum w.trust k (recorded_with z.echoes u) ≡ true) (sym at_k) q)) by_kernel)
        (readied_new (inv.shaped k k_correct) (heard w.trust w.sender k j v x m) u e)
      where
        at_k : record_at next k ≡ y
        at_k = let (low, high) = correct_bounds w k k_correct in get_or-set_same s.records (k - 1) y no_record (omega (arith, inv.long))

        by_kernel : holds_kernel w.trust k (recorded_with y.readies u) ≡ true → EchoedFor w live next u
        by_kernel q =
            let (c, says, c_live) = kernel_meets w.trust k _ live q (sides.live_quorum k is_live) in
            later u (inv.origin c u c_live (told_here Ready c u (live_correct c c_live) (in_set (entry y.readies) u c says).1))

    pub hears_keeps : Inv w live next
    hears_keeps = record {
      few = inv.few;
      long = omega (arith, inv.long, length-set s.records (k - 1) y);
      shaped = all_shaped;
      proposer = inv.proposer;
      told = λ n i l u ci cl e. said_kept w s next (λ _ h. h) all_grew n i ci u
          (at_each (λ _ z. taken w.sender z n i ≡ Some u → said w s n i ≡ Some u) (λ _. told_here n i u ci) (λ a ca. inv.told n i a u ci ca) l cl e);
      delivers = at_each (λ i z. Delivers w.trust i z)
          (λ _. delivers_still (inv.shaped k k_correct) (heard w.trust w.sender k j v x m) (inv.delivers k k_correct)) inv.delivers;
      settles = λ i is_live. at_each (λ a z. has live a ≡ true → Settles w.trust a z)
          (λ _ l. settles_still (inv.shaped k k_correct) (heard w.trust w.sender k j v x m) (inv.settles k l)) (λ a _. inv.settles a) i (live_correct i is_live) is_live;
      origin = λ g u is_live. at_each (λ a z. has live a ≡ true → z.readied ≡ Some u → EchoedFor w live next u)
          (λ _. origin_here u) (λ a _ l e. later u (inv.origin a u l e)) g (live_correct g is_live) is_live;
    }

  pub proposes_keeps : (s : Slot) (v : Place) → Inv w live s → Inv w live (proposes w v s)
  proposes_keeps s v inv = record {
    few = inv.few;
    long = inv.long;
    shaped = inv.shaped;
    proposer = λ u e. ⊎_elim (inv.proposer u) (λ n. n.0) (once_new _ v s.proposal u e);
    told = λ m i k u ci ck e. said_kept w s (proposes w v s) (once_kept _ v s.proposal) (λ a _. stays (record_at s a)) m i ci u (inv.told m i k u ci ck e);
    delivers = inv.delivers;
    settles = inv.settles;
    origin = inv.origin;
  }

  pub step_keeps : (s : Slot) (e : Event) → Inv w live s → Inv w live (step w s e)
  step_keeps s (propose v) inv = proposes_keeps s v inv
  step_keeps s (forge m j k v) inv = go (faulty? w j && correct? w k) refl
    where
      go : (b : Bool) → (faulty? w j && correct? w k) ≡ b → Inv w live (cond b (hears w m j k v s) s)
      go true e =
          let (j_faulty, k_correct) = and_parts (faulty? w j) (correct? w k) e in
          hears_keeps s inv m j k v k_correct (λ c. absurd (faulty_not_correct w j j_faulty c))
      go false e = inv
  step_keeps s (hand m i k) inv = go (waiting w s m i k) refl
    where
      go : (o : Option Place) → waiting w s m i k ≡ o → Inv w live (hears_waiting w m i k s o)
      go None e = inv
      go (Some v) e = let (_, k_correct, _, says) = waiting_parts w s m i k v e in hears_keeps s inv m i k v k_correct (λ _. says)

  pub run_keeps : (es : List Event) (s : Slot) → Inv w live s → Inv w live (run w s es)
  run_keeps [] s inv = inv
  run_keeps (e ∷ es) s inv = run_keeps es (step w s e) (step_keeps s e inv)
