-- What one message that a node heeds changes in what the nodes of a slot said and took. Assumes nothing.
use Rattle.std.proofs.Common.{◌≡◌, ℕ, ◌-◌, ◌<◌, ◌≤◌, Bool, true, false, cond, ◌&&◌, ◌||◌, eqb, ◌⊎◌, List, length, set, Some, None, Option, sym, refl, ap, ◌∙◌, subst, inl, inr, ⊎_elim, arith, get_or-set_other, get_or-set_same}
use Rattle.std.proofs.lemmas.Bool.{and_parts, and_from, and_right, or_cases, or_left, or_right, eqb-true, eq-eqb, ne_eqb, cases_eq, false≢true}
use Rattle.sets.proofs.Tests.{same_answer}
use Rattle.trust.specs.Trust.{Trust, holds_quorum, holds_kernel}
use Rattle.protocol.specs.Kinds.{kind_number, kind_of}
use Rattle.protocol.specs.Hearing.{recorded_with, once, now_set, taken, heeds, told, takes, hear}
use Rattle.protocol.specs.declared.message.Place.{Place}
use Rattle.protocol.specs.declared.message.Kind.{Kind}
use Rattle.protocol.specs.declared.message.Kind.TheVariants.{Send, Echo, Ready}
use Rattle.protocol.specs.declared.record.Heard.{Heard}
use Rattle.protocol.specs.declared.record.Heard.TheVariants.{Ignored, Recorded, Echoed, Readied, Delivered, ReadiedDelivered}
use Rattle.protocol.specs.declared.record.Record.{Record}
use Rattle.protocol.specs.declared.slot.Slot.{Slot}
use Rattle.broadcast.specs.Slots.{Setting, correct?, no_record, record_at, said}
use Rattle.broadcast.specs.Events.{hears}
use Rattle.broadcast.specs.Counts.{any}
use Rattle.broadcast.proofs.Places.{IsSome}
use Rattle.broadcast.proofs.Waiting.{correct_bounds}
use Rattle.broadcast.proofs.Hearing.{grew, heard, taken_kept, taken_new, taken_now}
use Rattle.broadcast.proofs.Invariant.{Inv}
use Rattle.runs.specs.Calls.{no_slot, slot_at}
use Rattle.runs.specs.Laws.{same_kind, step_says}

pub any_some : (o : Option Place) → any o ≡ true → IsSome o
any_some None e = absurd (false≢true e)
any_some (Some u) e = (u, refl)

kind_numbered : (m : Kind) → kind_of (kind_number m) ≡ Some m
kind_numbered Send = refl
kind_numbered Echo = refl
kind_numbered Ready = refl

same_kind_is : (m n : Kind) → same_kind m n ≡ true → m ≡ n
same_kind_is m n e =
    let one : ◌≡◌ {A = Option Kind} (Some m) (Some n) = sym (kind_numbered m) ∙ ap kind_of (eqb-true (kind_number m) (kind_number n) e) ∙ kind_numbered n in
    cc

pub kind_is_same : (m : Kind) → same_kind m m ≡ true
kind_is_same m = eq-eqb (kind_number m) (kind_number m) refl

-- a slot of a board with slot t written anew
pub on_slot : (Q : ℕ → Slot → Type 0) (b : List Slot) (t s : ℕ) (new : Slot) → t < length b → Q t new → ((t ≡ s → ⊥) → Q s (slot_at b s)) → Q s (slot_at (set b t new) s)
on_slot Q b t s new within here there =
    ⊎_elim (λ e. subst (λ q. Q q (slot_at (set b t new) q)) e (subst (Q t) (sym (get_or-set_same b t new no_slot within)) here))
    (λ ne. subst (Q s) (sym (get_or-set_other b t s new no_slot (λ e. ne (sym e)))) (there ne)) (cases_eq t s)

no_send : (d : Heard) → step_says Send d ≡ false
no_send Ignored = refl
no_send Recorded = refl
no_send Echoed = refl
no_send Readied = refl
no_send Delivered = refl
no_send ReadiedDelivered = refl

no_echo : (a b : Bool) → step_says Echo (told a b) ≡ false
no_echo true true = refl
no_echo true false = refl
no_echo false true = refl
no_echo false false = refl

once_said : (q b : Bool) (v : Place) (o : Option Place) → any (once q v o) ≡ (step_says Ready (told (now_set q o) b) || any o)
once_said true true v None = refl
once_said true false v None = refl
once_said false true v None = refl
once_said false false v None = refl
once_said q true v (Some u) = refl
once_said q false v (Some u) = refl

module _ (t : Trust) (k : ℕ) (r : Record) (j : ℕ) (v : Place) where
  -- with v from j, the ECHOs of v hold a quorum, the READYs a kernel, or a quorum
  abbrev pub echo_quorum : Bool
  echo_quorum = holds_quorum t k (recorded_with (set r.echoes (j - 1) (Some v)) v)

  abbrev pub ready_kernel : Bool
  ready_kernel = holds_kernel t k (recorded_with (set r.readies (j - 1) (Some v)) v)

  abbrev pub ready_quorum : Bool
  ready_quorum = holds_quorum t k (recorded_with (set r.readies (j - 1) (Some v)) v)

  echo_said : (m : Kind) → any (takes t k r m j v).0.echoed ≡ (step_says Echo (takes t k r m j v).1 || any r.echoed)
  echo_said Send = refl
  echo_said Echo = sym (ap (λ b. b || any r.echoed) (no_echo (now_set echo_quorum r.readied) false))
  echo_said Ready = sym (ap (λ b. b || any r.echoed) (no_echo (now_set ready_kernel r.readied) (now_set ready_quorum r.delivered)))

  ready_said : (m : Kind) → any (takes t k r m j v).0.readied ≡ (step_says Ready (takes t k r m j v).1 || any r.readied)
  ready_said Send = refl
  ready_said Echo = once_said echo_quorum false v r.readied
  ready_said Ready = once_said ready_kernel (now_set ready_quorum r.delivered) v r.readied

module _ (w : Setting) (live : ℕ) (z : Slot) (inv : Inv w live z) (m : Kind) (j k : ℕ) (v : Place) (k_correct : correct? w k ≡ true) (heeded : heeds w.trust.size w.sender (record_at z k) m j ≡ true) where
  abbrev pub after : Record × Heard
  after = hear w.trust k w.sender (record_at z k) m j v

  abbrev next : Slot
  next = hears w m j k v z

  pub takes_it : after ≡ takes w.trust k (record_at z k) m j v
  takes_it = ap (λ b. cond b (takes w.trust k (record_at z k) m j v) (record_at z k, Ignored)) heeded

  pub at_node : (i : ℕ) → 1 ≤ i → ((k ≡ i) × (record_at next i ≡ after.0)) ⊎ ((k ≡ i → ⊥) × (record_at next i ≡ record_at z i))
  at_node i low =
      let (k_low, k_high) = correct_bounds w k k_correct in
      ⊎_elim (λ e. inl (e, subst (λ a. record_at next a ≡ after.0) e (get_or-set_same z.records (k - 1) after.0 no_record (omega (arith, inv.long)))))
      (λ ne. inr (ne, get_or-set_other z.records (k - 1) (i - 1) after.0 no_record (λ e. ne (omega arith)))) (cases_eq k i)

  -- a part of node i's record, and what the node said of it
  part_said : (part : Record → Option Place) (says : Heard → Bool) → any (part after.0) ≡ (says after.1 || any (part (record_at z k)))
      → (i : ℕ) → 1 ≤ i → any (part (record_at next i)) ≡ ((eqb k i && says after.1) || any (part (record_at z i)))
  part_said part says here i low =
      ⊎_elim
      (λ (e, is). ap (λ r. any (part r)) is ∙ here
      ∙ ap (λ a. says after.1 || any (part (record_at z a))) e
      ∙ sym (ap (λ b. (b && says after.1) || any (part (record_at z i))) (eq-eqb k i e)))
      (λ (ne, is). ap (λ r. any (part r)) is ∙ sym (ap (λ b. (b && says after.1) || any (part (record_at z i))) (ne_eqb k i ne)))
      (at_node i low)

  pub said_hears : (n : Kind) (i : ℕ) → 1 ≤ i → any (said w next n i) ≡ ((eqb k i && step_says n after.1) || any (said w z n i))
  said_hears Send i low = sym (ap (λ b. b || any (said w z Send i)) (and_right (eqb k i) (step_says Send after.1) (no_send after.1)))
  said_hears Echo i low =
      part_said (λ r. r.echoed) (step_says Echo)
      (subst (λ a. any a.0.echoed ≡ (step_says Echo a.1 || any (record_at z k).echoed)) (sym takes_it) (echo_said w.trust k (record_at z k) j v m)) i low
  said_hears Ready i low =
      part_said (λ r. r.readied) (step_says Ready)
      (subst (λ a. any a.0.readied ≡ (step_says Ready a.1 || any (record_at z k).readied)) (sym takes_it) (ready_said w.trust k (record_at z k) j v m)) i low

  abbrev had : ℕ → Kind → ℕ → Option Place
  had l n i = taken w.sender (record_at z l) n i

  abbrev has : ℕ → Kind → ℕ → Option Place
  has l n i = taken w.sender (record_at next l) n i

  pub taken_hears : (n : Kind) (i l : ℕ) → 1 ≤ i → 1 ≤ l → any (has l n i) ≡ ((same_kind m n && eqb j i && eqb k l) || any (had l n i))
  taken_hears n i l low l_low = same_answer (any (has l n i)) ((same_kind m n && eqb j i && eqb k l) || any (had l n i)) only there
    where
      only : any (has l n i) ≡ true → ((same_kind m n && eqb j i && eqb k l) || any (had l n i)) ≡ true
      only f =
          let (u, is) = any_some (has l n i) f in
          ⊎_elim
          (λ (e, rec). ⊎_elim
          (λ was. or_right (same_kind m n && eqb j i && eqb k l) (any (had l n i)) (ap (λ a. any (had a n i)) (sym e) ∙ ap any was))
          (λ (nm, ij, _). or_left (same_kind m n && eqb j i && eqb k l) (any (had l n i))
          (and_from (same_kind m n && eqb j i) (eqb k l) (and_from (same_kind m n) (eqb j i) (ap (same_kind m) nm ∙ kind_is_same m) (eq-eqb j i (sym ij))) (eq-eqb k l e)))
          (taken_new (inv.shaped k k_correct) (heard w.trust w.sender k j v (record_at z k) m) n i u low (ap (λ a. taken w.sender a n i) (sym rec) ∙ is)))
          (λ (ne, rec). or_right (same_kind m n && eqb j i && eqb k l) (any (had l n i)) (ap (λ a. any (taken w.sender a n i)) (sym rec) ∙ f))
          (at_node l l_low)

      kept : any (had l n i) ≡ true → any (has l n i) ≡ true
      kept f =
          let (u, is) = any_some (had l n i) f in
          ⊎_elim
          (λ (e, rec). ap any (ap (λ a. taken w.sender a n i) rec
          ∙ taken_kept w.sender (grew (inv.shaped k k_correct) (heard w.trust w.sender k j v (record_at z k) m)) n i u (ap (λ a. had a n i) e ∙ is)))
          (λ (ne, rec). ap (λ a. any (taken w.sender a n i)) rec ∙ f)
          (at_node l l_low)

      new : (same_kind m n && eqb j i && eqb k l) ≡ true → any (has l n i) ≡ true
      new f =
          let (both, to) = and_parts (same_kind m n && eqb j i) (eqb k l) f in
          let (kinds, from) = and_parts (same_kind m n) (eqb j i) both in
          ⊎_elim
          (λ (e, rec). ap any (ap (λ a. taken w.sender a n i) rec ∙ ap (λ a. taken w.sender after.0 a i) (sym (same_kind_is m n kinds))
          ∙ ap (taken w.sender after.0 m) (sym (eqb-true j i from)) ∙ taken_now w.trust w.sender k j v (record_at z k) (inv.shaped k k_correct) m heeded))
          (λ (ne, _). absurd (ne (eqb-true k l to)))
          (at_node l l_low)

      there : ((same_kind m n && eqb j i && eqb k l) || any (had l n i)) ≡ true → any (has l n i) ≡ true
      there f = ⊎_elim new kept (or_cases (same_kind m n && eqb j i && eqb k l) (any (had l n i)) f)
