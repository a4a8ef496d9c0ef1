-- What holds of every place that stands in a slot, as messages are heard. Assumes nothing.
use Rattle.std.proofs.Common.{◌≡◌, ℕ, zero, suc, ◌-◌, Bool, true, false, cond, eqb, List, [], ◌∷◌, get_or, set, replicate, Some, None, Option, ⊎_elim}
use Rattle.trust.specs.Trust.{Trust}
use Rattle.protocol.specs.Hearing.{once}
use Rattle.protocol.specs.Fresh.{fresh_record, fresh_slot}
use Rattle.protocol.specs.declared.message.Place.{Place}
use Rattle.protocol.specs.declared.message.Kind.{Kind}
use Rattle.protocol.specs.declared.message.Kind.TheVariants.{Send, Echo, Ready}
use Rattle.protocol.specs.declared.record.Record.{Record}
use Rattle.protocol.specs.declared.slot.Slot.{Slot}
use Rattle.broadcast.specs.Slots.{Setting, no_record, record_at, said, waiting}
use Rattle.broadcast.specs.Events.{hears}
use Rattle.broadcast.proofs.Places.{none_not_some, once_new}
use Rattle.broadcast.proofs.Hearing.{Hears, same, sent, echo, ready, heard}
use Rattle.broadcast.proofs.Waiting.{waiting_parts}
use Rattle.runs.specs.Calls.{no_slot, slot_at}

-- what holds of each entry of a list, with one more written
pub set_each : {A : Type 0} (Q : A → Type 0) (l : List A) (i : ℕ) (a : A) (j : ℕ) (d : A) → Q a → Q (get_or l j d) → Q (get_or (set l i a) j d)
set_each Q [] i a j d new old = old
set_each Q (x ∷ l) zero a zero d new old = new
set_each Q (x ∷ l) zero a (suc j) d new old = old
set_each Q (x ∷ l) (suc i) a zero d new old = old
set_each Q (x ∷ l) (suc i) a (suc j) d new old = set_each Q l i a j d new old

pub replicate_each : {A : Type 0} (Q : A → Type 0) (n : ℕ) (a : A) (j : ℕ) (d : A) → Q a → Q d → Q (get_or (replicate n a) j d)
replicate_each Q zero a j d here past = past
replicate_each Q (suc n) a zero d here past = here
replicate_each Q (suc n) a (suc j) d here past = replicate_each Q n a j d here past

-- P holds of the place that stands there, if any
abbrev pub Each : (Place → Type 0) → Option Place → Type 0
Each P o = (p : Place) → o ≡ Some p → P p

pub record OfRecord (P : Place → Type 0) (r : Record) : Type 0 where
  pub echoed : Each P r.echoed
  pub readied : Each P r.readied
  pub delivered : Each P r.delivered
  pub echoes : (i : ℕ) → Each P (get_or r.echoes i None)
  pub readies : (i : ℕ) → Each P (get_or r.readies i None)

pub record OfSlot (P : Place → Type 0) (s : Slot) : Type 0 where
  pub proposal : Each P s.proposal
  pub records : (k : ℕ) → OfRecord P (get_or s.records k no_record)

abbrev pub OfBoard : (Place → Type 0) → List Slot → Type 0
OfBoard P b = (t : ℕ) → OfSlot P (slot_at b t)

module _ (P Q : Place → Type 0) (more : (p : Place) → P p → Q p) where
  record_more : {r : Record} → OfRecord P r → OfRecord Q r
  record_more h = record {
    echoed = λ p e. more p (h.echoed p e);
    readied = λ p e. more p (h.readied p e);
    delivered = λ p e. more p (h.delivered p e);
    echoes = λ i p e. more p (h.echoes i p e);
    readies = λ i p e. more p (h.readies i p e);
  }

  pub slot_more : {s : Slot} → OfSlot P s → OfSlot Q s
  slot_more h = record { proposal = λ p e. more p (h.proposal p e); records = λ k. record_more (h.records k) }

module _ (P : Place → Type 0) where
  none : Each P None
  none p e = absurd (none_not_some e)

  one : {v : Place} → P v → Each P (Some v)
  one {v} h p e = let z : v ≡ p = cc in rw (← z) h

  no_record_each : OfRecord P no_record
  no_record_each = record { echoed = none; readied = none; delivered = none; echoes = λ i. none; readies = λ i. none }

  fresh_record_each : OfRecord P fresh_record
  fresh_record_each = record {
    echoed = none;
    readied = none;
    delivered = none;
    echoes = λ i. replicate_each (Each P) 16 None i None none none;
    readies = λ i. replicate_each (Each P) 16 None i None none none;
  }

  pub fresh_slot_each : OfSlot P fresh_slot
  fresh_slot_each = record { proposal = none; records = λ k. replicate_each (OfRecord P) 16 fresh_record k no_record fresh_record_each no_record_each }

  pub no_slot_each : OfSlot P no_slot
  no_slot_each = record { proposal = none; records = λ k. no_record_each }

  -- v is heard, of which P holds
  module _ (v : Place) (new : P v) where
    once_each : (b : Bool) (o : Option Place) → Each P o → Each P (once b v o)
    once_each b o h p e = ⊎_elim (h p) (λ n. one new p (let z : v ≡ p = n.1 in cc)) (once_new b v o p e)

    set_entry : (l : List (Option Place)) (i : ℕ) → ((j : ℕ) → Each P (get_or l j None)) → (j : ℕ) → Each P (get_or (set l i (Some v)) j None)
    set_entry l i h j = set_each (Each P) l i (Some v) j None (one new) (h j)

    heard_each : {t : Trust} {sender k j : ℕ} {x : Record} {m : Kind} {y : Record} → OfRecord P x → Hears t sender k j v x m y → OfRecord P y
    heard_each h (same m) = h
    heard_each h (sent is free) = record { echoed = one new; readied = h.readied; delivered = h.delivered; echoes = h.echoes; readies = h.readies }
    heard_each {t} {sender} {k} {j} {x} h (echo node free) = record {
      echoed = h.echoed;
      readied = once_each _ x.readied h.readied;
      delivered = h.delivered;
      echoes = set_entry x.echoes (j - 1) h.echoes;
      readies = h.readies;
    }
    heard_each {t} {sender} {k} {j} {x} h (ready node free) = record {
      echoed = h.echoed;
      readied = once_each _ x.readied h.readied;
      delivered = once_each _ x.delivered h.delivered;
      echoes = h.echoes;
      readies = set_entry x.readies (j - 1) h.readies;
    }

    pub hears_each : (w : Setting) (m : Kind) (i k : ℕ) (s : Slot) → OfSlot P s → OfSlot P (hears w m i k v s)
    hears_each w m i k s h = record {
      proposal = h.proposal;
      records = λ j. set_each (OfRecord P) s.records (k - 1) _ j no_record
          (heard_each (h.records (k - 1)) (heard w.trust w.sender k i v (record_at s k) m)) (h.records j);
    }

    pub offer_each : (s : Slot) → OfSlot P s → OfSlot P (record { proposal = Some v; records = s.records })
    offer_each s h = record { proposal = one new; records = h.records }

  -- what waits stands in the slot
  pub waiting_each : (w : Setting) (s : Slot) (m : Kind) (i k : ℕ) (v : Place) → OfSlot P s → waiting w s m i k ≡ Some v → P v
  waiting_each w s m i k v h e = let (_, _, _, says) = waiting_parts w s m i k v e in go m says
    where
      sent_by : (b : Bool) → cond b s.proposal None ≡ Some v → P v
      sent_by true f = h.proposal v f
      sent_by false f = absurd (none_not_some f)

      go : (n : Kind) → said w s n i ≡ Some v → P v
      go Send f = sent_by (eqb i w.sender) f
      go Echo f = (h.records (i - 1)).echoed v f
      go Ready f = (h.records (i - 1)).readied v f
